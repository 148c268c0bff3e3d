-- Where the report is refused, the telemetry was read to the row that is wanted, and one piece at most behind its line.
use Rattle.std.proofs.Common.{◌≡◌, ℕ, ◌+◌, ◌<◌, ◌≤◌, Bool, true, false, List, [], ◌++◌, length, Option, Some, None, IfSome, Result, Ok, Err, refl, sym, ap, subst, arith, length-append, ◌⊎◌, inl, inr}
use Rattle.outside_io.specs.Shelf.{ShelfState}
use Rattle.outside_io.specs.declared.shelf.GetFault.{GetFault}
use Rattle.outside_io.specs.declared.shelf.GetFault.TheVariants as get
use Rattle.plant_model.specs.Plant.{Plant, Sample}
use Rattle.telem_csv.specs.Columns.{Columns}
use Rattle.telem_csv.specs.Cutter.{Cutter, at_start}
use Rattle.model_file.specs.Bank.{Models}
use Rattle.model_file.specs.ModelFile.{models_of}
use Rattle.model_bank.specs.Bank.{names_in}
use Rattle.report_rules.specs.Report.{Watch}
use Rattle.report_rules.specs.Replay.{watch, CoversBefore}
use Rattle.report_rules.proofs.Fronts.{front-covers}
use Rattle.input_files.specs.Ended.{without_last, rows_ended, EndsNoRow, TakesHeader, begun_with, begun_under, files_begun}
use Rattle.input_files.specs.Files.{Files, most_telemetry, with_telemetry}
use Rattle.input_files.specs.Stream.{BothTold}
use Rattle.input_files.specs.Told.{OnBytes}
use Rattle.input_files.specs.Whole.{most_piece}
use Rattle.input_files.specs.declared.model.ModelEnding.{ModelEnding}
use Rattle.input_files.specs.declared.model.ModelEnding.TheVariants as models
use Rattle.input_files.specs.declared.stream.StreamFault.{StreamFault}
use Rattle.input_files.specs.declared.stream.StreamFault.TheVariants as stream
use Rattle.input_files.proofs.Streams.{told-then}
use Rattle.monitor_run.proofs.Opened.{if-some, of-some}
use Rattle.monitor_run.proofs.InTime.{InTime, IsFrontOf, before-next, both-some, some-both, side, false-or-true}
use Rattle.cert_replay.specs.Ahead.{begun_watch, IsBehindBegun, RefusesInTime, RowsRefuseInTime, IsBehind}
use Rattle.cert_replay.specs.Checked.{Checked}
use Rattle.cert_replay.specs.Ends.{AreNamed, EndDeparts}
use Rattle.cert_replay.specs.Faults.{IsReportFault, model_fault, telemetry_fault, report_fault}
use Rattle.cert_replay.specs.Window.{DepartsFrom, DepartsBehind}
use Rattle.cert_replay.specs.declared.fault.Accepted.{Accepted}
use Rattle.cert_replay.specs.declared.fault.CheckFault.{CheckFault}
use Rattle.cert_replay.specs.declared.fault.CheckFault.TheVariants.{Model, Telemetry, Read, Report, Memory}
use Rattle.cert_replay.specs.declared.replay.Replay.{Replay}
use Rattle.cert_replay.specs.declared.window.Window.{Window}
use Rattle.cert_replay.proofs.Named.{are-named}

-- ---- a line that is refused is behind those compared

pub departs-behind : (text : List ℕ) (w0 w : Window) → w.lines ≡ w0.lines → (line : ℕ) → DepartsFrom text w line → w0.lines < line
departs-behind text w0 w same line d = omega (arith, same, d.line_is)

pub refused-behind : (text : List ℕ) (w0 w : Window) → w.lines ≡ w0.lines → (line : ℕ) → DepartsBehind text w line → w0.lines < line
refused-behind text w0 w same line (DepartsBehind.within d) = departs-behind text w0 w same line d
refused-behind text w0 w same line (DepartsBehind.behind rest is e) = omega (arith, same, e)

pub end-after : (samples lines : ℕ) (unread : List ℕ) (line : ℕ) → EndDeparts samples lines unread line → lines < line
end-after samples lines unread line (EndDeparts.missing e other) = omega (arith, e)
end-after samples lines unread line (EndDeparts.behind e v is some) = omega (arith, e)

pub report-behind : (fault : CheckFault) → IsReportFault fault → (lines : ℕ) → IsBehind lines fault
report-behind (Model fault) is lines = absurd is
report-behind (Telemetry fault) is lines = absurd is
report-behind (Read slot) is lines = λ line e. absurd cc
report-behind (Report line) is lines = absurd is
report-behind Memory is lines = λ line e. absurd cc

-- ---- endings over the rows

module _ (head : Columns) (c0 : Cutter) (left0 : List ℕ) (rest0 rest' : Option (List ℕ)) (names : List (List ℕ)) (ps : List Plant) (bytes : List ℕ) where
  -- the samples of the rows without the last k bytes
  abbrev first_of : List ℕ → ℕ → List Sample
  first_of r k = (rows_ended head c0 (without_last k (left0 ++ r))).samples

  -- the models over them
  abbrev pub begun : List ℕ → ℕ → Watch
  begun r k = watch names ps (first_of r k) false

  abbrev pub RowsEnd : Result Accepted CheckFault → Type 0
  RowsEnd result = IfSome rest0 (λ r. IfSome rest' (λ r'. RowsRefuseInTime (begun r) bytes (length (left0 ++ r)) (length r') result))

  module _ (e : Bool) (c : Cutter) (left left' : List ℕ) (rest : Option (List ℕ)) (taken : List Sample)
      (m : BothTold rest0 rest (λ r r'. InTime head e c0 c (left0 ++ r) (left ++ r') taken))
      (short : length left' ≤ 4096) (none : BothTold rest rest' (λ r r'. EndsNoRow head c (left ++ r) (left' ++ r')))
      (replay : Replay) (s : ShelfState) (now : Checked names ps taken bytes replay s) where
    line-in_time : (line : ℕ) → replay.window.lines < line → RowsEnd (Err (Report line))
    line-in_time line past = both-some rest0 rest' (λ x z. (k : ℕ) → length (left' ++ z) < k → k ≤ length (left0 ++ x) → IsFrontOf (first_of x k) taken)
        (λ x z. RowsRefuseInTime (begun x) bytes (length (left0 ++ x)) (length z) (Err (Report line)))
        (λ x z front-of. (omega (arith, past), λ within. covers x z (front-of (length z + most_piece + 1) (omega (arith, length-append left' z, short)) within)))
        (told-then rest0 rest rest' (λ x y. InTime head e c0 c (left0 ++ x) (left ++ y) taken) (λ y z. EndsNoRow head c (left ++ y) (left' ++ z))
        (λ x z. (k : ℕ) → length (left' ++ z) < k → k ≤ length (left0 ++ x) → IsFrontOf (first_of x k) taken)
        (λ x y z time none. before-next time (left' ++ z) none) m none)
      where
        covers : (x z : List ℕ) → IsFrontOf (first_of x (length z + most_piece + 1)) taken → CoversBefore (begun x (length z + most_piece + 1)) line bytes
        covers x z (more, is) = front-covers names ps taken now.choice bytes now.unread now.replayed (first_of x (length z + most_piece + 1)) more is line (omega (arith, past, now.lines))

    -- a line behind those compared was refused, where no row had ended before the last byte taken
    pub ends-in_time : (result : Result Accepted CheckFault) → ((line : ℕ) → result ≡ Err (Report line) → replay.window.lines < line) → RowsEnd result
    ends-in_time (Ok accepted) h = some-both rest0 rest' _ (λ x z. tt)
    ends-in_time (Err (Model fault)) h = some-both rest0 rest' _ (λ x z. tt)
    ends-in_time (Err (Telemetry fault)) h = some-both rest0 rest' _ (λ x z. tt)
    ends-in_time (Err (Read slot)) h = some-both rest0 rest' _ (λ x z. tt)
    ends-in_time (Err (Report line)) h = line-in_time line (h line refl)
    ends-in_time (Err Memory) h = some-both rest0 rest' _ (λ x z. tt)

  -- the telemetry gave no row
  pub stream-in_time : (f : StreamFault) → RowsEnd (Err (telemetry_fault f))
  stream-in_time (stream.Refused fault) = some-both rest0 rest' _ (λ x z. tt)
  stream-in_time stream.Read = some-both rest0 rest' _ (λ x z. tt)
  stream-in_time stream.Memory = some-both rest0 rest' _ (λ x z. tt)

  -- the head was refused, and the piece that holds the header's line is at hand
  pub head-in_time : rest' ≡ rest0 → length left0 ≤ 4096 → (fault : CheckFault) → IsBehind 0 fault → RowsEnd (Err fault)
  head-in_time same short (Model fault) some = some-both rest0 rest' _ (λ x z. tt)
  head-in_time same short (Telemetry fault) some = some-both rest0 rest' _ (λ x z. tt)
  head-in_time same short (Read slot) some = some-both rest0 rest' _ (λ x z. tt)
  head-in_time same short (Report line) some = subst (λ o. IfSome rest0 (λ r. IfSome o (λ r'. RowsRefuseInTime (begun r) bytes (length (left0 ++ r)) (length r') (Err (Report line))))) (sym same) (by rest0)
    where
      by : (o : Option (List ℕ)) → IfSome o (λ r. IfSome o (λ r'. RowsRefuseInTime (begun r) bytes (length (left0 ++ r)) (length r') (Err (Report line))))
      by None = tt
      by (Some r) = (some line refl, λ within. absurd (omega (arith, length-append left0 r, short, within)))
  head-in_time same short Memory some = some-both rest0 rest' _ (λ x z. tt)

-- ---- behind a header

module _ (ms : Models) (bytes : List ℕ) where
  -- what the telemetry says without its last k bytes
  abbrev said : List ℕ → ℕ → Files
  said t k = begun_with ms (without_last k t)

  -- and its rows, which may go on
  abbrev rows_watch : Columns → Cutter → List ℕ → ℕ → Watch
  rows_watch head c unread k = begun_watch ms (rows_ended head c (without_last k unread))

  module _ (head : Columns) (e : Bool) (c : Cutter) (t unread : List ℕ) (taken : TakesHeader ms.inputs ms.outputs head e (at_start most_telemetry) c ([] ++ t) unread) where
    header-in_time : (r : Result Accepted CheckFault) (left : ℕ) → RowsRefuseInTime (rows_watch head c unread) bytes (length unread) left r → RefusesInTime (said t) bytes left r
    header-in_time (Ok accepted) left h = tt
    header-in_time (Err (Model fault)) left h = tt
    header-in_time (Err (Telemetry fault)) left h = tt
    header-in_time (Err (Read slot)) left h = tt
    header-in_time (Err (Report line)) left h = by (side (left + most_piece + 1) (length unread)) (false-or-true e)
      where
        by : (left + most_piece + 1 ≤ length unread) ⊎ (length unread < left + most_piece + 1) → (e ≡ false) ⊎ (e ≡ true) → IsBehindBegun line bytes (said t (left + most_piece + 1))
        by (inr past) ended = subst (IsBehindBegun line bytes) (sym (ap (with_telemetry ms) (taken.before (left + most_piece + 1) past))) h.0
        by (inl few) (inl going) = subst (IsBehindBegun line bytes) (sym (ap (with_telemetry ms) (taken.header going (left + most_piece + 1) few))) (h.1 few)
        by (inl few) (inr ended) = let none = ap length (taken.ended ended) in absurd (omega (arith, none, few))
    header-in_time (Err Memory) left h = tt

  -- the rows behind the header, and the telemetry from its first byte
  pub behind-header : (head : Columns) (e : Bool) (c : Cutter) (left : List ℕ) (file opened rest rest' : Option (List ℕ)) → opened ≡ file → (r : Result Accepted CheckFault)
      → BothTold opened rest (λ t q. TakesHeader ms.inputs ms.outputs head e (at_start most_telemetry) c ([] ++ t) (left ++ q))
      → IfSome rest (λ q. IfSome rest' (λ q'. RowsRefuseInTime (rows_watch head c (left ++ q)) bytes (length (left ++ q)) (length q') r))
      → IfSome file (λ t. IfSome rest' (λ q'. RefusesInTime (said t) bytes (length q') r))
  behind-header head e c left file opened rest rest' is r taken time = subst (λ f. IfSome f (λ t. IfSome rest' (λ q'. RefusesInTime (said t) bytes (length q') r))) is (by opened rest rest' taken time)
    where
      by : (opened rest rest' : Option (List ℕ)) → BothTold opened rest (λ t q. TakesHeader ms.inputs ms.outputs head e (at_start most_telemetry) c ([] ++ t) (left ++ q))
          → IfSome rest (λ q. IfSome rest' (λ q'. RowsRefuseInTime (rows_watch head c (left ++ q)) bytes (length (left ++ q)) (length q') r))
          → IfSome opened (λ t. IfSome rest' (λ q'. RefusesInTime (said t) bytes (length q') r))
      by None rest rest' taken time = tt
      by (Some t) None rest' taken time = absurd taken
      by (Some t) (Some q) None taken time = tt
      by (Some t) (Some q) (Some q') taken time = header-in_time head e c t (left ++ q) taken r (length q') time

-- ---- without a header, and without a file

-- the telemetry gave no header, or could not be opened
pub no-header-in_time : (f : StreamFault) (file rest' : Option (List ℕ)) (said : List ℕ → ℕ → Files) (bytes : List ℕ)
    → IfSome file (λ t. IfSome rest' (λ q. RefusesInTime (said t) bytes (length q) (Err (telemetry_fault f))))
no-header-in_time (stream.Refused fault) file rest' said bytes = some-both file rest' _ (λ t q. tt)
no-header-in_time stream.Read file rest' said bytes = some-both file rest' _ (λ t q. tt)
no-header-in_time stream.Memory file rest' said bytes = some-both file rest' _ (λ t q. tt)

-- the report could not be opened
pub no-report-in_time : (f : GetFault) (file rest' : Option (List ℕ)) (said : List ℕ → ℕ → Files) (bytes : List ℕ)
    → IfSome file (λ t. IfSome rest' (λ q. RefusesInTime (said t) bytes (length q) (Err (report_fault f))))
no-report-in_time get.Failed file rest' said bytes = some-both file rest' _ (λ t q. tt)
no-report-in_time get.Memory file rest' said bytes = some-both file rest' _ (λ t q. tt)

-- the model file gave no models
pub no-models-in_time : (f : ModelEnding) (report model telemetry rest' : Option (List ℕ))
    → IfSome report (λ bytes. OnBytes model telemetry (λ m t. IfSome rest' (λ q. RefusesInTime (λ k. files_begun m (without_last k t)) bytes (length q) (Err (model_fault f)))))
no-models-in_time f report model telemetry rest' = of-some report _ (λ bytes. some-both model telemetry _ (λ m t. of-some rest' _ (λ q. by f m t q bytes)))
  where
    by : (f : ModelEnding) (m t q bytes : List ℕ) → RefusesInTime (λ k. files_begun m (without_last k t)) bytes (length q) (Err (model_fault f))
    by (models.Refused fault) m t q bytes = tt
    by models.Read m t q bytes = tt
    by models.Memory m t q bytes = tt

-- what is said under the models of the model file, which are named, is said of its bytes
pub with-models-in_time : (ms : Models) (report model telemetry rest' : Option (List ℕ)) (r : Result Accepted CheckFault) → IfSome model (λ m. models_of m ≡ Ok ms)
    → (AreNamed (names_in ms) → IfSome report (λ bytes. IfSome telemetry (λ t. IfSome rest' (λ q. RefusesInTime (λ k. begun_with ms (without_last k t)) bytes (length q) r))))
    → IfSome report (λ bytes. OnBytes model telemetry (λ m t. IfSome rest' (λ q. RefusesInTime (λ k. files_begun m (without_last k t)) bytes (length q) r)))
unfolding files_begun
with-models-in_time ms None model telemetry rest' r read h = tt
with-models-in_time ms (Some bytes) None telemetry rest' r read h = tt
with-models-in_time ms (Some bytes) (Some m) telemetry rest' r read h =
    if-some telemetry _ _ (λ t p. subst (λ ms. IfSome rest' (λ q. RefusesInTime (λ k. begun_under ms (without_last k t)) bytes (length q) r)) (sym read) p) (h (are-named m ms read))

-- a claim under a premise, where a file is told
pub left-last : (file : Option (List ℕ)) (A : Type 0) (P : List ℕ → Type 0) → (A → IfSome file P) → IfSome file (λ bytes. A → P bytes)
left-last None A P h = tt
left-last (Some bytes) A P h = h

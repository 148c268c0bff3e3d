-- What was put in time for the rows behind a header was put in time for the telemetry, and for both files.
use Rattle.std.proofs.Common.{◌≡◌, ℕ, ◌+◌, ◌<◌, ◌≤◌, Bool, true, false, List, [], ◌++◌, length, take, Option, Some, None, IfSome, Result, Ok, Err, refl, sym, ap, subst, arith, ◌⊎◌, inl, inr}
use Rattle.std.specs.Prelude.{is_some}
use Rattle.outside_io.specs.Sink.{SinkState}
use Rattle.outside_io.proofs.Grows.{appends_none}
use Rattle.telem_csv.specs.Columns.{Columns}
use Rattle.telem_csv.specs.Cutter.{Cutter, at_start}
use Rattle.telem_csv.specs.Telemetry.{Telemetry as Told}
use Rattle.model_file.specs.Bank.{Models}
use Rattle.model_file.specs.ModelFile.{models_of}
use Rattle.report_text.specs.Line.{Line, lines_text}
use Rattle.input_files.specs.Ended.{without_last, rows_ended, TakesNoHeader, TakesHeader, begun_with, begun_under, files_begun}
use Rattle.input_files.specs.Stream.{BothTold}
use Rattle.input_files.specs.Files.{most_telemetry, with_telemetry}
use Rattle.input_files.specs.Told.{OnBytes}
use Rattle.input_files.specs.Whole.{most_piece}
use Rattle.input_files.specs.declared.stream.StreamFault.{StreamFault}
use Rattle.input_files.specs.declared.stream.StreamFault.TheVariants as stream
use Rattle.input_files.specs.declared.model.ModelEnding.{ModelEnding}
use Rattle.input_files.specs.declared.model.ModelEnding.TheVariants as models
use Rattle.monitor_run.specs.declared.done.Done.{Done}
use Rattle.monitor_run.specs.declared.done.RunFault.{RunFault}
use Rattle.monitor_run.specs.declared.done.RunFault.TheVariants.{Model, Telemetry, Read, Write, Memory}
use Rattle.monitor_run.specs.Outcome.{GainsLines, PutsReport}
use Rattle.monitor_run.specs.Rows.{ending_of, model_ending}
use Rattle.monitor_run.specs.InTime.{IsReportBegun, IsBegunOf, IsBegun, GainsLinesAtLeast, PutsInTime, RowsInTime}
use Rattle.monitor_run.proofs.Opened.{if-some, of-some}
use Rattle.monitor_run.proofs.InTime.{side, false-or-true, both-some, some-both}

-- no lines, where there are none before the header
nothing-put : (is : List Line → Type 0) (held : SinkState) → is [] → GainsLines is held held
nothing-put is held none = ([], none, appends_none held.held)

module _ (ms : Models) (held held' : SinkState) where
  abbrev due : List ℕ → ℕ → List Line → Type 0
  due t k = IsBegunOf (begun_with ms (without_last k t))

  -- ---- behind a header

  module _ (head : Columns) (e : Bool) (c : Cutter) (t unread : List ℕ) (taken : TakesHeader ms.inputs ms.outputs head e (at_start most_telemetry) c ([] ++ t) unread) where
    abbrev begun : ℕ → List Line → Type 0
    begun k = IsReportBegun ms (rows_ended head c (without_last k unread))

    due-behind : e ≡ false → (k : ℕ) → k ≤ length unread → due t k ≡ begun k
    due-behind f k h = ap (λ (told : Told). IsBegunOf (with_telemetry ms told)) (taken.header f k h)

    due-before : (k : ℕ) → length unread < k → due t k []
    due-before k h = subst (λ (told : Told). IsBegunOf (with_telemetry ms told) []) (sym (taken.before k h)) refl

    header-in_time : (r : Result Done RunFault) (left : ℕ) (are : List Line → Type 0) → RowsInTime begun e (length unread) left held r held' → PutsReport are held r held' → PutsInTime (due t) left held r held'
    header-in_time (Ok done) left are h put = tt
    header-in_time (Err (Model fault)) left are h put = tt
    header-in_time (Err (Telemetry fault)) left are h put = tt
    header-in_time (Err (Read slot)) left are h put = λ _. subst (λ is. GainsLines is held held') (sym (due-behind h.unended left h.later)) h.lines
    header-in_time (Err Write) left are h put = by (side (left + most_piece + 1) (length unread)) (false-or-true e)
      where
        by : (left + most_piece + 1 ≤ length unread) ⊎ (length unread < left + most_piece + 1) → (e ≡ false) ⊎ (e ≡ true) → GainsLinesAtLeast (due t (left + most_piece + 1)) held held'
        by (inr past) ended = ([], due-before (left + most_piece + 1) past, (take put.2.0 (lines_text put.0), put.2.2))
        by (inl few) (inl going) = subst (λ is. GainsLinesAtLeast is held held') (sym (due-behind going (left + most_piece + 1) few)) (h few)
        by (inl few) (inr ended) = let none = ap length (taken.ended ended) in absurd (omega (arith, none, few))
    header-in_time (Err Memory) left are h put = tt

  -- the run behind the header, and the telemetry from its first byte
  pub behind-header : (head : Columns) (e : Bool) (c : Cutter) (left : List ℕ) (file opened rest rest' : Option (List ℕ)) → opened ≡ file → (r : Result Done RunFault) (are : List ℕ → List Line → Type 0)
      → BothTold opened rest (λ t q. TakesHeader ms.inputs ms.outputs head e (at_start most_telemetry) c ([] ++ t) (left ++ q))
      → IfSome rest (λ q. IfSome rest' (λ q'. RowsInTime (λ k. IsReportBegun ms (rows_ended head c (without_last k (left ++ q)))) e (length (left ++ q)) (length q') held r held'))
      → IfSome rest (λ q. PutsReport (are q) held r held') → IfSome file (λ t. IfSome rest' (λ q'. PutsInTime (due t) (length q') held r held'))
  behind-header head e c left file opened rest rest' is r are taken time put = subst (λ f. IfSome f (λ t. IfSome rest' (λ q'. PutsInTime (due t) (length q') held r held'))) is (by opened rest rest' taken time put)
    where
      by : (opened rest rest' : Option (List ℕ)) → BothTold opened rest (λ t q. TakesHeader ms.inputs ms.outputs head e (at_start most_telemetry) c ([] ++ t) (left ++ q))
          → IfSome rest (λ q. IfSome rest' (λ q'. RowsInTime (λ k. IsReportBegun ms (rows_ended head c (without_last k (left ++ q)))) e (length (left ++ q)) (length q') held r held'))
          → IfSome rest (λ q. PutsReport (are q) held r held') → IfSome opened (λ t. IfSome rest' (λ q'. PutsInTime (due t) (length q') held r held'))
      by None rest rest' taken time put = tt
      by (Some t) None rest' taken time put = absurd taken
      by (Some t) (Some q) None taken time put = tt
      by (Some t) (Some q) (Some q') taken time put = header-in_time head e c t (left ++ q) taken r (length q') (are q) time put

-- ---- without a header, and without models

pub no-header-in_time : (ms : Models) (held : SinkState) (f : StreamFault) (r : RunFault) → r ≡ ending_of f → (left : List ℕ) (file opened rest' : Option (List ℕ)) → opened ≡ file → (f ≡ stream.Read → left ≡ [])
    → (f ≡ stream.Read → BothTold opened rest' (λ t q. TakesNoHeader ms.inputs ms.outputs (at_start most_telemetry) ([] ++ t) (left ++ q)))
    → IfSome file (λ t. IfSome rest' (λ q'. PutsInTime (λ k. IsBegunOf (begun_with ms (without_last k t))) (length q') held (Err r) held))
no-header-in_time ms held f r is left file opened rest' same used none =
    subst (λ o. IfSome o (λ t. IfSome rest' (λ q'. PutsInTime (λ k. IsBegunOf (begun_with ms (without_last k t))) (length q') held (Err r) held))) same
    (subst (λ r. IfSome opened (λ t. IfSome rest' (λ q'. PutsInTime (λ k. IsBegunOf (begun_with ms (without_last k t))) (length q') held (Err r) held))) (sym is) (by f refl))
  where
    read : (t q : List ℕ) → left ≡ [] → TakesNoHeader ms.inputs ms.outputs (at_start most_telemetry) ([] ++ t) (left ++ q) → GainsLines (IsBegunOf (begun_with ms (without_last (length q) t))) held held
    read t q empty h =
        nothing-put (IsBegunOf (begun_with ms (without_last (length q) t))) held
        (subst (λ n. IsBegunOf (begun_with ms (without_last n t)) []) (ap (λ l. length (l ++ q)) empty) (subst (λ (told : Told). IsBegunOf (with_telemetry ms told) []) (sym h.none) refl))

    by : (g : StreamFault) → f ≡ g → IfSome opened (λ t. IfSome rest' (λ q'. PutsInTime (λ k. IsBegunOf (begun_with ms (without_last k t))) (length q') held (Err (ending_of g)) held))
    by (stream.Refused fault) is = some-both opened rest' _ (λ t q. tt)
    by stream.Read is = both-some opened rest' (λ t q. TakesNoHeader ms.inputs ms.outputs (at_start most_telemetry) ([] ++ t) (left ++ q)) _ (λ t q h _. read t q (used is) h) (none is)
    by stream.Memory is = some-both opened rest' _ (λ t q. tt)

-- a slot that was not asked is not attached
pub not-asked : (asked : Option (List ℕ)) → asked ≡ None → is_some asked ≡ true → ⊥
not-asked asked none some = let clash : false ≡ true = rw none at some in cc

pub with-models-in_time : (ms : Models) (model telemetry' rest' : Option (List ℕ)) (held held' : SinkState) (r : Result Done RunFault) → IfSome model (λ m. models_of m ≡ Ok ms)
    → IfSome telemetry' (λ t. IfSome rest' (λ q. PutsInTime (λ k. IsBegunOf (begun_with ms (without_last k t))) (length q) held r held'))
    → OnBytes model telemetry' (λ m t. IfSome rest' (λ q. PutsInTime (IsBegun m t) (length q) held r held'))
unfolding files_begun
with-models-in_time ms None telemetry' rest' held held' r read h = tt
with-models-in_time ms (Some m) telemetry' rest' held held' r read h =
    if-some telemetry' _ _ (λ t p. subst (λ ms. IfSome rest' (λ q. PutsInTime (λ k. IsBegunOf (begun_under ms (without_last k t))) (length q) held r held')) (sym read) p) h

-- an ending at the model file
pub judged-in_time : (e : ModelEnding) (r : RunFault) → r ≡ model_ending e → (model telemetry' rest' : Option (List ℕ)) (held : SinkState) → OnBytes model telemetry' (λ m t. IfSome rest' (λ q. PutsInTime (IsBegun m t) (length q) held (Err r) held))
judged-in_time e r is model telemetry' rest' held = subst (λ r. OnBytes model telemetry' (λ m t. IfSome rest' (λ q. PutsInTime (IsBegun m t) (length q) held (Err r) held))) (sym is) (some-both model telemetry' _ (λ m t. of-some rest' _ (λ q. by e m t q)))
  where
    by : (e : ModelEnding) (m t q : List ℕ) → PutsInTime (IsBegun m t) (length q) held (Err (model_ending e)) held
    by (models.Refused fault) m t q = tt
    by models.Read m t q = λ one. absurd (let clash : 0 ≡ 1 = one in cc)
    by models.Memory m t q = tt

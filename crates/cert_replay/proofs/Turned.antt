-- The turns of a check over the rows of a telemetry.
use Rattle.std.proofs.Common.{◌≡◌, ◌≢◌, ℕ, ◌+◌, true, false, is_none, List, [], ◌∷◌, ◌++◌, length, Option, Some, None, IfSome, Result, Ok, Err, IfErr, IfOk, OnOk, refl, sym, ap, ◌∙◌, subst, append_assoc, append-nil}
use Rattle.plant_model.specs.Plant.{Plant, Sample}
use Rattle.outside_io.specs.Shelf.{SlotState, ShelfState}
use Rattle.telem_csv.specs.Columns.{Columns}
use Rattle.telem_csv.specs.Cutter.{Cutter, rows_owed}
use Rattle.telem_csv.specs.Rows.{Rows, no_rows, refused_rows}
use Rattle.telem_csv.specs.declared.fault.TelemFault.{TelemFault}
use Rattle.input_files.specs.Stream.{BothTold, with_sample}
use Rattle.input_files.specs.declared.stream.StreamFault.{StreamFault}
use Rattle.input_files.specs.declared.stream.StreamFault.TheVariants as stream
use Rattle.input_files.proofs.Streams.{told-then}
use Rattle.monitor_run.specs.Rows.{behind}
use Rattle.monitor_run.proofs.Turns.{told-some, told-same}
use Rattle.report_text.specs.Line.{end, put_text}
use Rattle.report_rules.specs.Replay.{watch, Satisfies, DepartsAt}
use Rattle.report_rules.proofs.Departs.{end-satisfies, end-departs, behind-departs, refused-satisfies}
use Rattle.cert_replay.specs.Checked.{AreModels, Checked, DepartsInSample}
use Rattle.cert_replay.specs.Ends.{SaysOfChecked, EndDeparts}
use Rattle.cert_replay.specs.Faults.{telemetry_fault, IsSampleFault}
use Rattle.cert_replay.specs.Window.{HasUnread}
use Rattle.cert_replay.specs.declared.fault.Accepted.{Accepted}
use Rattle.cert_replay.specs.declared.fault.CheckFault.{CheckFault}
use Rattle.cert_replay.specs.declared.fault.CheckFault.TheVariants.{Model, Telemetry, Read, Report, Memory}
use Rattle.cert_replay.specs.declared.replay.Replay.{Replay}
use Rattle.cert_replay.specs.declared.window.Window.{Window}

-- after these samples: the report was replayed up to them, and the telemetry owes what it owed less these samples
pub record Turned (head : Columns) (r0 r : Replay) (s0 s : ShelfState) (c0 c : Cutter) (left0 left : List ℕ) (rest0 rest : Option (List ℕ)) (taken : List Sample) : Type 0 where
  pub checked : (names : List (List ℕ)) (ps : List Plant) (bytes : List ℕ) → AreModels names ps r0.counts → Checked names ps [] bytes r0 s0 → Checked names ps taken bytes r s
  pub owes : BothTold rest0 rest (λ r r'. rows_owed head c0 (left0 ++ r) ≡ behind taken (rows_owed head c (left ++ r')))

pub no-turn : (head : Columns) (r : Replay) (s : ShelfState) (c : Cutter) (left : List ℕ) (rest : Option (List ℕ)) → Turned head r r s s c c left left rest rest []
no-turn head r s c left rest = record {
  checked = λ names ps bytes models checked. checked;
  owes = told-same rest (λ r r'. rows_owed head c (left ++ r) ≡ behind [] (rows_owed head c (left ++ r'))) (λ r. refl);
}

module _ {head : Columns} {r0 r : Replay} {s0 s : ShelfState} {c0 c : Cutter} {left0 left : List ℕ} {rest0 rest : Option (List ℕ)} {taken : List Sample} (t : Turned head r0 r s0 s c0 c left0 left rest0 rest taken) where
  abbrev owed : List ℕ → Rows
  owed x = rows_owed head c0 (left0 ++ x)

  module _ (c' : Cutter) (left' : List ℕ) (rest' : Option (List ℕ)) (one : Sample)
      (row : BothTold rest rest' (λ r r'. rows_owed head c (left ++ r) ≡ with_sample one (rows_owed head c' (left' ++ r')))) where
    owes-more : BothTold rest0 rest' (λ r r'. owed r ≡ behind (taken ++ one ∷ []) (rows_owed head c' (left' ++ r')))
    owes-more = told-then rest0 rest rest' (λ r r'. owed r ≡ behind taken (rows_owed head c (left ++ r'))) (λ r r'. rows_owed head c (left ++ r) ≡ with_sample one (rows_owed head c' (left' ++ r')))
        (λ r r'. owed r ≡ behind (taken ++ one ∷ []) (rows_owed head c' (left' ++ r')))
        (λ x y z e f. e ∙ ap (behind taken) f ∙ moved (rows_owed head c' (left' ++ z))) t.owes row
      where
        moved : (rows : Rows) → behind taken (with_sample one rows) ≡ behind (taken ++ one ∷ []) rows
        moved rows = ap (λ ss. let both : Rows = record { samples = ss; refusal = rows.refusal } in both) (sym (append_assoc taken (one ∷ []) rows.samples))

    -- one sample more was checked
    pub one-turn : (r' : Replay) (s' : ShelfState)
        → ((names : List (List ℕ)) (ps : List Plant) (taken : List Sample) (bytes : List ℕ) → AreModels names ps r.counts → Checked names ps taken bytes r s → Checked names ps (taken ++ one ∷ []) bytes r' s')
        → r.counts ≡ r0.counts → Turned head r0 r' s0 s' c0 c' left0 left' rest0 rest' (taken ++ one ∷ [])
    one-turn r' s' more same = record {
      checked = λ names ps bytes models checked. more names ps taken bytes (subst (AreModels names ps) (sym same) models) (t.checked names ps bytes models checked);
      owes = owes-more;
    }

    module _ (names : List (List ℕ)) (ps : List Plant) (bytes : List ℕ) (models : AreModels names ps r0.counts) (begun : Checked names ps [] bytes r0 s0) where
      -- a sample departs
      pub turn-departs : (line : ℕ) → r.counts ≡ r0.counts
          → ((names : List (List ℕ)) (ps : List Plant) (taken : List Sample) (bytes : List ℕ) → AreModels names ps r.counts → Checked names ps taken bytes r s → DepartsInSample names ps taken one bytes (Report line))
          → IfSome rest0 (λ x. SaysOfChecked names ps (Err (Report line)) (owed x) bytes)
      turn-departs line same departs = told-some rest0 rest' (λ r r'. owed r ≡ behind (taken ++ one ∷ []) (rows_owed head c' (left' ++ r'))) (λ x. SaysOfChecked names ps (Err (Report line)) (owed x) bytes)
          (λ x y e.
          let rows = rows_owed head c' (left' ++ y) in
          subst (λ rows. SaysOfChecked names ps (Err (Report line)) rows bytes) (sym e)
          (departs names ps taken bytes (subst (AreModels names ps) (sym same) models) (t.checked names ps bytes models begun) line refl rows.samples (is_none rows.refusal)))
          owes-more

  module _ (names : List (List ℕ)) (ps : List Plant) (bytes : List ℕ) (models : AreModels names ps r0.counts) (begun : Checked names ps [] bytes r0 s0) where
    abbrev now : Checked names ps taken bytes r s
    now = t.checked names ps bytes models begun

    -- a row is refused, or the telemetry can't be read
    pub turn-refused : (f : StreamFault) (rest' : Option (List ℕ))
        → ((fault : TelemFault) → f ≡ stream.Refused fault → BothTold rest rest' (λ r r'. rows_owed head c (left ++ r) ≡ refused_rows fault))
        → IfSome rest0 (λ x. SaysOfChecked names ps (Err (telemetry_fault f)) (owed x) bytes)
    turn-refused (stream.Refused fault) rest' told = told-some rest0 rest' (λ r r'. owed r ≡ behind taken (refused_rows fault)) (λ x. SaysOfChecked names ps (Err (Telemetry fault)) (owed x) bytes)
        (λ x y e. subst (λ rows. SaysOfChecked names ps (Err (Telemetry fault)) rows bytes) (sym e)
        (refl, subst (λ ss. Satisfies (watch names ps ss false) bytes) (sym (append-nil taken)) (refused-satisfies names ps taken now.choice bytes now.unread now.replayed)))
        (told-then rest0 rest rest' (λ r r'. owed r ≡ behind taken (rows_owed head c (left ++ r'))) (λ r r'. rows_owed head c (left ++ r) ≡ refused_rows fault) (λ r r'. owed r ≡ behind taken (refused_rows fault))
        (λ x y z e f. e ∙ ap (behind taken) f) t.owes (told fault refl))
    turn-refused stream.Read rest' told = any rest0
      where
        any : (a : Option (List ℕ)) → IfSome a (λ x. SaysOfChecked names ps (Err (Read 1)) (owed x) bytes)
        any None = tt
        any (Some x) = tt
    turn-refused stream.Memory rest' told = any rest0
      where
        any : (a : Option (List ℕ)) → IfSome a (λ x. SaysOfChecked names ps (Err Memory) (owed x) bytes)
        any None = tt
        any (Some x) = tt

    -- the telemetry came to its end, and the last line was compared
    pub turn-ends : (rest' : Option (List ℕ)) → BothTold rest rest' (λ r r'. rows_owed head c (left ++ r) ≡ no_rows) → (result : Result Accepted CheckFault)
        → ((line : ℕ) → result ≡ Err (Report line) → (unread : List ℕ) → HasUnread r.window s unread → EndDeparts r.bank.count r.window.lines unread line)
        → ((accepted : Accepted) → result ≡ Ok accepted → (accepted.samples ≡ r.bank.count) × ((unread : List ℕ) → HasUnread r.window s unread → unread ≡ put_text (end r.bank.count)))
        → ((fault : TelemFault) → result ≢ Err (Telemetry fault))
        → IfSome rest0 (λ x. SaysOfChecked names ps result (owed x) bytes)
    turn-ends rest' told result departs stands not-telemetry = told-some rest0 rest' (λ r r'. owed r ≡ behind taken no_rows) (λ x. SaysOfChecked names ps result (owed x) bytes)
        (λ x y e. subst (λ rows. SaysOfChecked names ps result rows bytes) (sym e) (by result departs stands not-telemetry))
        (told-then rest0 rest rest' (λ r r'. owed r ≡ behind taken (rows_owed head c (left ++ r'))) (λ r r'. rows_owed head c (left ++ r) ≡ no_rows) (λ r r'. owed r ≡ behind taken no_rows)
        (λ x y z e f. e ∙ ap (behind taken) f) t.owes told)
      where
        all : taken ++ [] ≡ taken
        all = append-nil taken

        by : (result : Result Accepted CheckFault)
            → ((line : ℕ) → result ≡ Err (Report line) → (unread : List ℕ) → HasUnread r.window s unread → EndDeparts r.bank.count r.window.lines unread line)
            → ((accepted : Accepted) → result ≡ Ok accepted → (accepted.samples ≡ r.bank.count) × ((unread : List ℕ) → HasUnread r.window s unread → unread ≡ put_text (end r.bank.count)))
            → ((fault : TelemFault) → result ≢ Err (Telemetry fault))
            → SaysOfChecked names ps result (behind taken no_rows) bytes
        by (Ok accepted) departs stands not =
            let last = stands accepted refl in
            let e : now.unread ≡ put_text (end (length taken)) = last.1 now.unread now.left ∙ ap (λ n. put_text (end n)) now.stands.count_is in (
              refl,
              last.0 ∙ now.stands.count_is ∙ ap length (sym all),
              subst (λ ss. Satisfies (watch names ps ss true) bytes) (sym all) (end-satisfies names ps taken now.choice bytes now.unread now.replayed e),
            )
        by (Err (Model fault)) departs stands not = tt
        by (Err (Telemetry fault)) departs stands not = absurd (not fault refl)
        by (Err (Read slot)) departs stands not = tt
        by (Err (Report line)) departs stands not =
            subst (λ ss. DepartsAt (watch names ps ss true) line bytes) (sym all) (where-departs (departs line refl now.unread now.left))
          where
            where-departs : EndDeparts r.bank.count r.window.lines now.unread line → DepartsAt (watch names ps taken true) line bytes
            where-departs (EndDeparts.missing e other) =
                subst (λ n. DepartsAt (watch names ps taken true) n bytes) (sym (e ∙ ap (λ n. n + 1) now.lines))
                (end-departs names ps taken now.choice bytes now.unread now.replayed models.few (λ x. subst (λ n. now.unread ≢ put_text (end n) ++ x) now.stands.count_is (other x)))
            where-departs (EndDeparts.behind e v is some) =
                subst (λ n. DepartsAt (watch names ps taken true) n bytes) (sym (e ∙ ap (λ n. n + 2) now.lines))
                (behind-departs names ps taken now.choice bytes now.unread now.replayed models.few v (is ∙ ap (λ n. put_text (end n) ++ v) now.stands.count_is) some)
        by (Err Memory) departs stands not = tt

-- ---- where the other slot was read

pub unread-same : (w : Window) (s s' : ShelfState) → s'.slot 2 ≡ s.slot 2 → (unread : List ℕ) → HasUnread w s unread → HasUnread w s' unread
unread-same w s s' same unread u = record { rest = u.rest; told = ap (λ (x : SlotState). x.rest) same ∙ u.told; is = u.is }

pub checked-same : (names : List (List ℕ)) (ps : List Plant) (taken : List Sample) (bytes : List ℕ) (r : Replay) (s s' : ShelfState) → s'.slot 2 ≡ s.slot 2
    → Checked names ps taken bytes r s → Checked names ps taken bytes r s'
checked-same names ps taken bytes r s s' same c = record {
  choice = c.choice;
  unread = c.unread;
  left = unread-same r.window s s' same c.unread c.left;
  replayed = c.replayed;
  stands = c.stands;
  possible_are = c.possible_are;
  lines = c.lines;
}

-- ---- what a result says

pub if-err-at : {A E : Type 0} (r : Result A E) (P : E → Type 0) (e : E) → IfErr r P → r ≡ Err e → P e
if-err-at (Ok x) P e h is = absurd cc
if-err-at (Err f) P e h is = let same : f ≡ e = cc in subst P same h

pub if-ok-at : {A E : Type 0} (r : Result A E) (P : A → Type 0) (x : A) → IfOk r P → r ≡ Ok x → P x
if-ok-at (Err e) P x h is = absurd cc
if-ok-at (Ok y) P x h is = let same : y ≡ x = cc in subst P same h

pub on-ok-at : {A E : Type 0} (r : Result A E) (P : Type 0) (x : A) → OnOk r P → r ≡ Ok x → P
on-ok-at (Err e) P x h is = absurd cc
on-ok-at (Ok y) P x h is = h

-- a fault in the lines of a sample
pub turn-fault : {head : Columns} {r0 r : Replay} {s0 s : ShelfState} {c0 c : Cutter} {left0 left : List ℕ} {rest0 rest : Option (List ℕ)} {taken : List Sample} (t : Turned head r0 r s0 s c0 c left0 left rest0 rest taken)
    (c' : Cutter) (left' : List ℕ) (rest' : Option (List ℕ)) (one : Sample) → BothTold rest rest' (λ r r'. rows_owed head c (left ++ r) ≡ with_sample one (rows_owed head c' (left' ++ r')))
    → (names : List (List ℕ)) (ps : List Plant) (bytes : List ℕ) → AreModels names ps r0.counts → Checked names ps [] bytes r0 s0 → r.counts ≡ r0.counts
    → (fault : CheckFault) → IsSampleFault fault
    → ((names : List (List ℕ)) (ps : List Plant) (taken : List Sample) (bytes : List ℕ) → AreModels names ps r.counts → Checked names ps taken bytes r s → DepartsInSample names ps taken one bytes fault)
    → IfSome rest0 (λ x. SaysOfChecked names ps (Err fault) (rows_owed head c0 (left0 ++ x)) bytes)
turn-fault t c' left' rest' one row names ps bytes models begun same (Model fault) is departs = absurd is
turn-fault t c' left' rest' one row names ps bytes models begun same (Telemetry fault) is departs = absurd is
turn-fault {head} {r0} {r} {s0} {s} {c0} {c} {left0} {left} {rest0} t c' left' rest' one row names ps bytes models begun same (Read slot) is departs = any rest0
  where
    any : (a : Option (List ℕ)) → IfSome a (λ x. SaysOfChecked names ps (Err (Read slot)) (rows_owed head c0 (left0 ++ x)) bytes)
    any None = tt
    any (Some x) = tt
turn-fault t c' left' rest' one row names ps bytes models begun same (Report line) is departs =
    turn-departs t c' left' rest' one row names ps bytes models begun line same departs
turn-fault {head} {r0} {r} {s0} {s} {c0} {c} {left0} {left} {rest0} t c' left' rest' one row names ps bytes models begun same Memory is departs = any rest0
  where
    any : (a : Option (List ℕ)) → IfSome a (λ x. SaysOfChecked names ps (Err Memory) (rows_owed head c0 (left0 ++ x)) bytes)
    any None = tt
    any (Some x) = tt

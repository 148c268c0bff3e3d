-- The turns of a run over the rows of a telemetry.
use Rattle.std.proofs.Common.{◌≡◌, ℕ, ◌+◌, ◌<◌, List, [], ◌∷◌, ◌++◌, length, Option, Some, None, IfSome, Result, Ok, Err, IfOk, IfErr, OnOk, OnErr, refl, sym, ap, ◌∙◌, subst, arith, append_assoc, append-nil, length-append, is_none, Bool, true}
use Rattle.outside_io.specs.Sink.{SinkState, Gains, GainsFront}
use Rattle.outside_io.proofs.Grows.{appends_more, appends_none}
use Rattle.outside_io.proofs.Fronts.{front-after, front-before, whole-front}
use Rattle.plant_model.specs.Plant.{Plant, Sample}
use Rattle.telem_csv.specs.Columns.{Columns}
use Rattle.telem_csv.specs.Cutter.{Cutter, rows_owed}
use Rattle.telem_csv.specs.Rows.{Rows, no_rows, refused_rows}
use Rattle.telem_csv.specs.declared.fault.TelemFault.{TelemFault}
use Rattle.observer_step.specs.Answers.{as_run_chooses}
use Rattle.observer_step.specs.SetsAnswers.{sets_observer}
use Rattle.model_bank.specs.Answers.{SampleAnswer, all_allowed}
use Rattle.model_bank.specs.Bank.{Bank, BankStands}
use Rattle.report_text.specs.Line.{Line, lines_text, put_text, end}
use Rattle.input_files.proofs.Streams.{told-then}
use Rattle.report_rules.proofs.Later.{all_allowed-same, lines-same}
use Rattle.report_rules.proofs.Longer.{longer-lives, longer-lines, longer-allowed, extended, extended-lines, extended-allowed, lines-first}
use Rattle.std.proofs.lemmas.Grind.{flat_map-append}
use Rattle.report_rules.specs.Lines.{sample_lines, last_lines}
use Rattle.report_rules.specs.Report.{Choice, samples_lines, lives_before}
use Rattle.report_rules.specs.Replay.{chosen_at}
use Rattle.model_bank.specs.Stepping.{TakesBy, TakesChosen}
use Rattle.input_files.specs.Stream.{BothTold, with_sample}
use Rattle.outside_io.specs.declared.sink.PutFault.{PutFault}
use Rattle.outside_io.specs.declared.sink.PutFault.TheVariants as put
use Rattle.monitor_run.specs.declared.done.Done.{Done}
use Rattle.monitor_run.specs.declared.done.RunFault.{RunFault}
use Rattle.monitor_run.specs.declared.done.RunFault.TheVariants.{Model, Telemetry, Read, Write, Memory}
use Rattle.input_files.specs.declared.stream.StreamFault.{StreamFault}
use Rattle.input_files.specs.declared.stream.StreamFault.TheVariants as stream
use Rattle.monitor_run.specs.Outcome.{GainsLines, GainsLinesFront, PutsReport}
use Rattle.monitor_run.specs.Rows.{IsChoice, chosen_lines, rows_lines, AreRows, StandsNew, StandsChosen, behind, SaysOfRows, IsPutEnding, ending_of, put_ending}

-- after these samples: the bank stands for them by what was chosen, their lines were put, and the rest of the telemetry is what it
-- owed less these samples
pub record Monitored (head : Columns) (bank0 bank : Bank) (c0 c : Cutter) (left0 left : List ℕ) (rest0 rest : Option (List ℕ)) (held0 held : SinkState) (taken : List Sample) : Type 0 where
  pub choice : Choice
  pub stands : (ps : List Plant) → StandsNew ps bank0 → StandsChosen ps taken choice bank
  pub chosen : (ps : List Plant) → StandsNew ps bank0 → IsChoice ps taken choice
  pub counts : bank.count ≡ length taken
  pub puts : (ps : List Plant) → StandsNew ps bank0 → Gains (lines_text (chosen_lines ps taken choice)) held0 held
  pub owes : BothTold rest0 rest (λ r r'. rows_owed head c0 (left0 ++ r) ≡ behind taken (rows_owed head c (left ++ r')))

-- a claim on what was there, from what is told of it and of what is there now
pub told-some : (a b : Option (List ℕ)) (P : List ℕ → List ℕ → Type 0) (Q : List ℕ → Type 0) → ((r r' : List ℕ) → P r r' → Q r) → BothTold a b P → IfSome a Q
told-some None b P Q f h = tt
told-some (Some r) None P Q f h = absurd h
told-some (Some r) (Some r') P Q f h = f r r' h

pub told-same : (a : Option (List ℕ)) (P : List ℕ → List ℕ → Type 0) → ((r : List ℕ) → P r r) → BothTold a a P
told-same None P f = tt
told-same (Some r) P f = f r

pub lines-append : (xs ys : List Line) → lines_text (xs ++ ys) ≡ lines_text xs ++ lines_text ys
lines-append xs ys = flat_map-append put_text xs ys

-- what is chosen for the samples taken goes on over all rows, and its lines there begin with those of the samples taken
goes-on : (ps : List Plant) (taken : List Sample) (c : Choice) → IsChoice ps taken c → (rows : Rows)
    → (d : Choice) × IsChoice ps (taken ++ rows.samples) d × (tail : List Line) × (rows_lines ps (behind taken rows) d ≡ chosen_lines ps taken c ++ tail)
goes-on ps taken c chosen rows =
    let all = taken ++ rows.samples in
    let n = length taken in
    let allowed : (j : ℕ) → j < n → all_allowed as_run_chooses sets_observer ps (lives_before c (length ps) j) (c j) all j ≡ true =
    λ j l. all_allowed-same taken rows.samples as_run_chooses ps (lives_before c (length ps) j) (c j) j l ∙ chosen j l in
    let d = extended ps all c n in
    let last = last_lines (length all) (is_none rows.refusal) in
    let more = lines-first ps taken rows.samples d in
    let same : chosen_lines ps taken d ≡ chosen_lines ps taken c =
    sym (lines-same taken rows.samples ps d n (omega arith)) ∙ extended-lines as_run_chooses ps all c n allowed ∙ lines-same taken rows.samples ps c n (omega arith) in (
      d,
      λ j l. extended-allowed as_run_chooses ps all c n allowed j,
      more.0 ++ last,
      ap (λ ls. ls ++ last) more.1 ∙ append_assoc (chosen_lines ps taken d) more.0 last ∙ ap (λ ls. ls ++ (more.0 ++ last)) same,
    )

module _ {head : Columns} {bank0 bank : Bank} {c0 c : Cutter} {left0 left : List ℕ} {rest0 rest : Option (List ℕ)} {held0 held : SinkState} {taken : List Sample}
    (m : Monitored head bank0 bank c0 c left0 left rest0 rest held0 held taken) where
  -- the rows that the telemetry owed before the first sample
  abbrev owed : List ℕ → Rows
  owed r = rows_owed head c0 (left0 ++ r)

  -- the lines put so far are a front of a whole
  pub so-far : (ps : List Plant) → StandsNew ps bank0 → IfSome rest0 (λ r. GainsLinesFront (AreRows ps (owed r)) held0 held)
  so-far ps new = told-some rest0 rest (λ r r'. owed r ≡ behind taken (rows_owed head c (left ++ r'))) (λ r. GainsLinesFront (AreRows ps (owed r)) held0 held)
      (λ r r' e.
      let rows = rows_owed head c (left ++ r') in
      let on = goes-on ps taken m.choice (m.chosen ps new) rows in
      let lines = rows_lines ps (behind taken rows) on.0 in
      let text : lines_text lines ≡ lines_text (chosen_lines ps taken m.choice) ++ lines_text on.2 = ap lines_text on.3 ∙ lines-append (chosen_lines ps taken m.choice) on.2 in
      subst (λ rows. GainsLinesFront (AreRows ps rows) held0 held) (sym e)
      (lines, (on.0, on.1, refl), subst (λ t. GainsFront t held0 held) (sym text) (whole-front held0.held held.held (lines_text (chosen_lines ps taken m.choice)) (lines_text on.2) (m.puts ps new))))
      m.owes

  module _ (c' : Cutter) (left' : List ℕ) (rest' : Option (List ℕ)) (s : Sample)
      (row : BothTold rest rest' (λ r r'. rows_owed head c (left ++ r) ≡ with_sample s (rows_owed head c' (left' ++ r')))) where
    abbrev more : List Sample
    more = taken ++ s ∷ []

    owes-more : BothTold rest0 rest' (λ r r'. owed r ≡ behind more (rows_owed head c' (left' ++ r')))
    owes-more = told-then rest0 rest rest' (λ r r'. owed r ≡ behind taken (rows_owed head c (left ++ r'))) (λ r r'. rows_owed head c (left ++ r) ≡ with_sample s (rows_owed head c' (left' ++ r'))) (λ r r'. owed r ≡ behind more (rows_owed head c' (left' ++ r')))
        (λ x y z e f. e ∙ ap (behind taken) f ∙ moved (rows_owed head c' (left' ++ z))) m.owes row
      where
        moved : (rows : Rows) → behind taken (with_sample s rows) ≡ behind more rows
        moved rows = ap (λ ss. let both : Rows = record { samples = ss; refusal = rows.refusal } in both) (sym (append_assoc taken (s ∷ []) rows.samples))

    module _ (bank' : Bank) (answer : SampleAnswer) (held' : SinkState) (takes : TakesChosen s bank answer bank') where
      -- what is chosen, with what is said of this sample
      abbrev next : Choice
      next = chosen_at (length taken) takes.0 m.choice

      module _ (ps : List Plant) (new : StandsNew ps bank0) where
        abbrev lives : List Bool
        lives = lives_before m.choice (length ps) (length taken)

        took : TakesBy as_run_chooses s takes.0 ps taken lives answer bank'
        took = takes.1 ps taken lives (m.stands ps new)

        chosen-more : IsChoice ps more next
        chosen-more = longer-allowed ps taken m.choice as_run_chooses (m.chosen ps new) s takes.0 took.allowed

        -- the lines of all samples, with those of this one
        more-lines : chosen_lines ps more next ≡ chosen_lines ps taken m.choice ++ sample_lines answer
        more-lines = longer-lines ps taken m.choice s takes.0 ∙ ap (λ a. chosen_lines ps taken m.choice ++ sample_lines a) (sym took.answer)

      -- one more sample was taken and its lines were put
      pub one-more : bank'.count ≡ bank.count + 1 → Gains (lines_text (sample_lines answer)) held held' → Monitored head bank0 bank' c0 c' left0 left' rest0 rest' held0 held' (taken ++ s ∷ [])
      one-more count put = record {
        choice = next;
        stands = λ ps new. subst (λ lives. BankStands ps more lives bank') (sym (longer-lives ps taken m.choice s takes.0)) (took ps new).stands;
        chosen = chosen-more;
        counts = count ∙ ap (λ n. n + 1) m.counts ∙ sym (length-append taken (s ∷ []));
        puts = λ ps new. appends_more held0.held held.held held'.held _ _ _ (m.puts ps new) put (ap lines_text (more-lines ps new) ∙ lines-append (chosen_lines ps taken m.choice) (sample_lines answer));
        owes = owes-more;
      }

      -- a front of its lines was put
      pub front-more : (ps : List Plant) → StandsNew ps bank0 → GainsFront (lines_text (sample_lines answer)) held held' → IfSome rest0 (λ r. GainsLinesFront (AreRows ps (owed r)) held0 held')
      front-more ps new put = told-some rest0 rest' (λ r r'. owed r ≡ behind more (rows_owed head c' (left' ++ r'))) (λ r. GainsLinesFront (AreRows ps (owed r)) held0 held')
          (λ r r' e.
          let rows = rows_owed head c' (left' ++ r') in
          let on = goes-on ps more next (chosen-more ps new) rows in
          let lines = rows_lines ps (behind more rows) on.0 in
          let before = chosen_lines ps taken m.choice in
          let here = sample_lines answer in
          let text : lines_text lines ≡ (lines_text before ++ lines_text here) ++ lines_text on.2 =
          ap lines_text on.3 ∙ lines-append (chosen_lines ps more next) on.2 ∙ ap (λ t. t ++ lines_text on.2) (ap lines_text (more-lines ps new) ∙ lines-append before here) in
          subst (λ rows. GainsLinesFront (AreRows ps rows) held0 held') (sym e) (
            lines,
            (on.0, on.1, refl),
            subst (λ t. GainsFront t held0 held') (sym text) (front-before held0.held held'.held (lines_text before ++ lines_text here) (lines_text on.2)
                (front-after held0.held held.held held'.held (lines_text before) (lines_text here) (m.puts ps new) put)),
          ))
          owes-more

  -- a row was refused
  module _ (fault : TelemFault) (rest' : Option (List ℕ)) (told : BothTold rest rest' (λ r r'. rows_owed head c (left ++ r) ≡ refused_rows fault)) where
    refused-is : BothTold rest0 rest' (λ r r'. owed r ≡ behind taken (refused_rows fault))
    refused-is = told-then rest0 rest rest' (λ r r'. owed r ≡ behind taken (rows_owed head c (left ++ r'))) (λ r r'. rows_owed head c (left ++ r) ≡ refused_rows fault) (λ r r'. owed r ≡ behind taken (refused_rows fault))
        (λ x y z e f. e ∙ ap (behind taken) f) m.owes told

    pub refused-says : IfSome rest0 (λ r. (rows_owed head c0 (left0 ++ r)).refusal ≡ Some fault)
    refused-says = told-some rest0 rest' (λ r r'. owed r ≡ behind taken (refused_rows fault)) (λ r. (owed r).refusal ≡ Some fault) (λ r r' e. ap (λ (rows : Rows). rows.refusal) e) refused-is

    pub refused-puts : (ps : List Plant) → StandsNew ps bank0 → IfSome rest0 (λ r. GainsLines (AreRows ps (rows_owed head c0 (left0 ++ r))) held0 held)
    refused-puts ps new = told-some rest0 rest' (λ r r'. owed r ≡ behind taken (refused_rows fault)) (λ r. GainsLines (AreRows ps (owed r)) held0 held)
        (λ r r' e.
        let none = append-nil taken in
        let rows : Rows = behind taken (refused_rows fault) in
        let is : chosen_lines ps taken m.choice ≡ rows_lines ps rows m.choice =
        sym (append-nil (chosen_lines ps rows.samples m.choice) ∙ ap (λ ss. chosen_lines ps ss m.choice) none) in
        subst (λ rows. GainsLines (AreRows ps rows) held0 held) (sym e)
        (chosen_lines ps taken m.choice, (m.choice, subst (λ ss. IsChoice ps ss m.choice) (sym none) (m.chosen ps new), is), m.puts ps new))
        refused-is

  -- the telemetry came to its end
  module _ (rest' : Option (List ℕ)) (told : BothTold rest rest' (λ r r'. rows_owed head c (left ++ r) ≡ no_rows)) where
    all-is : BothTold rest0 rest' (λ r r'. owed r ≡ behind taken no_rows)
    all-is = told-then rest0 rest rest' (λ r r'. owed r ≡ behind taken (rows_owed head c (left ++ r'))) (λ r r'. rows_owed head c (left ++ r) ≡ no_rows) (λ r r'. owed r ≡ behind taken no_rows)
        (λ x y z e f. e ∙ ap (behind taken) f) m.owes told

    pub all-says : IfSome rest0 (λ r. ((rows_owed head c0 (left0 ++ r)).refusal ≡ None) × (bank.count ≡ length (rows_owed head c0 (left0 ++ r)).samples))
    all-says = told-some rest0 rest' (λ r r'. owed r ≡ behind taken no_rows) (λ r. ((owed r).refusal ≡ None) × (bank.count ≡ length (owed r).samples))
        (λ r r' e. (ap (λ (rows : Rows). rows.refusal) e, m.counts ∙ sym (ap (λ (rows : Rows). length rows.samples) e ∙ ap length (append-nil taken)))) all-is

    -- the lines of all samples, and the last
    abbrev whole_lines : List Plant → List Line
    whole_lines ps = chosen_lines ps taken m.choice ++ (end bank.count ∷ [])

    all-are : (ps : List Plant) → StandsNew ps bank0 → AreRows ps (behind taken no_rows) (whole_lines ps)
    all-are ps new =
        let none = append-nil taken in (
          m.choice,
          subst (λ ss. IsChoice ps ss m.choice) (sym none) (m.chosen ps new),
          sym (ap (λ ss. chosen_lines ps ss m.choice ++ (end (length ss) ∷ [])) none ∙ ap (λ n. chosen_lines ps taken m.choice ++ (end n ∷ [])) (sym m.counts)),
        )

    whole-text : (ps : List Plant) → lines_text (whole_lines ps) ≡ lines_text (chosen_lines ps taken m.choice) ++ lines_text (end bank.count ∷ [])
    whole-text ps = lines-append (chosen_lines ps taken m.choice) (end bank.count ∷ [])

    pub all-puts : (held' : SinkState) (ps : List Plant) → StandsNew ps bank0 → Gains (lines_text (end bank.count ∷ [])) held held' → IfSome rest0 (λ r. GainsLines (AreRows ps (rows_owed head c0 (left0 ++ r))) held0 held')
    all-puts held' ps new put = told-some rest0 rest' (λ r r'. owed r ≡ behind taken no_rows) (λ r. GainsLines (AreRows ps (owed r)) held0 held')
        (λ r r' e. subst (λ rows. GainsLines (AreRows ps rows) held0 held') (sym e)
        (whole_lines ps, all-are ps new, appends_more held0.held held.held held'.held _ _ _ (m.puts ps new) put (whole-text ps))) all-is

    pub all-front : (held' : SinkState) (ps : List Plant) → StandsNew ps bank0 → GainsFront (lines_text (end bank.count ∷ [])) held held' → IfSome rest0 (λ r. GainsLinesFront (AreRows ps (rows_owed head c0 (left0 ++ r))) held0 held')
    all-front held' ps new put = told-some rest0 rest' (λ r r'. owed r ≡ behind taken no_rows) (λ r. GainsLinesFront (AreRows ps (owed r)) held0 held')
        (λ r r' e. subst (λ rows. GainsLinesFront (AreRows ps rows) held0 held') (sym e) (
          whole_lines ps,
          all-are ps new,
          subst (λ t. GainsFront t held0 held') (sym (whole-text ps)) (front-after held0.held held.held held'.held (lines_text (chosen_lines ps taken m.choice)) (lines_text (end bank.count ∷ [])) (m.puts ps new) put),
        )) all-is

-- before the first row nothing was put
pub nothing-yet : (head : Columns) (bank : Bank) (c : Cutter) (left : List ℕ) (rest : Option (List ℕ)) (held : SinkState) → bank.count ≡ 0 → Monitored head bank bank c c left left rest rest held held []
unfolding samples_lines lives_before
nothing-yet head bank c left rest held none = record {
  choice = λ _. [];
  stands = λ ps h. h;
  chosen = λ ps h k l. absurd (omega (arith, l));
  counts = none;
  puts = λ ps h. appends_none held.held;
  owes = told-same rest _ (λ r. refl);
}

-- ---- what an ending says and puts

pub put-cut : (f : PutFault) (e : RunFault) → e ≡ put_ending f → (rest : Option (List ℕ)) (held held' : SinkState) (are : List ℕ → List Line → Type 0) → IfSome rest (λ r. GainsLinesFront (are r) held held')
    → IfSome rest (λ r. PutsReport (are r) held (Err e) held')
put-cut f e is rest held held' are h = subst (λ e. IfSome rest (λ r. PutsReport (are r) held (Err e) held')) (sym is) (by f)
  where
    by : (f : PutFault) → IfSome rest (λ r. PutsReport (are r) held (Err (put_ending f)) held')
    by put.Failed = h
    by put.Memory = h

module _ (f : StreamFault) (e : RunFault) (is : e ≡ ending_of f) (rest : Option (List ℕ)) where
  pub telemetry-says : (rows : List ℕ → Rows) → ((fault : TelemFault) → f ≡ stream.Refused fault → IfSome rest (λ r. (rows r).refusal ≡ Some fault)) → IfSome rest (λ r. SaysOfRows (Err e) (rows r))
  telemetry-says rows refused = subst (λ e. IfSome rest (λ r. SaysOfRows (Err e) (rows r))) (sym is) (by f refl)
    where
      nothing : (rest : Option (List ℕ)) → IfSome rest (λ r. Unit {0})
      nothing None = tt
      nothing (Some r) = tt

      by : (g : StreamFault) → f ≡ g → IfSome rest (λ r. SaysOfRows (Err (ending_of g)) (rows r))
      by (stream.Refused fault) e = refused fault e
      by stream.Read e = nothing rest
      by stream.Memory e = nothing rest

  pub telemetry-puts : (held held' : SinkState) (are : List ℕ → List Line → Type 0) → ((fault : TelemFault) → f ≡ stream.Refused fault → IfSome rest (λ r. GainsLines (are r) held held'))
      → IfSome rest (λ r. GainsLinesFront (are r) held held') → IfSome rest (λ r. PutsReport (are r) held (Err e) held')
  telemetry-puts held held' are refused front = subst (λ e. IfSome rest (λ r. PutsReport (are r) held (Err e) held')) (sym is) (by f refl)
    where
      by : (g : StreamFault) → f ≡ g → IfSome rest (λ r. PutsReport (are r) held (Err (ending_of g)) held')
      by (stream.Refused fault) e = refused fault e
      by stream.Read e = front
      by stream.Memory e = front

module _ (rest : Option (List ℕ)) where
  pub last-says : (r : Result Done RunFault) (n : ℕ) (rows : List ℕ → Rows) → IfErr r IsPutEnding → IfOk r (λ (done : Done). done.samples ≡ n) → IfSome rest (λ q. ((rows q).refusal ≡ None) × (n ≡ length (rows q).samples))
      → IfSome rest (λ q. SaysOfRows r (rows q))
  last-says (Ok done) n rows ending is h = some rest h
    where
      some : (rest : Option (List ℕ)) → IfSome rest (λ q. ((rows q).refusal ≡ None) × (n ≡ length (rows q).samples)) → IfSome rest (λ q. SaysOfRows (Ok done) (rows q))
      some None h = tt
      some (Some q) h = (h.0, is ∙ h.1)
  last-says (Err (Model fault)) n rows ending is h = absurd ending
  last-says (Err (Telemetry fault)) n rows ending is h = absurd ending
  last-says (Err (Read slot)) n rows ending is h = absurd ending
  last-says (Err Write) n rows ending is h = nothing rest
    where
      nothing : (rest : Option (List ℕ)) → IfSome rest (λ r. Unit {0})
      nothing None = tt
      nothing (Some r) = tt
  last-says (Err Memory) n rows ending is h = nothing rest
    where
      nothing : (rest : Option (List ℕ)) → IfSome rest (λ r. Unit {0})
      nothing None = tt
      nothing (Some r) = tt

  pub last-puts : (r : Result Done RunFault) (held held' : SinkState) (are : List ℕ → List Line → Type 0) → IfErr r IsPutEnding → OnOk r (IfSome rest (λ q. GainsLines (are q) held held')) → OnErr r (IfSome rest (λ q. GainsLinesFront (are q) held held'))
      → IfSome rest (λ q. PutsReport (are q) held r held')
  last-puts (Ok done) held held' are ending all front = all
  last-puts (Err (Model fault)) held held' are ending all front = absurd ending
  last-puts (Err (Telemetry fault)) held held' are ending all front = absurd ending
  last-puts (Err (Read slot)) held held' are ending all front = absurd ending
  last-puts (Err Write) held held' are ending all front = front
  last-puts (Err Memory) held held' are ending all front = front

-- What was replayed covers a justified report of the first samples, whichever choice it was replayed with.
use Rattle.std.proofs.Common.{◌≡◌, ℕ, ◌<◌, false, List, [], ◌++◌, length, refl, ap, ◌∙◌, arith, subst, append_assoc, append-nil, length-append}
use Rattle.std.proofs.lemmas.Grind.{flat_map-append}
use Rattle.plant_model.specs.Plant.{Plant, Sample}
use Rattle.observer_step.specs.Answers.{any_justified}
use Rattle.observer_step.specs.SetsAnswers.{sets_observer}
use Rattle.report_text.specs.Line.{Line, put_text, lines_text}
use Rattle.report_rules.specs.Lines.{head_lines}
use Rattle.report_rules.specs.Report.{Watch, Choice, samples_lines, report}
use Rattle.report_rules.specs.Replay.{watch, lines_so_far, Replayed, CoversBefore}
use Rattle.report_rules.proofs.Longer.{allowed-first, lines-first}

module _ (names : List (List ℕ)) (ps : List Plant) (c : Choice) (bytes left : List ℕ) (first more : List Sample)
    (replayed : Replayed names ps (first ++ more) c bytes left) where
  -- the first samples, of a telemetry that may go on
  abbrev begun : Watch
  begun = watch names ps first false

  -- their report, which has no last line, begins the lines so far
  report-first : (others : List Line) × (lines_so_far names ps (first ++ more) c ≡ report sets_observer begun c ++ others)
  report-first =
      let head = head_lines names in
      let begin = lines-first ps first more c in (
        begin.0,
        ap (λ ls. head ++ ls) begin.1
            ∙ grouped head (samples_lines sets_observer ps first c (length first)) begin.0,
      )
    where
      grouped : (a b e : List Line) → a ++ (b ++ e) ≡ (a ++ b ++ []) ++ e
      grouped a b e = simp (append_assoc, append-nil)

  covers-first : (n : ℕ) → length (lines_so_far names ps (first ++ more) c) < n → CoversBefore begun n bytes
  covers-first n past =
      let lines = report sets_observer begun c in
      let others = report-first.0 in
      let text : bytes ≡ lines_text lines ++ (lines_text others ++ left) =
      replayed.text ∙ ap (λ ls. lines_text ls ++ left) report-first.1 ∙ ap (λ t. t ++ left) (flat_map-append put_text lines others)
      ∙ append_assoc (lines_text lines) (lines_text others) left in
      let many : length (lines_so_far names ps (first ++ more) c) ≡ length (lines ++ others) = ap length report-first.1 in (
        (lines, record { choice = c; allowed = allowed-first any_justified ps first more c replayed.allowed; is = refl }, lines_text others ++ left, text),
        omega (arith, past, many, length-append lines others),
      )

-- a line behind those of the samples taken is behind those of a justified report of the first of them
pub front-covers : (names : List (List ℕ)) (ps : List Plant) (taken : List Sample) (c : Choice) (bytes left : List ℕ) → Replayed names ps taken c bytes left
    → (first more : List Sample) → taken ≡ first ++ more → (n : ℕ) → length (lines_so_far names ps taken c) < n
    → CoversBefore (watch names ps first false) n bytes
front-covers names ps taken c bytes left replayed first more is n past =
    covers-first names ps c bytes left first more (subst (λ ss. Replayed names ps ss c bytes left) is replayed) n
    (subst (λ ss. length (lines_so_far names ps ss c) < n) is past)

-- Two justified reports agree as far as their texts do.
use Rattle.std.proofs.Common.{◌≡◌, ◌⊎◌, inl, inr, ℕ, List, [], ◌∷◌, ◌++◌, length, take, refl, sym, ap, ◌∙◌, arith, length-append}
use Rattle.std.proofs.lemmas.List.{append-nil, take_at}
use Rattle.observer_step.specs.Answers.{Observer, any_justified}
use Rattle.report_text.specs.Line.{Line, lines_text}
use Rattle.report_rules.specs.Lines.{head_lines, last_lines}
use Rattle.report_rules.specs.Report.{Watch, Choice, report, AllowedBefore}
use Rattle.report_rules.specs.Replay.{AreFew}
use Rattle.report_rules.proofs.Parting.{PartsAt, NoneTaken, AllAgree, parts-behind, parts-before, parted-no-front, parted-agree}
use Rattle.report_rules.proofs.Alike.{SamplesAlike, samples-alike}

-- ---- two justified reports

nothing-behind : (ls stuff : List Line) → ls ≡ ls ++ stuff → stuff ≡ []
nothing-behind ls [] e = refl
nothing-behind ls (l ∷ stuff) e = absurd (omega (arith, ap length e, length-append ls (l ∷ stuff)))

module _ (o : Observer) (w : Watch) (few : AreFew w.plants) (c c' : Choice) (allowed : AllowedBefore any_justified o w c (length w.samples))
    (allowed' : AllowedBefore any_justified o w c' (length w.samples)) where
  abbrev ReportsAlike : Type 0
  ReportsAlike = (report o w c ≡ report o w c') ⊎ PartsAt NoneTaken (report o w c) (report o w c')

  reports-alike : ReportsAlike
  reports-alike = by (samples-alike o w.plants w.samples few c c' (length w.samples) allowed allowed')
    where
      by : SamplesAlike o w.plants w.samples few c c' (length w.samples) → ReportsAlike
      by (inl same) = inl (ap (λ ls. head_lines w.names ++ ls ++ last_lines (length w.samples) w.is_whole) same.0)
      by (inr parts) =
          inr (parts-before (last_lines (length w.samples) w.is_whole) (last_lines (length w.samples) w.is_whole)
          (parts-behind (head_lines w.names) (λ ts t. absurd t) parts))

  -- they agree as far as their texts do
  pub reports-agree : AllAgree (report o w c) (report o w c')
  reports-agree = by reports-alike
    where
      by : ReportsAlike → AllAgree (report o w c) (report o w c')
      by (inl same) = λ n r r' e. ap (take n) same
      by (inr parts) = parted-agree parts

  -- as many lines in front, which begin one text, are the same
  pub fronts-agree : (a x a' x' : List Line) (r r' : List ℕ) → report o w c ≡ a ++ x → report o w c' ≡ a' ++ x' → length a' ≡ length a
      → lines_text a ++ r ≡ lines_text a' ++ r' → a ≡ a'
  fronts-agree a x a' x' r r' is is' same e =
      let first : take (length a) (report o w c) ≡ a = ap (take (length a)) is ∙ take_at a x (length a) refl in
      let second : take (length a) (report o w c') ≡ a' = ap (take (length a)) is' ∙ take_at a' x' (length a) same in
      sym first ∙ reports-agree (length a) r r' (ap (λ ls. lines_text ls ++ r) first ∙ e ∙ ap (λ ls. lines_text ls ++ r') (sym second)) ∙ second

  -- the one does not go on where the other ends
  pub reports-end : (stuff : List Line) → report o w c' ≡ report o w c ++ stuff → stuff ≡ []
  reports-end stuff e = by reports-alike
    where
      by : ReportsAlike → stuff ≡ []
      by (inl same) = nothing-behind (report o w c) stuff (same ∙ e)
      by (inr parts) = absurd (parted-no-front parts [] stuff (append-nil (report o w c') ∙ e))

-- Which certificates `run` may choose.
use Rattle.std.proofs.Common.{◌≡◌, ℕ, ◌==◌, List, ℤ, Bool, true, not, ◌&&◌, is_none, Option, None, Some, refl, ap, sym, ◌∙◌, arith, if◌then◌else◌}
use Rattle.std.specs.Cmp.Rules.{signed_items}
use Rattle.std.proofs.lemmas.Bool.Decides.{nat_tests}
use Rattle.farkas_check.specs.Certificate.{Certificate, by_out, by_rows}
use Rattle.farkas_check.specs.Multipliers.{are_multipliers}
use Rattle.observer_step.specs.Answers.{is_chosen, is_justified, certificate_by}
use Rattle.observer_step.specs.Offers.{offers_output}
use Rattle.observer_step.specs.SetsAnswers.{if_multipliers}

same-output : (o : ℕ) → (o == o) ≡ true
same-output o = grind (arith, nat_tests)

module _ (refutes : List ℤ → Bool) where
  -- the due one, or else that of the first candidate, is one
  pub chosen : (output : Option ℕ) (first : Option (List ℤ)) → is_chosen output refutes first (certificate_by output first) ≡ true
  chosen (Some o) first = same-output o
  chosen None None = refl
  chosen None (Some list) = (signed_items list list).1 refl

  -- it is justified, where candidates refute
  pub chosen-justified : (output : Option ℕ) (first : Option (List ℤ)) (c : Option Certificate)
      → ((list : List ℤ) → first ≡ Some list → refutes list && are_multipliers list ≡ true)
      → is_chosen output refutes first c ≡ true → is_justified output refutes c ≡ true
  chosen-justified (Some o) first c good is = is
  chosen-justified None None c good is = is
  chosen-justified None (Some l) None good is = absurd cc
  chosen-justified None (Some l) (Some (by_out p)) good is = absurd cc
  chosen-justified None (Some l) (Some (by_rows ls)) good is = ap (λ l. refutes l && are_multipliers l) ((signed_items ls l).0 is) ∙ good l refl

  -- the readings are taken unless it is an output
  pub taken-chosen : (output : Option ℕ) (first : Option (List ℤ)) (c : Option Certificate) → is_chosen output refutes first c ≡ true
      → is_none output ≡ not (offers_output c)
  taken-chosen (Some o) first None is = absurd cc
  taken-chosen (Some o) first (Some (by_out p)) is = refl
  taken-chosen (Some o) first (Some (by_rows ls)) is = absurd cc
  taken-chosen None first None is = refl
  taken-chosen None None (Some (by_out p)) is = absurd cc
  taken-chosen None (Some l) (Some (by_out p)) is = absurd cc
  taken-chosen None first (Some (by_rows ls)) is = refl

  -- the list of a candidate may be chosen
  pub candidate-chosen : (first : Option (List ℤ)) (list : List ℤ) → Some list ≡ first → are_multipliers list ≡ true
      → is_chosen None refutes (if_multipliers first) (Some (by_rows list)) ≡ true
  candidate-chosen first list is good =
      let kept : if_multipliers first ≡ Some list = ap if_multipliers (sym is) ∙ ap (λ b. if b then Some list else None) good in
      ap (λ f. is_chosen None refutes f (Some (by_rows list))) kept ∙ (signed_items list list).1 refl

  -- where there is no candidate, all that is justified may be
  pub proposed-chosen : (first : Option (List ℤ)) (c : Option Certificate) → None ≡ first → is_justified None refutes c ≡ true
      → is_chosen None refutes (if_multipliers first) c ≡ true
  proposed-chosen first c is justified = ap (λ f. is_chosen None refutes (if_multipliers f) c) (sym is) ∙ justified

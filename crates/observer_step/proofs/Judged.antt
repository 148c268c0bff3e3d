-- What a sample says of a model, and what it leaves of its sets.
use Rattle.std.proofs.Common.{◌≡◌, ℕ, zero, suc, ◌+◌, ◌-◌, ◌<◌, List, [], ◌∷◌, ◌++◌, length, get_or, Bool, true, not, ◌&&◌, is_none, Option, Some, None, ℤ, pos, refl, sym, ap, ◌∙◌, arith}
use Rattle.std.proofs.lemmas.List.{get_or_push, length_push}
use Rattle.set_rules.specs.Tests.{first_below, last_passing, or_else}
use Rattle.set_rules.specs.Zono.{Zono}
use Rattle.set_rules.proofs.ImageSets.{length-tabulate, get_or-tabulate}
use Rattle.farkas_check.specs.Certificate.{Certificate, by_out, by_rows}
use Rattle.fixed_mat.specs.declared.reading.Reading.{Reading}
use Rattle.fixed_mat.specs.declared.reading.Reading.TheVariants.{Missing}
use Rattle.plant_model.specs.Plant.{Plant, Sample, no_sample, sample_at, known, reading_at}
use Rattle.observer_step.specs.Predicted.{out_of, predicted_outs, reading_misses, due}
use Rattle.observer_step.specs.Answers.{due_at, Rule, is_chosen, is_justified, any_justified, as_run_chooses, is_allowed, allows_at}
use Rattle.observer_step.specs.Offers.{offers_output}
use Rattle.observer_step.specs.Sets.{Sets, correct_sets, correct_sets_if, predicted_sets, corrected_sets, SetsReady, SetsCorrected}
use Rattle.observer_step.specs.SetsAnswers.{sets_observer, refutes_kept, candidate_of, is_allowed_of_sets, is_justified_of_sets, sets_offered, Judges}
use Rattle.observer_step.proofs.Chosen.{taken-chosen}
use Rattle.observer_step.proofs.Offered.{taken-justified}
use Rattle.observer_step.proofs.SetsHold.{later-sets}

-- the least number that passes depends on the tests below the bound alone
first_below-same : (n : ℕ) (f g : ℕ → Bool) → ((i : ℕ) → i < n → f i ≡ g i) → first_below n f ≡ first_below n g
unfolding first_below
first_below-same zero f g same = refl
first_below-same (suc n) f g same = λ i. or_else (first_below-same n f g (λ j l. same j (omega arith)) i) (last_passing n (same n (omega arith) i))

-- there is an interval for each output
pub length-outs : (p : Plant) (u : List ℤ) (z : Zono) (outs : List (ℤ × ℤ)) → outs ≡ predicted_outs p u z → length outs ≡ p.outputs
length-outs p u z outs is = ap length is ∙ length-tabulate p.outputs (out_of p u z)

-- the least interval that is missed is that of the due certificate
due-found : (p : Plant) (s : Sample) (z : Zono) (outs : List (ℤ × ℤ)) → outs ≡ predicted_outs p s.inputs z
    → first_below (length outs) (λ o. reading_misses (get_or outs o (pos 0, pos 0)) (reading_at s o)) ≡ due p s z
unfolding due
due-found p s z outs is =
    ap (λ n. first_below n (λ o. reading_misses (get_or outs o (pos 0, pos 0)) (reading_at s o))) (length-outs p s.inputs z outs is)
    ∙ first_below-same p.outputs (λ o. reading_misses (get_or outs o (pos 0, pos 0)) (reading_at s o)) (λ o. reading_misses (out_of p s.inputs z o) (reading_at s o))
    (λ o l. ap (λ ends. reading_misses ends (reading_at s o)) (ap (λ xs. get_or xs o (pos 0, pos 0)) is ∙ get_or-tabulate p.outputs (out_of p s.inputs z) o (pos 0, pos 0) l))

pub missed-is_due : (p : Plant) (s : Sample) (z : Zono) (outs : List (ℤ × ℤ)) (readings : List Reading) (found : Option ℕ) → outs ≡ predicted_outs p s.inputs z → readings ≡ s.readings
    → found ≡ first_below (length outs) (λ o. reading_misses (get_or outs o (pos 0, pos 0)) (known (get_or readings o Missing))) → found ≡ due p s z
missed-is_due p s z outs readings found is read found_is =
    found_is ∙ (λ i. first_below (length outs) (λ o. reading_misses (get_or outs o (pos 0, pos 0)) (known (get_or (read i) o Missing)))) ∙ due-found p s z outs is

module _ (p : Plant) (s : Sample) (e : Sets) (samples : List Sample) (ready : SetsReady p samples e) where
  abbrev all : List Sample
  all = samples ++ s ∷ []

  here : sample_at all (length samples) ≡ s
  here = get_or_push samples s no_sample (length samples) refl

  sets : e ≡ predicted_sets p all (length samples)
  sets = ready ∙ sym (later-sets p samples (s ∷ []) (length samples) (omega arith))

  due-here : due p s e.plain ≡ due_at sets_observer p all (length samples)
  due-here = λ i. due p (sym here i) (sets i).plain

  corrected-same : correct_sets p s e ≡ corrected_sets p all (length samples)
  corrected-same = λ i. correct_sets p (sym here i) (sets i)

  allowed-here : (rule : Rule) (c : Option Certificate) → is_allowed_of_sets rule p s e c ≡ allows_at rule sets_observer p all (length samples) c
  allowed-here rule c = λ i. is_allowed rule (due-here i) (refutes_kept (corrected-same i).constrained) (candidate_of (corrected-same i).constrained) c

  corrected-here : (e' : Sets) → e' ≡ correct_sets p s e → SetsCorrected p all e'
  corrected-here e' is =
      let long : length all ≡ length samples + 1 = length_push samples s in
      let last : length samples ≡ length all - 1 = omega arith in
      record {
        some = omega arith;
        is = is ∙ corrected-same ∙ ap (corrected_sets p all) last;
      }

-- what may be chosen by the rows that are kept after it, where the sets take the readings unless an output is due
pub chosen-then : (p : Plant) (s : Sample) (e e' : Sets) (c : Option Certificate) (d : Option ℕ) → d ≡ due p s e.plain → e' ≡ correct_sets_if (true && is_none d) p s e
    → is_chosen d (refutes_kept e'.constrained) (candidate_of e'.constrained) c ≡ true → is_allowed_of_sets as_run_chooses p s e c ≡ true
chosen-then p s e e' c d due_is sets chosen =
    let z = (correct_sets p s e).constrained in
    ap (λ d. is_chosen d (refutes_kept z) (candidate_of z) c) (sym due_is) ∙ by d c sets chosen
  where
    by : (d : Option ℕ) (c : Option Certificate) → e' ≡ correct_sets_if (true && is_none d) p s e → is_chosen d (refutes_kept e'.constrained) (candidate_of e'.constrained) c ≡ true
        → is_chosen d (refutes_kept (correct_sets p s e).constrained) (candidate_of (correct_sets p s e).constrained) c ≡ true
    by (Some o) None sets h = absurd cc
    by (Some o) (Some (by_out q)) sets h = h
    by (Some o) (Some (by_rows ls)) sets h = absurd cc
    by None c sets h = ap (λ (x : Sets). is_chosen None (refutes_kept x.constrained) (candidate_of x.constrained) c) (sym sets) ∙ h

-- what holds of sets that are ready holds of the telemetry
judges : (rule : Rule) (p : Plant) (s : Sample) (e e' : Sets) (cert : Option Certificate) → is_allowed_of_sets rule p s e cert ≡ true
    → (cert ≡ None → e' ≡ correct_sets p s e) → Judges rule p s e e' cert
judges rule p s e e' cert allowed fits samples ready =
    (sym (allowed-here p s e samples ready rule cert) ∙ allowed, λ none. corrected-here p s e samples ready e' (fits none))

pub chosen-judges : (p : Plant) (s : Sample) (e e' : Sets) (cert : Option Certificate) → is_allowed_of_sets as_run_chooses p s e cert ≡ true
    → e' ≡ correct_sets_if (is_none (due p s e.plain)) p s e → Judges as_run_chooses p s e e' cert
chosen-judges p s e e' cert chosen sets =
    let z = (correct_sets p s e).constrained in
    let taken = taken-chosen (refutes_kept z) (due p s e.plain) (candidate_of z) cert chosen in
    judges as_run_chooses p s e e' cert chosen (λ none. sets ∙ ap (λ b. correct_sets_if b p s e) (taken ∙ ap (λ c. not (offers_output c)) none))

-- what is justified by the rows that are kept after it
pub justified-then : (p : Plant) (s : Sample) (e e' : Sets) (offered : Option Certificate) (d : Option ℕ) → d ≡ due p s e.plain → e' ≡ sets_offered p s e offered
    → is_justified d (refutes_kept e'.constrained) offered ≡ true → is_justified_of_sets p s e offered ≡ true
justified-then p s e e' offered d due_is sets justified =
    let here : is_justified (due p s e.plain) (refutes_kept e'.constrained) offered ≡ true = ap (λ d. is_justified d (refutes_kept e'.constrained) offered) (sym due_is) ∙ justified in
    by (due p s e.plain) offered sets here
  where
    by : (d : Option ℕ) (c : Option Certificate) → e' ≡ correct_sets_if (not (offers_output c) && is_none d) p s e
        → is_justified d (refutes_kept e'.constrained) c ≡ true → is_justified d (refutes_kept (correct_sets p s e).constrained) c ≡ true
    by (Some o) None sets h = absurd cc
    by (Some o) (Some (by_out q)) sets h = h
    by (Some o) (Some (by_rows ls)) sets h = absurd cc
    by None None sets h = refl
    by None (Some (by_out q)) sets h = absurd cc
    by None (Some (by_rows ls)) sets h = ap (λ (x : Sets). is_justified None (refutes_kept x.constrained) (Some (by_rows ls))) (sym sets) ∙ h

pub justifies : (p : Plant) (s : Sample) (e e' : Sets) (cert offered : Option Certificate) → cert ≡ offered
    → is_justified_of_sets p s e offered ≡ true → e' ≡ sets_offered p s e offered → Judges any_justified p s e e' cert
justifies p s e e' cert offered is justified sets =
    let taken = taken-justified (due p s e.plain) (refutes_kept (correct_sets p s e).constrained) offered justified in
    judges any_justified p s e e' cert (ap (is_justified_of_sets p s e) is ∙ justified)
    (λ none. sets ∙ ap (λ b. correct_sets_if b p s e) (taken ∙ ap (λ c. not (offers_output c)) (sym is ∙ none)))

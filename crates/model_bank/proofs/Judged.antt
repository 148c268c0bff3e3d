-- What the code makes of one model, from the clauses of its parts.
use Rattle.std.proofs.Common.{◌≡◌, ℕ, ◌≤◌, ◌^◌, ℤ, nat_le, unsigned_abs, arith, List, [], ◌∷◌, ◌++◌, Option, None, Some, is_none, option_map, Result, Ok, Err, IfOk, IfErr, if◌then◌else◌, Bool, true, false, not, ◌&&◌, ◌||◌, refl, sym, ap, ◌∙◌, subst}
use Rattle.std.specs.List.{list_all}
use Rattle.std.proofs.lemmas.Bool.Decides.{nat_tests}
use Rattle.farkas_check.specs.Certificate.{Certificate, certificate_of}
use Rattle.farkas_check.specs.declared.certificate.Cert.{Cert}
use Rattle.plant_model.specs.Plant.{Plant, Sample}
use Rattle.observer_step.specs.Predicted.{predicted_outs, hulls, due}
use Rattle.observer_step.specs.Offers.{offers_output, outs_in, answer_in}
use Rattle.observer_step.specs.Sets.{Sets, correct_sets, correct_sets_if}
use Rattle.observer_step.specs.Answers.{as_run_chooses}
use Rattle.observer_step.specs.SetsAnswers.{refutes_kept, candidate_of, is_allowed_of_sets, is_justified_of_sets, sets_offered, SetsAnswer}
use Rattle.observer_step.specs.Seen.{is_printable_interval}
use Rattle.observer_step.specs.declared.outcome.Judgement.{Judgement}
use Rattle.observer_step.specs.declared.outcome.Unjustified.{Unjustified}
use Rattle.observer_step.proofs.Chosen.{taken-chosen}
use Rattle.observer_step.proofs.Offered.{taken-justified}
use Rattle.model_bank.specs.Answers.{ModelAnswer}
use Rattle.model_bank.specs.Bank.{Member}
use Rattle.model_bank.specs.Steps.{widens, answer_on, answer_of, sets_on, ahead_of, allowed_of, told_of, judged_on, member_after}
use Rattle.model_bank.specs.Claims.{claimed, rule_of, SetsTake, SetsRefuse, MemberTakes, MemberRefuses}
use Rattle.model_bank.specs.declared.claim.Claim.{Claim}
use Rattle.model_bank.specs.declared.claim.Claim.TheVariants.{Own, Offered}

pub list_all-push : {A : Type 0} (test : A → Bool) (xs : List A) (x : A) → list_all test xs ≡ true → test x ≡ true → list_all test (xs ++ x ∷ []) ≡ true
list_all-push test [] x h k = ap (λ b. b && true) k
list_all-push test (y ∷ ys) x h k = by (test y) (λ h. list_all-push test ys x h k) h
  where
    by : (b : Bool) → (list_all test ys ≡ true → list_all test (ys ++ x ∷ []) ≡ true) → b && list_all test ys ≡ true → b && list_all test (ys ++ x ∷ []) ≡ true
    by true more h = more h
    by false more h = h

-- a number within 10 ^ 18 is within 10 ^ 24
within : (n : ℕ) → n ≤ 1_000_000_000_000_000_000 → nat_le n (10 ^ 24) ≡ true
within n h = grind (arith, nat_tests)

pub printable-hull : (ends : ℤ × ℤ) → unsigned_abs ends.0 ≤ 1_000_000_000_000_000_000 → unsigned_abs ends.1 ≤ 1_000_000_000_000_000_000 → is_printable_interval ends ≡ true
printable-hull ends low high = ap (λ b. b && nat_le (unsigned_abs ends.1) (10 ^ 24)) (within (unsigned_abs ends.0) low) ∙ within (unsigned_abs ends.1) high

-- the answer of these parts
abbrev pub model_answer : ℕ → List (ℤ × ℤ) → Bool → Option Certificate → List (ℤ × ℤ) → ModelAnswer
model_answer index outs is_widened certificate hs = record { index = index; answer = record { predicted = outs; is_widened = is_widened; certificate = certificate; hulls = hs } }

-- the sets after a sample that is judged by the model's own choice
pub sets-chosen : (p : Plant) (s : Sample) (e after : Sets) (c : Option Certificate) → is_allowed_of_sets as_run_chooses p s e c ≡ true → after ≡ correct_sets_if (is_none (due p s e.plain)) p s e → after ≡ sets_on p s e c
unfolding sets_on
sets-chosen p s e after c chosen sets =
    let z = (correct_sets p s e).constrained in
    sets ∙ ap (λ b. correct_sets_if b p s e) (taken-chosen (refutes_kept z) (due p s e.plain) (candidate_of z) c chosen)

-- the sets after a sample that is judged by an offer
pub sets-justified : (p : Plant) (s : Sample) (e after : Sets) (c : Option Certificate) → is_justified_of_sets p s e c ≡ true → after ≡ sets_offered p s e c → after ≡ sets_on p s e c
unfolding sets_on
sets-justified p s e after c justified sets =
    sets ∙ ap (λ b. correct_sets_if b p s e) (taken-justified (due p s e.plain) (refutes_kept (correct_sets p s e).constrained) c justified)

-- the answer to an offer
pub offer-taken : (p : Plant) (s : Sample) (e after : Sets) (offered : Option Cert) (r : Result Judgement Unjustified) → outs_in r ≡ predicted_outs p s.inputs e.plain → SetsAnswer p s e offered (answer_in r)
    → after ≡ sets_offered p s e (option_map certificate_of offered) → IfOk r (SetsTake p s e after (Offered offered))
offer-taken p s e after offered (Ok j) outs answer sets = record {
  outs_are = outs;
  is_claimed = answer.is;
  allowed = ap (is_justified_of_sets p s e) answer.is ∙ answer.justified;
  sets_are = sets-justified p s e after (option_map certificate_of offered) answer.justified sets ∙ ap (sets_on p s e) (sym answer.is);
}
offer-taken p s e after offered (Err why) outs answer sets = tt

pub offer-refused : (p : Plant) (s : Sample) (e : Sets) (offered : Option Cert) (r : Result Judgement Unjustified) → outs_in r ≡ predicted_outs p s.inputs e.plain → SetsAnswer p s e offered (answer_in r)
    → IfErr r (SetsRefuse p s e (Offered offered))
offer-refused p s e offered (Ok j) outs answer = tt
offer-refused p s e offered (Err why) outs answer = record {
  claim_is = ap Offered (sym answer.offered_is);
  not_justified = ap (λ o. is_justified_of_sets p s e (option_map certificate_of o)) answer.offered_is ∙ answer.not_justified;
  due_is = answer.due_is;
  outs_are = outs;
}

module _ (p : Plant) (s : Sample) (e after : Sets) (c : Option Certificate) (sets : after ≡ sets_on p s e c) where
  -- the sets of a model that fits
  fitted : is_none c ≡ true → after ≡ correct_sets p s e
  unfolding sets_on
  fitted none = sets ∙ by c none
    where
      by : (c : Option Certificate) → is_none c ≡ true → correct_sets_if (not (offers_output c)) p s e ≡ correct_sets p s e
      by None none = refl
      by (Some d) none = absurd cc

  -- the hulls of a model that fits, and of one that does not
  pub hulls-judged : (hs : List (ℤ × ℤ)) → is_none c ≡ true → hs ≡ hulls p after.plain → hs ≡ (if is_none c then hulls p (correct_sets p s e).plain else [])
  hulls-judged hs none is = is ∙ ap (λ (x : Sets). hulls p x.plain) (fitted none) ∙ sym (ap (λ b. if b then hulls p (correct_sets p s e).plain else []) none)

  pub no_hulls-judged : (hs : List (ℤ × ℤ)) → is_none c ≡ false → hs ≡ [] → hs ≡ (if is_none c then hulls p (correct_sets p s e).plain else [])
  no_hulls-judged hs some is = is ∙ ap (λ b. if b then hulls p (correct_sets p s e).plain else []) (sym some)

  -- the answer
  pub answer-judged : (index : ℕ) (is_widened : Bool) (outs hs : List (ℤ × ℤ)) → outs ≡ predicted_outs p s.inputs e.plain → hs ≡ (if is_none c then hulls p (correct_sets p s e).plain else [])
      → model_answer index outs is_widened c hs ≡ record { index = index; answer = answer_on p s e is_widened c }
  unfolding answer_on
  answer-judged index is_widened outs hs outs_are hulls_are = λ i. model_answer index (outs_are i) is_widened c (hulls_are i)

-- the member of these parts
abbrev pub member_with : Plant → Sets → Bool → Member
member_with p e b = record { plant = p; estimate = e; live = b }

-- a live member of which p is the plant and z the predicted sets
module _ (is_first : Bool) (u : List ℤ) (s : Sample) (m : Member) (live : m.live ≡ true) (p : Plant) (same : p ≡ m.plant) (z : Sets) (ahead : z ≡ ahead_of is_first u m) (claim : Claim) where
  module _ (c : Option Certificate) where
    pub allowed-taken : is_allowed_of_sets (rule_of claim) p s z c ≡ true → (not m.live || allowed_of (rule_of claim) is_first u s m c) ≡ true
    allowed-taken is =
        ap (λ b. not b || allowed_of (rule_of claim) is_first u s m c) live
        ∙ sym (λ i. is_allowed_of_sets (rule_of claim) (same i) s (ahead i) c) ∙ is

    pub answer-taken : (index : ℕ) (w : Bool) (model : ModelAnswer) → w ≡ widens is_first u m.plant m.estimate → model ≡ record { index = index; answer = answer_on p s z w c }
        → Some model ≡ told_of is_first u s index m c
    answer-taken index w model e is =
        ap Some (is ∙ (λ i. record { index = index; answer = answer_on (same i) s (ahead i) (e i) c }))
        ∙ sym (ap (λ b. if b then Some (record { index = index; answer = answer_of is_first u s m c }) else None) live)

    pub member-taken : (after : Sets) (b : Bool) → after ≡ sets_on p s z c → b ≡ is_none c → member_with p after b ≡ member_after is_first u s m c
    member-taken after b e f =
        (λ i. member_with p (e i) (f i))
        ∙ (λ i. judged_on (same i) s (ahead i) c)
        ∙ sym (ap (λ b. if b then judged_on m.plant s (ahead_of is_first u m) c else m) live)

  pub member-refuses : (e : Unjustified) → SetsRefuse p s z claim e → MemberRefuses is_first u s m claim e
  member-refuses e refuses = record { live = live; refuses = subst (λ (a : Plant × Sets). SetsRefuse a.0 s a.1 claim e) (λ i. (same i, ahead i)) refuses }

-- whether the model fits stands in its answer
pub certificate-in : (p : Plant) (s : Sample) (z : Sets) (index : ℕ) (w : Bool) (c : Option Certificate) (model : ModelAnswer) → model ≡ record { index = index; answer = answer_on p s z w c } → is_none model.answer.certificate ≡ is_none c
unfolding answer_on
certificate-in p s z index w c model is = ap (λ (a : ModelAnswer). is_none a.answer.certificate) is

-- a model that is not live
module _ (is_first : Bool) (u : List ℤ) (s : Sample) (m : Member) (dead : m.live ≡ false) where
  claimed-twice : (claim : Claim) → claimed claim None ≡ claimed claim (claimed claim None)
  claimed-twice Own = refl
  claimed-twice (Offered offered) = refl

  pub dead-takes : (index : ℕ) (claim : Claim) (after : Member) → after ≡ m → MemberTakes is_first u s index m after claim None
  dead-takes index claim after stays =
      let c = claimed claim None in
      record {
        certificate = c;
        is_claimed = claimed-twice claim;
        allowed = ap (λ b. not b || allowed_of (rule_of claim) is_first u s m c) dead;
        told_is = sym (ap (λ b. if b then Some (record { index = index; answer = answer_of is_first u s m c }) else None) dead);
        new_is = stays ∙ sym (ap (λ b. if b then judged_on m.plant s (ahead_of is_first u m) c else m) dead);
      }

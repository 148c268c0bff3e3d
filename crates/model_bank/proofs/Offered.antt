-- What a bank makes of a sample is what the definitions say of it, where certificates are offered and where none are.
use Rattle.std.proofs.Common.{List, [], ◌∷◌, ◌++◌, map, Bool, Option, None, Some, Result, Ok, Err, IsOk, OnOk, sym, ap, ◌∙◌, subst}
use Rattle.std.specs.List.{All}
use Rattle.std.specs.Borrow.{Bor}
use Rattle.std.proofs.lemmas.List.{length-map, map-append}
use Rattle.std.proofs.lemmas.List.Elements.{All-nil, All-cons, All-head, All-tail, All-same}
use Rattle.farkas_check.specs.Certificate.{Certificate}
use Rattle.farkas_check.specs.declared.certificate.Cert.{Cert}
use Rattle.observer_step.specs.Answers.{any_justified}
use Rattle.plant_model.specs.Plant.{Plant, Sample}
use Rattle.model_bank.specs.Answers.{SampleAnswer, live_after}
use Rattle.model_bank.specs.Bank.{Member, Bank, MemberStands, BankStands}
use Rattle.model_bank.specs.Seen.{offers_seen}
use Rattle.model_bank.specs.Stepping.{TakesAny, TakesChosen, TakesAnyOffers, Refusal, RefusesOffer}
use Rattle.model_bank.specs.Offers.{rule_for, all_claimed, BankTakes, BankRefuses}
use Rattle.model_bank.proofs.MemberStep.{allowed-here, due-here, predicted-here}
use Rattle.model_bank.proofs.BankStep.{knows, answers-are, allowed-are, allowed-long, bank-answers, bank-allows, bank-stands}

pub when-ok : {T E P : Type 0} (r : Result T E) → IsOk r → OnOk r P → P
when-ok (Ok x) ok h = h
when-ok (Err e) ok h = absurd cc

module _ {A : Type 0} (P : A → Type 0) where
  All-left : (xs ys : List A) → All P (xs ++ ys) → All P xs
  All-left [] ys h = All-nil P
  All-left (x ∷ xs) ys h = All-cons P x xs (All-head P x (xs ++ ys) h) (All-left xs ys (All-tail P x (xs ++ ys) h))

  All-right : (xs ys : List A) → All P (xs ++ ys) → All P ys
  All-right [] ys h = h
  All-right (x ∷ xs) ys h = All-right xs ys (All-tail P x (xs ++ ys) h)

module _ (s : Sample) (offered : Option (Bor (List (Option Cert)))) (b : Bank) (seen : SampleAnswer) (new : Bank) (takes : BankTakes s offered b seen new) where
  -- what is claimed is what is said, and what the bank stands for
  claims-taken : TakesAny (rule_for offered) s takes.certificates b seen new
  claims-taken plants samples lives stands =
      let cs = takes.certificates in
      record {
        allowed = sym (bank-allows plants samples lives s b stands cs (rule_for offered)) ∙ takes.allowed;
        answer = takes.seen_is ∙ bank-answers plants samples lives s b stands cs;
        stands = subst (BankStands plants (samples ++ s ∷ []) (live_after lives cs)) (sym takes.new_is)
            (bank-stands plants samples lives s b stands cs (allowed-long (rule_for offered) _ _ s b.members cs takes.allowed));
      }

pub own-taken : (s : Sample) (b : Bank) (seen : SampleAnswer) (new : Bank) → BankTakes s None b seen new → TakesChosen s b seen new
own-taken s b seen new takes = (takes.certificates, claims-taken s None b seen new takes)

pub offers-taken : (s : Sample) (offers : Bor (List (Option Cert))) (b : Bank) (seen : SampleAnswer) (new : Bank) → BankTakes s (Some offers) b seen new
    → TakesAnyOffers s (offers_seen offers.now) b seen new
offers-taken s offers b seen new takes = subst (λ cs. TakesAny any_justified s cs b seen new) takes.are_claimed (claims-taken s (Some offers) b seen new takes)

-- the first model that refuses its offer
module _ (s : Sample) (offered : Option (Bor (List (Option Cert)))) (b : Bank) (refusal : Refusal) (refuses : BankRefuses s offered b refusal)
    (own : List (Option Certificate)) (plants : List Plant) (samples : List Sample) (lives : List Bool) (stands : BankStands plants samples lives b) where
  standing : All (MemberStands samples) (refuses.below ++ refuses.member ∷ refuses.above)
  standing = All-same (MemberStands samples) (refuses.below ++ refuses.member ∷ refuses.above) b.members (sym refuses.members_are) stands.members_stand

  stand_below : All (MemberStands samples) refuses.below
  stand_below = All-left (MemberStands samples) refuses.below (refuses.member ∷ refuses.above) standing

  stands_here : MemberStands samples refuses.member
  stands_here = All-head (MemberStands samples) refuses.member refuses.above (All-right (MemberStands samples) refuses.below (refuses.member ∷ refuses.above) standing)

  pub claims-refused : RefusesOffer s (all_claimed offered own) plants samples lives refusal
  claims-refused =
      let ready = knows plants samples lives s b stands in
      let plant_of : Member → Plant = λ m. m.plant in
      let live_of : Member → Bool = λ m. m.live in
      record {
        plants_below = map plant_of refuses.below;
        lives_below = map live_of refuses.below;
        offers_below = refuses.claims_below;
        plant = refuses.member.plant;
        plants_above = map plant_of refuses.above;
        lives_above = map live_of refuses.above;
        offers_above = refuses.claims_above;
        plants_are = sym stands.plants_are ∙ ap (map plant_of) refuses.members_are ∙ map-append plant_of refuses.below (refuses.member ∷ refuses.above);
        lives_are = sym stands.lives_are ∙ ap (map live_of) refuses.members_are ∙ map-append live_of refuses.below (refuses.member ∷ refuses.above)
            ∙ ap (λ l. map live_of refuses.below ++ l ∷ map live_of refuses.above) refuses.live;
        offers_are = refuses.claims_are own;
        model_is = refuses.model_is ∙ sym (length-map refuses.below plant_of);
        as_many_lives = length-map refuses.below live_of ∙ sym (length-map refuses.below plant_of);
        justified_below = sym (allowed-are samples s _ b.last_inputs ready any_justified refuses.below refuses.claims_below stand_below) ∙ refuses.justified_below;
        not_justified = sym (allowed-here samples s _ b.last_inputs ready refuses.member stands_here refuses.live any_justified refusal.offered) ∙ refuses.not_justified;
        due_is = refuses.due_is ∙ due-here samples s _ b.last_inputs ready refuses.member stands_here refuses.live;
        before_are = refuses.before_are ∙ answers-are samples s _ b.last_inputs ready 0 refuses.below refuses.claims_below stand_below;
        predicted_are = refuses.predicted_are ∙ predicted-here samples s _ b.last_inputs ready refuses.member stands_here refuses.live;
      }

-- A bank before the first sample.
use Rattle.std.proofs.Common.{◌≡◌, ℕ, ◌≤◌, ℤ, List, [], ◌∷◌, unsigned_abs, length, map, replicate, get_or, true, refl, sym, ap, ◌∙◌, arith, subst}
use Rattle.std.proofs.lemmas.List.{length-map}
use Rattle.std.proofs.lemmas.List.Elements.{All-nil, All-map, All-same}
use Rattle.set_rules.specs.Limits.{input_limit}
use Rattle.plant_model.specs.Plant.{Plant, AllWithinLimit}
use Rattle.model_file.specs.Bank.{Models, Named, IsModels}
use Rattle.model_bank.specs.Bank.{Member, Bank, HasPlantOf, IsBank, begun, MemberStands, BankStands, plants_in}

begun-stands : (p : Plant) → MemberStands [] (begun p)
begun-stands p live = refl

begun-lives : (ns : List Named) → map (λ (m : Member). m.live) (map (λ (n : Named). begun n.plant) ns) ≡ replicate (length (map (λ (n : Named). n.plant) ns)) true
begun-lives [] = refl
begun-lives (n ∷ ns) = ap (λ bs. true ∷ bs) (begun-lives ns)

begun-plants : (ns : List Named) → map (λ (m : Member). m.plant) (map (λ (n : Named). begun n.plant) ns) ≡ map (λ (n : Named). n.plant) ns
begun-plants [] = refl
begun-plants (n ∷ ns) = ap (λ ps. n.plant ∷ ps) (begun-plants ns)

module _ (models : Models) (limits : IsModels models) (inputs outputs : ℕ) (members : List Member) (last : List ℤ)
    (inputs-are : inputs ≡ length models.inputs) (outputs-are : outputs ≡ length models.outputs)
    (members-are : members ≡ map (λ (n : Named). begun n.plant) models.models) (none : last ≡ []) where
  abbrev bank : Bank
  bank = record { inputs = inputs; outputs = outputs; members = members; count = 0; last_inputs = last }

  pub long : length members ≡ length models.models
  long = ap length members-are ∙ length-map models.models (λ (n : Named). begun n.plant)

  pub limits-begun : IsBank bank
  limits-begun = record {
    few_inputs = omega (arith, limits.few_inputs);
    some_output = omega (arith, limits.some_output);
    few_outputs = omega (arith, limits.few_outputs);
    some_member = omega (arith, limits.some_model, long);
    few_members = omega (arith, limits.few_models, long);
    counts = All-same (HasPlantOf inputs outputs) members (map (λ (n : Named). begun n.plant) models.models) members-are
        (All-map (HasPlantOf inputs outputs) (λ (n : Named). begun n.plant) models.models (λ k d l. let is = limits.counts k d l in (is.0 ∙ sym inputs-are, is.1 ∙ sym outputs-are)));
    last_small = subst (AllWithinLimit input_limit) (sym none) (All-nil (λ v. unsigned_abs v ≤ input_limit));
    last_inputs = λ some. absurd (omega arith);
  }

  pub stands-begun : BankStands (plants_in models) [] (replicate (length (plants_in models)) true) bank
  stands-begun = record {
    plants_are = ap (map (λ (m : Member). m.plant)) members-are ∙ begun-plants models.models;
    lives_are = ap (map (λ (m : Member). m.live)) members-are ∙ begun-lives models.models;
    count_is = refl;
    inputs_are = none;
    members_stand = All-same (MemberStands []) members (map (λ (n : Named). begun n.plant) models.models) members-are
        (All-map (MemberStands []) (λ (n : Named). begun n.plant) models.models (λ k d l. begun-stands (get_or models.models k d).plant));
  }

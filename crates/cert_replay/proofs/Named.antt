-- The names of the models of a file have the form of a model's name.
use Rattle.std.proofs.Common.{◌≡◌, ℕ, suc, zero, ◌+◌, Bool, true, false, not, ◌&&◌, List, [], ◌∷◌, ◌++◌, length, map, None, Ok, Err, if◌then◌else◌, arith, subst, nat_lt}
use Rattle.std.specs.List.{list_any}
use Rattle.std.specs.Prelude.{bytes_eq}
use Rattle.toml.specs.Data.{Data, as_str}
use Rattle.dec_text.specs.Steps.{◌>>=◌, passing}
use Rattle.model_file.specs.Bank.{Models, Named}
use Rattle.model_file.specs.Places.{of_model}
use Rattle.model_file.specs.Reads.{value_at, of_kind}
use Rattle.model_file.specs.declared.place.Field.{Field}
use Rattle.model_file.specs.declared.place.Count.{Count}
use Rattle.model_file.specs.declared.fault.ModelFault.TheVariants as fault
use Rattle.model_file.specs.Models.{model_of, models_from, plant_in, count_of}
use Rattle.model_file.specs.ModelFile.{models_in, models_of, document_of, version_of, tables_of, most_bytes}
use Rattle.model_file.specs.Names.{name_of, new_name, inputs_of, outputs_of, is_model_name as form_of}
use Rattle.model_file.proofs.Bounded.{bind-ok, ok-value, passing-ok}
use Rattle.model_bank.specs.Bank.{names_in}
use Rattle.report_text.specs.Names.{is_model_name}
use Rattle.report_rules.proofs.Placed.{both}
use Rattle.cert_replay.specs.Ends.{AreNamed}

name-formed : (earlier : List (List ℕ)) (i : ℕ) (d : Data) (name : List ℕ) → name_of earlier i d ≡ Ok name → is_model_name name ≡ true
unfolding name_of
name-formed earlier i d name e =
    let path = of_model i Field.Name in
    let test = λ (t : List ℕ). form_of t && not (list_any (bytes_eq t) earlier) in
    let value = bind-ok (value_at path d) (new_name form_of earlier path) name e in
    let text = bind-ok (of_kind path (as_str value.0)) (passing test (fault.Name path)) name value.2 in
    let passed = passing-ok test (fault.Name path) text.0 name text.2 in
    subst (λ n. is_model_name n ≡ true) passed.1 (both (form_of text.0) (not (list_any (bytes_eq text.0) earlier)) passed.0).0

model-named : (p m : ℕ) (earlier : List (List ℕ)) (i : ℕ) (d : Data) (model : Named) → model_of p m earlier i d ≡ Ok model → is_model_name model.name ≡ true
unfolding model_of
model-named p m earlier i d model e =
    let name = bind-ok (name_of earlier i d) _ model e in
    let states = bind-ok (count_of i Field.States Count.States 1 d) _ model name.2 in
    let disturbances = bind-ok (count_of i Field.Disturbances Count.Disturbances 0 d) _ model states.2 in
    let plant = bind-ok (plant_in i states.0 (record { inputs = p; outputs = m; disturbances = disturbances.0 }) d) _ model disturbances.2 in
    let same = ok-value (record { name = name.0; plant = plant.0 }) model plant.2 in
    subst (λ (n : Named). is_model_name n.name ≡ true) same (name-formed earlier i d name.0 name.1)

one-more : (x : List ℕ) (xs : List (List ℕ)) → is_model_name x ≡ true → AreNamed xs → AreNamed (x ∷ xs)
one-more x xs h t zero e l = h
one-more x xs h t (suc k) e l = t k e (omega (arith, l))

all-named : (p m : ℕ) (earlier : List (List ℕ)) (i : ℕ) (ds : List Data) (ms : List Named) → models_from p m earlier i ds ≡ Ok ms → AreNamed (map (λ n. n.name) ms)
all-named p m earlier i [] ms e = subst (λ ms. AreNamed (map (λ (n : Named). n.name) ms)) (ok-value [] ms e) (λ k d l. absurd (omega (arith, l)))
all-named p m earlier i (d ∷ ds) ms e =
    let first = bind-ok (model_of p m earlier i d) _ ms e in
    let rest = bind-ok (models_from p m (earlier ++ first.0.name ∷ []) (i + 1) ds) _ ms first.2 in
    subst (λ ms. AreNamed (map (λ (n : Named). n.name) ms)) (ok-value (first.0 ∷ rest.0) ms rest.2)
    (one-more first.0.name (map (λ (n : Named). n.name) rest.0) (model-named p m earlier i d first.0 first.1) (all-named p m (earlier ++ first.0.name ∷ []) (i + 1) ds rest.0 rest.1))

in-named : (root : Data) (ms : Models) → models_in root ≡ Ok ms → AreNamed (names_in ms)
unfolding models_in
in-named root ms e =
    let version = bind-ok (version_of root) _ ms e in
    let inputs = bind-ok (inputs_of root) _ ms version.2 in
    let outputs = bind-ok (outputs_of inputs.0 root) _ ms inputs.2 in
    let tables = bind-ok (tables_of root) _ ms outputs.2 in
    let models = bind-ok (models_from (length inputs.0) (length outputs.0) [] 0 tables.0) _ ms tables.2 in
    let same = ok-value (record { inputs = inputs.0; outputs = outputs.0; models = models.0 }) ms models.2 in
    subst (λ (m : Models). AreNamed (names_in m)) same (all-named (length inputs.0) (length outputs.0) [] 0 tables.0 models.0 models.1)

-- the names that the bytes of a model file give
pub are-named : (bytes : List ℕ) (ms : Models) → models_of bytes ≡ Ok ms → AreNamed (names_in ms)
unfolding models_of
are-named bytes ms e = by (nat_lt most_bytes (length bytes)) e
  where
    by : (b : Bool) → (if b then Err (fault.TooMany Count.Bytes (most_bytes + 1) None) else (document_of bytes >>= models_in)) ≡ Ok ms → AreNamed (names_in ms)
    by true h = absurd cc
    by false h = let document = bind-ok (document_of bytes) models_in ms h in in-named document.0 ms document.2

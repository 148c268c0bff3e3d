-- One model more, read after those before it.
use Rattle.std.proofs.Common.{◌≡◌, ℕ, ◌+◌, ◌<◌, List, [], ◌∷◌, ◌++◌, length, get_or, drop, map, Ok, Err, refl, sym, ap, append_assoc}
use Rattle.std.proofs.lemmas.List.{map-append}
use Rattle.toml.specs.View.{view}
use Rattle.toml.specs.declared.value.Value.{Value}
use Rattle.dec_text.specs.Steps.{◌>>=◌}
use Rattle.model_file.specs.Reads.{Judged}
use Rattle.model_file.specs.Bank.{Named}
use Rattle.model_file.specs.Models.{model_of, models_from}
use Rattle.model_file.specs.Seen.{named, name_seen}
use Rattle.model_file.specs.declared.bank.NamedPlant.{NamedPlant}
use Rattle.model_file.proofs.Refused.{map-drop}

-- the models left, seen from before and from behind a model
joined : (o : Judged (List Named)) (before : List Named) (m : Named) → ((o >>= λ rest. Ok (m ∷ rest)) >>= λ rest. Ok (before ++ rest)) ≡ (o >>= λ rest. Ok ((before ++ m ∷ []) ++ rest))
joined (Ok rest) before m = ap (λ ms. Ok ms) (sym (append_assoc before (m ∷ []) rest))
joined (Err e) before m = refl

pub next_model : (p m : ℕ) (xs : List Value) (i : ℕ) (x : Value) (before after : List NamedPlant) (next : NamedPlant) → i < length xs → x ≡ get_or xs i x
    → Ok (named next) ≡ model_of p m (map name_seen before) i (view x) → after ≡ before ++ next ∷ []
    → (models_from p m (map name_seen before) i (map view (drop i xs)) >>= λ rest. Ok (map named before ++ rest))
    ≡ (models_from p m (map name_seen after) (i + 1) (map view (drop (i + 1) xs)) >>= λ rest. Ok (map named after ++ rest))
next_model p m xs i x before after next below at read pushed =
    rw (map-drop view xs i x below at, ← read, pushed, map-append, map-append)
    (joined (models_from p m (map name_seen before ++ name_seen next ∷ []) (i + 1) (map view (drop (i + 1) xs))) (map named before) (named next))

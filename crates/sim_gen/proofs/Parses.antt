-- The text of the document is read as its table, and the table says the models.
use Rattle.std.proofs.Common.{◌≡◌, ℕ, zero, suc, ◌≤◌, Some, Ok, refl, arith}
use Rattle.toml.specs.Data.{table}
use Rattle.toml.specs.Parse.{parse_document}
use Rattle.toml.proofs.OnLiterals.{toml_on_literals}
use Rattle.dec_text.specs.Decimal.{billionths}
use Rattle.model_file.specs.ModelFile.{models_in, version_of, tables_of}
use Rattle.model_file.specs.Models.{count_of, matrices_of, bounds_of, plant_in, model_of}
use Rattle.model_file.specs.Names.{inputs_of, outputs_of, name_of}
use Rattle.model_file.specs.Numbers.{vector, matrix, matrix_unless_empty}
use Rattle.sim_gen.specs.Document.{document_text, members_with}
use Rattle.sim_gen.specs.Models.{models_with}

-- what holds at both couplings
at-coupling : (P : ℕ → Type 0) → P 1 → P 2 → (coupling : ℕ) → 1 ≤ coupling → coupling ≤ 2 → P coupling
at-coupling P a b zero some few = absurd (omega arith)
at-coupling P a b (suc zero) some few = a
at-coupling P a b (suc (suc zero)) some few = b
at-coupling P a b (suc (suc (suc n))) some few = absurd (omega arith)

-- what holds at the four gains
at-gain : (P : ℕ → Type 0) → P 1 → P 2 → P 3 → P 4 → (gain : ℕ) → 1 ≤ gain → gain ≤ 4 → P gain
at-gain P a b c d zero some few = absurd (omega arith)
at-gain P a b c d (suc zero) some few = a
at-gain P a b c d (suc (suc zero)) some few = b
at-gain P a b c d (suc (suc (suc zero))) some few = c
at-gain P a b c d (suc (suc (suc (suc zero)))) some few = d
at-gain P a b c d (suc (suc (suc (suc (suc n))))) some few = absurd (omega arith)

-- what holds at each coupling with each gain
pub at-each : (P : ℕ → ℕ → Type 0) → P 1 1 → P 1 2 → P 1 3 → P 1 4 → P 2 1 → P 2 2 → P 2 3 → P 2 4
    → (coupling gain : ℕ) → 1 ≤ coupling → coupling ≤ 2 → 1 ≤ gain → gain ≤ 4 → P coupling gain
at-each P a b c d e f g h coupling gain some_coupling small_coupling some_gain small_gain =
    at-coupling (λ n. P n gain) (at-gain (P 1) a b c d gain some_gain small_gain) (at-gain (P 2) e f g h gain some_gain small_gain)
    coupling some_coupling small_coupling

-- the text is read as the table
pub text-parses : (coupling gain : ℕ) → 1 ≤ coupling → coupling ≤ 2 → 1 ≤ gain → gain ≤ 4
    → parse_document (document_text coupling gain) ≡ Some (members_with coupling gain)
unfolding toml_on_literals
text-parses = at-each (λ m n. parse_document (document_text m n) ≡ Some (members_with m n)) refl refl refl refl refl refl refl refl

-- the table says the models
pub table-says : (coupling gain : ℕ) → 1 ≤ coupling → coupling ≤ 2 → 1 ≤ gain → gain ≤ 4
    → models_in (table (members_with coupling gain)) ≡ Ok (models_with coupling gain)
unfolding models_in version_of tables_of inputs_of outputs_of name_of count_of matrices_of bounds_of plant_in model_of vector matrix matrix_unless_empty billionths
table-says = at-each (λ m n. models_in (table (members_with m n)) ≡ Ok (models_with m n)) refl refl refl refl refl refl refl refl

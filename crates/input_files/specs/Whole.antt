-- A file that is read from its start.
use Rattle.std.specs.Prelude.{◌≡◌, ◌⊎◌, ℕ, ◌+◌, ◌≤◌, true, List, length, take, Option, None, Some, IfSome}
use Rattle.outside_io.specs.Shelf.{SlotState}

-- the file's bytes, as far as the limit and one byte more, where the file is told
abbrev pub IsFront : ℕ → Option (List ℕ) → List ℕ → Type 0
IsFront limit file bytes = IfSome file (λ f. bytes ≡ take (limit + 1) f)

-- a slot was asked for this name, or not at all
abbrev pub IsAskedAtMost : List ℕ → SlotState → Type 0
IsAskedAtMost name slot = (slot.asked ≡ None) ⊎ (slot.asked ≡ Some name)

-- the most bytes of a model file
abbrev pub most_model : ℕ
most_model = 1_048_576

-- how many bytes are read at a time
abbrev pub most_piece : ℕ
most_piece = 4096

-- at most n bytes of the file were taken from the slot, where it is attached and both are told
abbrev pub TakesAtMost : ℕ → Option (List ℕ) → SlotState → Type 0
TakesAtMost n file slot = slot.attached ≡ true → IfSome file (λ f. IfSome slot.rest (λ r. length f ≤ length r + n))

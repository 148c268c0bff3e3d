-- Claims on files that a shelf tells, and how the reading of a slot ended.
use Rattle.std.specs.Prelude.{◌≡◌, ℕ, true, List, length, Option, Some, IfSome}
use Rattle.std.specs.Io.KnownBytes.{IsAtEnd}
use Rattle.outside_io.specs.Causes.{Rose}
use Rattle.outside_io.specs.Shelf.{SlotState, ShelfState}
use Rattle.input_files.specs.Files.{Files, files_of}

-- a claim on the bytes of a model file and a telemetry, where both are told
abbrev pub OnBytes : Option (List ℕ) → Option (List ℕ) → (List ℕ → List ℕ → Type 0) → Type 0
OnBytes model telemetry claim = IfSome model (λ m. IfSome telemetry (λ t. claim m t))

-- a claim on the bytes of the file of this name, where the shelf tells them
abbrev pub OnFile : ShelfState → List ℕ → (List ℕ → Type 0) → Type 0
OnFile shelf name claim = IfSome (shelf.file name) claim

-- a claim on what the model file and the telemetry of these names say, where the shelf tells them
abbrev pub OnFiles : ShelfState → (model telemetry : List ℕ) → (Files → Type 0) → Type 0
OnFiles shelf model telemetry claim = OnBytes (shelf.file model) (shelf.file telemetry) (λ m t. claim (files_of m t))

-- both files were read to their end
pub record AreRead (shelf : ShelfState) : Type 0 where
  pub model : IsAtEnd (shelf.slot 0).rest
  pub telemetry : IsAtEnd (shelf.slot 1).rest

-- reading a slot failed: its count of faults rose, and it was asked for this name
pub record ReadFailed (name : List ℕ) (before after : SlotState) : Type 0 where
  pub rose : Rose before.faults after.faults
  pub was_asked : after.asked ≡ Some name

-- a claim on both files and on how many bytes slot 1 has left, where it is attached and these are told
abbrev pub OnLeft : (before after : ShelfState) → (model telemetry : List ℕ) → (List ℕ → List ℕ → ℕ → Type 0) → Type 0
OnLeft before after model telemetry claim = (after.slot 1).attached ≡ true
    → OnBytes (before.file model) (before.file telemetry) (λ m t. IfSome (after.slot 1).rest (λ r. claim m t (length r)))

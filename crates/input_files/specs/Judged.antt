-- What an ending at the model file says of it.
use Rattle.std.specs.Prelude.{◌≡◌, ℕ, List, Some, Bool, true, false}
use Rattle.model_file.specs.declared.fault.ModelFault.{ModelFault}
use Rattle.model_file.specs.declared.fault.ModelFault.TheVariants as fault
use Rattle.input_files.specs.declared.model.ModelEnding.{ModelEnding}
use Rattle.input_files.specs.declared.model.ModelEnding.TheVariants.{Refused, Read, Memory}
use Rattle.input_files.specs.Files.{model_refusal}

-- memory ran out
abbrev pub is_memory : ModelFault → Bool
is_memory fault.Memory = true
is_memory _ = false

-- the file is refused with this fault
abbrev pub JudgesModel : ModelEnding → List ℕ → Type 0
JudgesModel (Refused fault) m = model_refusal m ≡ Some fault
JudgesModel Read m = Unit
JudgesModel Memory m = Unit

-- want of memory is an ending of its own
abbrev pub IsModelEnding : ModelEnding → Type 0
IsModelEnding (Refused fault) = is_memory fault ≡ false
IsModelEnding Read = Unit
IsModelEnding Memory = Unit

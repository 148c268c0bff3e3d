-- What a slot over a real file has left, and what is told of it.
use Rattle.std.specs.Prelude.{◌≡◌, ℕ, List, true, Option, Some, None, is_some, option_map, string_bytes}
use Rattle.outside_io.specs.Shelf.{SlotState}
use Rattle.outside_io.specs.declared.port.Source.{Source}
use Rattle.outside_io.specs.declared.port.Source.TheVariants.{File, Input}
use Rattle.outside_io.specs.declared.port.Port.{Port}

-- what is still to be read from a file or from the input, where these tell it
abbrev pub left_in : {F I : Type 0} → (F → Option (List ℕ)) → (I → Option (List ℕ)) → Option (Source F I) → Option (List ℕ)
left_in file input None = None
left_in file input (Some (File f)) = file f
left_in file input (Some (Input i)) = input i

-- a slot over a real file, of which no content is told
abbrev pub port_slot : {F I : Type 0} → Port F I → SlotState
port_slot p = record { attached = is_some p.source; asked = option_map string_bytes p.asked; rest = None; faults = p.faults }

-- a slot that can be read was asked for a name
abbrev pub IsNamed : SlotState → Type 0
IsNamed s = s.attached ≡ true → is_some s.asked ≡ true

some_map : {X : Type 0} (f : X → List ℕ) (x : Option X) → is_some x ≡ true → is_some (option_map f x) ≡ true
some_map f None h = h
some_map f (Some x) h = h

pub port-named : {F I : Type 0} (p : Port F I) → IsNamed (port_slot p)
port-named p = λ h. some_map string_bytes p.asked (p.named h)

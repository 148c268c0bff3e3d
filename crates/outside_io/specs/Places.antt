-- What stands at the slots of a shelf in memory.
use Rattle.std.specs.Prelude.{◌≡◌, ℕ, List, Bool, true, false, Option, Some, None, min, length, string_bytes, ⊤}
use Rattle.outside_io.specs.Shelf.{SlotState}
use Rattle.outside_io.specs.Slots.{at_slot}
use Rattle.outside_io.specs.Opened.{name_of, left_of}
use Rattle.outside_io.specs.declared.slots.Place.{Place}
use Rattle.outside_io.specs.declared.slots.Place.TheVariants.{Free, Refused, Open}
use Rattle.outside_io.specs.declared.slots.Slots.{Slots}

abbrev pub place_of : Slots → ℕ → Place
place_of s q = at_slot q s.first s.second s.third

-- the name that was asked for here
abbrev pub name_at : Place → Option (List ℕ)
name_at Free = None
name_at (Refused name) = Some (string_bytes name)
name_at (Open o) = Some (name_of o)

abbrev pub is_open : Place → Bool
is_open Free = false
is_open (Refused name) = false
is_open (Open o) = true

-- what is still to be read here
abbrev pub left_at : Place → Option (List ℕ)
left_at Free = None
left_at (Refused name) = None
left_at (Open o) = Some (left_of o)

-- the slot of a place that has failed so often
abbrev pub slot_of : Place → ℕ → SlotState
slot_of place faults = record { attached = is_open place; asked = name_at place; rest = left_at place; faults = faults }

-- a read gives as many of the known bytes as there is room for
abbrev pub GivesMost : Option (List ℕ) → ℕ → ℕ → Type 0
GivesMost None room count = ⊤
GivesMost (Some left) room count = count ≡ min (length left) room

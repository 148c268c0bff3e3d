-- What files in memory hold.
use Rattle.std.specs.Prelude.{ℕ, List, [], ◌∷◌, Option, None, Some, string_bytes, if◌then◌else◌}
use Rattle.std.specs.Str.{bytes_eq}
use Rattle.outside_io.specs.declared.files.Files.{Files}
use Rattle.outside_io.specs.declared.files.Kept.{Kept}

-- the bytes of the last file of this name, or what stood before where there is none
abbrev pub last_named : List Kept → List ℕ → Option (List ℕ) → Option (List ℕ)
last_named [] name before = before
last_named (f ∷ fs) name before = last_named fs name (if bytes_eq (string_bytes f.name) name then Some f.bytes.items else before)

-- the bytes of the file of this name
abbrev pub bytes_of : Files → List ℕ → Option (List ℕ)
bytes_of s name = last_named s.kept.items name None

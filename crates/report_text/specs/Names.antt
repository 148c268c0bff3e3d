-- The names of models, as a model file has them.
use Rattle.std.specs.Prelude.{ℕ, ◌-◌, Bool, ◌&&◌, not, ◌==◌, nat_lt, nat_le, List, length, slice_index}
use Rattle.std.specs.List.{list_all}

abbrev pub has_no_outer_spaces : List ℕ → Bool
has_no_outer_spaces text = not (slice_index text 0 == 32) && not (slice_index text (length text - 1) == 32)

abbrev pub is_name_byte : ℕ → Bool
is_name_byte b = nat_le 32 b && nat_le b 126

-- 1 to 32 printable bytes, with no space at an end
abbrev pub is_model_name : List ℕ → Bool
is_model_name text = (nat_lt 0 (length text) && nat_le (length text) 32) && (list_all is_name_byte text && has_no_outer_spaces text)

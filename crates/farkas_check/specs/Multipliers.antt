-- Which lists of whole numbers are multipliers.
use Rattle.std.specs.Prelude.{ℕ, ◌*◌, ◌^◌, Bool, ◌&&◌, nat_lt, nat_le, List, length, ℤ, unsigned_abs}
use Rattle.std.specs.List.{list_all}
use Rattle.set_rules.specs.Limits.{row_limit}

-- each within 2 ^ 31 - 1 of 0
abbrev pub are_small : List ℤ → Bool
are_small list = list_all (λ v. nat_le (unsigned_abs v) 2_147_483_647) list

-- one to six, each small
abbrev pub are_multipliers : List ℤ → Bool
are_multipliers list = nat_lt 0 (length list) && (nat_le (length list) 6 && are_small list)

-- the greatest magnitude of a multiplier times a number of a row
abbrev pub multiplied_limit : ℕ
multiplied_limit = 2 ^ 31 * row_limit

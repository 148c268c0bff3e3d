-- The generator of the demonstration: its state, a number below 2 ^ 31, and the numbers that are drawn from it.
use Rattle.std.specs.Prelude.{ℕ, ◌+◌, ◌*◌, ◌/◌, ◌%◌, ℤ, pos, ◌-ℤ◌}

-- how many states there are
abbrev pub modulus : ℕ
modulus = 2_147_483_648

-- the state before the first draw
abbrev pub first_state : ℕ → ℕ
first_state seed = seed % modulus

-- the state after a draw
abbrev pub next_state : ℕ → ℕ
next_state s = (1_103_515_245 * s + 12_345) % modulus

-- the number below `count` that is drawn where the draw leaves state s
abbrev pub drawn : ℕ → ℕ → ℕ
drawn count s = (s / 65_536) % count

-- the same, from -most to most
abbrev pub drawn_within : ℕ → ℕ → ℤ
drawn_within most s = pos (drawn (2 * most + 1) s) -ℤ pos most

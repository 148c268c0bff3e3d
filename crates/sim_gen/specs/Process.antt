-- The plant of the demonstration with what is drawn for it. It moves in whole nano-units, and what halving leaves of an odd state is a
-- disturbance.
use Rattle.std.specs.Prelude.{◌≤◌, ℕ, zero, suc, ◌+◌, List, [], ◌∷◌, ℤ, pos, ◌+ℤ◌, ◌*ℤ◌, unsigned_abs}
use Rattle.std.specs.Int.{int_div_euclid, int_rem_euclid}
use Rattle.set_rules.specs.Round.{unit}
use Rattle.set_rules.specs.Columns.{tabulate}
use Rattle.sim_gen.specs.Generator.{first_state, next_state, drawn, drawn_within}
use Rattle.sim_gen.specs.declared.process.Moment.{Moment}

-- how many units the first state gains for each unit of the second; how many the second gains for each of the input; the state of the
-- generator; and the two states, in nano-units
pub record Process : Type 0 where
  pub coupling : ℕ
  pub gain : ℕ
  pub generator : ℕ
  pub first : ℤ
  pub second : ℤ

-- the state of the generator after two draws, and after three
abbrev pub second_state : ℕ → ℕ
second_state s = next_state (next_state s)

abbrev pub third_state : ℕ → ℕ
third_state s = next_state (second_state s)

-- nano-units in a thousandth of a unit
abbrev pub thousandth : ℕ
thousandth = 1_000_000

-- the process at its first sample, of a generator in state s: four draws
abbrev pub begun_in : ℕ → Process
begun_in s = record {
  coupling = 1 + drawn 2 (next_state s);
  gain = 1 + drawn 4 (second_state s);
  generator = next_state (third_state s);
  first = pos thousandth *ℤ drawn_within 1_000 (third_state s);
  second = pos thousandth *ℤ drawn_within 1_000 (next_state (third_state s));
}

-- the process of a seed at its first sample
abbrev pub begun : ℕ → Process
begun seed = begun_in (first_state seed)

-- what three draws give at a sample: the input, -1, 0 or 1 units, in nano-units
abbrev pub input_in : ℕ → ℤ
input_in s = pos unit *ℤ drawn_within 1 (next_state s)

-- the error of the reading, at most a twentieth of a unit
abbrev pub error_in : ℕ → ℤ
error_in s = pos 50_000 *ℤ drawn_within 1_000 (second_state s)

-- and a push on the second state, -1, 0 or 1
abbrev pub push_in : ℕ → ℤ
push_in s = drawn_within 1 (third_state s)

-- 1 of an odd number, 0 of an even one
unfoldable pub odd_part : ℤ → ℤ
odd_part x = int_rem_euclid x (pos 2)

-- half of a number, rounded up
unfoldable pub half_up : ℤ → ℤ
half_up x = int_div_euclid (x +ℤ odd_part x) (pos 2)

-- the process at the next sample: a push is a hundredth of a unit
abbrev pub stepped : Process → Process
stepped p = record p {
  generator = third_state p.generator;
  first = half_up p.first +ℤ pos p.coupling *ℤ p.second;
  second = half_up p.second +ℤ pos p.gain *ℤ input_in p.generator +ℤ pos 10_000_000 *ℤ push_in p.generator;
}

-- the process of a seed at sample k
unfoldable pub process_at : ℕ → ℕ → Process
process_at seed zero = begun seed
process_at seed (suc k) = stepped (process_at seed k)

-- the process at a sample, with its states and its disturbances in halves of a nano-unit
abbrev pub moment_of : Process → Moment
moment_of p = record {
  input = input_in p.generator;
  reading = p.first +ℤ error_in p.generator;
  states = (pos 2 *ℤ p.first) ∷ (pos 2 *ℤ p.second) ∷ [];
  dists = odd_part p.first ∷ odd_part p.second ∷ (pos 2 *ℤ push_in p.generator) ∷ [];
}

-- the first so many samples of a seed
abbrev pub moments : ℕ → ℕ → List Moment
moments seed samples = tabulate samples (λ k. moment_of (process_at seed k))

-- the ranges that the process keeps: 38 units, and 9.02 units
pub record IsProcess (p : Process) : Type 0 where
  pub some_coupling : 1 ≤ p.coupling
  pub small_coupling : p.coupling ≤ 2
  pub some_gain : 1 ≤ p.gain
  pub small_gain : p.gain ≤ 4
  pub first_small : unsigned_abs p.first ≤ 38_000_000_000
  pub second_small : unsigned_abs p.second ≤ 9_020_000_000

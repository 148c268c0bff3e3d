-- The process keeps its ranges, its coupling and its gain.
use Rattle.std.proofs.Common.{◌≡◌, ℕ, zero, suc, ◌*◌, ◌%◌, ◌≤◌, ℤ, pos, ◌+ℤ◌, ◌*ℤ◌, unsigned_abs, arith, refl, mul-le-mul, le_refl, le_trans}
use Rattle.std.proofs.lemmas.Int.{ints, unsigned_abs-mul}
use Rattle.sim_gen.specs.Generator.{next_state, drawn_within}
use Rattle.sim_gen.specs.Process.{Process, IsProcess, begun, stepped, process_at, input_in, error_in, push_in, odd_part, half_up, second_state, third_state}
use Rattle.sim_gen.proofs.Halves.{odd_part_small, twice-half_up}

-- the numbers that are drawn for a sample
within_one : (s : ℕ) → unsigned_abs (drawn_within 1 s) ≤ 1
within_one s = omega (arith, ints)

within_thousand : (s : ℕ) → unsigned_abs (drawn_within 1_000 s) ≤ 1_000
within_thousand s = omega (arith, ints)

pub input-small : (s : ℕ) → unsigned_abs (input_in s) ≤ 1_000_000_000
input-small s = let small = within_one (next_state s) in omega (arith, ints)

pub error-small : (s : ℕ) → unsigned_abs (error_in s) ≤ 50_000_000
error-small s = let small = within_thousand (second_state s) in omega (arith, ints)

pub push-small : (s : ℕ) → unsigned_abs (push_in s) ≤ 1
push-small s = within_one (third_state s)

-- a product with a small number
pub product-small : (c m : ℕ) (x : ℤ) → c ≤ m → unsigned_abs (pos c *ℤ x) ≤ m * unsigned_abs x
product-small c m x h =
    let size : unsigned_abs (pos c *ℤ x) ≡ c * unsigned_abs x = unsigned_abs-mul (pos c) x in
    let more : c * unsigned_abs x ≤ m * unsigned_abs x = mul-le-mul h (le_refl (unsigned_abs x)) in
    omega arith

-- both states begin within a unit
pub begun-first : (seed : ℕ) → unsigned_abs ((begun seed).first) ≤ 1_000_000_000
begun-first seed = let small = within_thousand (third_state (seed % 2_147_483_648)) in omega (arith, ints)

pub begun-second : (seed : ℕ) → unsigned_abs ((begun seed).second) ≤ 1_000_000_000
begun-second seed = let small = within_thousand (next_state (third_state (seed % 2_147_483_648))) in omega (arith, ints)

pub begun_is : (seed : ℕ) → IsProcess (begun seed)
begun_is seed = record {
  some_coupling = omega arith;
  small_coupling = omega arith;
  some_gain = omega arith;
  small_gain = omega arith;
  first_small = let small = begun-first seed in omega arith;
  second_small = let small = begun-second seed in omega arith;
}

pub stepped-first : (p : Process) → IsProcess p → unsigned_abs ((stepped p).first) ≤ 38_000_000_000
stepped-first p h =
    let half = twice-half_up p.first in
    let odd = odd_part_small p.first in
    let first = h.first_small in
    let second = h.second_small in
    let coupled = product-small p.coupling 2 p.second h.small_coupling in
    omega (arith, ints)

sum-small : (x o h d p : ℤ) → pos 2 *ℤ h ≡ x +ℤ o → unsigned_abs o ≤ 1 → unsigned_abs x ≤ 9_020_000_000 → unsigned_abs d ≤ 4 * 1_000_000_000
    → unsigned_abs p ≤ 1 → unsigned_abs (h +ℤ d +ℤ pos 10_000_000 *ℤ p) ≤ 9_020_000_000
sum-small x o h d p twice odd small driven pushed = omega (arith, ints)

pub stepped-second : (p : Process) → IsProcess p → unsigned_abs ((stepped p).second) ≤ 9_020_000_000
stepped-second p h =
    let driven : unsigned_abs (pos p.gain *ℤ input_in p.generator) ≤ 4 * 1_000_000_000 =
    le_trans (product-small p.gain 4 (input_in p.generator) h.small_gain) (mul-le-mul (le_refl 4) (input-small p.generator)) in
    sum-small p.second (odd_part p.second) (half_up p.second) (pos p.gain *ℤ input_in p.generator) (push_in p.generator)
    (twice-half_up p.second) (odd_part_small p.second) h.second_small driven (push-small p.generator)

pub stepped_is : (p : Process) → IsProcess p → IsProcess (stepped p)
stepped_is p h = record {
  some_coupling = h.some_coupling;
  small_coupling = h.small_coupling;
  some_gain = h.some_gain;
  small_gain = h.small_gain;
  first_small = stepped-first p h;
  second_small = stepped-second p h;
}

-- the second state, by equal inputs and pushes
pub driven-same : (h : ℤ) (g : ℕ) (u v w z : ℤ) → u ≡ v → w ≡ z → h +ℤ pos g *ℤ u +ℤ pos 10_000_000 *ℤ w ≡ h +ℤ pos g *ℤ v +ℤ pos 10_000_000 *ℤ z
driven-same h g u v w z a b = rw (a, b)

-- the same of a process whose fields are those of the next sample
pub next-is : (p : Process) (g : ℕ) (first second : ℤ) → g ≡ third_state p.generator → first ≡ (stepped p).first → second ≡ (stepped p).second → IsProcess p
    → IsProcess (record p { generator = g; first = first; second = second })
next-is p g first second eg ef es h = record {
  some_coupling = h.some_coupling;
  small_coupling = h.small_coupling;
  some_gain = h.some_gain;
  small_gain = h.small_gain;
  first_small = rw ef (stepped-first p h);
  second_small = rw es (stepped-second p h);
}

pub process_at-is : (seed k : ℕ) → IsProcess (process_at seed k)
unfolding process_at
process_at-is seed zero = begun_is seed
process_at-is seed (suc k) = stepped_is (process_at seed k) (process_at-is seed k)

pub process_at-coupling : (seed k : ℕ) → (process_at seed k).coupling ≡ (begun seed).coupling
unfolding process_at
process_at-coupling seed zero = refl
process_at-coupling seed (suc k) = process_at-coupling seed k

pub process_at-gain : (seed k : ℕ) → (process_at seed k).gain ≡ (begun seed).gain
unfolding process_at
process_at-gain seed zero = refl
process_at-gain seed (suc k) = process_at-gain seed k

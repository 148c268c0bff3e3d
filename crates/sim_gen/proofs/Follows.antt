-- The trajectory of a seed obeys the plant of its process.
use Rattle.std.proofs.Common.{◌≡◌, ℕ, zero, suc, ◌+◌, ◌*◌, ◌<◌, ◌≤◌, List, [], ◌∷◌, length, map, get_or, ℤ, pos, ◌+ℤ◌, ◌-ℤ◌, ◌*ℤ◌, ◌≤ℤ◌, unsigned_abs, arith, sym, ap, ◌∙◌, subst, IfSome}
use Rattle.std.proofs.lemmas.Int.{ints}
use Rattle.std.proofs.lemmas.List.{get_or-map}
use Rattle.std.proofs.lemmas.List.FromFn.{length-map-range_with_len, get_or-map-range_with_len}
use Rattle.set_rules.specs.Sum.{total, magnitude}
use Rattle.set_rules.specs.Columns.{at, entry}
use Rattle.set_rules.specs.Round.{unit}
use Rattle.set_rules.specs.Image.{IsStep}
use Rattle.set_rules.specs.Strip.{Reads}
use Rattle.set_rules.proofs.Ring.{mul_assoc, mul_left_comm}
use Rattle.plant_model.specs.Plant.{Plant, Sample, Obeys, states_at, disturbances_at, sample_at, reading_at, no_sample, shift_of, through_of, output_row}
use Rattle.sim_gen.specs.Process.{Process, IsProcess, begun, stepped, process_at, moment_of, moments, input_in}
use Rattle.sim_gen.specs.Telemetry.{sample_of, samples_of, trajectory}
use Rattle.sim_gen.specs.Models.{plant_with, plant_of}
use Rattle.sim_gen.specs.declared.process.Moment.{Moment}
use Rattle.sim_gen.proofs.Halves.{odd_part_small, twice-half_up}
use Rattle.sim_gen.proofs.Grows.{process-more, process-none}
use Rattle.sim_gen.proofs.Keeps.{begun-first, begun-second, process_at-is, process_at-coupling, process_at-gain, error-small, push-small}

no_moment : Moment
no_moment = record { input = pos 0; reading = pos 0; states = []; dists = [] }

-- the moment of a sample among those of a seed, by what f sees of it
moment-at : {A : Type 0} (f : Moment → A) (seed n k : ℕ) (d : A) → k < n → get_or (map f (moments seed n)) k d ≡ f (moment_of (process_at seed k))
moment-at f seed n k d h =
    let long : k < length (moments seed n) = rw (length-map-range_with_len (λ k. moment_of (process_at seed k)) 0 n) h in
    get_or-map f (moments seed n) k no_moment d long
    ∙ ap f (get_or-map-range_with_len (λ k. moment_of (process_at seed k)) 0 n k k no_moment h (omega arith))

states-are : (seed n k : ℕ) → k < n → states_at (trajectory seed n) k ≡ (moment_of (process_at seed k)).states
states-are seed n k h = moment-at (λ m. m.states) seed n k [] h

disturbances-are : (seed n k : ℕ) → k < n → disturbances_at (trajectory seed n) k ≡ (moment_of (process_at seed k)).dists
disturbances-are seed n k h = moment-at (λ m. m.dists) seed n k [] h

sample-is : (seed n k : ℕ) → k < n → sample_at (samples_of seed n) k ≡ sample_of (moment_of (process_at seed k))
sample-is seed n k h = moment-at sample_of seed n k no_sample h

-- the numbers of a step
first-moves : (c : ℕ) (x s o h : ℤ) → pos 2 *ℤ h ≡ x +ℤ o
    → pos unit *ℤ (pos 2 *ℤ (h +ℤ pos c *ℤ s)) ≡ pos unit *ℤ x +ℤ pos 2 *ℤ (pos unit *ℤ (pos c *ℤ s)) +ℤ pos unit *ℤ o
first-moves c x s o h twice = omega (arith, ints)

coupled : (c : ℕ) (s : ℤ) → pos (c * unit) *ℤ (pos 2 *ℤ s) ≡ pos 2 *ℤ (pos unit *ℤ (pos c *ℤ s))
coupled c s =
    let one : pos (c * unit) *ℤ (pos 2 *ℤ s) ≡ pos c *ℤ (pos unit *ℤ (pos 2 *ℤ s)) = mul_assoc (pos c) (pos unit) (pos 2 *ℤ s) in
    let two : pos c *ℤ (pos unit *ℤ (pos 2 *ℤ s)) ≡ pos unit *ℤ (pos c *ℤ (pos 2 *ℤ s)) = mul_left_comm (pos c) (pos unit) (pos 2 *ℤ s) in
    let three : pos c *ℤ (pos 2 *ℤ s) ≡ pos 2 *ℤ (pos c *ℤ s) = mul_left_comm (pos c) (pos 2) s in
    omega (arith, ints)

driven : (g : ℕ) (u : ℤ) → pos (g * unit) *ℤ u ≡ pos unit *ℤ (pos g *ℤ u)
driven g u = mul_assoc (pos g) (pos unit) u ∙ mul_left_comm (pos g) (pos unit) u

module _ (p : Process) where
  -- what the plant of the process makes of its states
  step-first : pos unit *ℤ (pos 2 *ℤ (stepped p).first) ≡ total 2 (λ l. entry 2 (plant_of p).a 0 l *ℤ at (moment_of p).states l)
      +ℤ pos 2 *ℤ at (shift_of (plant_of p) (input_in p.generator ∷ [])) 0 +ℤ pos unit *ℤ total 3 (λ t. entry 8 (plant_of p).e 0 t *ℤ at (moment_of p).dists t)
  unfolding total
  step-first =
      let twice = twice-half_up p.first in
      let c = coupled p.coupling p.second in
      omega (arith, ints)

  step-second : pos unit *ℤ (pos 2 *ℤ (stepped p).second) ≡ total 2 (λ l. entry 2 (plant_of p).a 1 l *ℤ at (moment_of p).states l)
      +ℤ pos 2 *ℤ at (shift_of (plant_of p) (input_in p.generator ∷ [])) 1 +ℤ pos unit *ℤ total 3 (λ t. entry 8 (plant_of p).e 1 t *ℤ at (moment_of p).dists t)
  unfolding total
  step-second =
      let twice = twice-half_up p.second in
      let d = driven p.gain (input_in p.generator) in
      omega (arith, ints)

  step-small : (t : ℕ) → t < 3 → unsigned_abs (at (moment_of p).dists t) ≤ 2
  step-small zero h = let small = odd_part_small p.first in omega arith
  step-small (suc zero) h = let small = odd_part_small p.second in omega arith
  step-small (suc (suc zero)) h = let small = push-small p.generator in omega (arith, ints)
  step-small (suc (suc (suc t))) h = absurd (omega arith)

  steps : IsStep 2 3 (plant_of p).a (shift_of (plant_of p) (input_in p.generator ∷ [])) (plant_of p).e 2
      (moment_of p).states (moment_of (stepped p)).states (moment_of p).dists
  steps = record { moves = by_state; small = step-small }
    where
      by_state : (i : ℕ) → i < 2 → pos unit *ℤ at (moment_of (stepped p)).states i ≡ total 2 (λ l. entry 2 (plant_of p).a i l *ℤ at (moment_of p).states l)
          +ℤ pos 2 *ℤ at (shift_of (plant_of p) (input_in p.generator ∷ [])) i +ℤ pos unit *ℤ total 3 (λ t. entry 8 (plant_of p).e i t *ℤ at (moment_of p).dists t)
      by_state zero h = step-first
      by_state (suc zero) h = step-second
      by_state (suc (suc i)) h = absurd (omega arith)

  reading-holds : Reads 2 (output_row (plant_of p) 0) (through_of (plant_of p) (input_in p.generator ∷ []) 0) 2 (moment_of p).states (moment_of p).reading
      (pos 50_000_000 +ℤ pos 0)
  unfolding total
  reading-holds = let small = error-small p.generator in omega (arith, ints)

  states-bounded : IsProcess p → (i : ℕ) → i < 2 → magnitude (at (moment_of p).states i) ≤ℤ (pos 2 *ℤ at (plant_of p).state_max i)
  states-bounded h zero l = let small = h.first_small in omega (arith, ints)
  states-bounded h (suc zero) l = let small = h.second_small in omega (arith, ints)
  states-bounded h (suc (suc i)) l = absurd (omega arith)

starts-in-box : (seed : ℕ) (i : ℕ) → i < 2
    → magnitude (at (moment_of (begun seed)).states i -ℤ pos 2 *ℤ at (plant_of (begun seed)).centre i) ≤ℤ (pos 2 *ℤ at (plant_of (begun seed)).radius i)
starts-in-box seed zero l = let small = begun-first seed in omega (arith, ints)
starts-in-box seed (suc zero) l = let small = begun-second seed in omega (arith, ints)
starts-in-box seed (suc (suc i)) l = absurd (omega arith)

-- the plant stays
plant-stays : (seed k : ℕ) → plant_of (process_at seed k) ≡ plant_of (begun seed)
plant-stays seed k =
    ap (λ c. plant_with c (process_at seed k).gain) (process_at-coupling seed k) ∙ ap (plant_with (begun seed).coupling) (process_at-gain seed k)

abbrev Moves : Plant → Sample → List ℤ → List ℤ → List ℤ → Type 0
Moves q s x x' v = IsStep 2 3 q.a (shift_of q s.inputs) q.e 2 x x' v

moves-at : (seed n j : ℕ) → j + 1 < n
    → Moves (plant_of (begun seed)) (sample_at (samples_of seed n) j) (states_at (trajectory seed n) j) (states_at (trajectory seed n) (j + 1)) (disturbances_at (trajectory seed n) j)
moves-at seed n j h =
    let now : j < n = omega arith in
    let m = moment_of (process_at seed j) in
    let p = plant_of (begun seed) in
    let next : states_at (trajectory seed n) (j + 1) ≡ (moment_of (stepped (process_at seed j))).states =
    states-are seed n (j + 1) h ∙ ap (λ q. (moment_of q).states) (process-more seed j) in
    let a : Moves p (sample_of m) m.states (moment_of (stepped (process_at seed j))).states m.dists =
    subst (λ (q : Plant). Moves q (sample_of m) m.states (moment_of (stepped (process_at seed j))).states m.dists) (plant-stays seed j) (steps (process_at seed j)) in
    let b : Moves p (sample_of m) m.states (states_at (trajectory seed n) (j + 1)) m.dists =
    subst (λ (x : List ℤ). Moves p (sample_of m) m.states x m.dists) (sym next) a in
    let d : Moves p (sample_at (samples_of seed n) j) m.states (states_at (trajectory seed n) (j + 1)) m.dists =
    subst (λ (s : Sample). Moves p s m.states (states_at (trajectory seed n) (j + 1)) m.dists) (sym (sample-is seed n j now)) b in
    let e : Moves p (sample_at (samples_of seed n) j) (states_at (trajectory seed n) j) (states_at (trajectory seed n) (j + 1)) m.dists =
    subst (λ (x : List ℤ). Moves p (sample_at (samples_of seed n) j) x (states_at (trajectory seed n) (j + 1)) m.dists) (sym (states-are seed n j now)) d in
    subst (λ (v : List ℤ). Moves p (sample_at (samples_of seed n) j) (states_at (trajectory seed n) j) (states_at (trajectory seed n) (j + 1)) v) (sym (disturbances-are seed n j now)) e

abbrev ReadsAll : Plant → Sample → List ℤ → Type 0
ReadsAll q s x = (o : ℕ) → o < q.outputs → IfSome (reading_at s o) (λ r. Reads 2 (output_row q o) (through_of q s.inputs o) 2 x r.value (at q.noise o +ℤ r.slack))

reads-here : (p : Process) → ReadsAll (plant_of p) (sample_of (moment_of p)) (moment_of p).states
reads-here p zero h = reading-holds p
reads-here p (suc o) h = absurd (omega arith)

reads-at : (seed n j : ℕ) → j < n → ReadsAll (plant_of (begun seed)) (sample_at (samples_of seed n) j) (states_at (trajectory seed n) j)
reads-at seed n j h =
    let m = moment_of (process_at seed j) in
    let p = plant_of (begun seed) in
    let a : ReadsAll p (sample_of m) m.states =
    subst (λ (q : Plant). ReadsAll q (sample_of m) m.states) (plant-stays seed j) (reads-here (process_at seed j)) in
    let b : ReadsAll p (sample_at (samples_of seed n) j) m.states =
    subst (λ (s : Sample). ReadsAll p s m.states) (sym (sample-is seed n j h)) a in
    subst (λ (x : List ℤ). ReadsAll p (sample_at (samples_of seed n) j) x) (sym (states-are seed n j h)) b

bounded-at : (seed n j : ℕ) → j < n → (i : ℕ) → i < 2 → magnitude (at (states_at (trajectory seed n) j) i) ≤ℤ (pos 2 *ℤ at (plant_of (begun seed)).state_max i)
bounded-at seed n j h i l =
    subst (λ (x : List ℤ). magnitude (at x i) ≤ℤ (pos 2 *ℤ at (plant_of (begun seed)).state_max i)) (sym (states-are seed n j h))
    (states-bounded (process_at seed j) (process_at-is seed j) i l)

starts-at : (seed n : ℕ) → 0 < n → (i : ℕ) → i < 2
    → magnitude (at (states_at (trajectory seed n) 0) i -ℤ pos 2 *ℤ at (plant_of (begun seed)).centre i) ≤ℤ (pos 2 *ℤ at (plant_of (begun seed)).radius i)
starts-at seed n h i l =
    let first : states_at (trajectory seed n) 0 ≡ (moment_of (begun seed)).states = states-are seed n 0 h ∙ ap (λ q. (moment_of q).states) (process-none seed) in
    subst (λ (x : List ℤ). magnitude (at x i -ℤ pos 2 *ℤ at (plant_of (begun seed)).centre i) ≤ℤ (pos 2 *ℤ at (plant_of (begun seed)).radius i)) (sym first)
    (starts-in-box seed i l)

-- up to each of its samples the trajectory obeys the plant
pub obeys : (seed n k : ℕ) → k < n → Obeys (plant_of (begun seed)) (samples_of seed n) k (trajectory seed n)
obeys seed n k h = record {
  positive = omega arith;
  starts = starts-at seed n (omega arith);
  moves = λ j l. moves-at seed n j (omega arith);
  reads = λ j l. reads-at seed n j (omega arith);
  bounded = λ j l. bounded-at seed n j (omega arith);
}

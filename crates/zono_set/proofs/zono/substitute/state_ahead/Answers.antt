use Rattle.std.proofs.Common.{◌≡◌, ◌^◌, ◌≤◌, ◌≤ℤ◌, ℤ, pos, length, ◌+ℤ◌, ◌-ℤ◌, ◌*ℤ◌, unsigned_abs, to_z, of_z, ap, ◌∙◌, sym, arith}
use Rattle.std.proofs.lemmas.Int.{ints}
use mir.Syntax.{w64, w128}
use Rattle.set_rules.specs.Sum.{total, magnitude}
use Rattle.set_rules.specs.Columns.{at, column_entry, row_magnitude}
use Rattle.set_rules.specs.Zono.{Zono}
use Rattle.set_rules.specs.Rows.{Row}
use Rattle.set_rules.specs.Round.{rnd, residue, ceil_s}
use Rattle.set_rules.specs.Gain.{substitution, residue_radius}
use Rattle.set_rules.proofs.SubstitutionHolds.{centre-substitution, size-substitution, radius-natural}
use Rattle.fixed_mat.proofs.Bits.{back, small_fits, entry-one, sum_back}
use Rattle.zono_set.proofs.Steps.{back64, slack_small}
use Rattle.zono_set.proofs.zono.substitute.state_ahead.Given.{Over}
use Rattle.zono_set.proofs.zono.substitute.state_ahead.Goals as goal
use Rattle.zono_set.proofs.zono.substitute.state_ahead.Goals.{After-struct_told-4-1, After-abs}

module _ (g : Over) (c : After-struct_told-4-1 g) where
  abbrev row : Row
  row = record { coefficients = c.args.a.now; right = c.args.b }

  abbrev inside : Zono
  inside = record { centre = c.args.centre.now; columns = c.args.cols.now }

  gain_is : to_z w64 (of_z w64 c.at-gain.result) ≡ at c.args.gain.now c.args.i
  gain_is = back64 c.at-gain.result (let h = c.at-gain.ensures.within in omega arith) ∙ c.at-gain.ensures.value ∙ entry-one c.args.gain.now c.args.i

  centre_at : c.from.result ≡ at c.args.centre.now c.args.i
  centre_at = c.from.ensures ∙ back64 c.at.result (let h = c.at.ensures.within in omega arith) ∙ c.at.ensures.value ∙ entry-one c.args.centre.now c.args.i

  centre_small : unsigned_abs c.from.result ≤ 1_000_000_000_000_000_000
  centre_small =
      let is = ap unsigned_abs (c.from.ensures ∙ back64 c.at.result (let h = c.at.ensures.within in omega arith)) in
      let h = c.at.ensures.within in
      omega (arith, is, h)

  right_is : to_z w128 (of_z w128 c.args.b) ≡ c.args.b
  right_is = back c.args.b (let h = c.requires.right in omega arith)

  nearest : c.rounded_share-of_right.result.nearest ≡ rnd (at c.args.gain.now c.args.i *ℤ c.args.b)
  nearest = c.rounded_share-of_right.ensures.nearest ∙ (λ ι. rnd (gain_is ι *ℤ right_is ι))

  left : c.rounded_share-of_right.result.residue ≡ residue (at c.args.gain.now c.args.i *ℤ c.args.b)
  left = c.rounded_share-of_right.ensures.residue ∙ (λ ι. residue (gain_is ι *ℤ right_is ι))

  sizes : c.take_shares-sums.result.size ≡ total (length c.args.a.now) (λ t. magnitude (column_entry c.args.cols.now c.args.i t -ℤ rnd (at c.args.gain.now c.args.i *ℤ at c.args.a.now t)))
  sizes = c.take_shares-sums.ensures.size ∙ ap (λ l. total (length c.args.a.now) (λ t. magnitude (column_entry c.args.cols.now c.args.i t -ℤ rnd (l *ℤ at c.args.a.now t)))) gain_is

  lefts : c.take_shares-sums.result.left ≡ total (length c.args.a.now) (λ t. residue (at c.args.gain.now c.args.i *ℤ at c.args.a.now t))
  lefts = c.take_shares-sums.ensures.left ∙ ap (λ l. total (length c.args.a.now) (λ t. residue (l *ℤ at c.args.a.now t))) gain_is

  radius_sum : c.ceil_s-radius.result ≡ ceil_s (c.rounded_share-of_right.result.residue +ℤ c.take_shares-sums.result.left)
  radius_sum =
      let low = c.rounded_share-of_right.ensures.low in
      let half = c.rounded_share-of_right.ensures.half in
      let low' = c.take_shares-sums.ensures.left_low in
      let high' = c.take_shares-sums.ensures.left_high in
      c.ceil_s-radius.ensures.value ∙ ap ceil_s (sum_back c.rounded_share-of_right.result.residue c.take_shares-sums.result.left (omega (arith, ints)) (omega (arith, ints)))

  radius_small : unsigned_abs c.ceil_s-radius.result ≤ 10 ^ 12
  radius_small =
      let low = c.rounded_share-of_right.ensures.low in
      let half = c.rounded_share-of_right.ensures.half in
      let low' = c.take_shares-sums.ensures.left_low in
      let high' = c.take_shares-sums.ensures.left_high in
      slack_small (c.rounded_share-of_right.result.residue +ℤ c.take_shares-sums.result.left) c.ceil_s-radius.result (omega (arith, ints)) (omega (arith, ints)) radius_sum

  radius_is : c.ceil_s-radius.result ≡ residue_radius c.args.gain.now row c.args.i
  radius_is = radius_sum ∙ (λ ι. ceil_s (left ι +ℤ lefts ι))

  sums_small : unsigned_abs c.take_shares-sums.result.size ≤ 10 ^ 28
  sums_small = let low = c.take_shares-sums.ensures.size_low in let high = c.take_shares-sums.ensures.size_high in omega (arith, ints)

  size_sum : to_z w128 (of_z w128 (to_z w128 (of_z w128 c.take_shares-sums.result.size) +ℤ to_z w128 (of_z w128 c.ceil_s-radius.result))) ≡ c.take_shares-sums.result.size +ℤ c.ceil_s-radius.result
  size_sum = let s = sums_small in let r = radius_small in sum_back c.take_shares-sums.result.size c.ceil_s-radius.result (omega arith) (omega arith)

  both_small : unsigned_abs (c.take_shares-sums.result.size +ℤ c.ceil_s-radius.result) ≤ 10 ^ 29
  both_small = let s = sums_small in let r = radius_small in omega (arith, ints)

  size_is : c.take_shares-sums.result.size +ℤ c.ceil_s-radius.result ≡ row_magnitude (substitution g.row.N c.args.gain.now row inside).columns c.args.i
  size_is = (λ ι. sizes ι +ℤ radius_is ι) ∙ sym (size-substitution g.row.N 0 c.args.gain.now row inside c.args.i c.requires.row)

  centre_sum : to_z w128 (of_z w128 (to_z w128 (of_z w128 c.from.result) +ℤ to_z w128 (of_z w128 c.rounded_share-of_right.result.nearest))) ≡ c.from.result +ℤ c.rounded_share-of_right.result.nearest
  centre_sum = sum_back c.from.result c.rounded_share-of_right.result.nearest (let h = centre_small in omega arith) (let h = c.rounded_share-of_right.ensures.within in omega arith)

  centre_is : c.from.result +ℤ c.rounded_share-of_right.result.nearest ≡ at c.args.centre.now c.args.i +ℤ rnd (at c.args.gain.now c.args.i *ℤ c.args.b)
  centre_is = λ ι. centre_at ι +ℤ nearest ι

pub overflow_add-size : goal.overflow_add-size
overflow_add-size g c =
    let s = sums_small g c in
    let r = radius_small g c in
    let b = both_small g c in
    rw (back c.take_shares-sums.result.size (omega arith), back c.ceil_s-radius.result (omega arith)) (small_fits (c.take_shares-sums.result.size +ℤ c.ceil_s-radius.result) (omega arith))

abs_is : (g : Over) (c : After-abs g) → let here = (goal.at.overflow_add-result g c).After-struct_told-4-1 in c.abs.result ≡ magnitude (c.from.result +ℤ c.rounded_share-of_right.result.nearest)
abs_is g c = let here = (goal.at.overflow_add-result g c).After-struct_told-4-1 in c.abs.ensures.value ∙ ap magnitude (centre_sum g here)

abs_small : (g : Over) (c : After-abs g) → unsigned_abs c.abs.result ≤ 10 ^ 26
abs_small g c =
    let is = abs_is g c in
    let one = centre_small g (goal.at.overflow_add-result g c).After-struct_told-4-1 in
    let two = c.rounded_share-of_right.ensures.within in
    omega (arith, ints)

pub overflow_add-result : goal.overflow_add-result
overflow_add-result g c =
    let here = (goal.at.overflow_add-result g c).After-struct_told-4-1 in
    let small = abs_small g c in
    let both = both_small g here in
    rw (back c.abs.result (omega arith), size_sum g here) (small_fits (c.abs.result +ℤ (c.take_shares-sums.result.size +ℤ c.ceil_s-radius.result)) (omega (arith, ints)))

reach_sum : (g : Over) (c : After-abs g) → to_z w128 (of_z w128 (to_z w128 (of_z w128 c.abs.result) +ℤ to_z w128 (of_z w128 (to_z w128 (of_z w128 c.take_shares-sums.result.size) +ℤ to_z w128 (of_z w128 c.ceil_s-radius.result)))))
    ≡ c.abs.result +ℤ (c.take_shares-sums.result.size +ℤ c.ceil_s-radius.result)
reach_sum g c =
    let here = (goal.at.overflow_add-result g c).After-struct_told-4-1 in
    let small = abs_small g c in
    let both = both_small g here in
    ap (λ v. to_z w128 (of_z w128 (to_z w128 (of_z w128 c.abs.result) +ℤ v))) (size_sum g here ∙ sym (back (c.take_shares-sums.result.size +ℤ c.ceil_s-radius.result) (omega arith)))
    ∙ sum_back c.abs.result (c.take_shares-sums.result.size +ℤ c.ceil_s-radius.result) (omega arith) (omega arith)

pub returns-clause-centre : goal.returns-clause-centre
returns-clause-centre g c =
    let here = (goal.at.returns-clause-centre g c).After-struct_told-4-1 in
    centre_sum g here ∙ centre_is g here

pub returns-clause-radius : goal.returns-clause-radius
returns-clause-radius g c =
    let here = (goal.at.returns-clause-radius g c).After-struct_told-4-1 in
    back c.ceil_s-radius.result (let r = radius_small g here in omega arith) ∙ radius_is g here

pub returns-clause-radius_within : goal.returns-clause-radius_within
returns-clause-radius_within g c =
    let here = (goal.at.returns-clause-radius_within g c).After-struct_told-4-1 in
    let r = radius_small g here in
    rw (back c.ceil_s-radius.result (omega arith)) (omega arith)

pub returns-clause-size : goal.returns-clause-size
returns-clause-size g c =
    let here = (goal.at.returns-clause-size g c).After-struct_told-4-1 in
    size_sum g here ∙ size_is g here

pub returns-clause-size_within : goal.returns-clause-size_within
returns-clause-size_within g c =
    let here = (goal.at.returns-clause-size_within g c).After-struct_told-4-1 in
    let both = both_small g here in
    rw (size_sum g here) (omega arith)

pub returns-clause-reach_within : goal.returns-clause-reach_within
returns-clause-reach_within g c =
    let here = (goal.at.returns-clause-reach_within g c).After-struct_told-4-1 in
    let small = abs_small g (goal.at.returns-clause-reach_within g c).After-abs in
    let both = both_small g here in
    rw (reach_sum g (goal.at.returns-clause-reach_within g c).After-abs) (omega (arith, ints))

pub returns-clause-reach : goal.returns-clause-reach
returns-clause-reach g c =
    let here = (goal.at.returns-clause-reach g c).After-struct_told-4-1 in
    let last = (goal.at.returns-clause-reach g c).After-abs in
    reach_sum g last ∙ (λ ι. (abs_is g last ∙ ap magnitude (centre_is g here ∙ sym (centre-substitution g.row.N 0 c.args.gain.now (row g here) (inside g here) c.args.i c.requires.row))) ι +ℤ size_is g here ι)

pub returns-clause-parts : goal.returns-clause-parts
returns-clause-parts g c =
    let here = (goal.at.returns-clause-parts g c).After-struct_told-4-1 in
    let last = (goal.at.returns-clause-parts g c).After-abs in
    reach_sum g last ∙ (λ ι. (abs_is g last ∙ ap magnitude (sym (centre_sum g here))) ι +ℤ sym (size_sum g here) ι)

-- what is left of a state is no more than what it reaches
room_left : (abs size radius reach centre : ℤ) → reach ≡ abs +ℤ (size +ℤ radius) → abs ≡ magnitude centre → pos 0 ≤ℤ radius → reach ≤ℤ pos 1_000_000_000_000_000_000 → size ≤ℤ pos 1_000_000_000_000_000_000
room_left abs size radius reach centre is natural low small = omega (arith, ints)

low_as : (x y : ℤ) → x ≡ y → pos (unsigned_abs y) ≡ y → pos 0 ≤ℤ x
low_as x y same low = omega (arith, ints)

pub returns-clause-rest : goal.returns-clause-rest
returns-clause-rest g c = λ small t h.
    let here = (goal.at.returns-clause-rest g c).After-struct_told-4-1 in
    let low = low_as c.ceil_s-radius.result (residue_radius c.args.gain.now (row g here) c.args.i) (radius_is g here) (radius-natural g.row.N 0 c.args.gain.now (row g here) (inside g here) c.args.i) in
    let fits = room_left c.abs.result c.take_shares-sums.result.size c.ceil_s-radius.result _ (c.from.result +ℤ c.rounded_share-of_right.result.nearest) (reach_sum g c) (abs_is g c) low small in
    c.take_shares-sums.ensures.rest fits t h ∙ ap (λ l. column_entry c.args.cols.now c.args.i t -ℤ rnd (l *ℤ at c.args.a.now t)) (gain_is g here)

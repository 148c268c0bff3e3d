use Rattle.std.proofs.Common.{◌≡◌, ℕ, ◌+◌, ◌<◌, ◌≤◌, length, ℤ, pos, ◌+ℤ◌, ◌-ℤ◌, ◌*ℤ◌, unsigned_abs, to_z, of_z, refl, sym, ap, ◌∙◌, arith}
use Rattle.std.proofs.lemmas.Int.{ints}
use mir.Syntax.{w64, w128}
use Rattle.set_rules.specs.Sum.{total, magnitude}
use Rattle.set_rules.specs.Columns.{at, column_entry}
use Rattle.set_rules.proofs.Sums.{total-zero, total-magnitudes-low}
use Rattle.fixed_mat.proofs.Bits.{next_sum}
use Rattle.zono_set.proofs.Steps.{narrowed}
use Rattle.zono_set.proofs.Taken.{zeros-at}
use Rattle.zono_set.proofs.Unrounded.{entry-narrow, share-narrow, raw-narrow, some-narrow, number-narrow}
use Rattle.zono_set.proofs.zono.unrounded.unrounded_sizes.Given.{Over}
use Rattle.zono_set.proofs.zono.unrounded.unrounded_sizes.Goals as goal
use Rattle.zono_set.proofs.zono.unrounded.unrounded_sizes.Goals.{After-at}

pub loop-t-init : goal.loop-t-init
loop-t-init g c = record { value = λ i h. zeros-at 8 i ∙ sym (total-zero _) }

module _ (g : Over) (c : After-at g) where
  abbrev number : ℤ
  number = at c.args.a.now c.loop-t.t

  below : c.loop-t.t < length c.args.cols.now
  below = let test = c.loop-t-test.true in let n = c.len-t-end.ensures.value in omega arith

  number_is : to_z w64 (of_z w64 (to_z w128 (of_z w128 c.at.result))) ≡ number
  number_is =
      let small = number-narrow c.args.a.now c.loop-t.t (let h = below in let k = c.requires.len in omega arith) c.requires.numbers in
      narrowed c.at.result number c.at.ensures.value (omega (arith, small))

  abbrev entry : ℕ → ℕ → ℤ
  entry k t = column_entry c.args.cols.now k t

  abbrev left : ℕ → ℕ → ℤ
  left k t = pos 1_000_000_000 *ℤ entry k t -ℤ at c.args.gain.now k *ℤ at c.args.a.now t

  entry_is : (k : ℕ) → at c.column.result.now k ≡ entry k c.loop-t.t
  entry_is k = ap (λ xs. at xs k) c.column.ensures.value

  left_is : (k : ℕ) → pos 1_000_000_000 *ℤ at c.column.result.now k -ℤ at c.args.gain.now k *ℤ to_z w64 (of_z w64 (to_z w128 (of_z w128 c.at.result))) ≡ left k c.loop-t.t
  left_is k = λ ι. pos 1_000_000_000 *ℤ entry_is k ι -ℤ at c.args.gain.now k *ℤ number_is ι

  more_is : (k : ℕ) → k < g.row.N → at c.loop-t.sizes k +ℤ magnitude (left k c.loop-t.t) ≡ total (c.loop-t.t + 1) (λ t. magnitude (left k t))
  more_is k h = next_sum (at c.loop-t.sizes k) (magnitude (left k c.loop-t.t)) c.loop-t.t (λ t. magnitude (left k t)) (c.loop-t.invariant.value k h) refl

  sum_small : (k : ℕ) → k < g.row.N → unsigned_abs (at c.loop-t.sizes k +ℤ magnitude (left k c.loop-t.t)) ≤ 9_000_000_000_000_000_000
  sum_small k h =
      let is = more_is k h in
      let under = below in
      let most = some-narrow (length c.args.cols.now) (entry k) (at c.args.gain.now k) c.args.a.now c.requires.len (c.requires.sizes k h) (c.loop-t.t + 1) (omega arith) in
      let low = total-magnitudes-low (c.loop-t.t + 1) (left k) in
      omega (arith, ints, is, most, low)

pub add_column-requires : goal.add_column-requires
add_column-requires g c =
    let here = (goal.at.add_column-requires g c).After-at in (
      omega arith,
      (
        c.column.ensures.size,
        (
          c.column.ensures.height_small,
          (
            λ k h. rw (entry_is g here k) (entry-narrow (length c.args.cols.now) (entry g here k) (at c.args.gain.now k) c.args.a.now c.requires.len (c.requires.sizes k h) c.loop-t.t (below g here)),
            (
              λ k h. rw (number_is g here) (share-narrow (length c.args.cols.now) (entry g here k) (at c.args.gain.now k) c.args.a.now c.requires.len (c.requires.sizes k h) c.loop-t.t (below g here)),
              (
                λ k h. rw (left_is g here k) (raw-narrow (length c.args.cols.now) (entry g here k) (at c.args.gain.now k) c.args.a.now c.requires.len (c.requires.sizes k h) c.loop-t.t (below g here)),
                λ k h. rw (left_is g here k) (sum_small g here k h),
              ),
            ),
          ),
        ),
      ),
    )

pub loop-t-preserved : goal.loop-t-preserved
loop-t-preserved g c =
    let here = (goal.at.loop-t-preserved g c).After-at in
    record { value = λ k h. c.add_column.ensures k h ∙ ap (λ v. at c.loop-t.sizes k +ℤ magnitude v) (left_is g here k) ∙ more_is g here k h }

use Rattle.std.proofs.Common.{◌+◌, ◌≤◌, length, unsigned_abs, inr, sym, ap, ◌∙◌, arith, subst}
use Rattle.set_rules.specs.Columns.{column_entry}
use Rattle.set_rules.specs.Zono.{Zono}
use Rattle.set_rules.proofs.ReductionHolds.{reduction-fits}
use Rattle.fixed_mat.proofs.Bits.{back}
use Rattle.observer_step.proofs.Taken.{row-taken}
use Rattle.observer_step.proofs.readings.take_row.Goals as goal

pub gain_within-gains-requires : goal.gain_within-gains-requires
gain_within-gains-requires g c = (
  omega arith,
  (
    omega arith,
    (
      inr (c.requires.columns ∙ ap (λ columns. length columns + 1) (sym c.cols.ensures.value)),
      λ i t h. subst (λ columns. unsigned_abs (column_entry columns i t) ≤ c.greatest_radius.result) (sym c.cols.ensures.value) (c.greatest_radius.ensures.entries i t h),
    ),
  ),
)

pub substitute_in-requires : goal.substitute_in-requires
substitute_in-requires g c =
    let long = c.requires.columns in
    let room = c.requires.room in
    let few = c.requires.states in
    (omega arith, (omega arith, (inr long, (subst (λ z. unsigned_abs z ≤ 10_000_000_000_000_000_000_000) (sym (back c.args.right (let h = c.requires.right in omega arith))) (let h = c.requires.right in omega arith), omega arith))))

pub reduce-requires : goal.reduce-requires
reduce-requires g c = (omega arith, (let few = c.requires.states in omega arith, omega arith))

pub returns-clause-value : goal.returns-clause-value
returns-clause-value g c =
    row-taken g.row.N (record { coefficients = c.args.room.now.row; right = c.args.right }) c.args.set.now _ c.cols.result.now c.gain_within-gains.result c.substitute_in.new.self c.reduce.new.self
    (back c.args.right (let h = c.requires.right in omega arith)) c.cols.ensures.value c.gain_within-gains.ensures c.substitute_in.ensures.value c.reduce.ensures.value

pub returns-clause-room : goal.returns-clause-room
returns-clause-room g c =
    let states = c.requires.states in
    let few = reduction-fits g.row.N 48 c.substitute_in.new.self.columns (omega arith) in
    let is = ap (λ (z : Zono). length z.columns) c.reduce.ensures.value in
    omega arith

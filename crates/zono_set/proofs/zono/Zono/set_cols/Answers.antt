use Rattle.std.proofs.Common.{length, ◌+ℤ◌, ◌≤ℤ◌, pos, mul-one, ap, ◌∙◌, sym, subst, arith}
use Rattle.set_rules.specs.Sum.{magnitude}
use Rattle.set_rules.specs.Columns.{at, row_magnitude}
use Rattle.set_rules.specs.Zono.{Zono, range, InRange}
use Rattle.set_rules.proofs.ImageSets.{length-tabulate}
use Rattle.zono_set.proofs.Kept.{added-are, added-within}
use Rattle.zono_set.proofs.zono.Zono.set_cols.Given.{Over}
use Rattle.zono_set.proofs.zono.Zono.set_cols.Goals as goal
use Rattle.zono_set.proofs.zono.Zono.set_cols.Goals.{After-deref}

fits : (g : Over) (c : After-deref g) → let new : Zono = record { centre = c.self.inside.centre; columns = c.args.g } in InRange g.row.N new
fits g c i h = subst (λ (z : Zono). (magnitude (at z.centre i) +ℤ row_magnitude c.args.g i) ≤ℤ pos range) (sym c.self.view_is) (c.requires i h)

pub replace-requires : goal.replace-requires
replace-requires g c =
    let z : Zono = record { centre = c.self.inside.centre; columns = c.args.g } in
    let is = c.deref.ensures.0 ∙ c.magnitudes.ensures in
    let long = ap length is ∙ length-tabulate g.row.N (row_magnitude c.args.g) in
    (omega arith, (long ∙ sym (mul-one g.row.N), added-within g.row.N z c.deref.result.now (fits g c) is))

pub invariant_of-self : goal.invariant_of-self
invariant_of-self g c = record {
  set = record {
    low = c.self.invariant.set.low;
    high = c.self.invariant.set.high;
    in_range = fits g (goal.at.invariant_of-self g c).After-deref;
  };
  radii_are = added-are g.row.N (row_magnitude c.args.g) c.replace.new.self (c.replace.ensures ∙ c.deref.ensures.0 ∙ c.magnitudes.ensures);
}

use Rattle.std.proofs.Common.{List, ℤ, ap, ◌∙◌, sym, subst}
use Rattle.set_rules.specs.Columns.{row_magnitude}
use Rattle.set_rules.specs.Zono.{Zono}
use Rattle.zono_set.specs.Holds.{HoldsMore}
use Rattle.zono_set.proofs.Taken.{in_range-padded, row_magnitude-padded, holds-padded}
use Rattle.zono_set.proofs.zono.Zono.add_symbol.Goals as goal

pub invariant_of-self : goal.invariant_of-self
invariant_of-self g c = record {
  set = record {
    low = c.self.invariant.set.low;
    high = c.self.invariant.set.high;
    in_range = in_range-padded g.row.N (record { centre = c.self.inside.centre; columns = c.self.inside.cols }) c.push_zero.new.cols c.push_zero.ensures c.self.invariant.set.in_range;
  };
  radii_are = λ i h. c.self.invariant.radii_are i h ∙ sym (ap (λ (columns : List (List ℤ)). row_magnitude columns i) c.push_zero.ensures ∙ row_magnitude-padded g.row.N c.self.inside.cols i);
}

pub returns-clause-keeps : goal.returns-clause-keeps
returns-clause-keeps g c =
    subst (λ (z : Zono). HoldsMore g.row.N z (record { centre = c.self.inside.centre; columns = c.push_zero.new.cols })) c.self.view_is
    (holds-padded g.row.N (record { centre = c.self.inside.centre; columns = c.self.inside.cols }) c.push_zero.new.cols c.push_zero.ensures)

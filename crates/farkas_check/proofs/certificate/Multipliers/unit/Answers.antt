use Rattle.std.proofs.Common.{◌≡◌, true, sym, arith, subst}
use Rattle.farkas_check.specs.Multipliers.{are_small}
use Rattle.farkas_check.proofs.Values.{unit-values, unit-small}
use Rattle.farkas_check.proofs.certificate.Multipliers.unit.Goals as goal

pub invariant_of-result : goal.invariant_of-result
invariant_of-result c = record {
  some = omega arith;
  few = c.requires.few;
  small = subst (λ list. are_small list ≡ true) (sym (unit-values c.args.count c.args.r c.requires.few c.requires.row)) (unit-small c.args.count c.args.r);
}

pub returns : goal.returns
returns c = unit-values c.args.count c.args.r c.requires.few c.requires.row

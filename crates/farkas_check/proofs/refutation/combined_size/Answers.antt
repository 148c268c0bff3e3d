use Rattle.std.proofs.Common.{◌+ℤ◌, pos, unsigned_abs, SFits, to_z-of_z, sym, ap, ◌∙◌, rules, arith}
use mir.Syntax.{w128}
use Rattle.set_rules.specs.Sum.{magnitude}
use Rattle.set_rules.specs.Farkas.{combined_coefficient}
use Rattle.set_rules.proofs.Sums.{total-zero, total-more}
use Rattle.farkas_check.proofs.refutation.combined_size.Goals as goal

pub loop-t-init : goal.loop-t-init
loop-t-init c = record { value = sym (total-zero _); within = search rules }

pub loop-t-preserved : goal.loop-t-preserved
loop-t-preserved c =
    let fits : SFits w128 c.combined_coefficient.result = record { sfits = c.combined_coefficient.type_inv } in
    let size = c.unsigned_abs-size.ensures.value ∙ ap unsigned_abs (to_z-of_z fits) in
    let is = size ∙ ap unsigned_abs c.combined_coefficient.ensures.value in
    record {
      value = (λ i. c.loop-t.invariant.value i +ℤ ap pos is i) ∙ sym (total-more c.loop-t.t (λ t. magnitude (combined_coefficient c.args.rows.now.rows c.args.list.now t)));
      within = omega arith;
    }

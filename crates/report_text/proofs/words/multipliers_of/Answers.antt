use Rattle.std.proofs.Common.{◌≡◌, ◌<◌, [], ◌∷◌, ◌++◌, length, ap, ◌∙◌, arith, rules, to_z, of_z, w32, SFits, to_z-of_z}
use Rattle.std.proofs.lemmas.Bool.Decides.{nat_tests}
use Rattle.report_text.specs.Loose.{multiplier_of}
use Rattle.report_text.proofs.Filled.{filled_more, filled_full, filled_all}
use Rattle.report_text.proofs.words.multipliers_of.Goals as goal

pub loop-multipliers-preserved : goal.loop-multipliers-preserved
loop-multipliers-preserved c =
    let some : 0 < length c.loop-multipliers.rest.now = grind (arith, nat_tests) in
    let room : length c.loop-multipliers.multipliers.items < 6 = grind (arith, nat_tests) in
    let back : to_z w32 (of_z w32 c.multiplier_of.result) ≡ c.multiplier_of.result = (let fits : SFits w32 c.multiplier_of.result = search rules in to_z-of_z fits) in
    let pushed = c.push.ensures.items ∙ ap (λ x. c.loop-multipliers.multipliers.items ++ x ∷ []) (back ∙ c.multiplier_of.ensures ∙ ap multiplier_of c.cut.ensures.word) in
    record {
      few = omega arith;
      items = rw c.cut.ensures.rest
          (filled_more multiplier_of 6 c.args.text.now c.loop-multipliers.multipliers.items c.push.new.self.items c.loop-multipliers.rest.now room some pushed c.loop-multipliers.invariant.items);
    }

pub returns-else-not-is_full : goal.returns-else-not-is_full
returns-else-not-is_full c =
    let full : length c.loop-multipliers.multipliers.items ≡ 6 = grind (arith, nat_tests) in
    filled_full multiplier_of 6 c.args.text.now c.loop-multipliers.multipliers.items c.loop-multipliers.rest.now full c.loop-multipliers.invariant.items

pub returns-after-loop-multipliers : goal.returns-after-loop-multipliers
returns-after-loop-multipliers c =
    let none : length c.loop-multipliers.rest.now ≡ 0 = grind (arith, nat_tests) in
    filled_all multiplier_of 6 c.args.text.now c.loop-multipliers.multipliers.items c.loop-multipliers.rest.now none c.loop-multipliers.invariant.items

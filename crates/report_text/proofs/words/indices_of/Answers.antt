use Rattle.std.proofs.Common.{◌≡◌, ◌<◌, [], ◌∷◌, ◌++◌, length, ap, ◌∙◌, arith}
use Rattle.std.proofs.lemmas.Bool.Decides.{nat_tests}
use Rattle.report_text.specs.Loose.{index_of}
use Rattle.report_text.proofs.Filled.{filled_more, filled_full, filled_all}
use Rattle.report_text.proofs.words.indices_of.Goals as goal

pub loop-indices-preserved : goal.loop-indices-preserved
loop-indices-preserved c =
    let some : 0 < length c.loop-indices.rest.now = grind (arith, nat_tests) in
    let room : length c.loop-indices.indices.items < 16 = grind (arith, nat_tests) in
    let pushed = c.push.ensures.items ∙ ap (λ x. c.loop-indices.indices.items ++ x ∷ []) (c.index_of.ensures ∙ ap index_of c.cut.ensures.word) in
    record {
      few = omega arith;
      items = rw c.cut.ensures.rest
          (filled_more index_of 16 c.args.text.now c.loop-indices.indices.items c.push.new.self.items c.loop-indices.rest.now room some pushed c.loop-indices.invariant.items);
    }

pub returns-else-not-is_full : goal.returns-else-not-is_full
returns-else-not-is_full c =
    let full : length c.loop-indices.indices.items ≡ 16 = grind (arith, nat_tests) in
    filled_full index_of 16 c.args.text.now c.loop-indices.indices.items c.loop-indices.rest.now full c.loop-indices.invariant.items

pub returns-after-loop-indices : goal.returns-after-loop-indices
returns-after-loop-indices c =
    let none : length c.loop-indices.rest.now ≡ 0 = grind (arith, nat_tests) in
    filled_all index_of 16 c.args.text.now c.loop-indices.indices.items c.loop-indices.rest.now none c.loop-indices.invariant.items

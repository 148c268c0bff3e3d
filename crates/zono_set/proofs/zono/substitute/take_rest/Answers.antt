use Rattle.std.proofs.Common.{ℕ, ◌<◌, length, length-append, length-drop, drop, set, List, ℤ, refl, ap, ◌∙◌, arith}
use Rattle.set_rules.specs.Columns.{column_entry, tabulate}
use Rattle.set_rules.proofs.ImageSets.{length-tabulate}
use Rattle.zono_set.proofs.Steps.{replaced_more}
use Rattle.zono_set.proofs.zono.substitute.take_rest.Goals as goal

pub take_column-requires : goal.take_column-requires
take_column-requires g c =
    let f : ℕ → List ℤ = λ t. tabulate g.row.N (λ i. column_entry c.args.rest.now t i) in
    let below : c.loop-t.t < length c.args.cols.now = let n = c.len-t-end.ensures.value in omega arith in
    let long = ap length c.loop-t.invariant ∙ length-append (tabulate c.loop-t.t f) (drop c.loop-t.t c.args.cols.now) in
    let first = length-tabulate c.loop-t.t f in
    let rest = length-drop c.loop-t.t c.args.cols.now in
    (omega arith, (omega arith, λ i h. c.requires i h c.loop-t.t below))

pub loop-t-preserved : goal.loop-t-preserved
loop-t-preserved g c =
    let f : ℕ → List ℤ = λ t. tabulate g.row.N (λ i. column_entry c.args.rest.now t i) in
    let below : c.loop-t.t < length c.args.cols.now = let n = c.len-t-end.ensures.value in omega arith in
    c.take_column.ensures ∙ (λ ι. set (c.loop-t.invariant ι) c.loop-t.t (f c.loop-t.t)) ∙ replaced_more c.args.cols.now f c.loop-t.t below (f c.loop-t.t) refl

use Rattle.std.proofs.Common.{◌≡◌, ℕ, length, ℤ, ap, ◌∙◌, arith}
use Rattle.std.proofs.lemmas.List.FromFn.{length-map-range_with_len}
use Rattle.set_rules.specs.Columns.{column_entry, tabulate}
use Rattle.set_rules.specs.Zono.{range}
use Rattle.zono_set.proofs.Steps.{filled-all}
use Rattle.zono_set.proofs.zono.substitute.take_column.Goals as goal

pub replace-requires : goal.replace-requires
replace-requires g c =
    let end : c.loop-i.i ≡ g.row.N = omega arith in
    let f : ℕ → ℤ = λ i. column_entry c.args.rest.now c.args.t i in
    let is = c.deref.ensures.0 ∙ c.loop-i.invariant ∙ ap (λ n. tabulate n f) end in
    let long = ap length is ∙ length-map-range_with_len f 0 g.row.N in
    (omega arith, (c.requires.column, (long, filled-all g.row.N f c.deref.result.now range is c.requires.fits)))

use Rattle.std.proofs.Common.{◌≤◌, ◌≡◌, ◌^◌, [], length, unsigned_abs, arith, ap, ◌∙◌, SFits, to_z, of_z, to_z-of_z, ◌*ℤ◌}
use Rattle.std.proofs.lemmas.List.FromFn.{length-map-range_with_len}
use Rattle.std.proofs.lemmas.List.Elements.{All-push}
use mir.Syntax.{w64, w128}
use Rattle.set_rules.specs.Columns.{at, column_entry}
use Rattle.set_rules.specs.Limits.{coef}
use Rattle.set_rules.specs.Gain.{gain_of}
use Rattle.set_rules.proofs.Greatest.{greatest_entry-at}
use Rattle.fixed_mat.proofs.Columns.{pushes}
use Rattle.fixed_mat.proofs.Fits.{sum_fits}
use Rattle.row_drop.specs.Rows.{state_product, gains_from}
use Rattle.row_drop.proofs.Plain.{gain-plain}
use Rattle.row_drop.proofs.Shrinking.{reaches}
use Rattle.row_drop.proofs.Sizes.{sizes-within}
use Rattle.row_drop.proofs.gains.ratios_in.Given.{Over}
use Rattle.row_drop.proofs.gains.ratios_in.Goals as goal
use Rattle.row_drop.proofs.gains.ratios_in.Goals.{After-wide}

product_is : (g : Over) (c : After-wide g) → to_z w128 (of_z w128 c.wide.result) ≡ state_product c.args.cols.now c.args.a.now c.loop-i.i
product_is g c =
    let whole : SFits w128 c.wide.result = record { sfits = c.wide.type_inv } in
    to_z-of_z whole ∙ c.wide.ensures ∙ c.product_in-product.ensures

pub ratio-requires : goal.ratio-requires
ratio-requires g c =
    let columns = c.args.cols.now in
    let row = c.args.a.now in
    let small = c.requires.row in
    let fits = sizes-within (2 ^ 80) (2 ^ 40) (length columns) (column_entry columns c.loop-i.i) row (reaches 0 row columns c.requires.long)
    (λ t _. let most = greatest_entry-at columns c.loop-i.i t in let entries = c.requires.entries in omega (arith, most, entries))
    (omega (arith, small)) in
    let count = length columns in
    let size = sum_fits (2 ^ 80) count (λ t. column_entry columns c.loop-i.i t *ℤ at row t) fits count (omega arith) in
    rw (product_is g (goal.at.ratio-requires g c).After-wide) (omega (arith, size))

pub push-requires : goal.push-requires
push-requires g c =
    let long = ap length c.loop-i.invariant.value ∙ length-map-range_with_len _ 0 c.loop-i.i in
    let small = c.len.ensures.height_small in
    (omega arith, omega arith)

pub loop-i-preserved : goal.loop-i-preserved
loop-i-preserved g c =
    let fits : SFits w64 c.ratio.result = record { sfits = c.ratio.type_inv } in
    let product = product_is g (goal.at.loop-i-preserved g c).After-wide in
    record {
      value = pushes [] _ _ _ _ _ c.loop-i.invariant.value c.push.ensures.items
          (to_z-of_z fits ∙ c.ratio.ensures.value ∙ ap (λ p. gain_of p (to_z w128 (of_z w128 c.plain_square-square.result))) product);
      within = rw (c.push.ensures.items, to_z-of_z fits)
          (All-push (λ z. unsigned_abs z ≤ coef) c.loop-i.gains.items c.ratio.result c.loop-i.invariant.within c.ratio.ensures.within);
    }

pub returns-clause-value : goal.returns-clause-value
returns-clause-value g c =
    let square_fits : SFits w128 c.plain_square-square.result = record { sfits = c.plain_square-square.type_inv } in
    let square = to_z-of_z square_fits ∙ c.plain_square-square.ensures in
    let end : c.loop-i.i ≡ g.row.N = omega arith in
    gain-plain g.row.N c.args.a.now c.args.cols.now _ c.requires.long c.requires.entries c.requires.row
    (c.loop-i.invariant.value ∙ (λ ι. gains_from (end ι) (state_product c.args.cols.now c.args.a.now) (square ι)))

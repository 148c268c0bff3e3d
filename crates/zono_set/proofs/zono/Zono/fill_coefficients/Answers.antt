use Rattle.std.proofs.Common.{◌≡◌, ap, ◌∙◌, sym, subst, arith}
use Rattle.std.proofs.lemmas.Int.{ints}
use Rattle.set_rules.specs.Zono.{Zono, zono_of}
use Rattle.set_rules.specs.Strip.{output_row, output_size, output_residue}
use Rattle.set_rules.specs.Products.{rounded_row, rounded_size, row_residue}
use Rattle.fixed_mat.specs.Fits.{FitsRow}
use Rattle.fixed_mat.proofs.Fits.{wide_row}
use Rattle.zono_set.proofs.OneRow.{row_is, size_is, residue_is}
use Rattle.zono_set.proofs.Sizes.{narrow-sizes}
use Rattle.zono_set.proofs.zono.Zono.fill_coefficients.Given.{Over}
use Rattle.zono_set.proofs.zono.Zono.fill_coefficients.Goals as goal
use Rattle.zono_set.proofs.zono.Zono.fill_coefficients.Goals.{After-has_narrow_row}

module _ (g : Over) (c : After-has_narrow_row g) where
  abbrev inside : Zono
  inside = zono_of c.self.inside.centre c.self.inside.cols

  size : rounded_size g.row.N c.args.c_row.now 0 c.self.inside.cols ≡ output_size g.row.N c.args.c_row.now c.args.self.now
  size = size_is g.row.N c.args.c_row.now inside ∙ ap (λ (z : Zono). output_size g.row.N c.args.c_row.now z) c.self.view_is

  row : rounded_row g.row.N c.args.c_row.now 0 c.self.inside.cols ≡ output_row g.row.N c.args.c_row.now c.args.self.now
  row = row_is g.row.N c.args.c_row.now inside ∙ ap (λ (z : Zono). output_row g.row.N c.args.c_row.now z) c.self.view_is

  left : row_residue g.row.N c.args.c_row.now 0 c.self.inside.cols ≡ output_residue g.row.N c.args.c_row.now c.args.self.now
  left = residue_is g.row.N c.args.c_row.now inside ∙ ap (λ (z : Zono). output_residue g.row.N c.args.c_row.now z) c.self.view_is

pub fill-requires : goal.fill-requires
fill-requires g c =
    let products = subst (λ (z : Zono). FitsRow 9_000_000_000_000_000_000 g.row.N c.args.c_row.now 0 z.columns) (sym c.self.view_is) (c.has_narrow_row.ensures c.if-has_narrow_row.true) in
    let sizes = narrow-sizes g.row.N c.args.c_row.now 0 c.self.inside.cols c.tell_products.ensures.few products in
    (omega arith, (omega arith, (omega arith, (products, (omega (arith, ints, sizes), omega (arith, ints, sizes))))))

pub fill-requires-else-has_narrow_row : goal.fill-requires-else-has_narrow_row
fill-requires-else-has_narrow_row g c =
    let here = (goal.at.fill-requires-else-has_narrow_row g c).After-has_narrow_row in
    let is = size g here in
    let spread = c.requires.spread in
    let products = wide_row g.row.N c.args.c_row.now 0 c.self.inside.cols c.tell_products.ensures.height (c.tell_products.ensures.rows 0 (omega arith)) in
    (omega arith, (omega arith, (omega arith, (products, (omega (arith, ints, is, spread), omega (arith, ints, is, spread))))))

pub returns-then-has_narrow_row-clause-coefficients : goal.returns-then-has_narrow_row-clause-coefficients
returns-then-has_narrow_row-clause-coefficients g c = c.fill.ensures.coefficients ∙ row g (goal.at.returns-then-has_narrow_row-clause-coefficients g c).After-has_narrow_row

pub returns-then-has_narrow_row-clause-left : goal.returns-then-has_narrow_row-clause-left
returns-then-has_narrow_row-clause-left g c = c.fill.ensures.left ∙ left g (goal.at.returns-then-has_narrow_row-clause-left g c).After-has_narrow_row

pub returns-else-has_narrow_row-clause-coefficients : goal.returns-else-has_narrow_row-clause-coefficients
returns-else-has_narrow_row-clause-coefficients g c = c.fill-else-has_narrow_row.ensures.coefficients ∙ row g (goal.at.returns-else-has_narrow_row-clause-coefficients g c).After-has_narrow_row

pub returns-else-has_narrow_row-clause-left : goal.returns-else-has_narrow_row-clause-left
returns-else-has_narrow_row-clause-left g c = c.fill-else-has_narrow_row.ensures.left ∙ left g (goal.at.returns-else-has_narrow_row-clause-left g c).After-has_narrow_row

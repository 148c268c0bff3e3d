use Rattle.std.proofs.Common.{◌*ℤ◌, SFits, to_z-of_z, arith}
use mir.Syntax.{w128}
use Rattle.set_rules.specs.Columns.{entry, column_entry}
use Rattle.fixed_mat.specs.Fits.{widest_product}
use Rattle.fixed_mat.proofs.Fits.{wide_row, sum_fits}
use Rattle.fixed_mat.proofs.products.dot.Goals as goal

pub column_product-requires : goal.column_product-requires
column_product-requires g c =
    let fits = wide_row g.row.N c.args.row.now 0 c.args.cols.now c.tell_products.ensures.height (c.tell_products.ensures.rows 0 (omega arith)) c.args.t c.requires in
    (omega arith, (omega arith, (omega arith, (c.requires, fits))))

pub returns-clause-within : goal.returns-clause-within
returns-clause-within g c =
    let whole : SFits w128 c.column_product.result = record { sfits = c.column_product.type_inv } in
    rw (to_z-of_z whole, c.column_product.ensures.value)
    (sum_fits (widest_product g.row.N) g.row.N (λ l. entry g.row.N c.args.row.now 0 l *ℤ column_entry c.args.cols.now l c.args.t) (c.tell_products.ensures.rows 0 (omega arith) c.args.t c.requires) g.row.N (omega arith))

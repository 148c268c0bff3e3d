use Rattle.std.proofs.Common.{arith}
use Rattle.fixed_mat.proofs.Fits.{wide_row}
use Rattle.zono_set.proofs.zono.image.move_columns.Goals as goal

pub move_each-requires : goal.move_each-requires
move_each-requires g c = (omega arith, (omega arith, (λ i h. c.requires.narrow c.if-narrow.true i h, c.requires.fits)))

pub move_each-requires-else-narrow : goal.move_each-requires-else-narrow
move_each-requires-else-narrow g c =
    (omega arith, (omega arith, (λ i h. wide_row g.row.N c.args.a.now i c.args.cols.now c.tell_products.ensures.height (c.tell_products.ensures.rows i h), c.requires.fits)))

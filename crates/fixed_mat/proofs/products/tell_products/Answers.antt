use Rattle.fixed_mat.proofs.Fits.{rows_fit}
use Rattle.fixed_mat.proofs.products.tell_products.Goals as goal

pub returns-clause-rows : goal.returns-clause-rows
returns-clause-rows g c =
    rows_fit g.row.R g.row.N c.args.a.now c.args.cols.now c.entries.ensures.size c.entries.ensures.within c.tell.ensures

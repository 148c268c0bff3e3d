use Rattle.fixed_mat.proofs.Columns.{height_in}
use Rattle.fixed_mat.proofs.cols.Cols.tell_heights.Goals as goal

pub returns : goal.returns
returns g c = height_in g.row.N c.self.inside.count c.self.inside.cells.items c.args.self.now c.self.view_is c.self.invariant.size

use Rattle.std.proofs.Common.{List, ℤ, ap, ◌∙◌}
use Rattle.set_rules.specs.Columns.{column_entry, row_magnitude}
use Rattle.zono_set.proofs.Taken.{padded, row_magnitude-padded}
use Rattle.zono_set.proofs.zono.substitute.pad.Goals as goal

pub returns-then-len-clause-same : goal.returns-then-len-clause-same
returns-then-len-clause-same g c = λ i t. ap (λ (columns : List (List ℤ)). column_entry columns i t) c.push_zero.ensures ∙ padded g.row.N c.args.cols.now i t

pub returns-then-len-clause-radii : goal.returns-then-len-clause-radii
returns-then-len-clause-radii g c = λ i. ap (λ (columns : List (List ℤ)). row_magnitude columns i) c.push_zero.ensures ∙ row_magnitude-padded g.row.N c.args.cols.now i

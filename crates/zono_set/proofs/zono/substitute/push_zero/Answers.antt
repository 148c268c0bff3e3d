use Rattle.std.proofs.Common.{[], ◌∷◌, ◌++◌, List, ℤ, ap, ◌∙◌}
use Rattle.zono_set.proofs.Taken.{zero-column}
use Rattle.zono_set.proofs.zono.substitute.push_zero.Goals as goal

pub returns : goal.returns
returns g c = c.push_diagonal.ensures ∙ ap (λ (column : List ℤ). c.args.cols.now ++ column ∷ []) (zero-column g.row.N)

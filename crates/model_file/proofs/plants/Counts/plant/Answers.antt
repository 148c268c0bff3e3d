use Rattle.std.proofs.Common.{Ok, refl, sym, ap, subst, ◌∙◌, rules}
use Rattle.std.specs.Result.{IsOk}
use Rattle.std.proofs.lemmas.Result.{err_from_is_err_and}
use Rattle.toml.specs.View.{view}
use Rattle.model_file.specs.Models.{plant_in}
use Rattle.model_file.specs.Parts.{matrices_seen, bounds_seen}
use Rattle.model_file.proofs.Bounded.{bounds_pass, ok-value}
use Rattle.model_file.proofs.plants.Counts.plant.Goals.{After-of, After-unwrap}
use Rattle.model_file.proofs.plants.Counts.plant.Goals as goal

pub unwrap-requires : goal.unwrap-requires
unwrap-requires g c =
    let ok = c.of.ensures ∙ bounds_pass c.args.model g.row.N c.args.self (view c.args.table.now) (matrices_seen c.in_ok-matrices.matrices) (bounds_seen c.in_ok-bounds.bounds) (sym c.in_ok-bounds.ensures) c.requires.some c.requires.few c.requires.counts in
    subst (λ r. IsOk r) (sym ok) (search rules)

pub returns-in_err-matrices : goal.returns-in_err-matrices
unfolding plant_in
returns-in_err-matrices g c =
    let p = err_from_is_err_and c.from_residual.result c.from_residual.ensures.1 in
    rw (p.1, p.2, ← c.in_err-matrices.ensures) refl

pub returns-in_err-bounds : goal.returns-in_err-bounds
unfolding plant_in
returns-in_err-bounds g c =
    let p = err_from_is_err_and c.from_residual-in_err-bounds.result c.from_residual-in_err-bounds.ensures.1 in
    rw (p.1, p.2, ← c.in_ok-matrices.ensures, ← c.in_err-bounds.ensures) refl

pub returns : goal.returns
unfolding plant_in
returns g c =
    let ok = bounds_pass c.args.model g.row.N c.args.self (view c.args.table.now) (matrices_seen c.in_ok-matrices.matrices) (bounds_seen c.in_ok-bounds.bounds) (sym c.in_ok-bounds.ensures) c.requires.some c.requires.few c.requires.counts in
    rw (← c.in_ok-matrices.ensures, ← c.in_ok-bounds.ensures) (ap (λ p. Ok p) (ok-value _ _ (sym c.unwrap.ensures ∙ c.of.ensures ∙ ok)))

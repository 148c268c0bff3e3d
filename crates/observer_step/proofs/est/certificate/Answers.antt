use Rattle.std.proofs.Common.{Some, ap, sym, ◌∙◌}
use Rattle.set_rules.specs.Farkas.{passes, first_candidate}
use Rattle.farkas_check.specs.Certificate.{by_rows, list_of}
use Rattle.farkas_check.specs.Multipliers.{are_multipliers}
use Rattle.observer_step.specs.Answers.{is_chosen}
use Rattle.observer_step.specs.SetsAnswers.{if_multipliers}
use Rattle.observer_step.proofs.Chosen.{candidate-chosen}
use Rattle.observer_step.proofs.est.certificate.Goals as goal

pub returns-in-Some-first_candidate : goal.returns-in-Some-first_candidate
returns-in-Some-first_candidate c =
    let width = c.args.rows.now.width in
    let rows = c.args.rows.now.rows in
    let list = list_of c.in-Some-first_candidate.multipliers in
    ap (λ d. is_chosen d (passes width rows) (if_multipliers (first_candidate width rows)) (Some (by_rows list))) c.in_default.is
    ∙ candidate-chosen (passes width rows) (first_candidate width rows) list c.in-Some-first_candidate.ensures.value
    (ap are_multipliers (sym c.list.ensures.value) ∙ c.list.ensures.multipliers)

use Rattle.std.proofs.Common.{◌≡◌, ◌+◌, ◌≤◌, length, Some, arith, subst}
use Rattle.std.proofs.lemmas.List.{length-map}
use Rattle.outside_io.proofs.Fronts.{on-ok}
use Rattle.model_file.specs.Bank.{Named}
use Rattle.model_bank.specs.Bank.{names_in}
use Rattle.cert_replay.specs.Window.{TakesLines}
use Rattle.cert_replay.proofs.Comparing.{if-err}
use Rattle.cert_replay.proofs.Heads.{head-stands, head-other}
use Rattle.cert_replay.proofs.checking.check_head.Goals as goal

pub returns-clause-stands : goal.returns-clause-stands
returns-clause-stands g c =
    let m = c.args.models.now in
    let many : length (names_in m) ≡ length m.models = length-map m.models (λ (n : Named). n.name) in
    let few : length (names_in m) ≤ 16 = omega (arith, many, c.count.ensures.limits.few_models) in
    on-ok c.compare_head.result _ _ (λ t named bytes u.
    head-stands (names_in m) few named bytes c.args.window.now c.take_lines.new.self (g.F.Shelf.state c.args.shelf.now) (g.F.Shelf.state c.take_lines.new.shelf) c.requires.begins u c.in_ok-take_lines.ensures.ahead
    c.compare_head.new.self t) c.compare_head.ensures.same

pub returns-clause-departs : goal.returns-clause-departs
returns-clause-departs g c =
    let m = c.args.models.now in
    let many : length (names_in m) ≡ length m.models = length-map m.models (λ (n : Named). n.name) in
    let few : length (names_in m) ≤ 16 = omega (arith, many, c.count.ensures.limits.few_models) in
    let lines : 1 + c.count.result ≡ 1 + length (names_in m) = omega (arith, many, c.count.ensures.value) in
    let taken = subst (λ n. TakesLines n (Some 0) c.args.window.now (g.F.Shelf.state c.args.shelf.now) c.take_lines.new.self c.in_ok-take_lines.field-0) lines c.in_ok-take_lines.ensures.taken in
    if-err c.compare_head.result _ _ (λ fault h named bytes u line e.
    head-other (names_in m) few named bytes c.args.window.now c.take_lines.new.self (g.F.Shelf.state c.args.shelf.now) (g.F.Shelf.state c.take_lines.new.shelf) c.requires.begins u c.in_ok-take_lines.ensures.ahead
    c.in_ok-take_lines.field-0 taken line (h line e)) c.compare_head.ensures.departs

use Rattle.std.proofs.Common.{sym, ◌∙◌, ap}
use Rattle.telem_csv.specs.Cutter.{judged_last}
use Rattle.telem_csv.proofs.Owed.{finished_by_steps, rows_of_finish, telemetry_of_finish}
use Rattle.telem_csv.proofs.cutter.LineCutter.finish.Goals as goal

pub returns-clause-rows : goal.returns-clause-rows
returns-clause-rows c goes =
    let done = finished_by_steps c.args.self.now _ _ goes (c.self-2.view_is ∙ c.go_on.ensures) (c.last_line-self-inside.ensures ∙ sym (ap (λ cur. judged_last cur cur.bytes) c.self-2.view_is)) in
    rows_of_finish c.args.self.now _ _ (rw (sym c.self.view_is) c.self.invariant.no_feed) done.is_answer done.is_after goes

pub returns-clause-telemetry : goal.returns-clause-telemetry
returns-clause-telemetry c goes =
    let done = finished_by_steps c.args.self.now _ _ goes (c.self-2.view_is ∙ c.go_on.ensures) (c.last_line-self-inside.ensures ∙ sym (ap (λ cur. judged_last cur cur.bytes) c.self-2.view_is)) in
    telemetry_of_finish c.args.self.now _ _ (rw (sym c.self.view_is) c.self.invariant.no_feed) done.is_answer done.is_after goes

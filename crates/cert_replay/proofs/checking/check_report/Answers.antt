use Rattle.std.proofs.Common.{◌≡◌, [], ◌++◌, length, replicate, true, sym, ap, ◌∙◌, arith, subst}
use Rattle.std.proofs.lemmas.List.{length-map}
use Rattle.std.proofs.lemmas.Result.{err_from_is_err_and}
use Rattle.outside_io.specs.Shelf.{SlotState}
use Rattle.plant_model.specs.Plant.{Plant}
use Rattle.telem_csv.specs.Cutter.{rows_owed}
use Rattle.model_bank.specs.Bank.{names_in, plants_in}
use Rattle.input_files.specs.Left.{left_of}
use Rattle.monitor_run.proofs.Opened.{of-some}
use Rattle.std.specs.Prelude.{IfSome}
use Rattle.cert_replay.specs.Ends.{SaysOfChecked}
use Rattle.cert_replay.specs.Window.{HasUnread}
use Rattle.cert_replay.proofs.Counted.{length-plants, are-models, begun-checked, head-fault, memory-checked}
use Rattle.monitor_run.proofs.InTime.{piece-short, some-both}
use Rattle.cert_replay.proofs.Ahead.{head-in_time, RowsEnd}
use Rattle.cert_replay.proofs.checking.check_report.Goals as goal

pub returns-in_err-check_head-clause-says : goal.returns-in_err-check_head-clause-says
returns-in_err-check_head-clause-says g c = λ named bytes told.
    let m = c.args.models in
    let shelf = g.F.Shelf.state c.args.shelf.now in
    let u : HasUnread c.new-window.result shelf bytes = record { rest = bytes; told = told; is = sym (ap (λ x. x ++ bytes) c.new-window.ensures.left) } in
    let p = err_from_is_err_and c.from_residual.result c.from_residual.ensures.1 in
    rw (p.1, p.2)
    (of-some (shelf.slot 1).rest _ (λ r. head-fault (names_in m) (plants_in m) bytes c.in_err-check_head.field-0.0 c.in_err-check_head.ensures.fault (c.in_err-check_head.ensures.departs named bytes u)
    (rows_owed c.args.head.now c.args.stream.now.cutter (left_of c.args.stream.now ++ r))))

pub returns-in-Ok-clause-says : goal.returns-in-Ok-clause-says
returns-in-Ok-clause-says g c = λ named bytes told.
    let m = c.args.models in
    let names = names_in m in
    let ps = plants_in m in
    let shelf = g.F.Shelf.state c.args.shelf.now in
    let after = g.F.Shelf.state c.check_head.new.shelf in
    let telemetry : after.slot 1 ≡ shelf.slot 1 = c.check_head.ensures.kept.others.slots 1 (omega arith) (omega arith) in
    let u : HasUnread c.new-window.result shelf bytes = record { rest = bytes; told = told; is = sym (ap (λ x. x ++ bytes) c.new-window.ensures.left) } in
    let head = c.in_ok-check_head.ensures.stands named bytes u in
    let possible = c.all_possible-last.ensures ∙ ap (λ n. replicate n true) (c.count.ensures.value ∙ sym (length-plants m)) in
    let begun = begun-checked names ps bytes _ after head c.in-Ok.ensures.stands possible in
    let models = are-models m c.of-counts.result c.count.ensures.limits c.of-counts.ensures in
    subst (λ (x : SlotState). IfSome x.rest (λ r. SaysOfChecked names ps c.check_rows.result (rows_owed c.args.head.now c.args.stream.now.cutter (left_of c.args.stream.now ++ r)) bytes)) telemetry
    (c.check_rows.ensures.says names ps bytes models begun)

pub returns-in-Err-clause-says : goal.returns-in-Err-clause-says
returns-in-Err-clause-says g c = λ named bytes told.
    let m = c.args.models in
    of-some ((g.F.Shelf.state c.args.shelf.now).slot 1).rest _ (λ r. memory-checked (names_in m) (plants_in m) bytes (rows_owed c.args.head.now c.args.stream.now.cutter (left_of c.args.stream.now ++ r)))

pub check_rows-requires-clause-ready : goal.check_rows-requires-clause-ready
check_rows-requires-clause-ready g c =
    let m = c.args.models in
    record {
      as_many = sym (ap length c.of-counts.ensures.states_are) ∙ length-map (plants_in m) (λ (p : Plant). p.states) ∙ length-plants m ∙ sym c.in-Ok.ensures.members;
      lines = omega (arith, c.in_ok-check_head.ensures.few, c.in-Ok.ensures.count);
    }

pub returns-in_err-check_head-clause-in_time : goal.returns-in_err-check_head-clause-in_time
returns-in_err-check_head-clause-in_time g c = λ named bytes told.
    let m = c.args.models in
    let shelf = g.F.Shelf.state c.args.shelf.now in
    let after = g.F.Shelf.state c.check_head.new.shelf in
    let u : HasUnread c.new-window.result shelf bytes = record { rest = bytes; told = told; is = sym (ap (λ x. x ++ bytes) c.new-window.ensures.left) } in
    let telemetry : after.slot 1 ≡ shelf.slot 1 = c.check_head.ensures.kept.others.slots 1 (omega arith) (omega arith) in
    let p = err_from_is_err_and c.from_residual.result c.from_residual.ensures.1 in
    rw (p.1, p.2)
    (head-in_time c.args.head.now c.args.stream.now.cutter (left_of c.args.stream.now) (shelf.slot 1).rest (after.slot 1).rest (names_in m) (plants_in m) bytes (ap (λ (x : SlotState). x.rest) telemetry)
    (piece-short c.args.stream.now.piece c.args.stream.now.at c.args.stream.now.end c.args.stream.now.short) c.in_err-check_head.field-0.0
    (λ line e. let departs = c.in_err-check_head.ensures.departs named bytes u line e (plants_in m) [] true in omega (arith, departs.first_bad.some)))

pub returns-in-Ok-clause-in_time : goal.returns-in-Ok-clause-in_time
returns-in-Ok-clause-in_time g c = λ named bytes told.
    let m = c.args.models in
    let names = names_in m in
    let ps = plants_in m in
    let shelf = g.F.Shelf.state c.args.shelf.now in
    let after = g.F.Shelf.state c.check_head.new.shelf in
    let telemetry : after.slot 1 ≡ shelf.slot 1 = c.check_head.ensures.kept.others.slots 1 (omega arith) (omega arith) in
    let u : HasUnread c.new-window.result shelf bytes = record { rest = bytes; told = told; is = sym (ap (λ x. x ++ bytes) c.new-window.ensures.left) } in
    let head = c.in_ok-check_head.ensures.stands named bytes u in
    let possible = c.all_possible-last.ensures ∙ ap (λ n. replicate n true) (c.count.ensures.value ∙ sym (length-plants m)) in
    let begun = begun-checked names ps bytes _ after head c.in-Ok.ensures.stands possible in
    let models = are-models m c.of-counts.result c.count.ensures.limits c.of-counts.ensures in
    subst (λ (x : SlotState). RowsEnd c.args.head.now c.args.stream.now.cutter (left_of c.args.stream.now) x.rest ((g.F.Shelf.state c.check_rows.new.shelf).slot 1).rest names ps bytes c.check_rows.result) telemetry
    (c.check_rows.ensures.in_time names ps bytes models begun)

pub returns-in-Err-clause-in_time : goal.returns-in-Err-clause-in_time
returns-in-Err-clause-in_time g c = λ named bytes told.
    some-both ((g.F.Shelf.state c.args.shelf.now).slot 1).rest ((g.F.Shelf.state c.check_head.new.shelf).slot 1).rest _ (λ x z. tt)

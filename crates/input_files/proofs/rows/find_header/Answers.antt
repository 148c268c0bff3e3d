use Rattle.std.proofs.Common.{◌≡◌, Ok, Some, None, ◌++◌, sym, ◌∙◌, refl, arith, rules}
use Rattle.std.proofs.lemmas.Result.{err_from_is_err_and}
use Rattle.telem_csv.proofs.Stream.{no_feed_now}
use Rattle.telem_csv.specs.Cutter.{text_at}
use Rattle.telem_csv.specs.Telemetry.{header_of}
use Rattle.input_files.specs.Left.{left_of}
use Rattle.input_files.specs.Ended.{TakesLine, TakesNoLine, TakesHeader, TakesNoHeader}
use Rattle.input_files.proofs.Streams.{header-refused, told-then}
use Rattle.input_files.proofs.Ended.{PassesHeader, told-same, header-init, blank-header, header-taken, failed-header}
use Rattle.input_files.proofs.rows.find_header.Goals as goal

pub lines-init : goal.lines-init
lines-init g c = record {
  going = c.requires.going;
  same = told-same ((g.F.Shelf.state c.args.shelf.now).slot 1).rest _ (λ r. refl);
  ends = header-init c.args.stream.now.is_ended c.args.stream.now.cutter (left_of c.args.stream.now) (no_feed_now c.args.stream.now.cutter c.args.stream.now.no_feed) c.args.inputs.now c.args.outputs.now ((g.F.Shelf.state c.args.shelf.now).slot 1).rest c.requires.ended;
  ended = c.requires.ended;
  stays = λ h. h;
  room = omega arith;
  kept = search rules;
}

pub lines-preserved : goal.lines-preserved
lines-preserved g c =
    let rest0 = ((g.F.Shelf.state c.args.shelf.now).slot 1).rest in
    let rest1 = ((g.F.Shelf.state c.lines.shelf).slot 1).rest in
    let rest2 = ((g.F.Shelf.state c.next_line.new.shelf).slot 1).rest in
    let blank : header_of c.args.inputs.now c.args.outputs.now (text_at c.next_line.new.self.cutter) ≡ Ok None = cc (c.in-Ok-None.ensures.value, c.line.ensures.value, c.in-Ok-None.field-0-is) in
    record {
      going = search rules;
      same = search rules;
      ends = told-then rest0 rest1 rest2 (λ r r'. PassesHeader c.args.inputs.now c.args.outputs.now c.lines.stream.is_ended c.args.stream.now.cutter c.lines.stream.cutter (left_of c.args.stream.now ++ r) (left_of c.lines.stream ++ r'))
          (λ r r'. TakesLine c.next_line.new.self.is_ended c.lines.stream.cutter c.next_line.new.self.cutter (left_of c.lines.stream ++ r) (left_of c.next_line.new.self ++ r'))
          (λ r r'. PassesHeader c.args.inputs.now c.args.outputs.now c.next_line.new.self.is_ended c.args.stream.now.cutter c.next_line.new.self.cutter (left_of c.args.stream.now ++ r) (left_of c.next_line.new.self ++ r'))
          (λ x y z passes line. blank-header c.args.inputs.now c.args.outputs.now passes c.next_line.ensures.stays line blank) c.lines.invariant.ends (c.in_ok-next_line.ensures.takes c.if-not-branch.false);
      ended = c.next_line.ensures.ended;
      stays = λ h. c.lines.invariant.stays (c.next_line.ensures.stays h);
      room = search rules;
      kept = search rules;
    }

pub returns-in-Ok-Some-clause-takes : goal.returns-in-Ok-Some-clause-takes
returns-in-Ok-Some-clause-takes g c =
    let rest0 = ((g.F.Shelf.state c.args.shelf.now).slot 1).rest in
    let rest1 = ((g.F.Shelf.state c.lines.shelf).slot 1).rest in
    let rest2 = ((g.F.Shelf.state c.next_line.new.shelf).slot 1).rest in
    let is : header_of c.args.inputs.now c.args.outputs.now (text_at c.next_line.new.self.cutter) ≡ Ok (Some c.in-Ok-Some.header) = cc (c.in-Ok-Some.ensures.value, c.line.ensures.value, c.in-Ok-Some.field-0-is) in
    told-then rest0 rest1 rest2 (λ r r'. PassesHeader c.args.inputs.now c.args.outputs.now c.lines.stream.is_ended c.args.stream.now.cutter c.lines.stream.cutter (left_of c.args.stream.now ++ r) (left_of c.lines.stream ++ r'))
    (λ r r'. TakesLine c.next_line.new.self.is_ended c.lines.stream.cutter c.next_line.new.self.cutter (left_of c.lines.stream ++ r) (left_of c.next_line.new.self ++ r'))
    (λ r r'. TakesHeader c.args.inputs.now c.args.outputs.now c.in-Ok-Some.header c.next_line.new.self.is_ended c.args.stream.now.cutter c.next_line.new.self.cutter (left_of c.args.stream.now ++ r) (left_of c.next_line.new.self ++ r'))
    (λ x y z passes line. header-taken c.args.inputs.now c.args.outputs.now passes c.next_line.ensures.stays line c.in-Ok-Some.header is) c.lines.invariant.ends (c.in_ok-next_line.ensures.takes c.if-not-branch.false)

pub returns-in_err-next_line-clause-refused : goal.returns-in_err-next_line-clause-refused
returns-in_err-next_line-clause-refused g c =
    let p = err_from_is_err_and c.from_residual.result c.from_residual.ensures.1 in
    rw p.1
    (λ fault e.
    header-refused ((g.F.Shelf.state c.args.shelf.now).slot 1).rest ((g.F.Shelf.state c.lines.shelf).slot 1).rest ((g.F.Shelf.state c.next_line.new.shelf).slot 1).rest c.args.stream.now.cutter c.lines.stream.cutter (left_of c.args.stream.now) (left_of c.lines.stream) fault c.args.inputs.now c.args.outputs.now
    c.lines.invariant.same (c.in_err-next_line.ensures.refused fault (sym p.2 ∙ e)))

pub returns-in_err-next_line-clause-no_line : goal.returns-in_err-next_line-clause-no_line
returns-in_err-next_line-clause-no_line g c =
    let rest0 = ((g.F.Shelf.state c.args.shelf.now).slot 1).rest in
    let rest1 = ((g.F.Shelf.state c.lines.shelf).slot 1).rest in
    let rest2 = ((g.F.Shelf.state c.next_line.new.shelf).slot 1).rest in
    let p = err_from_is_err_and c.from_residual.result c.from_residual.ensures.1 in
    rw p.1
    (λ e. told-then rest0 rest1 rest2 (λ r r'. PassesHeader c.args.inputs.now c.args.outputs.now c.lines.stream.is_ended c.args.stream.now.cutter c.lines.stream.cutter (left_of c.args.stream.now ++ r) (left_of c.lines.stream ++ r'))
    (λ r r'. TakesNoLine c.lines.stream.cutter (left_of c.lines.stream ++ r) (left_of c.next_line.new.self ++ r'))
    (λ r r'. TakesNoHeader c.args.inputs.now c.args.outputs.now c.args.stream.now.cutter (left_of c.args.stream.now ++ r) (left_of c.next_line.new.self ++ r'))
    (λ x y z passes none. failed-header c.args.inputs.now c.args.outputs.now passes _ (c.in_err-next_line.ensures.failed (sym p.2 ∙ e)).unended none) c.lines.invariant.ends (c.in_err-next_line.ensures.no_line (sym p.2 ∙ e)))

pub returns-in_err-next_line-clause-failed : goal.returns-in_err-next_line-clause-failed
returns-in_err-next_line-clause-failed g c =
    let p = err_from_is_err_and c.from_residual.result c.from_residual.ensures.1 in
    rw p.1
    (λ e. let failed = c.in_err-next_line.ensures.failed (sym p.2 ∙ e) in record { unended = c.lines.invariant.stays failed.unended; used = failed.used })

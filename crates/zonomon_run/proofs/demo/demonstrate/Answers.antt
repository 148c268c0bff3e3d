use Rattle.std.proofs.Common.{inr, ◌∙◌, subst, arith}
use Rattle.outside_io.specs.Sink.{Gains, GainsFront}
use Rattle.outside_io.proofs.Fronts.{no-front}
use Rattle.monitor_run.proofs.Opened.{some-lines}
use Rattle.zonomon_run.specs.Demo.{demo_files}
use Rattle.report_summary.specs.Text.{summary_of}
use Rattle.zonomon_run.proofs.Demos.{told, summed}
use Rattle.zonomon_run.proofs.demo.demonstrate.Goals as goal

pub returns-in-Ok-clause-demonstrates : goal.returns-in-Ok-clause-demonstrates
returns-in-Ok-clause-demonstrates g c =
    let seed = c.args.demo.seed in
    let samples = c.args.demo.samples in
    let before = g.O.Sink.state c.args.out.now in
    let after = g.O.Sink.state c.put_text.new.out in
    let lines = c.in-Ok.ensures.0 in
    let is = c.in-Ok.ensures.1 in
    let sums = c.of.ensures lines (told seed samples c.args.demo.some c.args.demo.few lines is) (c.held.ensures ∙ c.in-Ok.ensures.2) in
    let text = c.deref.ensures.0 ∙ c.text.ensures ∙ summed seed samples lines c.of.result sums in
    let puts = c.put_text.ensures.puts in
    record {
      status = puts.status;
      summary = λ zero. (lines, is, subst (λ t. Gains t before after) text (puts.whole zero));
      front = (lines, is, subst (λ t. GainsFront t before after) text puts.front);
      write = puts.write;
    }

pub returns-in-Err-clause-demonstrates : goal.returns-in-Err-clause-demonstrates
returns-in-Err-clause-demonstrates g c =
    let seed = c.args.demo.seed in
    let samples = c.args.demo.samples in
    let before = g.O.Sink.state c.args.out.now in
    let some = some-lines (demo_files seed samples) in
    let six = c.tell.ensures.status in
    record {
      status = inr (inr six);
      summary = λ zero. absurd (omega arith);
      front = (some.0, some.1, no-front before.held (summary_of seed samples some.0));
      write = λ five. absurd (omega arith);
    }

use Rattle.std.proofs.Common.{[], ap, ◌∙◌}
use Rattle.std.specs.List.{list_all}
use Rattle.fixed_mat.proofs.Columns.{pushes}
use Rattle.observer_step.specs.Seen.{is_printable_interval}
use Rattle.observer_step.proofs.Intervals.{printable-more, printable-ends}
use Rattle.observer_step.proofs.ahead.predicted.Goals as goal

pub loop-o-preserved : goal.loop-o-preserved
loop-o-preserved g c = record {
  made = pushes [] _ _ _ _ _ c.loop-o.invariant.made c.push.ensures.items c.interval.ensures.value;
  printable = ap (list_all is_printable_interval) c.push.ensures.items ∙ printable-more c.loop-o.outs.items c.interval.result c.loop-o.invariant.printable (printable-ends c.interval.result c.interval.ensures.low c.interval.ensures.high);
}

use Rattle.std.proofs.Common.{◌≡◌, true}
use Rattle.std.specs.List.{list_all}
use Rattle.set_rules.specs.Columns.{tabulate}
use Rattle.observer_step.specs.Predicted.{out_of}
use Rattle.observer_step.specs.Seen.{is_printable_interval}
use Rattle.observer_step.proofs.ahead.predicted.Given as goal

abbrev pub invariant-loop-o : goal.invariant-loop-o
invariant-loop-o g l = record {
  made : l.outs.items ≡ tabulate l.o (out_of l.plant l.u l.set);
  printable : list_all is_printable_interval l.outs.items ≡ true;
}

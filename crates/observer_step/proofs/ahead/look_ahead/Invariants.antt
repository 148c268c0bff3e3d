use Rattle.std.proofs.Common.{◌≡◌, true}
use Rattle.std.specs.List.{list_all}
use Rattle.set_rules.specs.Columns.{tabulate}
use Rattle.plant_model.specs.Seen.{sample_of}
use Rattle.observer_step.specs.Predicted.{out_of}
use Rattle.observer_step.specs.Seen.{is_printable_interval}
use Rattle.observer_step.specs.Ahead.{IsFirst}
use Rattle.observer_step.proofs.ahead.look_ahead.Given as goal

abbrev pub invariant-loop-o : goal.invariant-loop-o
invariant-loop-o g l = record {
  made : l.outs.items ≡ tabulate l.o (out_of l.plant l.sample.u.items l.set);
  printable : list_all is_printable_interval l.outs.items ≡ true;
  first : IsFirst l.plant (sample_of l.sample) l.set l.row l.o l.first;
}

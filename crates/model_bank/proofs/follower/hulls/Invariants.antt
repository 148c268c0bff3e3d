use Rattle.std.proofs.Common.{◌≡◌, true}
use Rattle.std.specs.List.{list_all}
use Rattle.set_rules.specs.Box.{hull}
use Rattle.set_rules.specs.Columns.{tabulate}
use Rattle.observer_step.specs.Seen.{is_printable_interval}
use Rattle.model_bank.proofs.follower.hulls.Given as goal

abbrev pub invariant-loop-i : goal.invariant-loop-i
invariant-loop-i g l = record {
  so_far : l.hulls.items ≡ tabulate l.i (hull l.estimate.plain);
  printable : list_all is_printable_interval l.hulls.items ≡ true;
}

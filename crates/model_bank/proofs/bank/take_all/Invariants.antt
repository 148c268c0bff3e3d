use Rattle.std.proofs.Common.{◌≤◌, List, Option, length, map}
use Rattle.std.specs.List.{All}
use Rattle.farkas_check.specs.Certificate.{Certificate}
use Rattle.plant_model.specs.Seen.{sample_of}
use Rattle.model_bank.specs.Bank.{HasPlantOf}
use Rattle.model_bank.specs.Seen.{model_seen}
use Rattle.model_bank.proofs.Taking.{Took}
use Rattle.model_bank.proofs.bank.take_all.Given as goal

abbrev pub invariant-loop-i : goal.invariant-loop-i
invariant-loop-i l = record {
  few : length l.models.items ≤ l.i;
  counts : All (HasPlantOf (length l.sample.u.items) (length l.sample.y.items)) l.members;
  took : (cs : List (Option Certificate)) × Took l.is_first l.last.items (sample_of l.sample) l.offered l.fn.members l.i cs (map model_seen l.models.items) l.members;
}

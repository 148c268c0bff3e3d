use Rattle.std.proofs.Common.{◌≡◌, map}
use Rattle.model_file.specs.Seen.{named}
use Rattle.model_bank.specs.Bank.{begun}
use Rattle.model_bank.proofs.bank.begun.Given as goal

abbrev pub invariant-loop-model : goal.invariant-loop-model
invariant-loop-model l = l.members.items ≡ map (λ n. begun n.plant) (map named l.yielded)

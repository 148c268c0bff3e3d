use Rattle.std.proofs.Common.{◌≡◌, take}
use Rattle.model_bank.proofs.bank.replace.Given as goal

abbrev pub invariant-loop-v : goal.invariant-loop-v
invariant-loop-v l = l.last.items ≡ take l.v-index l.inputs

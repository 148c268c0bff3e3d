use Rattle.std.proofs.Common.{◌≡◌, map, take}
use Rattle.model_bank.proofs.bank.tell_possible.Given as goal

abbrev pub invariant-loop-member : goal.invariant-loop-member
invariant-loop-member l = l.possible.items ≡ map (λ m. m.live) (take l.member-index l.members)

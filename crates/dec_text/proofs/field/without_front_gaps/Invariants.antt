use Rattle.std.proofs.Common.{◌≡◌, length}
use Rattle.dec_text.specs.Reading.{without_front_gaps}
use Rattle.dec_text.proofs.field.without_front_gaps.Given as goal

abbrev pub invariant-loop-text : goal.invariant-loop-text
invariant-loop-text l = without_front_gaps l.text ≡ without_front_gaps l.initial.text

abbrev pub decreases-loop-text : goal.decreases-loop-text
decreases-loop-text l = length l.text

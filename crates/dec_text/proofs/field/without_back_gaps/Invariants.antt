use Rattle.std.proofs.Common.{◌≡◌, length}
use Rattle.dec_text.specs.Reading.{without_back_gaps}
use Rattle.dec_text.proofs.field.without_back_gaps.Given as goal

abbrev pub invariant-loop-text : goal.invariant-loop-text
invariant-loop-text l = without_back_gaps l.text ≡ without_back_gaps l.initial.text

abbrev pub decreases-loop-text : goal.decreases-loop-text
decreases-loop-text l = length l.text

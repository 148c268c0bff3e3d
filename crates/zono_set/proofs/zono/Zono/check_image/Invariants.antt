use Rattle.set_rules.specs.Zono.{InRange}
use Rattle.set_rules.specs.Image.{image}
use Rattle.zono_set.proofs.zono.Zono.check_image.Given as goal

abbrev pub invariant-loop-i : goal.invariant-loop-i
invariant-loop-i g l = InRange l.i (image g.row.N l.w l.a l.shift l.e l.self)

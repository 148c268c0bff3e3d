use Rattle.std.proofs.Common.{◌∙◌, SFits, to_z-of_z}
use mir.Syntax.{w128}
use Rattle.sim_gen.specs.Process.{Process, half_up}
use Rattle.sim_gen.proofs.Keeps.{next-is, driven-same}
use Rattle.sim_gen.proofs.process.Process.step.Goals as goal

pub invariant_of-self-4 : goal.invariant_of-self-4
invariant_of-self-4 c =
    let first : SFits w128 c.next_first-self-inside.result = record { sfits = c.next_first-self-inside.type_inv } in
    let second : SFits w128 c.next_second-second.result = record { sfits = c.next_second-second.type_inv } in
    let old : Process = record {
      coupling = c.self.inside.coupling;
      gain = c.self.inside.gain;
      generator = c.self.inside.generator.state;
      first = c.self.inside.first;
      second = c.self.inside.second;
    } in
    let moved = driven-same (half_up c.self.inside.second) c.self.inside.gain _ _ _ _ c.of-draw.ensures.input c.of-draw.ensures.push in
    simp to_z-of_z (next-is old c.of-draw.new.generator.state c.next_first-self-inside.result c.next_second-second.result
    c.of-draw.ensures.after c.next_first-self-inside.ensures (c.next_second-second.ensures ∙ moved) c.self.invariant)

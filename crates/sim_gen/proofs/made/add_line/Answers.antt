use Rattle.std.proofs.Common.{◌≡◌, rules, ℕ, List, ◌++◌, ap, ◌∙◌, SFits, to_z-of_z, is_ok, if◌then◌else◌}
use mir.Syntax.{w128}
use Rattle.dec_text.specs.Printed.{printed}
use Rattle.sim_gen.specs.Telemetry.{line_of}
use Rattle.sim_gen.proofs.Grows.{line-by}
use Rattle.sim_gen.proofs.made.add_line.Goals as goal

pub returns : goal.returns
returns c =
    let input : SFits w128 c.args.moment.now.input = search rules in
    let reading : SFits w128 c.args.moment.now.reading = search rules in
    let first = simp to_z-of_z at c.print.ensures.text in
    let second = simp to_z-of_z at c.print-2.ensures.text in
    let whole : c.deref.result.now ≡ line_of c.args.moment.now =
    c.deref.ensures.0 ∙ line-by (printed c.args.moment.now.input) (printed c.args.moment.now.reading) _ _ _ _ _
    c.new-line.ensures first c.push.ensures.items second c.push-2.ensures.items in
    c.extend_from_slice.ensures.items
    ∙ ap (λ (l : List ℕ). if is_ok c.extend_from_slice.result then (c.args.telemetry.now.items ++ l) else c.args.telemetry.now.items) whole

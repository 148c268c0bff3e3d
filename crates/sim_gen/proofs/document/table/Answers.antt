use Rattle.std.proofs.Common.{sym, ap, ◌∙◌}
use Rattle.std.proofs.lemmas.Bool.{false≢true}
use Rattle.std.proofs.lemmas.Option.{none-some, same_Some}
use Rattle.toml.specs.Parse.{parse_document}
use Rattle.sim_gen.proofs.Parses.{text-parses}
use Rattle.sim_gen.proofs.document.table.Goals as goal

pub returns-in-Ok : goal.returns-in-Ok
returns-in-Ok c =
    let text = c.deref.ensures ∙ c.in_ok-text.ensures in
    let r = c.requires in
    let parsed = text-parses c.args.coupling c.args.gain r.some_coupling r.small_coupling r.some_gain r.small_gain in
    same_Some _ _ (sym c.in-Ok.ensures.ok ∙ ap parse_document text ∙ parsed)

pub unreachable-requires : goal.unreachable-requires
unreachable-requires c =
    let text = c.deref.ensures ∙ c.in_ok-text.ensures in
    let r = c.requires in
    let parsed = text-parses c.args.coupling c.args.gain r.some_coupling r.small_coupling r.some_gain r.small_gain in
    let refused = c.in-Err.ensures.refused (λ memory. false≢true (sym c.if-is_memory.false ∙ c.is_memory.ensures.1 memory)) in
    none-some _ (sym refused ∙ ap parse_document text ∙ parsed)

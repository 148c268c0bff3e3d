use Rattle.std.proofs.Common.{Some, false, string_bytes, subst, ap, ◌∙◌, arith}
use Rattle.std.proofs.lemmas.Str.{IsUtf8-string_bytes}
use Rattle.toml.specs.Data.{Members}
use Rattle.toml.specs.Text.{IsDocumentText}
use Rattle.sim_gen.proofs.Prints.{printed-says}
use Rattle.sim_gen.proofs.document.model_file.Goals as goal

pub returns-in-Ok : goal.returns-in-Ok
returns-in-Ok c =
    let file = string_bytes c.in-Ok.file in
    let table = c.in_ok-table.ensures in
    let r = c.requires in
    let printed = subst (λ (ms : Members). IsDocumentText false ms file) table c.in-Ok.ensures.text in
    let parsed = c.in-Ok.ensures.reads_back (rw table (omega arith)) ∙ ap (λ ms. Some ms) table in
    printed-says c.args.coupling c.args.gain file r.some_coupling r.small_coupling r.some_gain r.small_gain (IsUtf8-string_bytes c.in-Ok.file) printed parsed

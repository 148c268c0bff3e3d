use Rattle.std.proofs.Common.{Ok, sym, ap, inr}
use Rattle.std.proofs.lemmas.Bool.{false≢true}
use Rattle.std.proofs.lemmas.Str.{is_utf8-from_IsUtf8}
use Rattle.toml.proofs.Views.{view-Table}
use Rattle.model_file.specs.ModelFile.{document_of}
use Rattle.model_file.proofs.Documents.{no_document}
use Rattle.model_file.proofs.reader.document.Goals as goal

pub returns-in-Ok-clause-ok : goal.returns-in-Ok-clause-ok
unfolding document_of
returns-in-Ok-clause-ok c =
    let text = is_utf8-from_IsUtf8 c.args.bytes.now c.in-Ok.ensures.ok.0 in
    let parsed = c.in-Ok.ensures.ok.1 in
    rw (text, parsed) (ap (λ d. Ok d) (sym (view-Table c.in-Ok.table)))

pub returns-in-Err-2-clause-err : goal.returns-in-Err-2-clause-err
returns-in-Err-2-clause-err c = inr (no_document c.args.bytes.now (λ text. c.in-Err.ensures.refused (λ memory. false≢true (c.if-is_memory.ensures.1 memory)) text))

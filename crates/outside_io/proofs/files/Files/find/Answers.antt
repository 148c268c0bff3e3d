use Rattle.std.proofs.Common.{◌≡◌, ◌∙◌, ap, sym, Some, true, false, string_bytes}
use Rattle.std.specs.Option.{option_copied}
use Rattle.std.specs.Str.{bytes_eq}
use Rattle.outside_io.proofs.LastNamed.{named_hit, named_miss}
use Rattle.outside_io.proofs.files.Files.find.Goals as goal
use Rattle.outside_io.proofs.files.Files.find.Goals.{then-eq, else-eq}

pub loop-kept-preserved : goal.loop-kept-preserved
loop-kept-preserved c =
    elim c.if-eq.branch [
      | then-eq w ↦
          let t : bytes_eq (string_bytes c.kept-item.result.name) c.args.name.now ≡ true = cc in
          let e = named_hit c.deref-kept-items.result.now c.loop-kept.kept-index c.kept-item.result c.args.name.now c.loop-kept-test.true c.kept-item.is t in
          ap option_copied w.found-is ∙ (ap Some w.deref.ensures.value ∙ sym e)
      | else-eq w ↦
          let t : bytes_eq (string_bytes c.kept-item.result.name) c.args.name.now ≡ false = cc in
          let e = named_miss c.deref-kept-items.result.now c.loop-kept.kept-index c.kept-item.result c.args.name.now c.loop-kept-test.true c.kept-item.is t in
          ap option_copied w.found-is ∙ (c.loop-kept.invariant ∙ sym e)
    ]

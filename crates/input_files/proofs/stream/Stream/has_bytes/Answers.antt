use Rattle.std.proofs.Common.{◌<◌, length, arith}
use Rattle.std.proofs.lemmas.Grind.{common_steps}
use Rattle.input_files.specs.Left.{left_of}
use Rattle.input_files.proofs.Streams.{not-ended}
use Rattle.input_files.proofs.stream.Stream.has_bytes.Goals as goal

pub returns-then-self-clause-going : goal.returns-then-self-clause-going
returns-then-self-clause-going g c = λ _.
    let some : 0 < length (left_of c.args.self.now) = grind (arith, common_steps) in
    not-ended c.args.self.now.is_ended (left_of c.args.self.now) _ c.requires.ended some

-- What was read of a stream and is not taken yet.
use Rattle.std.specs.Prelude.{ℕ, List, slice_range}
use Rattle.input_files.specs.declared.stream.Stream.{Stream}

abbrev pub left_of : Stream → List ℕ
left_of s = slice_range s.piece s.at s.end

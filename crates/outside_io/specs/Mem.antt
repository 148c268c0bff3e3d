-- What the shelf and the sink that fail at chosen calls hold, and which call fails.
use Rattle.std.specs.Prelude.{ℕ, List, Bool, Some, ◌==◌, ◌&&◌, ◌||◌, is_none, slice_index}
use Rattle.std.specs.List.{list_any}
use Rattle.outside_io.specs.declared.mem.MemSink.{MemSink}
use Rattle.outside_io.specs.declared.mem.MemShelf.{MemShelf}
use Rattle.outside_io.specs.Causes.{next_count}
use Rattle.outside_io.specs.Files.{bytes_of}
use Rattle.outside_io.specs.Places.{place_of, slot_of}
use Rattle.outside_io.specs.Shelf.{ShelfState}
use Rattle.outside_io.specs.Sink.{SinkState}
use Rattle.outside_io.specs.Sure.{sink_bytes}

abbrev pub held_of : MemSink → List ℕ
held_of s = sink_bytes s.sink

-- how often `put` was called
abbrev pub puts_of : MemSink → ℕ
puts_of s = s.calls

-- the numbers of the calls of `put` that fail
abbrev pub failing_puts_of : MemSink → List ℕ
failing_puts_of s = s.fails.items

abbrev pub mem_sink : MemSink → SinkState
mem_sink s = record { held = Some (held_of s); faults = s.faults; wants = s.sink.wanted }

-- the next `put` is one that fails
abbrev pub put_is_due : MemSink → Bool
put_is_due s = list_any (λ n. n == next_count (puts_of s)) (failing_puts_of s)

abbrev pub mem_shelf : MemShelf → ShelfState
mem_shelf s = record { slot = λ q. slot_of (place_of s.slots q) (slice_index s.faults q); file = bytes_of s.files }

-- how often a slot was called
abbrev pub calls_of : MemShelf → ℕ → ℕ
calls_of s q = slice_index s.calls q

-- the calls that fail, each by its slot and its number on that slot
abbrev pub fails_of : MemShelf → List (ℕ × ℕ)
fails_of s = s.fails.items

-- the next call on this slot is one that fails
abbrev pub is_due : MemShelf → ℕ → Bool
is_due s q = list_any (λ f. f.0 == q && f.1 == next_count (calls_of s q)) (fails_of s)

-- an attach of this name to this slot fails
abbrev pub fails_to_open : MemShelf → ℕ → List ℕ → Bool
fails_to_open s q name = is_due s q || is_none (bytes_of s.files name)

-- What a sink got of a text, from what putting it answered.
use Rattle.std.proofs.Common.{List, ℕ, Result, Ok, Err, refl}
use Rattle.outside_io.specs.Sink.{SinkState, PutsAll}
use Rattle.outside_io.specs.declared.sink.PutFault.{PutFault}
use Rattle.outside_io.specs.declared.sink.PutFault.TheVariants.{Failed, Memory}
use Rattle.outside_io.proofs.Fronts.{all-front}
use Rattle.zonomon_run.specs.Ending.{Tells}

pub told : (r : Result Unit PutFault) (text : List ℕ) (before after : SinkState) → PutsAll text before r after → Tells text before after
told (Ok x) text before after puts = record { front = all-front before.held after.held text puts.whole; whole = λ n m. puts.whole }
told (Err Failed) text before after puts = record { front = puts.front; whole = λ n m. absurd (n (puts.failed.failed refl)) }
told (Err Memory) text before after puts = record { front = puts.front; whole = λ n m. absurd (m (puts.memory.failed refl)) }

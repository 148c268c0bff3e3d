use Rattle.std.proofs.Common.{◌≡◌}
use Rattle.sim_gen.specs.Process.{process_at, moments}
use Rattle.sim_gen.specs.Telemetry.{telemetry_text}
use Rattle.sim_gen.proofs.made.make.Given as goal

abbrev pub invariant-loop-k : goal.invariant-loop-k
invariant-loop-k l = record {
  process : l.process ≡ process_at l.fn.seed l.k;
  telemetry : l.telemetry.items ≡ telemetry_text l.fn.seed l.k;
  moments : l.moments.items ≡ moments l.fn.seed l.k;
}

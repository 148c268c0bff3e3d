use Rattle.std.proofs.Common.{◌≡◌, ℕ, ◌<◌, arith, ◌∙◌, sym, ap, subst}
use Rattle.sim_gen.specs.Telemetry.{telemetry_text, trajectory, trajectory_of, samples_of}
use Rattle.sim_gen.specs.Process.{begun}
use Rattle.sim_gen.specs.Said.{said_by}
use Rattle.sim_gen.specs.Models.{plant_of}
use Rattle.plant_model.specs.Plant.{Trajectory, Obeys}
use Rattle.sim_gen.proofs.Follows.{obeys}
use Rattle.sim_gen.proofs.Said.{said}
use Rattle.sim_gen.proofs.Grows.{process-none, process-goes, moments-grow, text-grows}
use Rattle.sim_gen.proofs.made.make.Goals as goal

pub loop-k-init : goal.loop-k-init
loop-k-init c = record {
  process = c.new-process.ensures ∙ sym (process-none c.args.seed);
  telemetry = c.in_ok-telemetry.ensures.items;
  moments = c.new-moments.ensures.items;
}

pub loop-k-preserved : goal.loop-k-preserved
loop-k-preserved c =
    let here = c.loop-k.invariant.process in
    let is = c.step-moment.ensures.value in
    record {
      process = process-goes c.args.seed c.loop-k.k _ _ here c.step-moment.ensures.after;
      telemetry = text-grows c.args.seed c.loop-k.k _ _ _ _ here is c.loop-k.invariant.telemetry c.in_ok-add_line.ensures;
      moments = moments-grow c.args.seed c.loop-k.k _ _ _ _ here is c.loop-k.invariant.moments c.in_ok-push.ensures.items;
    }

pub returns-clause-telemetry : goal.returns-clause-telemetry
returns-clause-telemetry c =
    let end : c.loop-k.k ≡ c.args.samples = omega arith in
    c.loop-k.invariant.telemetry ∙ ap (telemetry_text c.args.seed) end

pub returns-clause-reads : goal.returns-clause-reads
returns-clause-reads c = ap said_by (returns-clause-telemetry c) ∙ said c.args.seed c.args.samples c.requires.few

pub returns-clause-trajectory : goal.returns-clause-trajectory
returns-clause-trajectory c =
    let end : c.loop-k.k ≡ c.args.samples = omega arith in
    ap trajectory_of c.loop-k.invariant.moments ∙ ap (trajectory c.args.seed) end

pub returns-clause-obeys : goal.returns-clause-obeys
returns-clause-obeys c = λ (k : ℕ). λ (below : k < c.args.samples).
    subst (λ (x : Trajectory). Obeys (plant_of (begun c.args.seed)) (samples_of c.args.seed c.args.samples) k x) (sym (returns-clause-trajectory c))
    (obeys c.args.seed c.args.samples k below)

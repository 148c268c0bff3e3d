use Rattle.std.proofs.Common.{refl, ap, ◌∙◌, sym}
use Rattle.plant_model.specs.Seen.{sample_of}
use Rattle.observer_step.specs.Seen.{was_widened}
use Rattle.model_bank.specs.Seen.{model_seen}
use Rattle.model_bank.specs.Steps.{sets_ahead, widens}
use Rattle.model_bank.proofs.Judged.{allowed-taken, answer-taken, member-taken, certificate-in, dead-takes}
use Rattle.model_bank.proofs.follower.Follower.take.Goals as goal

pub returns-in-Ok-clause-taken : goal.returns-in-Ok-clause-taken
returns-in-Ok-clause-taken g c =
    let u = c.args.last.now.items in
    let s = sample_of c.args.sample.now in
    let m = c.args.self.now in
    let p = c.self.inside.plant in
    let z = c.go_ahead-kept.new.estimate in
    let w = was_widened c.go_ahead-kept.result in
    let seen = c.self.view_is in
    let same = ap (λ m. m.plant) seen in
    let ahead = c.go_ahead-kept.ensures.sets ∙ ap (λ m. sets_ahead c.args.is_first u m.plant m.estimate) seen in
    let widened = c.go_ahead-kept.ensures.kept ∙ ap (λ m. widens c.args.is_first u m.plant m.estimate) seen in
    let live = sym (ap (λ m. m.live) seen) ∙ c.if-not-self.false in
    let taken = c.in-Ok.ensures.taken in
    let model = model_seen c.in-Ok.model in
    record {
      certificate = taken.certificate;
      is_claimed = taken.is_claimed;
      allowed = allowed-taken c.args.is_first u s m live p same z ahead c.args.claim taken.certificate taken.allowed;
      told_is = answer-taken c.args.is_first u s m live p same z ahead c.args.claim taken.certificate c.args.index w model widened taken.seen_is;
      new_is = member-taken c.args.is_first u s m live p same z ahead c.args.claim taken.certificate c.judge.new.estimate c.fits-self-inside.result taken.sets_are
          (c.fits-self-inside.ensures ∙ certificate-in p s z c.args.index w taken.certificate model taken.seen_is);
    }

pub returns-then-not-self-clause-taken : goal.returns-then-not-self-clause-taken
returns-then-not-self-clause-taken g c =
    let seen = c.self.view_is in
    let dead = sym (ap (λ m. m.live) seen) ∙ c.if-not-self.true in
    dead-takes c.args.is_first c.args.last.now.items (sample_of c.args.sample.now) c.args.self.now dead c.args.index c.args.claim c.args.self.now refl

use Rattle.std.proofs.Common.{◌+◌, ◌<◌, ◌++◌, ◌∷◌, [], length, map, get_or, set, option_map, subst, sym, ap, ◌∙◌, arith}
use Rattle.std.proofs.lemmas.List.Elements.{All-set}
use Rattle.plant_model.specs.Seen.{sample_of}
use Rattle.model_bank.specs.Bank.{HasPlantOf}
use Rattle.model_bank.specs.Seen.{model_seen}
use Rattle.model_bank.proofs.Taking.{Took, took-none, took-next, took-more, refused-here, offers-room, told-more, told-few}
use Rattle.model_bank.proofs.bank.take_all.Goals as goal

pub loop-i-init : goal.loop-i-init
loop-i-init c =
    let u = c.args.last.now.items in
    let s = sample_of c.args.sample.now in
    let old = c.args.members.now in
    record {
      few = omega (arith, ap length c.clear.ensures);
      counts = c.requires.counts;
      took = ([], subst (λ xs. Took c.args.is_first u s c.args.offered old 0 [] (map model_seen xs) old) (sym c.clear.ensures) (took-none c.args.is_first u s c.args.offered old));
    }

pub loop-i-preserved : goal.loop-i-preserved
loop-i-preserved c =
    let first = c.args.is_first in
    let u = c.args.last.now.items in
    let s = sample_of c.args.sample.now in
    let offered = c.args.offered in
    let old = c.args.members.now in
    let i = c.loop-i.i in
    let d = c.index-members-i.result in
    let m = get_or c.loop-i.members i d in
    let below : i < length old = omega arith in
    let took = c.loop-i.invariant.took in
    let seen = map model_seen c.loop-i.models.items in
    let here = took-next first u s offered old i below took.0 seen c.loop-i.members took.1 d in
    let takes = c.in-Ok.ensures.taken in
    let told = option_map model_seen c.in-Ok.told in
    let counts = c.loop-i.invariant.counts i d (omega arith) in
    let plant = c.take.ensures.plant in
    let room = offers-room offered (length old) i c.requires.offers below in
    let more = took-more first u s offered old i below took.0 seen c.loop-i.members took.1 d m here c.claim_on-claim.result c.claim_on-claim.ensures c.take.new.self told room takes in
    let seen-more = ap (map model_seen) c.add.ensures ∙ told-more model_seen c.loop-i.models.items c.in-Ok.told in
    record {
      few = omega (arith, ap length c.add.ensures, told-few c.loop-i.models.items c.in-Ok.told);
      counts = All-set (HasPlantOf (length c.args.sample.now.u.items) (length c.args.sample.now.y.items)) c.loop-i.members i c.take.new.self
          (ap (λ p. p.inputs) plant ∙ counts.0, ap (λ p. p.outputs) plant ∙ counts.1) c.loop-i.invariant.counts;
      took = (
        took.0 ++ takes.certificate ∷ [],
        subst (λ xs. Took first u s offered old (i + 1) (took.0 ++ takes.certificate ∷ []) xs (set c.loop-i.members i c.take.new.self)) (sym seen-more) more,
      );
    }

pub returns-in-Err-clause-refused : goal.returns-in-Err-clause-refused
returns-in-Err-clause-refused c =
    let first = c.args.is_first in
    let u = c.args.last.now.items in
    let s = sample_of c.args.sample.now in
    let offered = c.args.offered in
    let old = c.args.members.now in
    let i = c.loop-i.i in
    let d = c.index-members-i.result in
    let m = get_or c.loop-i.members i d in
    let below : i < length old = omega arith in
    let took = c.loop-i.invariant.took in
    let seen = map model_seen c.loop-i.models.items in
    let here = took-next first u s offered old i below took.0 seen c.loop-i.members took.1 d in
    let room = offers-room offered (length old) i c.requires.offers below in
    refused-here first u s offered old i below took.0 seen c.loop-i.members took.1 d m here c.claim_on-claim.result c.claim_on-claim.ensures c.in-Err.field-0 room c.in-Err.ensures.refused

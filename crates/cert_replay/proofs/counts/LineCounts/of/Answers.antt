use Rattle.std.proofs.Common.{◌≡◌, ◌≤◌, ◌<◌, ◌++◌, ◌∷◌, [], length, get_or, ap, sym, ◌∙◌, arith, subst}
use Rattle.std.specs.List.{All}
use Rattle.std.proofs.lemmas.List.Elements.{All-push}
use Rattle.plant_model.specs.Plant.{Plant}
use Rattle.model_file.specs.Bank.{no_model}
use Rattle.cert_replay.proofs.Counted.{first_states, length-first, first-more, first-all, outputs-are}
use Rattle.cert_replay.proofs.counts.LineCounts.of.Goals as goal

pub push-requires : goal.push-requires
push-requires c =
    let m = c.args.models.now in
    let within : c.loop-i.i < length m.models = omega (arith, c.loop-i-test.true, c.count-i-end.ensures.value) in
    let less : length c.loop-i.states.items < 16 = omega (arith, ap length c.loop-i.invariant.states, length-first m c.loop-i.i (omega (arith, within)), within, c.count-i-end.ensures.limits.few_models) in
    (omega arith, less)

pub loop-i-preserved : goal.loop-i-preserved
loop-i-preserved c =
    let m = c.args.models.now in
    let items = c.loop-i.states.items in
    let n = c.states_of.result in
    let within : c.loop-i.i < length m.models = omega (arith, c.loop-i-test.true, c.count-i-end.ensures.value) in
    let is : n ≡ (get_or m.models c.loop-i.i no_model).plant.states = c.states_of.ensures.value ∙ ap (λ (p : Plant). p.states) c.plant.ensures in
    record {
      states = c.push.ensures.items ∙ ap (λ xs. xs ++ n ∷ []) c.loop-i.invariant.states ∙ sym (first-more m c.loop-i.i n within is);
      few = subst (All (λ x. x ≤ 8)) (sym c.push.ensures.items) (All-push (λ x. x ≤ 8) items n c.loop-i.invariant.few c.states_of.ensures.few);
      some = subst (All (λ x. 1 ≤ x)) (sym c.push.ensures.items) (All-push (λ x. 1 ≤ x) items n c.loop-i.invariant.some c.states_of.ensures.some);
    }

pub returns : goal.returns
returns c =
    let m = c.args.models.now in
    let all : length m.models ≡ c.loop-i.i = omega (arith, c.loop-i-test.false, c.loop-i.auto.i-end, c.count-i-end.ensures.value) in
    record {
      outputs_are = outputs-are m c.len.result c.count-i-end.ensures.limits (c.len.ensures.value ∙ ap length c.outputs.ensures.value);
      states_are = sym (first-all m) ∙ ap (first_states m) all ∙ sym c.loop-i.invariant.states;
    }

use Rattle.std.proofs.Common.{◌≡◌, ◌+◌, ◌<◌, ◌∷◌, [], length, get_or, set, pos, rules, arith, ap, ◌∙◌, length-set, sym, refl, unsigned_abs, take, SFits, to_z-of_z}
use Rattle.std.specs.List.{sum_by}
use Rattle.std.proofs.lemmas.List.{take_more_set}
use Rattle.std.proofs.lemmas.List.Sums.{sum_by-append, sum_by-cons, sum_by_more}
use mir.Syntax.{w128}
use Rattle.set_rules.specs.Sum.{magnitude}
use Rattle.set_rules.specs.Columns.{at}
use Rattle.set_rules.proofs.Sums.{total-zero}
use Rattle.set_rules.proofs.Dropped.{dropped_yes, dropped_no, magnitude_on}
use Rattle.set_rules.proofs.Compaction.{compacted-none, compacted-yes, compacted-no, here}
use Rattle.fixed_mat.specs.Rows.{marked}
use Rattle.fixed_mat.specs.declared.coefs.Coefs.TheInside.{Inside}
use Rattle.fixed_mat.proofs.Columns.{refill_same}
use Rattle.fixed_mat.proofs.coefs.Coefs.retain.Goals as goal
use Rattle.fixed_mat.proofs.coefs.Coefs.retain.Goals.{then-keep-t, else-keep-t}

pub loop-t-init : goal.loop-t-init
loop-t-init c = record {
  moved = compacted-none (pos 0) (marked c.args.keep.now) c.self.inside.items.items;
  lost = sym (total-zero _);
  sum = refl;
  same = refl;
}

pub loop-t-preserved : goal.loop-t-preserved
loop-t-preserved c =
    let old = c.self.inside.items.items in
    let now = c.loop-t.self-inside.items.items in
    let keep = marked c.args.keep.now in
    let t = c.loop-t.t in
    let invariant = c.loop-t.invariant in
    let below : t < length old = omega arith in
    let here_now = here (pos 0) keep old now t c.loop-t.count invariant.moved below in
    let more = sum_by_more unsigned_abs old t (pos 0) below in
    let so_far = invariant.sum in
    let few = invariant.moved.few in
    let long = invariant.moved.size in
    let fits : SFits w128 (get_or c.deref.result.now t (pos 0)) = search rules in
    let read = to_z-of_z fits ∙ ap (λ xs. get_or xs t (pos 0)) c.deref.ensures.0 in
    elim c.if-keep-t.branch [
      | then-keep-t w ↦
          let written : c.if-keep-t.self-inside.items.items ≡ set now c.loop-t.count (get_or now t (pos 0)) =
          ap (λ (s : Inside). s.items.items) w.self-inside-is
          ∙ refill_same now (set w.deref_mut.result.now c.loop-t.count _) (length-set w.deref_mut.result.now c.loop-t.count _ ∙ ap length w.deref_mut.ensures.value)
          ∙ (λ i. set (w.deref_mut.ensures.value i) c.loop-t.count (read i)) in
          record {
            moved = compacted-yes (pos 0) keep old now t c.loop-t.count invariant.moved below c.if-keep-t.self-inside.items.items c.if-keep-t.count w.if-keep-t.true written w.count-is;
            lost = dropped_yes keep (λ s. magnitude (at old s)) t (pos c.loop-t.lost) (pos c.if-keep-t.lost) invariant.lost w.if-keep-t.true (ap pos w.lost-is);
            sum =
                let items = (λ i. take (w.count-is i) (written i)) ∙ take_more_set now c.loop-t.count (get_or now t (pos 0)) (omega arith) in
                let parts = ap (sum_by unsigned_abs) items ∙ sum_by-append unsigned_abs (take c.loop-t.count now) (get_or now t (pos 0) ∷ []) in
                let one : sum_by unsigned_abs (get_or now t (pos 0) ∷ []) ≡ unsigned_abs (get_or old t (pos 0)) + 0 =
                ap (λ v. sum_by unsigned_abs (v ∷ [])) here_now ∙ sum_by-cons unsigned_abs (get_or old t (pos 0)) [] in
                let same = w.lost-is in
                omega arith;
            same = ap (λ (s : Inside). s.sum) w.self-inside-is ∙ invariant.same;
          }
      | else-keep-t w ↦
          let left = ap (λ (s : Inside). s.items.items) w.self-inside-is in
          let size = w.unsigned_abs-lost.ensures.value ∙ ap unsigned_abs (read ∙ here_now) in
          let lost : c.if-keep-t.lost ≡ c.loop-t.lost + unsigned_abs (get_or old t (pos 0)) = let is = w.lost-is in omega arith in
          record {
            moved = compacted-no (pos 0) keep old now t c.loop-t.count invariant.moved below c.if-keep-t.self-inside.items.items c.if-keep-t.count w.if-keep-t.false left w.count-is;
            lost = dropped_no keep (λ s. magnitude (at old s)) t (pos c.loop-t.lost) (pos c.if-keep-t.lost) invariant.lost w.if-keep-t.false (magnitude_on c.loop-t.lost c.if-keep-t.lost (get_or old t (pos 0)) lost);
            sum = let items = ap (sum_by unsigned_abs) (λ i. take (w.count-is i) (left i)) in omega arith;
            same = ap (λ (s : Inside). s.sum) w.self-inside-is ∙ invariant.same;
          }
    ]

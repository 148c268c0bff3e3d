use Rattle.std.proofs.Common.{◌≡◌, ℕ, ◌+◌, ℤ, max, nat_eq, if◌then◌else◌, unsigned_abs, ◌≤◌, subst, SFits, to_z-of_z, ◌∙◌, add-one, arith}
use mir.Syntax.{w128}
use Rattle.set_rules.specs.Columns.{at}
use Rattle.farkas_check.specs.Two.{own_of}
use Rattle.farkas_check.proofs.pair.Own.of.Goals as goal

-- one more column
more : (n most next : ℕ) (u v : ℤ) (a b : ℕ → ℤ) → next ≡ max most (if nat_eq (unsigned_abs v) 0 then unsigned_abs u else 0)
    → most ≤ own_of n a b → u ≡ a n → v ≡ b n → next ≤ own_of (n + 1) a b
unfolding own_of
more n most next u v a b is before e f = rw add-one (subst (λ z. next ≤ max (own_of n a b) z) part (within most (own_of n a b) next (if nat_eq (unsigned_abs v) 0 then unsigned_abs u else 0) is before))
  where
    part : (if nat_eq (unsigned_abs v) 0 then unsigned_abs u else 0) ≡ (if nat_eq (unsigned_abs (b n)) 0 then unsigned_abs (a n) else 0)
    part = λ i. if nat_eq (unsigned_abs (f i)) 0 then unsigned_abs (e i) else 0

    within : (most all next here : ℕ) → next ≡ max most here → most ≤ all → next ≤ max all here
    within most all next here is h = omega arith

pub loop-t-init : goal.loop-t-init
loop-t-init c = record { first = omega arith; second = omega arith }

pub loop-t-preserved : goal.loop-t-preserved
loop-t-preserved c =
    let first : SFits w128 c.at.result = record { sfits = c.at.type_inv } in
    let other : SFits w128 c.at-in-loop-t.result = record { sfits = c.at-in-loop-t.type_inv } in
    let second : SFits w128 c.at-in-loop-t-2.result = record { sfits = c.at-in-loop-t-2.type_inv } in
    let another : SFits w128 c.at-in-loop-t-3.result = record { sfits = c.at-in-loop-t-3.type_inv } in
    record {
      first = more c.loop-t.t c.loop-t.first c.with_own-first.result _ _ (at c.args.a.now) (at c.args.b.now) c.with_own-first.ensures c.loop-t.invariant.first
          (to_z-of_z first ∙ c.at.ensures.value) (to_z-of_z other ∙ c.at-in-loop-t.ensures.value);
      second = more c.loop-t.t c.loop-t.second c.with_own-second.result _ _ (at c.args.b.now) (at c.args.a.now) c.with_own-second.ensures c.loop-t.invariant.second
          (to_z-of_z second ∙ c.at-in-loop-t-2.ensures.value) (to_z-of_z another ∙ c.at-in-loop-t-3.ensures.value);
    }

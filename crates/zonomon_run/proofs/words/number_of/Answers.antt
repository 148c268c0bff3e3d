use Rattle.std.proofs.Common.{◌≡◌, ℕ, suc, ◌+◌, ◌*◌, ◌^◌, arith}
use Rattle.std.proofs.Math.Nat.{pow-suc}
use Rattle.dec_text.proofs.Digits.{digit_at, number_more}
use Rattle.zonomon_run.proofs.words.number_of.Goals as goal

-- one more place
next_place : (i : ℕ) → 10 ^ (i + 1) ≡ 10 * 10 ^ i
next_place i = let e : i + 1 ≡ suc i = omega arith in rw (e, pow-suc) (omega arith)

pub loop-c-preserved : goal.loop-c-preserved
loop-c-preserved c =
    let digit = c.from.ensures in
    let range = digit_at c.args.text.now c.loop-c.c-index c.loop-c-test.true c.requires.digits in
    let more = number_more c.args.text.now c.loop-c.c-index c.loop-c-test.true in
    let so_far = c.loop-c.invariant.value in
    let small = c.loop-c.invariant.small in
    record {
      value = omega arith;
      small = omega (arith, next_place c.loop-c.c-index);
    }

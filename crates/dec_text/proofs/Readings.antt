-- A reading keeps its ranges, and lies near the exact number.
use Rattle.std.proofs.Common.{◌≡◌, ℕ, ◌+◌, ◌*◌, ◌%◌, ◌^◌, ◌≤◌, Bool, true, false, ℤ, pos, List, Result, IfOk, IfErr, refl, arith, ◌≢◌}
use Rattle.std.specs.Prelude.{◌==◌, nat_lt, unsigned_abs}
use Rattle.std.proofs.lemmas.Bool.Decides.{nat_tests}
use Rattle.std.proofs.lemmas.Int.{ints}
use Rattle.std.proofs.Math.Nat.{one-le-pow}
use Rattle.fixed_mat.specs.declared.reading.Reading.{Reading}
use Rattle.fixed_mat.specs.declared.reading.Reading.TheVariants.{Value}
use Rattle.dec_text.specs.Reading.{Rational, nearest, slack_of, in_range, rounded, in_billionths, IsInRange, IsNearTo, is_reading_form, value_of, number_said_by}
use Rattle.dec_text.specs.declared.reading.DecFault.{DecFault}
use Rattle.dec_text.specs.declared.reading.DecFault.TheVariants.{TooFine}
use Rattle.dec_text.proofs.Near.{near}

-- what is promised of the answer for an exact value
pub record IsSound (value : Rational) (answer : Result Reading DecFault) : Type 0 where
  pub range : IfOk answer IsInRange
  pub near : IfOk answer (IsNearTo value)
  pub faults : IfErr answer (λ e. e ≢ TooFine)

slack_small : (p q : ℕ) → slack_of p q ≤ 1
slack_small p q = by_rest ((p % q) == 0) refl
  where
    by_rest : (b : Bool) → ((p % q) == 0) ≡ b → slack_of p q ≤ 1
    by_rest true e = rw e (omega arith)
    by_rest false e = rw e (omega arith)

range_sound : (value : Rational) (v : ℤ) (slack : ℕ) → slack ≤ 1 → IsNearTo value (Value v (pos slack)) → IsSound value (in_range v slack)
range_sound value v slack small h = by_size (nat_lt 1000000000000000000 (unsigned_abs v)) refl
  where
    by_size : (b : Bool) → nat_lt 1000000000000000000 (unsigned_abs v) ≡ b → IsSound value (in_range v slack)
    by_size true e = record { range = rw e tt; near = rw e tt; faults = rw e (λ f. absurd (cc)) }
    by_size false e =
        let le : unsigned_abs v ≤ 1000000000000000000 = grind (arith, nat_tests, e) in
        record { range = rw e (le, omega (arith, ints), omega (arith, ints, small)); near = rw e h; faults = rw e tt }

value_sound : (value : Rational) → IsSound value (in_billionths value)
unfolding in_billionths rounded
value_sound value =
    let p = value.digits * 10 ^ (value.up + 9) in
    let q = 10 ^ value.down in
    range_sound value (nearest value.negative p q) (slack_of p q) (slack_small p q) (near value.negative p q (one-le-pow value.down 10 (omega arith)))

pub number_sound : (text : List ℕ) → IsSound (value_of text) (number_said_by text)
number_sound text = by_form (is_reading_form text) refl
  where
    by_form : (b : Bool) → is_reading_form text ≡ b → IsSound (value_of text) (number_said_by text)
    by_form true e = rw e (value_sound (value_of text))
    by_form false e = rw e (record { range = tt; near = tt; faults = λ f. absurd (cc) })

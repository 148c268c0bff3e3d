-- What the parts of a field say together.
use Rattle.std.proofs.Common.{◌≡◌, ℕ, ◌+◌, min, Bool, true, false, ◌&&◌, List, [], length, refl, sym, ◌∙◌, ap, Some, Result, Err}
use Rattle.std.specs.Prelude.{if◌then◌else◌}
use Rattle.std.specs.List.{list_any}
use Rattle.fixed_mat.specs.declared.reading.Reading.{Reading}
use Rattle.dec_text.specs.Decimal.{number, after_sign, is_negative, before_point, after_point, are_digits, is_not_zero}
use Rattle.dec_text.specs.Reading.{is_exact_form, scaled_reading, lost_places, kept_places, kept_tenths, lost_digits, rounded_tenths, mantissa_of, exponent_of, number_said_by}
use Rattle.dec_text.specs.declared.reading.DecFault.{DecFault}
use Rattle.dec_text.specs.declared.reading.DecFault.TheVariants.{Shape}
use Rattle.dec_text.specs.declared.field.TheConstants.{MOST_TENTHS}
use Rattle.dec_text.proofs.Rounds.{capped}
use Rattle.dec_text.proofs.Tenths.{scaled_is}
use Rattle.dec_text.proofs.Bounded.{digits_of_form, bounded_size}

-- the tenths that the digits give, rounded, are the mantissa's reading
pub scaled_by_digits : (mantissa body whole fraction : List ℕ) (divided negative is_fine : Bool) (size lost behind tenths : ℕ) (answer : Result Reading DecFault)
    → negative ≡ is_negative mantissa → body ≡ after_sign mantissa → whole ≡ before_point body → fraction ≡ after_point body
    → are_digits whole fraction ≡ true → lost ≡ lost_places divided size → behind ≡ kept_places divided size
    → tenths ≡ min (kept_tenths whole fraction lost behind) MOST_TENTHS → is_fine ≡ list_any is_not_zero (lost_digits whole fraction lost behind)
    → answer ≡ rounded_tenths negative tenths is_fine → answer ≡ scaled_reading mantissa divided size
scaled_by_digits mantissa body whole fraction divided negative is_fine size lost behind tenths answer n b w f ds l k t fine a =
    let w_is : whole ≡ before_point (after_sign mantissa) = w ∙ ap before_point b in
    let f_is : fraction ≡ after_point (after_sign mantissa) = f ∙ ap after_point b in
    let form : is_exact_form mantissa ≡ true = rw (sym w_is, sym f_is) ds in
    let parts = digits_of_form mantissa form in
    let whole_digits = rw (sym w_is) at parts.0 in
    let fraction_digits = rw (sym f_is) at parts.1 in
    rw (form, sym w_is, sym f_is, sym n) (a ∙ (rw (t, fine, l, k) (capped negative _ _ ∙ sym (scaled_is whole fraction whole_digits fraction_digits negative divided size))))

same_choice : (b : Bool) (answer : Result Reading DecFault) → (if b then answer else Err Shape) ≡ (if b && true then answer else Err Shape)
same_choice true answer = refl
same_choice false answer = refl

-- a mantissa and an exponent of digits
pub scaled_by_exponent : (text mantissa exponent digits : List ℕ) (divided : Bool) (size : ℕ) (answer : Result Reading DecFault)
    → mantissa ≡ mantissa_of text → Some exponent ≡ exponent_of text → divided ≡ is_negative exponent → digits ≡ after_sign exponent
    → are_digits digits [] ≡ true → size ≡ min (number digits) (length mantissa + 10) → answer ≡ scaled_reading mantissa divided size → answer ≡ number_said_by text
scaled_by_exponent text mantissa exponent digits divided size answer m e n d ds s a =
    let scaled : answer ≡ scaled_reading mantissa divided (number digits) = a ∙ (ap (scaled_reading mantissa divided) s ∙ bounded_size mantissa divided (number digits)) in
    let form : are_digits (after_sign exponent) [] ≡ true = rw d at ds in
    scaled ∙ rw (sym e, form, sym m, sym n, sym d) (same_choice (is_exact_form mantissa) _)

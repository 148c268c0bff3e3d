-- A reading taken, step by step.
use Rattle.std.proofs.Common.{◌≡◌, ℕ, zero, suc, List, Option, Some, None, ℤ, ◌+ℤ◌, refl, ap, sym, ◌∙◌, ◌+◌, add-one, arith}
use Rattle.set_rules.specs.Columns.{at}
use Rattle.set_rules.specs.Zono.{Zono}
use Rattle.set_rules.specs.Rows.{Row}
use Rattle.set_rules.specs.Reduce.{reduce_set}
use Rattle.set_rules.specs.Strip.{strip_row}
use Rattle.set_rules.specs.Gain.{gain, substitute}
use Rattle.plant_model.specs.Plant.{Plant, Present, Sample, reading_at, output_row, through_of}
use Rattle.observer_step.specs.Estimate.{row_of, take_row, correct_reading, corrected_after}
use Rattle.observer_step.specs.Ahead.{NoneBefore}

-- the row of a reading
pub row-filled : (p : Plant) (u : List ℤ) (o : ℕ) (r : Present) (z : Zono) (n : ℕ) → p.states ≡ n → (c : List ℤ) (d y f : ℤ) → c ≡ output_row p o → d ≡ through_of p u o → y ≡ r.value → f ≡ at p.noise o +ℤ r.slack
    → strip_row n c d y f z ≡ row_of p u o r z
row-filled p u o r z n states c d y f c_is d_is y_is f_is = λ i. strip_row (sym states i) (c_is i) (d_is i) (y_is i) (f_is i) z

-- a row taken
pub row-taken : (n : ℕ) (row : Row) (z : Zono) (b : ℤ) (columns : List (List ℤ)) (gains : List ℤ) (taken left : Zono)
    → b ≡ row.right → columns ≡ z.columns → gains ≡ gain n columns row.coefficients → taken ≡ substitute n gains (record { coefficients = row.coefficients; right = b }) z → left ≡ reduce_set n 48 taken
    → left ≡ take_row n row z
row-taken n row z b columns gains taken left back columns_is gains_is taken_is left_is =
    left_is ∙ ap (reduce_set n 48) (taken_is ∙ (λ i. substitute n ((gains_is ∙ ap (λ g. gain n g row.coefficients) columns_is) i) (record { coefficients = row.coefficients; right = back i }) z))

-- the row of a reading taken
pub reading-taken : (p : Plant) (u : List ℤ) (o : ℕ) (r : Present) (z : Zono) (n : ℕ) → p.states ≡ n → (row : Row) (now : Zono) → row ≡ row_of p u o r z → now ≡ take_row n row z → now ≡ correct_reading p u o (Some r) z
unfolding correct_reading
reading-taken p u o r z n states row now row_is now_is = now_is ∙ (λ i. take_row (sym states i) (row_is i) z)

-- one reading more
pub readings-taken : (p : Plant) (s : Sample) (m : ℕ) (z before now : Zono) → before ≡ corrected_after p s m z → now ≡ correct_reading p s.inputs m (reading_at s m) before → now ≡ corrected_after p s (m + 1) z
unfolding corrected_after
readings-taken p s m z before now earlier one = one ∙ ap (correct_reading p s.inputs m (reading_at s m)) earlier ∙ sym (ap (λ m. corrected_after p s m z) (add-one m))

missing-taken : (p : Plant) (u : List ℤ) (o : ℕ) (r : Option Present) (z : Zono) → r ≡ None → z ≡ correct_reading p u o r z
unfolding correct_reading
missing-taken p u o r z none = sym (ap (λ r. correct_reading p u o r z) none)

-- no reading changes nothing
pub none-taken : (p : Plant) (s : Sample) (m : ℕ) (z : Zono) → NoneBefore s m → z ≡ corrected_after p s m z
unfolding corrected_after
none-taken p s zero z none = refl
none-taken p s (suc m) z none =
    missing-taken p s.inputs m (reading_at s m) z (none m (omega arith)) ∙ ap (correct_reading p s.inputs m (reading_at s m)) (none-taken p s m z (λ o h. none o (omega arith)))

-- the first reading
pub first-taken : (p : Plant) (s : Sample) (o : ℕ) (r : Present) (z now : Zono) → NoneBefore s o → reading_at s o ≡ Some r → now ≡ correct_reading p s.inputs o (Some r) z → now ≡ corrected_after p s (o + 1) z
first-taken p s o r z now none is one =
    readings-taken p s o z z now (none-taken p s o z none) (one ∙ ap (λ r. correct_reading p s.inputs o r z) (sym is))

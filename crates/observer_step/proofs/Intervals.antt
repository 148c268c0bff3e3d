-- The row of a reading gives the interval that is predicted of its output.
use Rattle.std.proofs.Common.{◌≡◌, ◌≤◌, ◌^◌, ◌&&◌, true, ℕ, List, [], ◌∷◌, ◌++◌, length, ℤ, pos, ◌+ℤ◌, ◌-ℤ◌, ◌≤ℤ◌, unsigned_abs, ap, ◌∙◌, arith}
use Rattle.std.proofs.lemmas.Int.{ints}
use Rattle.std.proofs.lemmas.List.Sums.{sum_by-append}
use Rattle.std.proofs.lemmas.List.Folds.{list_all-append}
use Rattle.std.proofs.lemmas.Bool.Decides.{nat_tests}
use Rattle.std.specs.List.{list_all, sum_by}
use Rattle.set_rules.specs.Sum.{total}
use Rattle.set_rules.specs.Columns.{at, tabulate}
use Rattle.set_rules.specs.Round.{rnd, residue}
use Rattle.set_rules.specs.Zono.{Zono}
use Rattle.set_rules.specs.Rows.{Row}
use Rattle.set_rules.specs.Strip.{strip_row, raw_output, raw_coefficient, output_slack, half_width, out_interval}
use Rattle.set_rules.proofs.Rounds.{ceil_s-least}
use Rattle.zono_set.proofs.Bound.{residue-half, residues-within, sum_by-tabulate}
use Rattle.plant_model.specs.Plant.{Plant, Present, output_row, through_of}
use Rattle.observer_step.specs.Predicted.{out_of}
use Rattle.observer_step.specs.Estimate.{row_of}
use Rattle.observer_step.specs.Seen.{is_printable_interval}

-- what the row of a reading y says of the interval, of which it has the slack twice over
abbrev pub interval_in : ℤ → ℤ → Row → ℤ × ℤ
interval_in y slack row = (y -ℤ row.right -ℤ (pos (sum_by unsigned_abs row.coefficients) -ℤ slack), y -ℤ row.right +ℤ (pos (sum_by unsigned_abs row.coefficients) -ℤ slack))

module _ (n : ℕ) (c : List ℤ) (d y noise slack : ℤ) (z : Zono) (low : pos 0 ≤ℤ noise) (slight : pos 0 ≤ℤ slack) where
  cover : pos 0 ≤ℤ output_slack n c d z
  cover =
      let first = residue-half (raw_output n c d z) in
      let rest = residues-within (length z.columns) (raw_coefficient n c z) in
      let covers = (ceil_s-least (residue (raw_output n c d z) +ℤ total (length z.columns) (λ t. residue (raw_coefficient n c z t)))).covers in
      omega (arith, ints, first.0, rest.0)

  sum-is : pos (sum_by unsigned_abs (strip_row n c d y (noise +ℤ slack) z).coefficients) ≡ half_width n c d noise z +ℤ slack
  unfolding strip_row
  sum-is =
      let f : ℕ → ℤ = λ t. rnd (raw_coefficient n c z t) in
      let last = noise +ℤ slack +ℤ output_slack n c d z in
      let split = sum_by-append unsigned_abs (tabulate (length z.columns) f) (last ∷ []) in
      let front = sum_by-tabulate (length z.columns) f in
      let natural = cover in
      omega (arith, ints)

  right-is : y -ℤ (strip_row n c d y (noise +ℤ slack) z).right ≡ rnd (raw_output n c d z)
  unfolding strip_row
  right-is = omega (arith, ints)

  pub interval-in_row : interval_in y slack (strip_row n c d y (noise +ℤ slack) z) ≡ out_interval n c d noise z
  unfolding out_interval
  interval-in_row =
      let half : pos (sum_by unsigned_abs (strip_row n c d y (noise +ℤ slack) z).coefficients) -ℤ slack ≡ half_width n c d noise z = let sum = sum-is in omega (arith, ints) in
      λ i. (right-is i -ℤ half i, right-is i +ℤ half i)

-- the same, of a plant
pub interval-of_row : (p : Plant) (u : List ℤ) (o : ℕ) (r : Present) (z : Zono) → pos 0 ≤ℤ at p.noise o → pos 0 ≤ℤ r.slack → (row : Row) → row ≡ row_of p u o r z → interval_in r.value r.slack row ≡ out_of p u z o
interval-of_row p u o r z low slight row is =
    ap (interval_in r.value r.slack) is ∙ interval-in_row p.states (output_row p o) (through_of p u o) r.value (at p.noise o) r.slack z low slight

-- one more interval that can be printed
pub printable-more : (outs : List (ℤ × ℤ)) (ends : ℤ × ℤ) → list_all is_printable_interval outs ≡ true → is_printable_interval ends ≡ true → list_all is_printable_interval (outs ++ ends ∷ []) ≡ true
printable-more outs ends all last = list_all-append is_printable_interval outs (ends ∷ []) ∙ (λ i. all i && (last i && true))

pub printable-ends : (ends : ℤ × ℤ) → unsigned_abs ends.0 ≤ 10 ^ 24 → unsigned_abs ends.1 ≤ 10 ^ 24 → is_printable_interval ends ≡ true
printable-ends ends low high = grind (arith, nat_tests)

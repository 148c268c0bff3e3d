-- How far a box reaches.
use Rattle.std.proofs.Common.{◌≡◌, ℕ, ◌<◌, List, ℤ, pos, ◌+ℤ◌, ap, ◌∙◌, arith}
use Rattle.std.proofs.lemmas.Bool.Decides.{nat_tests}
use Rattle.set_rules.specs.Sum.{total, magnitude}
use Rattle.set_rules.specs.Symbols.{diagonal}
use Rattle.set_rules.specs.Columns.{at, column_entry, row_magnitude, tabulate}
use Rattle.set_rules.specs.Reduce.{diagonal_columns}
use Rattle.set_rules.specs.Zono.{reach}
use Rattle.set_rules.specs.Box.{box}
use Rattle.set_rules.proofs.Sums.{total-same, total-single}
use Rattle.set_rules.proofs.ImageSets.{length-tabulate, entry-tabulate}

-- each row of diagonal columns has one entry
pub row_magnitude-diagonal : (n : ℕ) (r : ℕ → ℤ) (i : ℕ) → i < n → row_magnitude (diagonal_columns n r) i ≡ magnitude (r i)
row_magnitude-diagonal n r i h =
    let entry : ℕ → ℕ → ℤ = λ i t. diagonal r i t in
    ap (λ m. total m (λ t. magnitude (column_entry (diagonal_columns n r) i t))) (length-tabulate n (λ j. tabulate n (λ i. diagonal r i j)))
    ∙ total-same n (λ t. magnitude (column_entry (diagonal_columns n r) i t)) (λ t. magnitude (entry i t)) (λ t l. ap magnitude (entry-tabulate n n entry i t h l))
    ∙ total-single n i (λ t. magnitude (entry i t)) h (λ j l ne. ap magnitude (off i j ne)) ∙ ap magnitude (on i)
  where
    on : (i : ℕ) → diagonal r i i ≡ r i
    on i = grind (arith, nat_tests)

    off : (i j : ℕ) → ¬ (j ≡ i) → diagonal r i j ≡ pos 0
    off i j ne = grind (arith, nat_tests)

pub reach-box : (n : ℕ) (centre radius : List ℤ) (i : ℕ) → i < n → reach (box n centre radius) i ≡ magnitude (at centre i) +ℤ magnitude (at radius i)
reach-box n centre radius i h = ap (λ z. magnitude (at centre i) +ℤ z) (row_magnitude-diagonal n (at radius) i h)

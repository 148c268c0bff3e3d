-- The row of an output, read as a matrix of one row.
use Rattle.std.proofs.Common.{◌≡◌, ℕ, List, length, ℤ, ap}
use Rattle.set_rules.specs.Sum.{magnitude}
use Rattle.set_rules.specs.Columns.{column_entry}
use Rattle.set_rules.specs.Round.{rnd, residue}
use Rattle.set_rules.specs.Zono.{Zono}
use Rattle.set_rules.specs.Strip.{raw_coefficient, output_row, output_size, output_residue}
use Rattle.set_rules.specs.Products.{product, rounded_row, rounded_size, row_residue}
use Rattle.set_rules.proofs.Sums.{total-same}
use Rattle.fixed_mat.proofs.Columns.{tabulate-same}
use Rattle.zono_set.proofs.Steps.{first_row}

module _ (n : ℕ) (c : List ℤ) (z : Zono) where
  coefficient : (t : ℕ) → product n c 0 z.columns t ≡ raw_coefficient n c z t
  coefficient t = first_row n c (λ l. column_entry z.columns l t)

  pub row_is : rounded_row n c 0 z.columns ≡ output_row n c z
  row_is = tabulate-same (length z.columns) (λ t. rnd (product n c 0 z.columns t)) (λ t. rnd (raw_coefficient n c z t)) (λ t _. ap rnd (coefficient t))

  pub size_is : rounded_size n c 0 z.columns ≡ output_size n c z
  size_is = total-same (length z.columns) (λ t. magnitude (rnd (product n c 0 z.columns t))) (λ t. magnitude (rnd (raw_coefficient n c z t))) (λ t _. ap (λ v. magnitude (rnd v)) (coefficient t))

  pub residue_is : row_residue n c 0 z.columns ≡ output_residue n c z
  residue_is = total-same (length z.columns) (λ t. residue (product n c 0 z.columns t)) (λ t. residue (raw_coefficient n c z t)) (λ t _. ap residue (coefficient t))

-- Certificates of exclusion, as the definitions see them.
use Rattle.std.specs.Prelude.{ℕ, List, take, ℤ}
use Rattle.farkas_check.specs.declared.certificate.Multipliers.{Multipliers}
use Rattle.farkas_check.specs.declared.certificate.Cert.{Cert}
use Rattle.farkas_check.specs.declared.certificate.Cert.TheVariants.{Out, Rows}

-- an output whose reading misses its predicted interval, or multipliers that refute the kept rows
pub data Certificate : Type 0 where
  by_out : ℕ → Certificate
  by_rows : List ℤ → Certificate

-- the multipliers, in the order of the rows
abbrev pub list_of : Multipliers → List ℤ
list_of m = take m.count m.values

-- the certificate that the code has
abbrev pub certificate_of : Cert → Certificate
certificate_of (Out o) = by_out o
certificate_of (Rows m) = by_rows (list_of m)

-- One reading keeps each point that reads it.
use Rattle.std.proofs.Common.{◌≡◌, ℕ, ◌+◌, ◌<◌, ◌≤◌, List, [], ◌∷◌, length, Bool, true, false, ℤ, pos, ◌+ℤ◌, if◌then◌else◌, refl, sym, ap, ◌∙◌, arith, subst, length-append}
use Rattle.std.proofs.lemmas.List.{get_or_past}
use Rattle.set_rules.specs.Sum.{joined}
use Rattle.set_rules.specs.Symbols.{Symbols}
use Rattle.set_rules.specs.Columns.{at, column_entry, tabulate}
use Rattle.set_rules.specs.Round.{rnd}
use Rattle.set_rules.specs.Zono.{Zono, Inside}
use Rattle.set_rules.specs.Rows.{Row, MeetsRow, GivesPoint}
use Rattle.set_rules.specs.Strip.{strip_row, raw_coefficient, output_slack, Reads}
use Rattle.set_rules.specs.Gain.{gain, is_used, substitution, substitute}
use Rattle.set_rules.specs.Laws.{MeetsMore}
use Rattle.set_rules.proofs.Sums.{joined-before, joined-after}
use Rattle.set_rules.proofs.ImageSets.{length-tabulate, by_parts, Gives-same}
use Rattle.set_rules.proofs.Absorb.{Gives-continues}
use Rattle.set_rules.proofs.ReductionHolds.{reduction-keeps}
use Rattle.set_rules.proofs.SubstitutionHolds.{given-more}
use Rattle.set_rules.proofs.StripHolds.{met-more}
use Rattle.observer_step.specs.Estimate.{trim}

pub length-strip : (n : ℕ) (c : List ℤ) (d y f : ℤ) (z : Zono) → length (strip_row n c d y f z).coefficients ≡ length z.columns + 1
unfolding strip_row
length-strip n c d y f z = length-append (tabulate (length z.columns) (λ t. rnd (raw_coefficient n c z t))) ((f +ℤ output_slack n c d z) ∷ []) ∙ ap (λ m. m + 1) (length-tabulate (length z.columns) (λ t. rnd (raw_coefficient n c z t)))

module _ (n q : ℕ) (c : List ℤ) (d y f : ℤ) (z : Zono) (x : List ℤ) (positive : 1 ≤ q) (inside : Inside n z x q) (reads : Reads n c d q x y f) where
  abbrev k : ℕ
  k = length z.columns

  abbrev row : Row
  row = strip_row n c d y f z

  more : MeetsMore k (k + 1) q inside.0 row
  more = met-more n q c d y f z x inside.0 positive inside.1 reads

  -- the new symbol's column is past the last
  column-past : (i t : ℕ) → t < k + 1 → joined k (column_entry z.columns i) (λ _. pos 0) t ≡ column_entry z.columns i t
  column-past i =
      by_parts (λ t. joined k (column_entry z.columns i) (λ _. pos 0) t ≡ column_entry z.columns i t) k 1
      (λ t l. joined-before k (column_entry z.columns i) (λ _. pos 0) t l)
      (λ t l. joined-after k (column_entry z.columns i) (λ _. pos 0) t ∙ sym (ap (λ c. at c i) (get_or_past z.columns (k + t) [] (omega arith))))

  point-more : GivesPoint n (k + 1) q more.symbols z x
  point-more = Gives-same n (k + 1) q more.symbols (at z.centre) (at z.centre) (λ i. joined k (column_entry z.columns i) (λ _. pos 0)) (column_entry z.columns) (at x)
      (λ i l. refl) (λ i l t m. column-past i t m)
      (Gives-continues k 1 q inside.0 more.symbols more.continues n (at z.centre) (column_entry z.columns) (at x) inside.1)

  taken : Inside n (substitution n (gain n z.columns row.coefficients) row z) x q
  taken =
      let old = subst (λ m. (s : Symbols m q) × GivesPoint n m q s z x × MeetsRow m q s row) (sym (length-strip n c d y f z)) (more.symbols, point-more, more.meets) in
      let new = given-more n q (gain n z.columns row.coefficients) row z x old.0 old.1 old.2 in
      (new.symbols, new.gives)

  pub plain-keeps : Inside n (trim n (substitute n (gain n z.columns row.coefficients) row z)) x q
  plain-keeps = reduction-keeps n 48 q (substitute n (gain n z.columns row.coefficients) row z) x (by (is_used n z (substitution n (gain n z.columns row.coefficients) row z)))
    where
      by : (b : Bool) → Inside n (if b then substitution n (gain n z.columns row.coefficients) row z else z) x q
      by true = taken
      by false = inside

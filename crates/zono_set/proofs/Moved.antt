-- What is added up while an image is made: its radii, and what makes up for the rounding.
use Rattle.std.proofs.Common.{◌≡◌, ℕ, ◌<◌, ◌≤◌, List, length, ℤ, pos, ◌+ℤ◌, ◌≤ℤ◌, unsigned_abs, sym, ap, ◌∙◌, arith}
use Rattle.std.proofs.lemmas.Int.{ints}
use Rattle.set_rules.specs.Sum.{total, magnitude}
use Rattle.set_rules.specs.Columns.{at, entry, row_magnitude, tabulate}
use Rattle.set_rules.specs.Round.{rnd, residue, ceil_s}
use Rattle.set_rules.specs.Reduce.{diagonal_columns}
use Rattle.set_rules.specs.Zono.{Zono, range, InRange}
use Rattle.set_rules.specs.Image.{image, raw_centre, raw_entry, slack}
use Rattle.set_rules.proofs.Sums.{total-magnitudes-low}
use Rattle.set_rules.proofs.Rounds.{ceil_s-least}
use Rattle.set_rules.proofs.ImageSets.{length-tabulate, get_or-tabulate, centre-image, reach-image, slack-in_range}
use Rattle.fixed_mat.proofs.Columns.{tabulate-same}
use Rattle.girard_reduce.proofs.Reduced.{same_box}
use Rattle.zono_set.proofs.Bound.{residue-half, residues-within}

module _ (n w : ℕ) (a shift e : List ℤ) (z : Zono) (i : ℕ) (h : i < n) where
  -- the radius of an image: the magnitudes of the moved columns, of the noise, and what makes up for the rounding
  pub radius-image : row_magnitude (image n w a shift e z).columns i ≡ total (length z.columns) (λ t. magnitude (rnd (raw_entry n a z i t))) +ℤ total w (λ t. magnitude (entry 8 e i t)) +ℤ slack n a shift z i
  radius-image =
      let c = ap magnitude (centre-image n w a shift e z i h) in
      let is = reach-image n w a shift e z i h in
      omega (arith, ints, c, is)

  pub slack-low : pos 0 ≤ℤ slack n a shift z i
  slack-low =
      let covers = (ceil_s-least (residue (raw_centre n a shift z i) +ℤ total (length z.columns) (λ t. residue (raw_entry n a z i t)))).covers in
      let half = (residue-half (raw_centre n a shift z i)).0 in
      let within = (residues-within (length z.columns) (raw_entry n a z i)).0 in
      omega (arith, ints, covers, half, within)

  -- the moved columns of an image in range are in range
  pub moved-within : InRange n (image n w a shift e z) → total (length z.columns) (λ t. magnitude (rnd (raw_entry n a z i t))) ≤ℤ pos range
  moved-within fits =
      let most = fits i h in
      let is = reach-image n w a shift e z i h in
      let noise = total-magnitudes-low w (λ t. entry 8 e i t) in
      let low = slack-low in
      omega (arith, ints, most, is, noise, low)

-- what makes up for the rounding, from what it leaves of the centre and of the columns
module _ (n : ℕ) (a shift : List ℤ) (z : Zono) (of_centre slacks : List ℤ) (left : ℕ → ℕ)
    (centre : of_centre ≡ tabulate n (λ i. residue (raw_centre n a shift z i)))
    (columns : (i : ℕ) → i < n → pos (left i) ≡ total (length z.columns) (λ t. residue (raw_entry n a z i t)))
    (made : slacks ≡ tabulate (length of_centre) (λ i. ceil_s (at of_centre i +ℤ pos (left i)))) where
  items : slacks ≡ tabulate n (slack n a shift z)
  items =
      let r : ℕ → ℤ = λ i. ceil_s (at of_centre i +ℤ pos (left i)) in
      made ∙ ap (λ n. tabulate n r) (ap length centre ∙ length-tabulate n (λ i. residue (raw_centre n a shift z i)))
      ∙ tabulate-same n r (slack n a shift z) (λ i h ι. ceil_s ((ap (λ xs. at xs i) centre ∙ get_or-tabulate n (λ i. residue (raw_centre n a shift z i)) i (pos 0) h) ι +ℤ columns i h ι))

  pub slacks-long : length slacks ≡ n
  slacks-long = ap length items ∙ length-tabulate n (slack n a shift z)

  pub slacks-are : (i : ℕ) → i < n → at slacks i ≡ slack n a shift z i
  slacks-are i h = ap (λ xs. at xs i) items ∙ get_or-tabulate n (slack n a shift z) i (pos 0) h

  pub slacks-within : (w : ℕ) (e : List ℤ) → InRange n (image n w a shift e z) → (i : ℕ) → i < n → unsigned_abs (at slacks i) ≤ range
  slacks-within w e fits i h =
      let same = ap unsigned_abs (slacks-are i h) in
      let small = slack-in_range n w a shift e z fits i h in
      omega (arith, same, small)

  pub slacks-columns : diagonal_columns n (at slacks) ≡ diagonal_columns n (slack n a shift z)
  slacks-columns =
      let s : ℕ → ℤ = slack n a shift z in
      same_box n (at slacks) s slacks-are

-- no state of a centre leaves much
pub centre-left : (n : ℕ) (f : ℕ → ℤ) (left : List ℤ) → left ≡ tabulate n (λ i. residue (f i)) → (i : ℕ) → i < length left → (pos 0 ≤ℤ at left i) × (at left i ≤ℤ pos 1_000_000_000_000)
centre-left n f left is i h =
    let long = ap length is ∙ length-tabulate n (λ i. residue (f i)) in
    let below : i < n = omega (arith, h, long) in
    let same = ap (λ xs. at xs i) is ∙ get_or-tabulate n (λ i. residue (f i)) i (pos 0) below in
    let half = residue-half (f i) in
    (omega (arith, ints, same, half.0), omega (arith, ints, same, half.1))

-- the radii that are added up are those of the image
pub radii-added : (n w : ℕ) (a shift e : List ℤ) (z new : Zono) (slacks radii : List ℤ) (sizes : ℕ → ℕ)
    → ((i : ℕ) → i < n → pos (sizes i) ≡ total (length z.columns) (λ t. magnitude (rnd (raw_entry n a z i t))))
    → ((i : ℕ) → i < n → at slacks i ≡ slack n a shift z i)
    → radii ≡ tabulate n (λ i. pos (sizes i) +ℤ total w (λ t. magnitude (entry 8 e i t)) +ℤ at slacks i)
    → new ≡ image n w a shift e z → radii ≡ tabulate n (row_magnitude new.columns)
radii-added n w a shift e z new slacks radii sizes sums are added made =
    added ∙ tabulate-same n (λ i. pos (sizes i) +ℤ total w (λ t. magnitude (entry 8 e i t)) +ℤ at slacks i) (row_magnitude new.columns)
    (λ i h. (λ ι. sums i h ι +ℤ total w (λ t. magnitude (entry 8 e i t)) +ℤ are i h ι) ∙ sym (ap (λ (z : Zono). row_magnitude z.columns i) made ∙ radius-image n w a shift e z i h))

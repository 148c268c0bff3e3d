-- The oldest row taken out, by whether the set takes its shares; and what is held with no rows.
use Rattle.std.proofs.Common.{◌≡◌, ℕ, ℤ, ◌<◌, Bool, true, false, List, [], ◌∷◌, length, map, drop, if◌then◌else◌, refl, ap, arith, ◌∙◌}
use Rattle.set_rules.specs.Zono.{Zono, Inside}
use Rattle.set_rules.specs.Rows.{Row, row_at, widened_by, InsideAll, IsAligned}
use Rattle.set_rules.specs.Gain.{gain, substitution, substitute, is_used}
use Rattle.set_rules.specs.Products.{row_with}
use Rattle.zono_set.specs.Used.{used_where}
use Rattle.zono_set.specs.declared.zono.substitute.Used.TheVariants.{Yes, No}
use Rattle.set_rules.specs.Keep.{with_rows, without_oldest, used_up}

pub taken : (n : ℕ) (base : Zono) (rows : List Row) → 0 < length rows → is_used n base (used_up n (row_at rows 0) base) ≡ true
    → without_oldest n base rows ≡ with_rows (used_up n (row_at rows 0) base) (map (widened_by n) (drop 1 rows))
unfolding without_oldest
taken n base [] h e = absurd (omega arith)
taken n base (row ∷ rows) h e = ap (λ b. if b then with_rows (used_up n row base) (map (widened_by n) rows) else with_rows base rows) e

pub left : (n : ℕ) (base : Zono) (rows : List Row) → 0 < length rows → is_used n base (used_up n (row_at rows 0) base) ≡ false
    → without_oldest n base rows ≡ with_rows base (drop 1 rows)
unfolding without_oldest
left n base [] h e = absurd (omega arith)
left n base (row ∷ rows) h e = ap (λ b. if b then with_rows (used_up n row base) (map (widened_by n) rows) else with_rows base rows) e

-- with no rows a point inside the zonotope is inside
pub inside-without : (n q : ℕ) (z : Zono) (rows : List Row) (x : List ℤ) → rows ≡ [] → Inside n z x q → InsideAll n (with_rows z rows) x q
inside-without n q z rows x none inside = record {
  symbols = inside.0;
  gives = inside.1;
  meets = λ r h. absurd (let long = ap length none in omega arith);
}

-- rows of one width are aligned with as many columns
pub aligned : (z : Zono) (rows : List Row) (width : ℕ) → ((r : ℕ) → r < length rows → length (row_at rows r).coefficients ≡ width) → width ≡ length z.columns → IsAligned (with_rows z rows)
aligned z rows width each same r h = each r h ∙ same

-- what a substitution by the row's own gain makes of the set, from the parts that are at hand
pub used_up_is : (n : ℕ) (base : Zono) (row : Row) (a gains : List ℤ) (columns : List (List ℤ)) (b : ℤ) → a ≡ row.coefficients → b ≡ row.right → columns ≡ base.columns → gains ≡ gain n columns a
    → substitution n gains (row_with a b) base ≡ used_up n row base
used_up_is n base row a gains columns b is_a is_b is_columns is_gains =
    λ i. substitution n ((is_gains ∙ (λ j. gain n (is_columns j) (is_a j))) i) (row_with (is_a i) (is_b i)) base

-- a substitution that is used, and one that is not
pub substitute-yes : (n : ℕ) (gains : List ℤ) (row : Row) (z : Zono) → is_used n z (substitution n gains row z) ≡ true → substitute n gains row z ≡ substitution n gains row z
substitute-yes n gains row z e = ap (λ b. if b then substitution n gains row z else z) e

pub substitute-no : (n : ℕ) (gains : List ℤ) (row : Row) (z : Zono) → is_used n z (substitution n gains row z) ≡ false → substitute n gains row z ≡ z
substitute-no n gains row z e = ap (λ b. if b then substitution n gains row z else z) e

-- what the answer tells of the test
pub was-used : (b : Bool) → used_where b ≡ Yes → b ≡ true
was-used true e = refl
was-used false e = cc

pub was-left : (b : Bool) → used_where b ≡ No → b ≡ false
was-left true e = cc
was-left false e = refl

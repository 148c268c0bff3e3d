use Rattle.std.proofs.Common.{◌≡◌, ℕ, ◌<◌, ◌≤◌, ◌++◌, true, ◌&&◌, int_le, if◌then◌else◌, take, List, length, ℤ, pos, ◌+ℤ◌, ◌-ℤ◌, ◌*ℤ◌, unsigned_abs, to_z, of_z, mul-one, ap, ◌∙◌, sym, subst, arith}
use Rattle.std.proofs.lemmas.Int.{ints}
use mir.Syntax.{w128}
use Rattle.set_rules.specs.Columns.{at, column_entry, row_magnitude, tabulate}
use Rattle.set_rules.specs.Round.{rnd}
use Rattle.set_rules.specs.Rows.{Row}
use Rattle.set_rules.specs.Zono.{Zono, range, InRange}
use Rattle.set_rules.specs.Gain.{substitution, residue_radius, in_range, spread, is_used}
use Rattle.set_rules.proofs.ImageSets.{length-tabulate, get_or-tabulate}
use Rattle.set_rules.proofs.SubstitutionHolds.{new_centre-in_range, new_entry-in_range, radius-in_range, substitution-parts, substitution-keeps}
use Rattle.fixed_mat.proofs.Bits.{back}
use Rattle.fixed_mat.proofs.Columns.{tabulate-same}
use Rattle.girard_reduce.proofs.Reduced.{same_box}
use Rattle.zono_set.specs.Holds.{HoldsRow}
use Rattle.zono_set.specs.Used.{used_where}
use Rattle.zono_set.proofs.Steps.{filled-all}
use Rattle.zono_set.proofs.Kept.{added-are, added-within}
use Rattle.zono_set.proofs.Taken.{used-in_range}
use Rattle.zono_set.proofs.Ahead.{substitution-same}
use Rattle.zono_set.proofs.zono.Zono.substitute_in.Given.{Over}
use Rattle.zono_set.proofs.zono.Zono.substitute_in.Goals as goal
use Rattle.zono_set.proofs.zono.Zono.substitute_in.Goals.{After-look_ahead, After-deref, After-push_radii}

module _ (g : Over) (c : After-look_ahead g) where
  abbrev bits : ℤ
  bits = to_z w128 (of_z w128 c.args.b)

  abbrev row : Row
  row = record { coefficients = c.args.a.now; right = bits }

  abbrev padded : Zono
  padded = record { centre = c.self.inside.centre; columns = c.pad.new.cols }

  abbrev inside : Zono
  inside = record { centre = c.self.inside.centre; columns = c.self.inside.cols }

  abbrev made_set : Zono
  made_set = substitution g.row.N c.args.gain.now row c.args.self.now

  right_is : bits ≡ c.args.b
  right_is = back c.args.b (let h = c.requires.right in omega arith)

  same_set : substitution g.row.N c.args.gain.now row padded ≡ made_set
  same_set =
      substitution-same g.row.N c.args.gain.now row c.self.inside.centre c.pad.new.cols c.self.inside.cols c.pad.ensures.same
      ∙ ap (substitution g.row.N c.args.gain.now row) c.self.view_is

  before_is : to_z w128 (of_z w128 c.spread-before.result) ≡ spread g.row.N c.args.self.now
  before_is =
      let low = c.spread-before.ensures.low in
      let high = c.spread-before.ensures.high in
      back c.spread-before.result (omega (arith, ints)) ∙ c.spread-before.ensures.value

  test_is : (in_range g.row.N (substitution g.row.N c.args.gain.now row padded) && int_le (spread g.row.N (substitution g.row.N c.args.gain.now row padded)) (to_z w128 (of_z w128 c.spread-before.result)))
      ≡ is_used g.row.N c.args.self.now made_set
  test_is = λ ι. in_range g.row.N (same_set ι) && int_le (spread g.row.N (same_set ι)) (before_is ι)

  -- the right side comes back from its bits
  made_with : made_set ≡ substitution g.row.N c.args.gain.now (record { coefficients = c.args.a.now; right = c.args.b }) c.args.self.now
  made_with = ap (λ b. substitution g.row.N c.args.gain.now (record { coefficients = c.args.a.now; right = b }) c.args.self.now) right_is

pub returns-in_default-clause-used : goal.returns-in_default-clause-used
returns-in_default-clause-used g c =
    let here = (goal.at.returns-in_default-clause-used g c).After-look_ahead in
    ap used_where (c.in_default.ensures.used ∙ test_is g here ∙ ap (is_used g.row.N c.args.self.now) (made_with g here))

pub returns-in_default-clause-value : goal.returns-in_default-clause-value
returns-in_default-clause-value g c =
    let here = (goal.at.returns-in_default-clause-value g c).After-look_ahead in
    let new : Zono = substitution g.row.N c.args.gain.now (record { coefficients = c.args.a.now; right = c.args.b }) c.args.self.now in
    let kept : c.truncate.new.self ≡ c.self.inside.cols =
    c.truncate.ensures ∙ ap (λ n. take n c.pad.new.cols) c.len-count.ensures.value ∙ c.pad.ensures.begins in
    let made : List (List ℤ) → Zono = λ columns. record { centre = c.self.inside.centre; columns = columns } in
    ap made kept ∙ c.self.view_is
    ∙ ap (λ test. if test then new else c.args.self.now) (c.in_default.ensures.used ∙ test_is g here ∙ ap (is_used g.row.N c.args.self.now) (made_with g here))

module _ (g : Over) (c : After-deref g) where
  abbrev here : After-look_ahead g
  here = (goal.at.replace-requires g c).After-look_ahead

  taken : is_used g.row.N c.args.self.now (made_set g here) ≡ true
  taken = sym (c.in-Some.ensures.used ∙ test_is g here)

  fits : InRange g.row.N (made_set g here)
  fits = used-in_range g.row.N c.args.self.now (made_set g here) taken

  fits_inside : InRange g.row.N (substitution g.row.N c.args.gain.now (row g here) (inside g here))
  fits_inside = subst (λ (z : Zono). InRange g.row.N (substitution g.row.N c.args.gain.now (row g here) z)) (sym c.self.view_is) fits

  fits_padded : InRange g.row.N (substitution g.row.N c.args.gain.now (row g here) (padded g here))
  fits_padded = subst (InRange g.row.N) (sym (same_set g here)) fits

  rest_is : (i : ℕ) → i < g.row.N → (t : ℕ) → t < length c.args.a.now → column_entry c.look_ahead.new.rest t i ≡ column_entry c.self.inside.cols i t -ℤ rnd (at c.args.gain.now i *ℤ at c.args.a.now t)
  rest_is i h t l = c.in-Some.ensures.rest i h t l ∙ ap (λ v. v -ℤ rnd (at c.args.gain.now i *ℤ at c.args.a.now t)) (c.pad.ensures.same i t)

pub replace-requires : goal.replace-requires
replace-requires g c =
    let f : ℕ → ℤ = λ i. at c.self.inside.centre i +ℤ rnd (at c.args.gain.now i *ℤ to_z w128 (of_z w128 c.args.b)) in
    let is = c.deref.ensures.0 ∙ c.in-Some.ensures.centre in
    let long = ap length is ∙ length-tabulate g.row.N f in
    (omega arith, (long ∙ sym (mul-one g.row.N), filled-all g.row.N f c.deref.result.now range is (λ i h. new_centre-in_range g.row.N 0 c.args.gain.now (row g (here g c)) (inside g (here g c)) (fits_inside g c) i h)))

pub replace-requires-2 : goal.replace-requires-2
replace-requires-2 g c =
    let first = (goal.at.replace-requires-2 g c).After-deref in
    let made = substitution g.row.N c.args.gain.now (row g (here g first)) (padded g (here g first)) in
    let is = c.deref-2.ensures.0 ∙ c.in-Some.ensures.sizes in
    let long = ap length is ∙ length-tabulate g.row.N (row_magnitude made.columns) in
    (omega arith, (long ∙ sym (mul-one g.row.N), added-within g.row.N made c.deref-2.result.now (fits_padded g first) is))

pub take_rest-requires : goal.take_rest-requires
take_rest-requires g c =
    let first = (goal.at.take_rest-requires g c).After-deref in (
      omega arith,
      λ i h t l. let under : t < length c.args.a.now = let n = c.pad.ensures.len in let m = c.len.ensures.value in omega arith in
          subst (λ v. unsigned_abs v ≤ range) (sym (rest_is g first i h t under)) (new_entry-in_range g.row.N 0 c.args.gain.now (row g (here g first)) (inside g (here g first)) (fits_inside g first) i h t under),
    )

pub push_radii-requires : goal.push_radii-requires
push_radii-requires g c =
    let first = (goal.at.push_radii-requires g c).After-deref in
    let r : ℕ → ℤ = residue_radius c.args.gain.now (row g (here g first)) in
    let is = c.deref-3.ensures.0 ∙ c.in-Some.ensures.radii in
    let long = ap length c.take_rest.ensures ∙ length-tabulate (length c.pad.new.cols) _ in
    let n = c.pad.ensures.len in
    let m = c.len.ensures.value in
    let room = c.requires.room in (
      omega arith,
      (
        ap length is ∙ length-tabulate g.row.N r,
        (
          omega arith,
          λ i h. subst (λ v. unsigned_abs v ≤ range) (sym (ap (λ xs. at xs i) is ∙ get_or-tabulate g.row.N r i (pos 0) h)) (radius-in_range g.row.N 0 c.args.gain.now (row g (here g first)) c.args.self.now (fits g first) i h),
        ),
      ),
    )

made : (g : Over) (c : After-push_radii g) → let new : Zono = record { centre = c.replace.new.self; columns = c.push_radii.new.cols } in new ≡ made_set g (here g (goal.at.invariant_of-self-2 g c).After-deref)
made g c =
    let first = (goal.at.invariant_of-self-2 g c).After-deref in
    let r : ℕ → ℤ = residue_radius c.args.gain.now (row g (here g first)) in
    let is = c.deref-3.ensures.0 ∙ c.in-Some.ensures.radii in
    let left : ℕ → List ℤ = λ t. tabulate g.row.N (λ i. column_entry c.look_ahead.new.rest t i) in
    let taken : ℕ → List ℤ = λ t. tabulate g.row.N (λ i. column_entry c.self.inside.cols i t -ℤ rnd (at c.args.gain.now i *ℤ at c.args.a.now t)) in
    substitution-parts g.row.N c.args.gain.now (row g (here g first)) (inside g (here g first)) c.replace.new.self c.take_rest.new.cols c.push_radii.new.cols
    (c.replace.ensures ∙ c.deref.ensures.0 ∙ c.in-Some.ensures.centre)
    (c.take_rest.ensures ∙ ap (λ n. tabulate n left) (c.pad.ensures.len ∙ c.len.ensures.value)
    ∙ tabulate-same (length c.args.a.now) left taken (λ t l. tabulate-same g.row.N (λ i. column_entry c.look_ahead.new.rest t i) (λ i. column_entry c.self.inside.cols i t -ℤ rnd (at c.args.gain.now i *ℤ at c.args.a.now t)) (λ i h. rest_is g first i h t l)))
    (c.push_radii.ensures ∙ ap (λ (xs : List (List ℤ)). c.take_rest.new.cols ++ xs)
    (same_box g.row.N (at c.deref-3.result.now) r (λ j h. ap (λ xs. at xs j) is ∙ get_or-tabulate g.row.N r j (pos 0) h)))
    ∙ ap (substitution g.row.N c.args.gain.now (row g (here g first))) c.self.view_is

pub invariant_of-self-2 : goal.invariant_of-self-2
invariant_of-self-2 g c =
    let first = (goal.at.invariant_of-self-2 g c).After-deref in
    let set_ahead = substitution g.row.N c.args.gain.now (row g (here g first)) (padded g (here g first)) in
    record {
      set = record {
        low = c.self.invariant.set.low;
        high = c.self.invariant.set.high;
        in_range = subst (InRange g.row.N) (sym (made g c)) (fits g first);
      };
      radii_are = λ i h. added-are g.row.N (row_magnitude set_ahead.columns) c.replace-2.new.self (c.replace-2.ensures ∙ c.deref-2.ensures.0 ∙ c.in-Some.ensures.sizes) i h
          ∙ ap (λ (z : Zono). row_magnitude z.columns i) (same_set g (here g first) ∙ sym (made g c));
    }

taken_with : (g : Over) (c : After-push_radii g) → is_used g.row.N c.args.self.now (substitution g.row.N c.args.gain.now (record { coefficients = c.args.a.now; right = c.args.b }) c.args.self.now) ≡ true
taken_with g c =
    let first = (goal.at.invariant_of-self-2 g c).After-deref in
    ap (is_used g.row.N c.args.self.now) (sym (made_with g (here g first))) ∙ taken g first

pub returns-clause-used : goal.returns-clause-used
returns-clause-used g c = ap used_where (sym (taken_with g c))

pub returns-clause-value : goal.returns-clause-value
returns-clause-value g c =
    let first = (goal.at.invariant_of-self-2 g c).After-deref in
    let new : Zono = substitution g.row.N c.args.gain.now (record { coefficients = c.args.a.now; right = c.args.b }) c.args.self.now in
    made g c ∙ made_with g (here g first) ∙ sym (ap (λ test. if test then new else c.args.self.now) (taken_with g c))

pub returns-clause-keeps : goal.returns-clause-keeps
returns-clause-keeps g c =
    let first = (goal.at.invariant_of-self-2 g c).After-deref in
    λ _. subst (λ (z : Zono). HoldsRow g.row.N (record { coefficients = c.args.a.now; right = c.args.b }) c.args.self.now z) (sym (made g c ∙ made_with g (here g first)))
    (λ q x s gives meets. substitution-keeps g.row.N q c.args.gain.now (record { coefficients = c.args.a.now; right = c.args.b }) c.args.self.now x s gives meets)

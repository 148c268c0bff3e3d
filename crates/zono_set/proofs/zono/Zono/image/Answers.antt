use Rattle.std.proofs.Common.{◌≡◌, ℕ, ◌+◌, ◌<◌, ◌≤◌, ◌++◌, [], length, get_or, pos, ◌+ℤ◌, ◌≤ℤ◌, true, refl, ap, ◌∙◌, mul-one, sym, subst, arith}
use Rattle.std.proofs.lemmas.Int.{ints}
use Rattle.set_rules.specs.Sum.{total, magnitude}
use Rattle.set_rules.specs.Columns.{at, entry, row_magnitude}
use Rattle.set_rules.specs.Zono.{Zono, zono_of, range, InRange}
use Rattle.set_rules.specs.Image.{image as image_of, raw_centre, raw_entry, Encloses}
use Rattle.set_rules.proofs.ImageSets.{length-tabulate, image-parts, image-encloses, centre-in_range}
use Rattle.fixed_mat.proofs.Columns.{counted}
use Rattle.zono_set.proofs.Bound.{residues-within}
use Rattle.fixed_mat.specs.Fits.{FitsRow}
use Rattle.zono_set.proofs.Kept.{added-are, added-within}
use Rattle.zono_set.proofs.Moved.{radius-image, slack-low, moved-within, centre-left, slacks-long, slacks-within, slacks-are, slacks-columns, radii-added}
use Rattle.zono_set.proofs.zono.Zono.image.Given.{Over}
use Rattle.zono_set.proofs.zono.Zono.image.Goals as goal
use Rattle.zono_set.proofs.zono.Zono.image.Goals.{After-push_slack, After-move_centre-arg-1}

fits : (g : Over) (c : After-move_centre-arg-1 g) → InRange g.row.N (image_of g.row.N c.args.w c.args.a.now c.args.shift.now c.args.e.now (record { centre = c.self.inside.centre; columns = c.self.inside.cols }))
fits g c = subst (λ (z : Zono). InRange g.row.N (image_of g.row.N c.args.w c.args.a.now c.args.shift.now c.args.e.now z)) (sym c.self.view_is) c.in_ok-check_image.ensures.ok

pub move_centre-of_centre-requires : goal.move_centre-of_centre-requires
move_centre-of_centre-requires g c =
    (omega arith, (omega arith, (omega arith, (c.self.invariant.set.high, λ i h. centre-in_range g.row.N c.args.w c.args.a.now c.args.shift.now c.args.e.now (record { centre = c.self.inside.centre; columns = c.self.inside.cols }) (fits g c) i h))))

narrow_rows : (g : Over) (c : After-move_centre-arg-1 g) → c.has_narrow_rows-narrow.result ≡ true → (i : ℕ) → i < g.row.N → FitsRow 9_000_000_000_000_000_000 g.row.N c.args.a.now i c.self.inside.cols
narrow_rows g c = subst (λ (z : Zono). c.has_narrow_rows-narrow.result ≡ true → (i : ℕ) → i < g.row.N → FitsRow 9_000_000_000_000_000_000 g.row.N c.args.a.now i z.columns) (sym c.self.view_is) c.has_narrow_rows-narrow.ensures

pub move_columns-moved-requires : goal.move_columns-moved-requires
move_columns-moved-requires g c =
    let here = (goal.at.move_columns-moved-requires g c).After-move_centre-arg-1 in
    (omega arith, (omega arith, (narrow_rows g here, λ i h. moved-within g.row.N c.args.w c.args.a.now c.args.shift.now c.args.e.now (record { centre = c.self.inside.centre; columns = c.self.inside.cols }) i h (fits g here))))

room : (g : Over) (c : After-move_centre-arg-1 g) → length c.self.inside.cols + c.args.w + g.row.N ≤ 128
room g c = let shown = ap (λ (z : Zono). length z.columns) c.self.view_is in let room = c.requires.room in omega arith

pub push_noise-requires : goal.push_noise-requires
push_noise-requires g c =
    let room = room g (goal.at.push_noise-requires g c).After-move_centre-arg-1 in
    let long = ap length c.move_columns-moved.ensures.moved ∙ length-tabulate (length c.self.inside.cols) _ in
    (omega arith, (omega arith, (c.requires.dists, omega arith)))

pub slack_of-slack-requires-clause-centre : goal.slack_of-slack-requires-clause-centre
slack_of-slack-requires-clause-centre g c = centre-left g.row.N (raw_centre g.row.N c.args.a.now c.args.shift.now (record { centre = c.self.inside.centre; columns = c.self.inside.cols })) c.deref.result.now (c.deref.ensures.0 ∙ c.move_centre-of_centre.ensures.left)

pub slack_of-slack-requires-clause-columns : goal.slack_of-slack-requires-clause-columns
slack_of-slack-requires-clause-columns g c = λ i h.
    let room = room g (goal.at.slack_of-slack-requires-clause-columns g c).After-move_centre-arg-1 in
    let long = ap length (c.deref.ensures.0 ∙ c.move_centre-of_centre.ensures.left) ∙ length-tabulate g.row.N _ in
    let is = c.move_columns-moved.ensures.left i (omega (arith, h, long)) in
    let within = (residues-within (length c.self.inside.cols) (raw_entry g.row.N c.args.a.now (record { centre = c.self.inside.centre; columns = c.self.inside.cols }) i)).1 in
    omega (arith, ints, is, room, within)

pub push_slack-requires : goal.push_slack-requires
push_slack-requires g c =
    let here = (goal.at.push_slack-requires g c).After-move_centre-arg-1 in
    let room = room g here in
    let long = ap length c.move_columns-moved.ensures.moved ∙ length-tabulate (length c.self.inside.cols) _ in
    let more = counted _ _ _ _ c.push_noise.ensures in (
      omega arith,
      (
        slacks-long g.row.N c.args.a.now c.args.shift.now (record { centre = c.self.inside.centre; columns = c.self.inside.cols }) c.deref.result.now c.deref-2.result.now (λ i. get_or c.move_columns-moved.result.left i 0) (c.deref.ensures.0 ∙ c.move_centre-of_centre.ensures.left) c.move_columns-moved.ensures.left (c.deref-2.ensures.0 ∙ c.slack_of-slack.ensures),
        (
          omega (arith, room, long, more),
          slacks-within g.row.N c.args.a.now c.args.shift.now (record { centre = c.self.inside.centre; columns = c.self.inside.cols }) c.deref.result.now c.deref-2.result.now (λ i. get_or c.move_columns-moved.result.left i 0) (c.deref.ensures.0 ∙ c.move_centre-of_centre.ensures.left) c.move_columns-moved.ensures.left (c.deref-2.ensures.0 ∙ c.slack_of-slack.ensures) c.args.w c.args.e.now (fits g here),
        ),
      ),
    )

pub radii_after-radii-requires : goal.radii_after-radii-requires
radii_after-radii-requires g c =
    let here = (goal.at.radii_after-radii-requires g c).After-move_centre-arg-1 in
    let n = g.row.N in
    let a = c.args.a.now in
    let shift = c.args.shift.now in
    let e = c.args.e.now in
    let inside : Zono = zono_of c.self.inside.centre c.self.inside.cols in
    let left : ℕ → ℕ = λ i. get_or c.move_columns-moved.result.left i 0 in
    let of_centre = c.deref.ensures.0 ∙ c.move_centre-of_centre.ensures.left in
    let of_slack = c.deref-3.ensures.0 ∙ c.slack_of-slack.ensures in
    let long = slacks-long n a shift inside c.deref.result.now c.deref-3.result.now left of_centre c.move_columns-moved.ensures.left of_slack in
    let within = λ (i : ℕ) (h : i < n).
    let sum = c.move_columns-moved.ensures.sizes i h in
    let slack_at = slacks-are n a shift inside c.deref.result.now c.deref-3.result.now left of_centre c.move_columns-moved.ensures.left of_slack i h in
    let radius = radius-image n c.args.w a shift e inside i h in
    let most = fits g here i h in
    let least : (pos (get_or c.move_columns-moved.result.sizes i 0) +ℤ total c.args.w (λ t. magnitude (entry 8 e i t)) +ℤ at c.deref-3.result.now i) ≤ℤ pos range = omega (arith, ints, sum, slack_at, radius, most) in
    least in
    let low = λ (i : ℕ) (h : i < n).
    let slack_at = slacks-are n a shift inside c.deref.result.now c.deref-3.result.now left of_centre c.move_columns-moved.ensures.left of_slack i h in
    let natural = slack-low n c.args.w a shift e inside i h in
    let least : pos 0 ≤ℤ at c.deref-3.result.now i = omega (arith, ints, slack_at, natural) in
    least in
    (omega arith, (c.requires.dists, (c.self.invariant.set.high, (long, (within, low)))))

made-inside : (g : Over) (c : After-push_slack g) → let new : Zono = record { centre = c.move_centre-of_centre.new.centre; columns = c.push_slack.new.cols } in new ≡ image_of g.row.N c.args.w c.args.a.now c.args.shift.now c.args.e.now (record { centre = c.self.inside.centre; columns = c.self.inside.cols })
made-inside g c =
    image-parts g.row.N c.args.w c.args.a.now c.args.shift.now c.args.e.now (record { centre = c.self.inside.centre; columns = c.self.inside.cols }) c.move_centre-of_centre.new.centre [] c.move_columns-moved.new.cols c.push_noise.new.cols c.push_slack.new.cols
    c.move_centre-of_centre.ensures.moved refl c.move_columns-moved.ensures.moved c.push_noise.ensures
    (c.push_slack.ensures ∙ ap (λ xs. c.push_noise.new.cols ++ xs) (slacks-columns g.row.N c.args.a.now c.args.shift.now (record { centre = c.self.inside.centre; columns = c.self.inside.cols }) c.deref.result.now c.deref-2.result.now (λ i. get_or c.move_columns-moved.result.left i 0) (c.deref.ensures.0 ∙ c.move_centre-of_centre.ensures.left) c.move_columns-moved.ensures.left (c.deref-2.ensures.0 ∙ c.slack_of-slack.ensures)))

made : (g : Over) (c : After-push_slack g) → let new : Zono = record { centre = c.move_centre-of_centre.new.centre; columns = c.push_slack.new.cols } in new ≡ image_of g.row.N c.args.w c.args.a.now c.args.shift.now c.args.e.now c.args.self.now
made g c = made-inside g c ∙ ap (image_of g.row.N c.args.w c.args.a.now c.args.shift.now c.args.e.now) c.self.view_is

made-fits : (g : Over) (c : After-push_slack g) → let new : Zono = record { centre = c.move_centre-of_centre.new.centre; columns = c.push_slack.new.cols } in InRange g.row.N new
made-fits g c = subst (InRange g.row.N) (sym (made g c)) c.in_ok-check_image.ensures.ok

pub invariant_of-self : goal.invariant_of-self
invariant_of-self g c =
    let here = (goal.at.invariant_of-self g c).After-push_slack in
    let radii = radii-added g.row.N c.args.w c.args.a.now c.args.shift.now c.args.e.now (record { centre = c.self.inside.centre; columns = c.self.inside.cols }) (record { centre = c.move_centre-of_centre.new.centre; columns = c.push_slack.new.cols }) c.deref-3.result.now c.radii_after-radii.result.items (λ i. get_or c.move_columns-moved.result.sizes i 0) c.move_columns-moved.ensures.sizes (slacks-are g.row.N c.args.a.now c.args.shift.now (record { centre = c.self.inside.centre; columns = c.self.inside.cols }) c.deref.result.now c.deref-3.result.now (λ i. get_or c.move_columns-moved.result.left i 0) (c.deref.ensures.0 ∙ c.move_centre-of_centre.ensures.left) c.move_columns-moved.ensures.left (c.deref-3.ensures.0 ∙ c.slack_of-slack.ensures)) c.radii_after-radii.ensures (made-inside g here) in
    record {
      set = record {
        low = c.self.invariant.set.low;
        high = c.self.invariant.set.high;
        in_range = made-fits g here;
      };
      radii_are = added-are g.row.N (row_magnitude c.push_slack.new.cols) c.replace.new.self (c.replace.ensures ∙ c.deref-4.ensures.0 ∙ radii);
    }

pub returns-clause-value : goal.returns-clause-value
returns-clause-value g c = made g (goal.at.returns-clause-value g c).After-push_slack

pub replace-requires : goal.replace-requires
replace-requires g c =
    let here = (goal.at.replace-requires g c).After-push_slack in
    let z : Zono = record { centre = c.move_centre-of_centre.new.centre; columns = c.push_slack.new.cols } in
    let is = c.deref-4.ensures.0 ∙ radii-added g.row.N c.args.w c.args.a.now c.args.shift.now c.args.e.now (record { centre = c.self.inside.centre; columns = c.self.inside.cols }) (record { centre = c.move_centre-of_centre.new.centre; columns = c.push_slack.new.cols }) c.deref-3.result.now c.radii_after-radii.result.items (λ i. get_or c.move_columns-moved.result.sizes i 0) c.move_columns-moved.ensures.sizes (slacks-are g.row.N c.args.a.now c.args.shift.now (record { centre = c.self.inside.centre; columns = c.self.inside.cols }) c.deref.result.now c.deref-3.result.now (λ i. get_or c.move_columns-moved.result.left i 0) (c.deref.ensures.0 ∙ c.move_centre-of_centre.ensures.left) c.move_columns-moved.ensures.left (c.deref-3.ensures.0 ∙ c.slack_of-slack.ensures)) c.radii_after-radii.ensures (made-inside g here) in
    let long = ap length is ∙ length-tabulate g.row.N (row_magnitude z.columns) in
    (omega arith, (long ∙ sym (mul-one g.row.N), added-within g.row.N z c.deref-4.result.now (made-fits g here) is))

pub returns-clause-encloses : goal.returns-clause-encloses
returns-clause-encloses g c =
    subst (Encloses g.row.N c.args.w c.args.a.now c.args.shift.now c.args.e.now c.args.self.now) (sym (made g (goal.at.returns-clause-encloses g c).After-push_slack)) (image-encloses g.row.N c.args.w c.args.a.now c.args.shift.now c.args.e.now c.args.self.now)

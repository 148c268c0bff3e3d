use Rattle.std.proofs.Common.{ℕ, ◌<◌, ◌≡◌, ◌*◌, ◌≤◌, ◌^◌, ap, ◌∙◌, length, unsigned_abs, arith}
use Rattle.std.specs.List.{sum_by}
use Rattle.set_rules.specs.Columns.{column_entry}
use Rattle.set_rules.specs.Gain.{greatest_entry}
use Rattle.set_rules.specs.Limits.{narrow_limit, wide_limit}
use Rattle.set_rules.proofs.Greatest.{greatest_entry-at}
use Rattle.row_drop.specs.Room.{room}
use Rattle.row_drop.specs.Rows.{FitsState}
use Rattle.row_drop.proofs.Shrinking.{reaches}
use Rattle.row_drop.proofs.Sizes.{sizes-within, columns-within, room-small, room-product}
use Rattle.row_drop.proofs.gains.gains_of.Goals as goal

pub ratios_in-requires : goal.ratios_in-requires
ratios_in-requires g c =
    let columns = c.args.cols.now in
    let row = c.args.a.now in
    let most = c.room_for.result in
    let sum = c.sum-then-sum-lt1099511627776.ensures.value in
    let below = c.if-sum-lt1099511627776.true in
    let room_is : most ≡ room (sum_by unsigned_abs row) = c.room_for.ensures.value ∙ ap room sum in
    let small = room-small (sum_by unsigned_abs row) in
    let product : most * sum_by unsigned_abs row ≤ narrow_limit = (rw room_is (room-product (sum_by unsigned_abs row))) in
    let entries = c.has_room.ensures c.if-has_room.true in
    let all : greatest_entry columns ≤ most = columns-within g.row.N columns most c.tell_heights.ensures entries in
    let reach = reaches 0 row columns c.requires.long in
    let fits : (i : ℕ) → i < g.row.N → FitsState narrow_limit columns row i =
    λ i h. sizes-within narrow_limit most (length columns) (column_entry columns i) row reach (λ t _. entries i t h) product in
    (omega arith, (c.requires.long, (omega (arith, all, room_is, small), (omega arith, fits))))

pub ratios_in-requires-then-all_within : goal.ratios_in-requires-then-all_within
ratios_in-requires-then-all_within g c =
    let columns = c.args.cols.now in
    let row = c.args.a.now in
    let sum = c.sum.ensures.value in
    let below = c.if-sum-lt1099511627776.true in
    let all : greatest_entry columns ≤ 2 ^ 39 = c.all_within.ensures c.if-all_within.true in
    let reach = reaches 0 row columns c.requires.long in
    let fits : (i : ℕ) → i < g.row.N → FitsState wide_limit columns row i =
    λ i _. sizes-within wide_limit (2 ^ 39) (length columns) (column_entry columns i) row reach
    (λ t _. let one = greatest_entry-at columns i t in omega (arith, one, all)) (omega (arith, sum, below)) in
    (omega arith, (c.requires.long, (omega (arith, all), (omega arith, fits))))

use Rattle.std.proofs.Common.{[], length, map, get_or, pos, append-nil, ap, sym, ◌∙◌, arith, SFits, to_z-of_z, sum_by, unsigned_abs}
use Rattle.std.proofs.lemmas.Int.{ints}
use Rattle.std.proofs.lemmas.List.Sums.{sum_by-append}
use mir.Syntax.{w128}
use Rattle.set_rules.specs.Sum.{magnitude}
use Rattle.set_rules.specs.Columns.{at}
use Rattle.set_rules.specs.Reduce.{greatest, key_of}
use Rattle.set_rules.specs.Rows.{row_at}
use Rattle.girard_reduce.proofs.LiftedKeys.{more_sizes, key_is, column-part, first_entries, entries_more, entries_all, entries_within}
use Rattle.girard_reduce.proofs.keys.lifted_key.Goals as goal

pub column_sizes-sizes-requires : goal.column_sizes-sizes-requires
column_sizes-sizes-requires g c =
    let value = c.column.ensures.value in
    let same = ap (sum_by unsigned_abs) value in
    let whole = column-part g.row.N c.args.cols.now c.args.rows.now.rows c.args.t g.W.Whole.limit (ap length (sym value) ∙ c.column.ensures.size) c.requires.fits in
    let parts = sum_by-append unsigned_abs (get_or c.args.cols.now c.args.t []) (map (λ row. at row.coefficients c.args.t) c.args.rows.now.rows) in
    omega arith

pub loop-r-init : goal.loop-r-init
loop-r-init g c =
    let none = append-nil (get_or c.args.cols.now c.args.t []) in
    record {
      sum = c.column_sizes-sizes.ensures.sum ∙ ap (λ xs. pos (sum_by unsigned_abs xs)) (c.column.ensures.value ∙ sym none);
      greatest = c.column_sizes-sizes.ensures.greatest ∙ ap (λ xs. pos (greatest xs)) (c.column.ensures.value ∙ sym none);
    }

pub of_wide-requires : goal.of_wide-requires
of_wide-requires g c =
    let fits : SFits w128 c.coef.result = record { sfits = c.coef.type_inv } in
    let is = ap unsigned_abs (to_z-of_z fits ∙ c.coef.ensures.value) in
    let value = c.column.ensures.value in
    let whole = column-part g.row.N c.args.cols.now c.args.rows.now.rows c.args.t g.W.Whole.limit (ap length (sym value) ∙ c.column.ensures.size) c.requires.fits in
    let end = c.count-r-end.ensures.value in
    let within = entries_within (get_or c.args.cols.now c.args.t []) c.args.rows.now.rows c.args.t c.loop-r.r (omega arith) in
    omega arith

pub size-requires : goal.size-requires
size-requires g c =
    let fits : SFits w128 c.coef.result = record { sfits = c.coef.type_inv } in
    let is = ap unsigned_abs (c.of_wide.ensures ∙ to_z-of_z fits ∙ c.coef.ensures.value) in
    let value = c.column.ensures.value in
    let whole = column-part g.row.N c.args.cols.now c.args.rows.now.rows c.args.t g.W.Whole.limit (ap length (sym value) ∙ c.column.ensures.size) c.requires.fits in
    let end = c.count-r-end.ensures.value in
    let within = entries_within (get_or c.args.cols.now c.args.t []) c.args.rows.now.rows c.args.t c.loop-r.r (omega arith) in
    omega arith

pub add-requires : goal.add-requires
add-requires g c =
    let fits : SFits w128 c.coef.result = record { sfits = c.coef.type_inv } in
    let size = c.size.ensures ∙ ap magnitude (c.of_wide.ensures ∙ to_z-of_z fits ∙ c.coef.ensures.value) in
    let sum = c.loop-r.invariant.sum in
    let value = c.column.ensures.value in
    let whole = column-part g.row.N c.args.cols.now c.args.rows.now.rows c.args.t g.W.Whole.limit (ap length (sym value) ∙ c.column.ensures.size) c.requires.fits in
    let end = c.count-r-end.ensures.value in
    let within = entries_within (get_or c.args.cols.now c.args.t []) c.args.rows.now.rows c.args.t c.loop-r.r (omega arith) in
    omega (arith, ints)

pub loop-r-preserved : goal.loop-r-preserved
loop-r-preserved g c =
    let fits : SFits w128 c.coef.result = record { sfits = c.coef.type_inv } in
    let size = c.size.ensures ∙ ap magnitude (c.of_wide.ensures ∙ to_z-of_z fits ∙ c.coef.ensures.value) in
    let end = c.count-r-end.ensures.value in
    let column = get_or c.args.cols.now c.args.t [] in
    let rows = c.args.rows.now.rows in
    let more = more_sizes (first_entries column rows c.args.t c.loop-r.r) (at (row_at rows c.loop-r.r).coefficients c.args.t) _ _ _ _ _ c.loop-r.invariant.sum c.loop-r.invariant.greatest size c.add.ensures.sum c.add.ensures.greatest in
    let next = entries_more column rows c.args.t c.loop-r.r (omega arith) in
    record {
      sum = more.0 ∙ ap (λ xs. pos (sum_by unsigned_abs xs)) (sym next);
      greatest = more.1 ∙ ap (λ xs. pos (greatest xs)) (sym next);
    }

pub key-requires : goal.key-requires
key-requires g c =
    let end = c.count-r-end.ensures.value in
    let long = ap length (sym c.column.ensures.value) ∙ c.column.ensures.size in
    let all = ap (sum_by unsigned_abs) (entries_all g.row.N c.args.cols.now c.args.rows.now.rows c.args.t c.loop-r.r long (omega arith)) in
    let key = (key_is (first_entries (get_or c.args.cols.now c.args.t []) c.args.rows.now.rows c.args.t c.loop-r.r) _ _ c.loop-r.invariant.sum c.loop-r.invariant.greatest).1 in
    let fits = c.requires.fits in
    omega arith

pub returns : goal.returns
returns g c =
    let end = c.count-r-end.ensures.value in
    let long = ap length (sym c.column.ensures.value) ∙ c.column.ensures.size in
    c.key.ensures ∙ (key_is (first_entries (get_or c.args.cols.now c.args.t []) c.args.rows.now.rows c.args.t c.loop-r.r) _ _ c.loop-r.invariant.sum c.loop-r.invariant.greatest).0
    ∙ ap (λ xs. pos (key_of xs)) (entries_all g.row.N c.args.cols.now c.args.rows.now.rows c.args.t c.loop-r.r long (omega arith))

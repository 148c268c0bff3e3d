use Rattle.std.proofs.Common.{◌≡◌, ◌<◌, ◌^◌, rules, arith}
use Rattle.row_drop.proofs.Shrinking.{least_is}
use Rattle.row_drop.proofs.shrink.shift_below_limit.Goals as goal

pub returns-then-size-halvings-lt1099511627776-clause-value : goal.returns-then-size-halvings-lt1099511627776-clause-value
returns-then-size-halvings-lt1099511627776-clause-value c =
    least_is c.args.size c.loop-halvings.halvings (search rules) c.loop-halvings.invariant (search rules)

pub returns-clause-value : goal.returns-clause-value
returns-clause-value c =
    let end : c.loop-halvings.halvings ≡ 88 = search rules in
    let small : c.args.size < 2 ^ 128 = search rules in
    least_is c.args.size 88 small (λ y l. c.loop-halvings.invariant y (omega arith)) (omega arith)

use Rattle.std.proofs.Common.{◌^◌, arith}
use Rattle.set_rules.specs.Limits.{narrow_limit, wide_limit}
use Rattle.row_drop.proofs.Sizes.{square-within}
use Rattle.row_drop.proofs.products.plain_square.Goals as goal

pub square_in-requires-clause-products : goal.square_in-requires-clause-products
square_in-requires-clause-products c =
    square-within narrow_limit 3_000_000_000 c.args.a.now (let sum = c.sum.ensures.value in omega arith) (omega arith)

pub square_in-requires-else-sum-le3000000000-clause-products : goal.square_in-requires-else-sum-le3000000000-clause-products
square_in-requires-else-sum-le3000000000-clause-products c = square-within wide_limit (2 ^ 40) c.args.a.now (omega arith) (omega arith)

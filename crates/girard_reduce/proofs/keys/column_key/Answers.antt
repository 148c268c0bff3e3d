use Rattle.std.proofs.Common.{unsigned_abs, arith, ◌∙◌, SFits, to_z-of_z}
use Rattle.std.proofs.lemmas.List.Sums.{sum_by-le}
use mir.Syntax.{w64}
use Rattle.set_rules.specs.Zono.{range}
use Rattle.girard_reduce.proofs.LiftedKeys.{key_is}
use Rattle.girard_reduce.proofs.keys.column_key.Goals as goal

pub column_sizes-requires : goal.column_sizes-requires
column_sizes-requires c =
    let most = sum_by-le unsigned_abs range c.args.column.now c.requires.within in
    let short = c.requires.short in
    omega arith

pub key-requires : goal.key-requires
key-requires c =
    let most = sum_by-le unsigned_abs range c.args.column.now c.requires.within in
    let short = c.requires.short in
    let key = (key_is c.args.column.now _ _ c.column_sizes.ensures.sum c.column_sizes.ensures.greatest).1 in
    omega arith

pub returns : goal.returns
returns c =
    let fits : SFits w64 c.key.result = record { sfits = c.key.type_inv } in
    to_z-of_z fits ∙ c.key.ensures ∙ (key_is c.args.column.now _ _ c.column_sizes.ensures.sum c.column_sizes.ensures.greatest).0

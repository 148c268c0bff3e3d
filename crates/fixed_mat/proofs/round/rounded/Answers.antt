use Rattle.std.proofs.Common.{◌-ℤ◌, ◌*ℤ◌, ◌≤◌, pos, unsigned_abs, rules, sym, subst}
use Rattle.set_rules.proofs.Rounds.{rnd-near}
use Rattle.fixed_mat.proofs.round.rounded.Goals as goal

pub returns-then-raised-le18446744073709551615-clause-nearest : goal.returns-then-raised-le18446744073709551615-clause-nearest
returns-then-raised-le18446744073709551615-clause-nearest c = search rules

pub returns-then-raised-le18446744073709551615-clause-near : goal.returns-then-raised-le18446744073709551615-clause-near
returns-then-raised-le18446744073709551615-clause-near c =
    subst (λ z. unsigned_abs (c.args.p -ℤ pos 1_000_000_000 *ℤ z) ≤ 500_000_000)
    (sym (returns-then-raised-le18446744073709551615-clause-nearest c)) (rnd-near c.args.p)

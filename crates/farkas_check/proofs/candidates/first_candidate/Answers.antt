use Rattle.std.proofs.Common.{◌≡◌, ℕ, List, Option, Some, None, IsTrue, IfSome, option_map, sym, ap, ◌∙◌}
use Rattle.std.specs.Option.{option_or}
use Rattle.std.proofs.lemmas.List.Folds.{find-append}
use Rattle.set_rules.specs.Rows.{Row}
use Rattle.set_rules.specs.Farkas.{passes, candidates, first_candidate}
use Rattle.set_rules.proofs.TestsHold.{found-passes}
use Rattle.farkas_check.specs.declared.certificate.Multipliers.{Multipliers}
use Rattle.farkas_check.specs.Certificate.{list_of}
use Rattle.farkas_check.specs.Search.{first_unit, first_pair}
use Rattle.farkas_check.proofs.candidates.first_candidate.Goals as goal

-- a row alone comes before two
parts : (width : ℕ) (rows : List Row) → first_candidate width rows ≡ option_or (first_unit width rows) (first_pair width rows)
unfolding candidates
parts width rows = find-append (passes width rows) _ _

-- what is found passes
passing : (width : ℕ) (rows : List Row) (o : Option Multipliers) → option_map list_of o ≡ first_candidate width rows → IfSome o (λ m. IsTrue (passes width rows (list_of m)))
passing width rows None e = _
passing width rows (Some m) e = found-passes (passes width rows) (candidates width rows) (list_of m) (sym e)

pub returns-in-Some-clause-value : goal.returns-in-Some-clause-value
returns-in-Some-clause-value c =
    sym (parts c.args.rows.now.width c.args.rows.now.rows ∙ ap (λ o. option_or o (first_pair c.args.rows.now.width c.args.rows.now.rows)) (sym c.in-Some.ensures))

pub returns-in-Some-clause-passes : goal.returns-in-Some-clause-passes
returns-in-Some-clause-passes c = passing c.args.rows.now.width c.args.rows.now.rows (Some c.in-Some.unit) (returns-in-Some-clause-value c)

pub returns-in-None-clause-value : goal.returns-in-None-clause-value
returns-in-None-clause-value c =
    c.first_pair.ensures ∙ sym (parts c.args.rows.now.width c.args.rows.now.rows ∙ ap (λ o. option_or o (first_pair c.args.rows.now.width c.args.rows.now.rows)) (sym c.in-None.ensures))

pub returns-in-None-clause-passes : goal.returns-in-None-clause-passes
returns-in-None-clause-passes c = passing c.args.rows.now.width c.args.rows.now.rows c.first_pair.result (returns-in-None-clause-value c)

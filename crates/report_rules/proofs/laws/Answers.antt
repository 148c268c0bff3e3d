use Rattle.report_rules.proofs.Hulls.{hulls-sound, exclusions-sound, estimate-sound}
use Rattle.report_rules.proofs.Misses.{misses-told}
use Rattle.report_rules.proofs.Chosen.{run-accepted, due-chosen, estimate-refutes}
use Rattle.report_rules.proofs.laws.Goals as goal

pub returns-clause-hulls : goal.returns-clause-hulls
returns-clause-hulls c = hulls-sound

pub returns-clause-exclusions : goal.returns-clause-exclusions
returns-clause-exclusions c = exclusions-sound

pub returns-clause-misses : goal.returns-clause-misses
returns-clause-misses c = misses-told

pub returns-clause-estimate : goal.returns-clause-estimate
returns-clause-estimate c = estimate-sound

pub returns-clause-candidates : goal.returns-clause-candidates
returns-clause-candidates c = estimate-refutes

pub returns-clause-run : goal.returns-clause-run
returns-clause-run c = run-accepted

pub returns-clause-due : goal.returns-clause-due
returns-clause-due c = due-chosen

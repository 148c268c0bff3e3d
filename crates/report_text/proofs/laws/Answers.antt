use Rattle.report_text.proofs.Guessed.{lines-differ}
use Rattle.report_text.proofs.Sizes.{fronts-differ, exclusions-differ, lines-are_short, lines-have_no_feed}
use Rattle.report_text.proofs.laws.Goals as goal

pub returns-clause-lines : goal.returns-clause-lines
returns-clause-lines c = lines-differ

pub returns-clause-fronts : goal.returns-clause-fronts
returns-clause-fronts c = fronts-differ

pub returns-clause-short : goal.returns-clause-short
returns-clause-short c = lines-are_short

pub returns-clause-no_feed : goal.returns-clause-no_feed
returns-clause-no_feed c = lines-have_no_feed

pub returns-clause-exclusions : goal.returns-clause-exclusions
returns-clause-exclusions c = exclusions-differ

use Rattle.std.proofs.Common.{rules}
use Rattle.outside_io.proofs.Fronts.{all-front}
use Rattle.zonomon_run.proofs.texts.put_text.Goals as goal

pub returns-in-Ok-clause-puts : goal.returns-in-Ok-clause-puts
returns-in-Ok-clause-puts g c = record {
  status = search rules;
  whole = λ _. c.in-Ok.ensures.whole;
  front = all-front _ _ _ c.in-Ok.ensures.whole;
  write = search rules;
  memory = search rules;
}

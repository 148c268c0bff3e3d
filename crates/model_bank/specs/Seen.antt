-- What the code says of a sample, as the definitions see it.
use Rattle.std.specs.Prelude.{List, map, Option, option_map}
use Rattle.farkas_check.specs.Certificate.{Certificate, certificate_of}
use Rattle.farkas_check.specs.declared.certificate.Cert.{Cert}
use Rattle.observer_step.specs.Seen.{was_widened, certificate_in}
use Rattle.model_bank.specs.Answers.{ModelAnswer, SampleAnswer}
use Rattle.model_bank.specs.Stepping.{Refusal}
use Rattle.model_bank.specs.declared.record.ModelRec.{ModelRec}
use Rattle.model_bank.specs.declared.record.SampleRec.{SampleRec}
use Rattle.model_bank.specs.declared.record.Refused.{Refused}
use Rattle.model_bank.specs.declared.record.BadOffer.{BadOffer}

abbrev pub model_seen : ModelRec → ModelAnswer
model_seen r = record {
  index = r.index;
  answer = record { predicted = r.preds.items; is_widened = was_widened r.kept; certificate = certificate_in r.outcome; hulls = r.hulls.items };
}

abbrev pub sample_seen : SampleRec → SampleAnswer
sample_seen r = record { k = r.k; models = map model_seen r.models.items; possible = r.possible.items; verdict = r.verdict }

-- the certificates, or none, that are offered
abbrev pub offers_seen : List (Option Cert) → List (Option Certificate)
offers_seen offered = map (option_map certificate_of) offered

-- what is told of the refused model, where these are the records of the live models below it
abbrev pub refusal_with : Refused → List ModelRec → Refusal
refusal_with r before = record {
  model = r.model;
  before = map model_seen before;
  predicted = r.preds.items;
  due = r.why.due;
  offered = option_map certificate_of r.why.offered;
}

abbrev pub refusal_seen : BadOffer → Refusal
refusal_seen r = record {
  model = r.model;
  before = map model_seen r.before.items;
  predicted = r.preds.items;
  due = r.why.due;
  offered = option_map certificate_of r.why.offered;
}

-- What the code says of one model at a sample, as the definitions see it.
use Rattle.std.specs.Prelude.{ℤ, Bool, true, false, nat_le, ◌&&◌, unsigned_abs, Option, Some, None}
use Rattle.set_rules.specs.Limits.{interval_limit}
use Rattle.farkas_check.specs.Certificate.{Certificate, certificate_of}
use Rattle.observer_step.specs.declared.outcome.Kept.{Kept}
use Rattle.observer_step.specs.declared.outcome.Kept.TheVariants.{Imaged, Widened}
use Rattle.observer_step.specs.declared.outcome.Outcome.{Outcome}
use Rattle.observer_step.specs.declared.outcome.Outcome.TheVariants.{Fits, Excluded}

abbrev pub was_widened : Kept → Bool
was_widened Imaged = false
was_widened Widened = true

abbrev pub certificate_in : Outcome → Option Certificate
certificate_in Fits = None
certificate_in (Excluded cert) = Some (certificate_of cert)

-- both ends are within the limit of an interval
abbrev pub is_printable_interval : ℤ × ℤ → Bool
is_printable_interval ends = nat_le (unsigned_abs ends.0) interval_limit && nat_le (unsigned_abs ends.1) interval_limit

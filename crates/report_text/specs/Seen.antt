-- A line of the code as the definitions see it.
use Rattle.report_text.specs.Line.{Line, title, model, sample, pred, exclude, hull, status, possible, verdict, end}
use Rattle.farkas_check.specs.Certificate.{certificate_of}
use Rattle.report_text.specs.declared.line.RepLine.{RepLine}
use Rattle.report_text.specs.declared.line.RepLine.TheVariants as rep

abbrev pub line_of : RepLine → Line
line_of rep.Title = title
line_of (rep.Model i name) = model i name.bytes
line_of (rep.Sample k) = sample k
line_of (rep.Pred i o lo hi) = pred i o lo hi
line_of (rep.Exclude i c) = exclude i (certificate_of c)
line_of (rep.Hull i x lo hi) = hull i x lo hi
line_of (rep.Status i kept) = status i kept
line_of (rep.Possible is) = possible is.items
line_of (rep.Verdict v) = verdict v
line_of (rep.End k) = end k

-- Which texts exclude a model.
use Rattle.std.proofs.Common.{◌≡◌, ◌≢◌, ℕ, ◌<◌, true, false, List, [], ◌∷◌, length, Option, Some, None, option_map, refl, sym, ap, ◌∙◌, arith, subst}
use Rattle.std.specs.Prelude.{IfSome, IfNone}
use Rattle.std.specs.List.{starts_with}
use Rattle.std.proofs.Math.Dec.{eqb}
use Rattle.farkas_check.specs.Certificate.{Certificate, certificate_of}
use Rattle.farkas_check.specs.declared.certificate.Cert.{Cert}
use Rattle.report_text.specs.Line.{Line, exclude}
use Rattle.report_text.specs.Ranges.{IsLine}
use Rattle.report_text.specs.Seen.{line_of}
use Rattle.report_text.specs.declared.line.RepLine.{RepLine}
use Rattle.report_text.specs.declared.read.BadLine.{BadLine}
use Rattle.report_text.specs.declared.read.BadLine.TheVariants as bad
use Rattle.report_text.proofs.Guessed.{lines-differ}
use Rattle.report_text.proofs.Sizes.{lines-are_short}
use Rattle.report_rules.specs.Replay.{IsOfferIn}

-- an exclusion begins with an x
pub other-letter : (i : ℕ) (text : List ℕ) → starts_with eqb text (120 ∷ []) ≡ false → IsOfferIn i text None
other-letter i text h c line =
    let is : starts_with eqb text (120 ∷ []) ≡ true = ap (λ t. starts_with eqb t (120 ∷ [])) line.spelled in
    absurd (cc)

-- a text that is read is the exclusion, or none
pub read-offer : (i : ℕ) (text : List ℕ) (rep : RepLine) (o : Option Cert) → IsLine text (line_of rep)
    → IfSome o (λ cert. line_of rep ≡ exclude i (certificate_of cert)) → IfNone o ((c : Certificate) → line_of rep ≢ exclude i c) → IsOfferIn i text (option_map certificate_of o)
read-offer i text rep (Some cert) line some none = subst (IsLine text) some line
read-offer i text rep None line some none = λ c other.
    none c (lines-differ (line_of rep) (exclude i c) line.in_range other.in_range (sym line.spelled ∙ other.spelled))

-- and one that can't be read is none
pub unread-offer : (i : ℕ) (text : List ℕ) (e : BadLine) → (e ≡ bad.TooLong → 256 < length text) → (e ≡ bad.NoForm → (l : Line) → ¬ IsLine text l) → IsOfferIn i text None
unread-offer i text bad.TooLong long form c line = absurd (omega (arith, long refl, ap length line.spelled, lines-are_short (exclude i c) line.in_range))
unread-offer i text bad.NoForm long form c line = form refl (exclude i c) line

-- A told line is read as what it counts.
use Rattle.std.proofs.Common.{◌≡◌, ℕ, ◌<◌, true, List, length, slice_index_or, refl, sym, ap, ◌∙◌, arith}
use Rattle.report_text.specs.Line.{Line, title, model, sample, pred, exclude, hull, status, possible, verdict, end, line_text}
use Rattle.report_text.specs.Ranges.{IsLine, is_in_range}
use Rattle.report_text.specs.declared.read.BadLine.{BadLine}
use Rattle.report_text.specs.declared.read.BadLine.TheVariants as bad
use Rattle.report_text.proofs.Guessed.{lines-differ}
use Rattle.report_text.proofs.Sizes.{lines-are_short}
use Rattle.report_summary.specs.declared.summary.Summary.{Summary}
use Rattle.report_summary.specs.Told.{IsTold}
use Rattle.report_summary.specs.Sums.{after}

-- the first byte of a line
first_byte : Line → ℕ
first_byte title = 122
first_byte (model i name) = 109
first_byte (sample k) = 115
first_byte (pred i o lo hi) = 112
first_byte (exclude i c) = 120
first_byte (hull i x lo hi) = 104
first_byte (status i fits) = 115
first_byte (possible is) = 112
first_byte (verdict v) = 118
first_byte (end k) = 101

begins-with : (l : Line) → slice_index_or (line_text l) 0 0 ≡ first_byte l
unfolding first_byte
begins-with title = refl
begins-with (model i name) = refl
begins-with (sample k) = refl
begins-with (pred i o lo hi) = refl
begins-with (exclude i c) = refl
begins-with (hull i x lo hi) = refl
begins-with (status i fits) = refl
begins-with (possible is) = refl
begins-with (verdict v) = refl
begins-with (end k) = refl

-- a line that begins otherwise than `s` and `x` counts nothing
uncounted : (s : Summary) (l : Line) → ¬ (first_byte l ≡ 115) → ¬ (first_byte l ≡ 120) → after s l ≡ s
unfolding first_byte
uncounted s title h k = refl
uncounted s (model i name) h k = refl
uncounted s (sample j) h k = absurd (h refl)
uncounted s (pred i o lo hi) h k = refl
uncounted s (exclude i c) h k = absurd (k refl)
uncounted s (hull i x lo hi) h k = refl
uncounted s (status i fits) h k = absurd (h refl)
uncounted s (possible is) h k = refl
uncounted s (verdict v) h k = refl
uncounted s (end j) h k = refl

-- two lines of one text, of which the first begins so
alike : (s : Summary) (l other : Line) (c : ℕ) → first_byte l ≡ c → ¬ (c ≡ 115) → ¬ (c ≡ 120) → line_text l ≡ line_text other → after s other ≡ s
alike s l other c is h k e =
    let same : first_byte other ≡ c = sym (begins-with other) ∙ sym (ap (λ t. slice_index_or t 0 0) e) ∙ begins-with l ∙ is in
    uncounted s other (λ f. h (sym same ∙ f)) (λ f. k (sym same ∙ f))

pub line-read : (s : Summary) (l other : Line) (text : List ℕ) → IsTold l → text ≡ line_text l → IsLine text other → after s other ≡ after s l
unfolding first_byte
line-read s title other text h e read = alike s title other 122 refl (λ f. omega arith) (λ f. omega arith) (sym e ∙ read.spelled)
line-read s (model i name) other text h e read = alike s (model i name) other 109 refl (λ f. omega arith) (λ f. omega arith) (sym e ∙ read.spelled)
line-read s (sample k) other text h e read = ap (after s) (lines-differ other (sample k) read.in_range h (sym read.spelled ∙ e))
line-read s (pred i o lo hi) other text h e read = alike s (pred i o lo hi) other 112 refl (λ f. omega arith) (λ f. omega arith) (sym e ∙ read.spelled)
line-read s (exclude i c) other text h e read = ap (after s) (lines-differ other (exclude i c) read.in_range h (sym read.spelled ∙ e))
line-read s (hull i x lo hi) other text h e read = alike s (hull i x lo hi) other 104 refl (λ f. omega arith) (λ f. omega arith) (sym e ∙ read.spelled)
line-read s (status i fits) other text h e read = ap (after s) (lines-differ other (status i fits) read.in_range h (sym read.spelled ∙ e))
line-read s (possible is) other text h e read = alike s (possible is) other 112 refl (λ f. omega arith) (λ f. omega arith) (sym e ∙ read.spelled)
line-read s (verdict v) other text h e read = alike s (verdict v) other 118 refl (λ f. omega arith) (λ f. omega arith) (sym e ∙ read.spelled)
line-read s (end k) other text h e read = alike s (end k) other 101 refl (λ f. omega arith) (λ f. omega arith) (sym e ∙ read.spelled)

-- a line in range is read
in-range-read : (l : Line) (text : List ℕ) (why : BadLine) → is_in_range l ≡ true → text ≡ line_text l
    → (why ≡ bad.TooLong → 256 < length text) → (why ≡ bad.NoForm → (other : Line) → ¬ IsLine text other) → ⊥
in-range-read l text bad.TooLong h e long form = let short = lines-are_short l h in let is = ap length e in let l = long refl in omega (arith, short, is, l)
in-range-read l text bad.NoForm h e long form = form refl l (record { in_range = h; spelled = e })

-- one that is not read counts nothing
pub line-unread : (s : Summary) (l : Line) (text : List ℕ) (why : BadLine) → IsTold l → text ≡ line_text l
    → (why ≡ bad.TooLong → 256 < length text) → (why ≡ bad.NoForm → (other : Line) → ¬ IsLine text other) → s ≡ after s l
line-unread s title text why h e long form = refl
line-unread s (model i name) text why h e long form = refl
line-unread s (sample k) text why h e long form = absurd (in-range-read (sample k) text why h e long form)
line-unread s (pred i o lo hi) text why h e long form = refl
line-unread s (exclude i c) text why h e long form = absurd (in-range-read (exclude i c) text why h e long form)
line-unread s (hull i x lo hi) text why h e long form = refl
line-unread s (status i fits) text why h e long form = absurd (in-range-read (status i fits) text why h e long form)
line-unread s (possible is) text why h e long form = refl
line-unread s (verdict v) text why h e long form = refl
line-unread s (end k) text why h e long form = refl

use Rattle.std.proofs.Common.{◌≡◌, ℕ, ◌+◌, ◌-◌, ◌≤◌, List, length, take, drop, Some, sym, ap, ◌∙◌, subst₂, arith, length-drop}
use Rattle.std.proofs.lemmas.List.{take_all, drop-drop}
use Rattle.std.proofs.lemmas.List.Quantifiers.{position-Some}
use Rattle.std.specs.List.{position}
use Rattle.report_text.specs.Laws.{is_feed}
use Rattle.report_summary.proofs.Stands.{Stands, stands-next, stands-last}
use Rattle.report_summary.proofs.summary.Summary.of.Goals as goal

-- all that is left from a place on
all-left : (at : ℕ) (report : List ℕ) → at ≤ length report → take (length report - at) (drop at report) ≡ drop at report
all-left at report h = take_all (length report - at) (drop at report) (let l = length-drop at report in omega (arith, l))

same : (at feed : ℕ) (left : List ℕ) → take (at + feed - at) left ≡ take feed left
same at feed left = ap (λ n. take n left) (let e : at + feed - at ≡ feed = omega arith in e)

pub lines-preserved : goal.lines-preserved
lines-preserved c =
    let report = c.args.report.now in
    let left = drop c.lines.at report in
    let whole = all-left c.lines.at report c.lines.invariant.within in
    let found : position is_feed left ≡ Some c.in-Some.feed = ap (position is_feed) (sym whole) ∙ sym c.first_feed.ensures ∙ c.in-Some.is in
    let short = (position-Some is_feed left c.in-Some.feed 0 found).0 in
    let long = length-drop c.lines.at report in
    record {
      within = omega (arith, short, long, c.lines.invariant.within);
      few = omega (arith, c.take_text.ensures.one, c.lines.invariant.few);
      stands = λ lines told is.
          let known = c.lines.invariant.stands lines told is in
          let next = stands-next lines left c.lines.summary known.0 c.in-Some.feed known.1 found in (
            next.later,
            subst₂ (λ rest s. Stands lines next.later rest s) (drop-drop (c.in-Some.feed + 1) c.lines.at report)
                (sym (c.take_text.ensures.taken next.line next.told (same c.lines.at c.in-Some.feed left ∙ next.text))) next.stands,
          );
    }

pub returns : goal.returns
returns c = λ lines told is.
    let report = c.args.report.now in
    let known = c.lines.invariant.stands lines told is in
    stands-last lines (drop c.lines.at report) c.lines.summary known.0 known.1
    (ap (position is_feed) (sym (all-left c.lines.at report c.lines.invariant.within)) ∙ sym c.first_feed.ensures ∙ c.in_default.is)

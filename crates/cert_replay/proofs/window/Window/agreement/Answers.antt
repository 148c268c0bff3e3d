use Rattle.std.proofs.Common.{◌≡◌, ◌∷◌, ◌++◌, length, take, drop, get_or, sym, ap, ◌∙◌, arith}
use Rattle.std.specs.List.{count_by, starts_with}
use Rattle.std.proofs.Math.Dec.{eqb}
use Rattle.std.proofs.Math.Seq.{take-length}
use Rattle.report_text.specs.Laws.{is_feed}
use Rattle.cert_replay.specs.Window.{left_in}
use Rattle.cert_replay.proofs.Comparing.{stands-behind, parts-behind}
use Rattle.cert_replay.proofs.window.Window.agreement.Goals as goal

pub returns-then-starts_with-clause-stands : goal.returns-then-starts_with-clause-stands
returns-then-starts_with-clause-stands c = λ _.
    let items = c.args.self.now.made.text.items in
    let text = c.deref-text.result.now in
    let left = c.left-left.result.now in
    let made : text ≡ items = c.deref-text.ensures.0 in
    let stands = stands-behind text left c.starts_with.result c.starts_with.ensures.value c.if-starts_with.true in (
      ap length made,
      sym c.left-left.ensures ∙ stands ∙ ap (λ x. x ++ drop (length text) left) made ∙ ap (λ y. items ++ drop (length text) y) c.left-left.ensures,
    )

pub returns-then-starts_with-clause-feeds : goal.returns-then-starts_with-clause-feeds
returns-then-starts_with-clause-feeds c =
    let items = c.args.self.now.made.text.items in
    let made : c.deref-text.result.now ≡ items = c.deref-text.ensures.0 in
    c.feeds_in.ensures.count ∙ ap (count_by is_feed) (made ∙ sym (take-length items) ∙ ap (λ n. take n items) (ap length (sym made)))

pub returns-clause-parts : goal.returns-clause-parts
returns-clause-parts c = λ _.
    let items = c.args.self.now.made.text.items in
    let left = left_in c.args.self.now in
    let n = c.agreeing-same.result in
    let made : c.deref-text.result.now ≡ items = c.deref-text.ensures.0 in
    let there : c.left-left.result.now ≡ left = c.left-left.ensures in
    parts-behind items left n c.starts_with.result
    (c.starts_with.ensures.value ∙ ap (λ x. starts_with eqb x c.deref-text.result.now) there ∙ ap (λ y. starts_with eqb left y) made) c.if-starts_with.false
    (omega (arith, c.agreeing-same.ensures.text, ap length made)) (ap (take n) (sym made) ∙ c.agreeing-same.ensures.same ∙ ap (take n) there)
    (λ less x e. c.agreeing-same.ensures.ends (omega (arith, less, ap length made)) x (ap (drop n) there ∙ e ∙ ap (λ y. get_or y n 0 ∷ x) (sym made)))

use Rattle.std.proofs.Common.{◌+◌, ◌++◌, take, ap, ◌∙◌}
use Rattle.std.specs.List.{count_by}
use Rattle.std.proofs.Math.Seq.{take-length}
use Rattle.input_files.proofs.Streams.{left-drop}
use Rattle.report_text.specs.Laws.{is_feed}
use Rattle.cert_replay.proofs.Comparing.{not-false}
use Rattle.cert_replay.proofs.window.Window.compare.Goals as goal

pub returns-clause-same : goal.returns-clause-same
returns-clause-same c =
    let w = c.args.self.now in
    let found = c.agreement-found.result in
    let items = w.made.text.items in
    let stands = c.agreement-found.ensures.stands (not-false found.stands c.if-not-found.false) in
    record {
      are = stands.1 ∙ ap (λ x. items ++ x) (left-drop w.bytes w.at w.end found.same w.within c.agreement-found.ensures.left);
      lines = ap (λ n. w.lines + n) (c.agreement-found.ensures.feeds ∙ ap (λ n. count_by is_feed (take n items)) stands.0 ∙ ap (count_by is_feed) (take-length items));
    }

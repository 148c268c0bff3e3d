use Rattle.std.proofs.Common.{◌∙◌, ap, sym, subst, ◌++◌}
use Rattle.telem_csv.specs.Cutter.{rows_after, telemetry_after}
use Rattle.input_files.proofs.Streams.{left-drop, fed-line, fed-more, fed-not_ended, feed-cuts, feed-grows}
use Rattle.input_files.specs.Left.{left_of}
use Rattle.input_files.specs.Ended.{CutsLine, GrowsLine}
use Rattle.input_files.proofs.stream.Stream.feed.Goals as goal

pub returns-clause-rows : goal.returns-clause-rows
returns-clause-rows c = λ head rest.
    c.feed-taken.ensures.rows c.requires head rest
    ∙ ap (λ bs. rows_after head c.feed-taken.result.1 c.feed-taken.new.self (bs ++ rest)) (left-drop c.args.self.now.piece c.args.self.now.at c.args.self.now.end c.feed-taken.result.0 c.args.self.now.within c.feed-taken.ensures.within)

pub returns-clause-telemetry : goal.returns-clause-telemetry
returns-clause-telemetry c = λ inputs outputs rest.
    c.feed-taken.ensures.telemetry c.requires inputs outputs rest
    ∙ ap (λ bs. telemetry_after inputs outputs c.feed-taken.result.1 c.feed-taken.new.self (bs ++ rest)) (left-drop c.args.self.now.piece c.args.self.now.at c.args.self.now.end c.feed-taken.result.0 c.args.self.now.within c.feed-taken.ensures.within)

pub returns-clause-line : goal.returns-clause-line
returns-clause-line c = λ e. fed-line c.args.self.now.cutter c.feed-taken.new.self (left_of c.args.self.now) c.requires c.feed-taken.ensures.after c.feed-taken.ensures.keeps (c.feed-taken.ensures.last ∙ e)

pub returns-clause-more : goal.returns-clause-more
returns-clause-more c = λ e.
    fed-more c.args.self.now.cutter c.feed-taken.new.self (left_of c.args.self.now) c.requires c.feed-taken.ensures.after c.feed-taken.ensures.keeps (c.feed-taken.ensures.last ∙ e)
    (sym c.feed-taken.ensures.answer ∙ e) (sym c.feed-taken.ensures.taken ∙ c.feed-taken.ensures.more e)

pub returns-clause-not_ended : goal.returns-clause-not_ended
returns-clause-not_ended c = λ e. fed-not_ended c.args.self.now.cutter (left_of c.args.self.now) c.requires (sym c.feed-taken.ensures.answer ∙ e)

pub returns-clause-cuts : goal.returns-clause-cuts
returns-clause-cuts c = λ e rest.
    subst (λ t. CutsLine c.args.self.now.cutter c.feed-taken.new.self (left_of c.args.self.now ++ rest) (t ++ rest)) (left-drop c.args.self.now.piece c.args.self.now.at c.args.self.now.end c.feed-taken.result.0 c.args.self.now.within c.feed-taken.ensures.within)
    (feed-cuts c.args.self.now.cutter c.feed-taken.new.self (left_of c.args.self.now) c.requires c.feed-taken.ensures.after c.feed-taken.ensures.keeps c.feed-taken.result.0 c.feed-taken.ensures.taken rest (c.feed-taken.ensures.last ∙ e) (sym c.feed-taken.ensures.answer ∙ e))

pub returns-clause-grows : goal.returns-clause-grows
returns-clause-grows c = λ e rest.
    subst (λ t. GrowsLine c.args.self.now.cutter c.feed-taken.new.self (left_of c.args.self.now ++ rest) (t ++ rest)) (left-drop c.args.self.now.piece c.args.self.now.at c.args.self.now.end c.feed-taken.result.0 c.args.self.now.within c.feed-taken.ensures.within)
    (feed-grows c.args.self.now.cutter c.feed-taken.new.self (left_of c.args.self.now) c.requires c.feed-taken.ensures.after c.feed-taken.ensures.keeps c.feed-taken.result.0 c.feed-taken.ensures.taken rest (c.feed-taken.ensures.last ∙ e) (sym c.feed-taken.ensures.answer ∙ e) (c.feed-taken.ensures.more e))

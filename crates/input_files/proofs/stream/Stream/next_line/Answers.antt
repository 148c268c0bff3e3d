use Rattle.std.proofs.Common.{◌∙◌, sym, subst, refl, ◌++◌}
use Rattle.std.proofs.lemmas.Result.{err_from_is_err_and}
use Rattle.input_files.specs.Left.{left_of}
use Rattle.input_files.specs.Ended.{CutsLine, GrowsLine, TakesLine, TakesNoLine, EndsNoLine}
use Rattle.input_files.proofs.Streams.{both-told}
use Rattle.input_files.proofs.Ended.{of-ok, grown-read, last-read, grown-takes_none, grown-ends_none, last-taken, then-cut, cut-taken}
use Rattle.input_files.proofs.stream.Stream.next_line.Goals as goal

pub returns-in_err-has_bytes-clause-no_line : goal.returns-in_err-has_bytes-clause-no_line
returns-in_err-has_bytes-clause-no_line g c =
    let p = err_from_is_err_and c.from_residual.result c.from_residual.ensures.1 in
    let rest0 = ((g.F.Shelf.state c.args.shelf.now).slot c.args.slot).rest in
    let rest1 = ((g.F.Shelf.state c.loop-self.shelf).slot c.args.slot).rest in
    let rest2 = ((g.F.Shelf.state c.has_bytes.new.shelf).slot c.args.slot).rest in
    let old = c.args.self.now.cutter in
    rw p.1
    (λ _. both-told rest0 rest2 (λ r r'. GrowsLine old c.loop-self.self.cutter (left_of c.args.self.now ++ r) (left_of c.has_bytes.new.self ++ r')) (λ r r'. TakesNoLine old (left_of c.args.self.now ++ r) (left_of c.has_bytes.new.self ++ r')) (λ r r' grown. grown-takes_none grown)
    (grown-read rest0 rest1 rest2 old c.loop-self.self.cutter (left_of c.args.self.now) (left_of c.loop-self.self) (left_of c.has_bytes.new.self) c.loop-self.invariant.grown c.in_err-has_bytes.ensures.bytes))

pub returns-then-not-branch-clause-takes : goal.returns-then-not-branch-clause-takes
returns-then-not-branch-clause-takes g c =
    let rest0 = ((g.F.Shelf.state c.args.shelf.now).slot c.args.slot).rest in
    let rest1 = ((g.F.Shelf.state c.loop-self.shelf).slot c.args.slot).rest in
    let rest2 = ((g.F.Shelf.state c.has_bytes.new.shelf).slot c.args.slot).rest in
    let old = c.args.self.now.cutter in
    of-ok c.finish.result _
    (λ b _. last-read rest0 rest1 rest2 old c.loop-self.self.cutter (left_of c.args.self.now) (left_of c.loop-self.self) (left_of c.has_bytes.new.self) c.loop-self.invariant.grown c.in_ok-has_bytes.ensures.bytes (c.in_ok-has_bytes.ensures.none c.if-not-branch.true)
    (λ r r'. TakesLine c.finish.new.self.is_ended old c.finish.new.self.cutter (left_of c.args.self.now ++ r) (left_of c.finish.new.self ++ r'))
    (λ r r' grown none. subst (λ l. TakesLine c.finish.new.self.is_ended old c.finish.new.self.cutter (left_of c.args.self.now ++ r) (l ++ r')) (sym c.finish.ensures.left)
    (last-taken grown c.finish.new.self.cutter c.finish.new.self.is_ended (c.finish.ensures.is_ended ∙ c.in_ok-has_bytes.ensures.last c.if-not-branch.true) none)))

pub returns-then-not-branch-clause-no_more : goal.returns-then-not-branch-clause-no_more
returns-then-not-branch-clause-no_more g c =
    let rest0 = ((g.F.Shelf.state c.args.shelf.now).slot c.args.slot).rest in
    let rest1 = ((g.F.Shelf.state c.loop-self.shelf).slot c.args.slot).rest in
    let rest2 = ((g.F.Shelf.state c.has_bytes.new.shelf).slot c.args.slot).rest in
    let old = c.args.self.now.cutter in
    of-ok c.finish.result _
    (λ b _. last-read rest0 rest1 rest2 old c.loop-self.self.cutter (left_of c.args.self.now) (left_of c.loop-self.self) (left_of c.has_bytes.new.self) c.loop-self.invariant.grown c.in_ok-has_bytes.ensures.bytes (c.in_ok-has_bytes.ensures.none c.if-not-branch.true)
    (λ r r'. EndsNoLine old (left_of c.args.self.now ++ r) (left_of c.finish.new.self ++ r'))
    (λ r r' grown none. subst (λ l. EndsNoLine old (left_of c.args.self.now ++ r) (l ++ r')) (sym c.finish.ensures.left) (grown-ends_none grown)))

pub returns-in-Line-clause-takes : goal.returns-in-Line-clause-takes
returns-in-Line-clause-takes g c = λ _.
    let rest0 = ((g.F.Shelf.state c.args.shelf.now).slot c.args.slot).rest in
    let rest1 = ((g.F.Shelf.state c.loop-self.shelf).slot c.args.slot).rest in
    let rest2 = ((g.F.Shelf.state c.has_bytes.new.shelf).slot c.args.slot).rest in
    let old = c.args.self.now.cutter in
    both-told rest0 rest2 (λ r r'. GrowsLine old c.loop-self.self.cutter (left_of c.args.self.now ++ r) (left_of c.has_bytes.new.self ++ r'))
    (λ r r'. TakesLine c.feed.new.self.is_ended old c.feed.new.self.cutter (left_of c.args.self.now ++ r) (left_of c.feed.new.self ++ r'))
    (λ r r' grown. cut-taken (then-cut grown (subst (λ m. CutsLine m c.feed.new.self.cutter (left_of c.has_bytes.new.self ++ r') (left_of c.feed.new.self ++ r')) c.has_bytes.ensures.cutter (c.in-Line.ensures.cuts refl r')))
    c.feed.new.self.is_ended (c.feed.ensures.is_ended ∙ c.in_ok-has_bytes.ensures.going c.if-not-branch.false))
    (grown-read rest0 rest1 rest2 old c.loop-self.self.cutter (left_of c.args.self.now) (left_of c.loop-self.self) (left_of c.has_bytes.new.self) c.loop-self.invariant.grown c.in_ok-has_bytes.ensures.bytes)

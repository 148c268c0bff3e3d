use Rattle.std.proofs.Common.{◌≡◌, ◌∷◌, ◌++◌, map, flat_map, ℕ, List, length, arith, refl, subst, sym, ap, ◌∙◌}
use Rattle.outside_io.proofs.Fronts.{on-ok}
use Rattle.plant_model.specs.Plant.{Plant}
use Rattle.plant_model.specs.Seen.{sample_of}
use Rattle.model_bank.specs.Seen.{offers_seen, sample_seen, model_seen, refusal_with}
use Rattle.report_text.specs.Line.{sample, lines_text}
use Rattle.report_rules.specs.Lines.{model_lines, pred_lines}
use Rattle.model_bank.specs.Stepping.{TakesAnyOffers, RefusesAnOffer}
use Rattle.report_rules.specs.Report.{lives_before}
use Rattle.cert_replay.specs.Window.{left_in, HasUnread, DepartsBehind}
use Rattle.cert_replay.specs.Checked.{Checked}
use Rattle.cert_replay.specs.Offers.{AreCountsOf, TakesSample}
use Rattle.std.proofs.lemmas.Result.{err_from_is_err_and}
use Rattle.cert_replay.proofs.Ahead.{departs-behind, refused-behind, report-behind}
use Rattle.cert_replay.proofs.Comparing.{if-err}
use Rattle.cert_replay.proofs.Replaying.{possible-many, sample-checked, sample-other, refused-other}
use Rattle.cert_replay.proofs.replay.Replay.check_sample.Goals as goal

pub returns-in-Ok-clause-taken : goal.returns-in-Ok-clause-taken
returns-in-Ok-clause-taken g c =
    on-ok c.compare_sample.result _ _ (λ text names ps taken bytes models checked.
    let r0 = c.args.self.now in
    let s0 = g.F.Shelf.state c.args.shelf.now in
    let s1 = g.F.Shelf.state c.take_sample.new.shelf in
    let w1 = c.take_sample.new.window in
    let s = sample_of c.args.sample.now in
    let os = offers_seen c.in_ok-offers.offers.items in
    let ahead = c.in_ok-offers.ensures.ahead in
    let takes : Checked names ps taken bytes r0 s0 → (ps : List Plant) → AreCountsOf r0.counts ps → (unread : List ℕ) → HasUnread r0.window s0 unread → TakesSample ps r0.last.possible.items (left_in w1) unread os =
    λ checked qs are u h.
    let many : length c.deref.result.now ≡ c.models.result = ap length c.deref.ensures.0 ∙ possible-many names ps taken bytes r0 s0 models checked ∙ sym c.models.ensures.value in
    let lives : c.deref-2.result.now ≡ r0.last.possible.items = c.deref-2.ensures.0 ∙ c.live_models-lives.ensures.same many ∙ c.deref.ensures.0 in
    subst (λ ls. TakesSample qs ls (left_in w1) u os) lives (c.in_ok-offers.ensures.taken qs are u h) in
    let all : TakesAnyOffers s os r0.bank (sample_seen c.step_with_into.new.earlier) c.step_with_into.new.self =
    subst (λ xs. TakesAnyOffers s (offers_seen xs) r0.bank (sample_seen c.step_with_into.new.earlier) c.step_with_into.new.self) c.deref-3.ensures.0 c.in-Ok.ensures.taken in
    sample-checked names ps taken bytes r0 s0 s1 w1 s os models checked ahead (takes checked) (omega (arith, checked.stands.count_is, c.requires.counted)) c.step_with_into.new.self c.step_with_into.new.earlier
    (all ps taken (lives_before checked.choice (length ps) (length taken)) checked.stands) _ refl refl text) c.compare_sample.ensures.same

pub returns-in-Ok-clause-departs : goal.returns-in-Ok-clause-departs
returns-in-Ok-clause-departs g c =
    if-err c.compare_sample.result _ _ (λ fault h names ps taken bytes models checked line e more is_whole.
    let r0 = c.args.self.now in
    let s0 = g.F.Shelf.state c.args.shelf.now in
    let s1 = g.F.Shelf.state c.take_sample.new.shelf in
    let w1 = c.take_sample.new.window in
    let s = sample_of c.args.sample.now in
    let os = offers_seen c.in_ok-offers.offers.items in
    let ahead = c.in_ok-offers.ensures.ahead in
    let takes : Checked names ps taken bytes r0 s0 → (ps : List Plant) → AreCountsOf r0.counts ps → (unread : List ℕ) → HasUnread r0.window s0 unread → TakesSample ps r0.last.possible.items (left_in w1) unread os =
    λ checked qs are u h.
    let many : length c.deref.result.now ≡ c.models.result = ap length c.deref.ensures.0 ∙ possible-many names ps taken bytes r0 s0 models checked ∙ sym c.models.ensures.value in
    let lives : c.deref-2.result.now ≡ r0.last.possible.items = c.deref-2.ensures.0 ∙ c.live_models-lives.ensures.same many ∙ c.deref.ensures.0 in
    subst (λ ls. TakesSample qs ls (left_in w1) u os) lives (c.in_ok-offers.ensures.taken qs are u h) in
    let all : TakesAnyOffers s os r0.bank (sample_seen c.step_with_into.new.earlier) c.step_with_into.new.self =
    subst (λ xs. TakesAnyOffers s (offers_seen xs) r0.bank (sample_seen c.step_with_into.new.earlier) c.step_with_into.new.self) c.deref-3.ensures.0 c.in-Ok.ensures.taken in
    sample-other names ps taken bytes r0 s0 s1 w1 s os models checked ahead (takes checked) (omega (arith, checked.stands.count_is, c.requires.counted)) c.step_with_into.new.self c.step_with_into.new.earlier
    (all ps taken (lives_before checked.choice (length ps) (length taken)) checked.stands) line (h line e) more is_whole) c.compare_sample.ensures.departs

pub returns-in-Err-clause-departs : goal.returns-in-Err-clause-departs
returns-in-Err-clause-departs g c = λ names ps taken bytes models checked line e more is_whole.
    let r0 = c.args.self.now in
    let s0 = g.F.Shelf.state c.args.shelf.now in
    let s1 = g.F.Shelf.state c.take_sample.new.shelf in
    let w1 = c.take_sample.new.window in
    let s = sample_of c.args.sample.now in
    let os = offers_seen c.in_ok-offers.offers.items in
    let ahead = c.in_ok-offers.ensures.ahead in
    let takes : Checked names ps taken bytes r0 s0 → (ps : List Plant) → AreCountsOf r0.counts ps → (unread : List ℕ) → HasUnread r0.window s0 unread → TakesSample ps r0.last.possible.items (left_in w1) unread os =
    λ checked qs are u h.
    let many : length c.deref.result.now ≡ c.models.result = ap length c.deref.ensures.0 ∙ possible-many names ps taken bytes r0 s0 models checked ∙ sym c.models.ensures.value in
    let lives : c.deref-2.result.now ≡ r0.last.possible.items = c.deref-2.ensures.0 ∙ c.live_models-lives.ensures.same many ∙ c.deref.ensures.0 in
    subst (λ ls. TakesSample qs ls (left_in w1) u os) lives (c.in_ok-offers.ensures.taken qs are u h) in
    let all : RefusesAnOffer s os r0.bank (refusal_with c.in-Err.refused c.step_with_into.new.earlier.models.items) =
    subst (λ xs. RefusesAnOffer s (offers_seen xs) r0.bank (refusal_with c.in-Err.refused c.step_with_into.new.earlier.models.items)) c.deref-3.ensures.0 c.in-Err.ensures.refused in
    let number = checked.stands.count_is in
    let at : c.count-k.result ≡ length taken = c.count-k.ensures ∙ number in
    let preds = pred_lines c.in-Err.refused.model c.in-Err.refused.preds.items in
    let front = subst (λ rs. DepartsBehind (lines_text (sample (length taken) ∷ flat_map model_lines (map model_seen rs) ++ preds)) w1 line) c.deref-in-Err.ensures.0
    (subst (λ n. DepartsBehind (lines_text (sample n ∷ flat_map model_lines (map model_seen c.deref-in-Err.result.now) ++ preds)) w1 line) at (c.compare_refused.ensures.departs line e)) in
    refused-other names ps taken bytes r0 s0 s1 w1 s os models checked ahead (takes checked) (omega (arith, checked.stands.count_is, c.requires.counted)) c.step_with_into.new.earlier c.in-Err.refused
    (all ps taken (lives_before checked.choice (length ps) (length taken)) checked.stands) line front more is_whole

pub returns-in-Ok-clause-behind : goal.returns-in-Ok-clause-behind
returns-in-Ok-clause-behind g c =
    if-err c.compare_sample.result _ _ (λ fault h line e. departs-behind _ c.args.self.now.window c.take_sample.new.window c.in_ok-offers.ensures.ahead.lines line (h line e)) c.compare_sample.ensures.departs

pub returns-in-Err-clause-behind : goal.returns-in-Err-clause-behind
returns-in-Err-clause-behind g c = λ line e.
    refused-behind _ c.args.self.now.window c.take_sample.new.window c.in_ok-offers.ensures.ahead.lines line (c.compare_refused.ensures.departs line e)

pub returns-in_err-offers-clause-behind : goal.returns-in_err-offers-clause-behind
returns-in_err-offers-clause-behind g c =
    let p = err_from_is_err_and c.from_residual.result c.from_residual.ensures.1 in
    rw (p.1, p.2) (report-behind c.in_err-offers.field-0.0 c.in_err-offers.ensures.fault c.args.self.now.window.lines)

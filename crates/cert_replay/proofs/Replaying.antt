-- One sample more of a report that is replayed.
use Rattle.std.proofs.Common.{◌≡◌, inl, inr, ℕ, zero, suc, ◌+◌, ◌^◌, ◌<◌, ◌≤◌, Bool, true, List, [], ◌∷◌, ◌++◌, length, map, flat_map, Option, refl, sym, ap, ◌∙◌, arith, subst, append_assoc, length-append}
use Rattle.std.specs.List.{All, list_all, count_by}
use Rattle.std.proofs.lemmas.List.{length-map}
use Rattle.outside_io.specs.Shelf.{ShelfState}
use Rattle.farkas_check.specs.Certificate.{Certificate}
use Rattle.plant_model.specs.Plant.{Plant, Sample}
use Rattle.observer_step.specs.Answers.{any_justified}
use Rattle.observer_step.specs.SetsAnswers.{sets_observer}
use Rattle.model_bank.specs.Answers.{SampleAnswer, sample_answer}
use Rattle.model_bank.specs.Bank.{Bank, BankStands}
use Rattle.model_bank.specs.Stepping.{TakesBy, Refusal, RefusesOffer}
use Rattle.model_bank.specs.Seen.{model_seen, sample_seen, refusal_with}
use Rattle.model_bank.specs.declared.record.ModelRec.{ModelRec}
use Rattle.model_bank.specs.declared.record.SampleRec.{SampleRec}
use Rattle.model_bank.specs.declared.record.Refused.{Refused}
use Rattle.report_text.specs.Line.{Line, title, lines_text}
use Rattle.report_text.specs.Laws.{is_feed}
use Rattle.report_text.specs.Ranges.{is_in_range}
use Rattle.report_rules.specs.Lines.{head_lines, sample_lines, model_lines, pred_lines}
use Rattle.report_rules.specs.Report.{Choice, samples_lines, lives_before}
use Rattle.report_rules.specs.Replay.{watch, lines_so_far, chosen_at, DepartsAt, TakesEnough}
use Rattle.report_rules.proofs.Chosen.{length-lives_before}
use Rattle.report_rules.proofs.Placed.{length-allowed, length-preds}
use Rattle.report_rules.proofs.Longer.{longer-lives, longer-lines}
use Rattle.report_rules.proofs.Replays.{replayed-more, sample-departs}
use Rattle.report_rules.proofs.Offered.{refused_lines, refused_lines-depart, refused-departs}
use Rattle.report_rules.proofs.Ranged.{CanBePrinted, refused_lines-ranged}
use Rattle.cert_replay.specs.Window.{left_in, HasUnread, ReadsAhead, PartsBehind, TakesText, DepartsFrom, DepartsBehind}
use Rattle.cert_replay.specs.Offers.{AreCountsOf, TakesSample, lines_of}
use Rattle.cert_replay.specs.Checked.{AreModels, Checked}
use Rattle.cert_replay.specs.declared.replay.Replay.{Replay}
use Rattle.cert_replay.specs.declared.window.Window.{Window}
use Rattle.cert_replay.proofs.Departing.{Taken, first-other, feeds-lines}
use Rattle.cert_replay.proofs.Samples.{length-models, length-sample, lines_of-front, sample-ranged}

-- the intervals of records can be printed
printed-all : (rs : List ModelRec) → All CanBePrinted (map model_seen rs)
printed-all [] k d l = absurd (omega (arith, l))
printed-all (r ∷ rs) zero d l = (r.printable_preds, r.printable_hulls)
printed-all (r ∷ rs) (suc k) d l = printed-all rs k d (omega (arith, l))

-- as many models as have counts
pub possible-many : (names : List (List ℕ)) (ps : List Plant) (taken : List Sample) (bytes : List ℕ) (r : Replay) (s : ShelfState) → AreModels names ps r.counts → (checked : Checked names ps taken bytes r s)
    → length r.last.possible.items ≡ length r.counts.states.items
possible-many names ps taken bytes r s models checked =
    let lives = length-lives_before checked.choice (length ps) (length taken) (λ j l. (length-allowed sets_observer taken j ps (lives_before checked.choice (length ps) j) (checked.choice j) (checked.replayed.allowed j l)).1) in
    ap length checked.possible_are ∙ lives ∙ sym (length-map ps (λ (p : Plant). p.states)) ∙ ap length models.counts_are.states_are

module _ (names : List (List ℕ)) (ps : List Plant) (taken : List Sample) (bytes : List ℕ) (r0 : Replay) (shelf0 shelf1 : ShelfState) (w1 : Window) (s : Sample) (os : List (Option Certificate))
    (models : AreModels names ps r0.counts) (checked : Checked names ps taken bytes r0 shelf0) (ahead : ReadsAhead r0.window shelf0 w1 shelf1)
    (takes : (ps : List Plant) → AreCountsOf r0.counts ps → (unread : List ℕ) → HasUnread r0.window shelf0 unread → TakesSample ps r0.last.possible.items (left_in w1) unread os)
    (number : length taken < 2 ^ 63) where
  abbrev k : ℕ
  k = length taken

  abbrev all : List Sample
  all = taken ++ s ∷ []

  abbrev lives : List Bool
  lives = lives_before checked.choice (length ps) k

  abbrev left : HasUnread w1 shelf1 checked.unread
  left = ahead.same checked.unread checked.left

  -- the lines that were taken
  sample-taken : TakesSample ps lives (left_in w1) checked.unread os
  sample-taken = subst (λ ls. TakesSample ps ls (left_in w1) checked.unread os) checked.possible_are (takes ps models.counts_are checked.unread checked.left)

  taken-enough : (n : ℕ) → n ≤ lines_of ps lives os + 3 → Taken n (left_in w1) checked.unread
  taken-enough n few = record {
    ts = sample-taken.ts;
    rest = sample-taken.rest;
    short = sample-taken.takes.short;
    are = sample-taken.takes.are;
    enough = fewer sample-taken.enough;
    within = sample-taken.within;
  }
    where
      fewer : TakesEnough (lines_of ps lives os + 3) sample-taken.ts sample-taken.rest → TakesEnough n sample-taken.ts sample-taken.rest
      fewer (inl enough) = inl (omega (arith, enough, few))
      fewer (inr none) = inr none

  many-lives : length lives ≡ length ps
  many-lives = length-lives_before checked.choice (length ps) k (λ j l. (length-allowed sets_observer taken j ps (lives_before checked.choice (length ps) j) (checked.choice j) (checked.replayed.allowed j l)).1)

  line-before : w1.lines ≡ length (lines_so_far names ps taken checked.choice)
  line-before = ahead.lines ∙ checked.lines

  -- ---- every offer is justified

  module _ (bank : Bank) (last : SampleRec) (t : TakesBy any_justified s os ps taken lives (sample_seen last) bank) where
    abbrev answer : SampleAnswer
    answer = sample_answer sets_observer ps lives os all k

    abbrev lines : List Line
    lines = sample_lines answer

    abbrev longer : Choice
    longer = chosen_at k os checked.choice

    text-is : lines_text (sample_lines (sample_seen last)) ≡ lines_text lines
    text-is = ap (λ a. lines_text (sample_lines a)) t.answer

    ranges : list_all is_in_range lines ≡ true
    ranges = sample-ranged all k ps lives os models.few models.few_states many-lives number t.allowed
        (subst (All CanBePrinted) (ap (λ (a : SampleAnswer). a.models) t.answer) (printed-all last.models.items))

    -- the lines of the sample stand
    pub sample-checked : (r : Replay) → r.bank ≡ bank → r.last ≡ last → TakesText (lines_text (sample_lines (sample_seen last))) w1 r.window → Checked names ps all bytes r shelf1
    sample-checked r bank-is last-is text = record {
      choice = longer;
      unread = left_in r.window ++ left.rest;
      left = record { rest = left.rest; told = left.told; is = refl };
      replayed = replayed-more names ps taken checked.choice bytes checked.unread checked.replayed s os t.allowed (left_in r.window ++ left.rest)
          (left.is ∙ ap (λ x. x ++ left.rest) (text.are ∙ ap (λ x. x ++ left_in r.window) text-is) ∙ append_assoc (lines_text lines) (left_in r.window) left.rest);
      stands = subst (BankStands ps all (lives_before longer (length ps) (length all))) (sym bank-is)
          (subst (λ ls. BankStands ps all ls bank) (sym (longer-lives ps taken checked.choice s os)) t.stands);
      possible_are = ap (λ (m : SampleRec). m.possible.items) last-is ∙ ap (λ (a : SampleAnswer). a.possible) t.answer
          ∙ sym (longer-lives ps taken checked.choice s os);
      lines = omega (arith, text.lines, line-before, ap (count_by is_feed) text-is, feeds-lines lines ranges, many);
    }
      where
        many : length (lines_so_far names ps all longer) ≡ length (lines_so_far names ps taken checked.choice) + length lines
        many =
            let before = samples_lines sets_observer ps taken checked.choice k in
            ap (λ ls. length (head_lines names ++ ls)) (longer-lines ps taken checked.choice s os)
            ∙ ap length (sym (append_assoc (head_lines names) before lines)) ∙ length-append (head_lines names ++ before) lines

    -- a line of the sample does not stand
    pub sample-other : (line : ℕ) → DepartsFrom (lines_text (sample_lines (sample_seen last))) w1 line → (more : List Sample) (is_whole : Bool)
        → DepartsAt (watch names ps (all ++ more) is_whole) line bytes
    unfolding sample-taken taken-enough
    sample-other line d more is_whole =
        let parts = subst (λ x. PartsBehind x (left_in w1) d.same) text-is d.parts in
        let tk = taken-enough (length lines) (omega (arith, length-sample all k ps lives os)) in
        let first = first-other lines ranges (left_in w1) left.rest checked.unread d.same left.is tk parts in
        subst (λ n. DepartsAt (watch names ps (all ++ more) is_whole) n bytes) (omega (arith, d.line_is, line-before, first.feeds))
        (sample-departs names ps taken checked.choice bytes checked.unread checked.replayed s more is_whole models.few os t.allowed ranges sample-taken.ts sample-taken.rest sample-taken.takes tk.enough
        first.j title first.rest first.within first.are (first.other title))

  -- ---- an offer is not justified

  module _ (last : SampleRec) (refused : Refused) (t : RefusesOffer s os ps taken lives (refusal_with refused last.models.items)) where
    abbrev refusal : Refusal
    refusal = refusal_with refused last.models.items

    abbrev front : List Line
    front = refused_lines k refusal

    front-ranges : list_all is_in_range front ≡ true
    front-ranges = refused_lines-ranged names ps taken checked.choice bytes checked.unread checked.replayed s os refusal t models.few models.few_states number (printed-all last.models.items) refused.printable

    few-lines : length front + 1 ≤ lines_of ps lives os + 3
    few-lines =
        let below = length-allowed sets_observer all k t.plants_below t.lives_below t.offers_below t.justified_below in
        let some = lines_of-front t.plants_below t.lives_below t.offers_below t.plant t.plants_above t.lives_above refusal.offered t.offers_above below.0 below.1 in
        let is : lines_of ps lives os ≡ lines_of (t.plants_below ++ t.plant ∷ t.plants_above) (t.lives_below ++ true ∷ t.lives_above) (t.offers_below ++ refusal.offered ∷ t.offers_above) =
        ap (λ qs. lines_of qs lives os) t.plants_are ∙ ap (λ ls. lines_of (t.plants_below ++ t.plant ∷ t.plants_above) ls os) t.lives_are
        ∙ ap (λ cs. lines_of (t.plants_below ++ t.plant ∷ t.plants_above) (t.lives_below ++ true ∷ t.lives_above) cs) t.offers_are in
        let models : length (flat_map model_lines refusal.before) ≡ lines_of t.plants_below t.lives_below t.offers_below =
        ap (λ rs. length (flat_map model_lines rs)) t.before_are ∙ length-models all k 0 t.plants_below t.lives_below t.offers_below in
        let outs : length (pred_lines refusal.model refusal.predicted) ≡ t.plant.outputs =
        ap (λ es. length (pred_lines refusal.model es)) t.predicted_are ∙ length-preds sets_observer all k refusal.model t.plant refusal.offered in
        omega (arith, some, is, models, outs, length-append (flat_map model_lines refusal.before) (pred_lines refusal.model refusal.predicted))

    -- the report departs up to the place of the offer, or there
    pub refused-other : (line : ℕ) → DepartsBehind (lines_text front) w1 line → (more : List Sample) (is_whole : Bool) → DepartsAt (watch names ps (all ++ more) is_whole) line bytes
    unfolding sample-taken taken-enough
    refused-other line (DepartsBehind.within d) more is_whole =
        let tk = taken-enough (length front) (omega (arith, few-lines)) in
        let first = first-other front front-ranges (left_in w1) left.rest checked.unread d.same left.is tk d.parts in
        subst (λ n. DepartsAt (watch names ps (all ++ more) is_whole) n bytes) (omega (arith, d.line_is, line-before, first.feeds))
        (refused_lines-depart names ps taken checked.choice bytes checked.unread checked.replayed s os refusal t models.few sample-taken.ts sample-taken.rest sample-taken.takes front-ranges more is_whole
        tk.enough first.j title first.rest first.within first.are (first.other title))
    refused-other line (DepartsBehind.behind rest is number) more is_whole =
        let tk = taken-enough (length front + 1) few-lines in
        let e : checked.unread ≡ lines_text front ++ (rest ++ left.rest) = left.is ∙ ap (λ x. x ++ left.rest) is ∙ append_assoc (lines_text front) rest left.rest in
        subst (λ n. DepartsAt (watch names ps (all ++ more) is_whole) n bytes) (omega (arith, number, line-before, feeds-lines front front-ranges))
        (refused-departs names ps taken checked.choice bytes checked.unread checked.replayed s os refusal t models.few sample-taken.ts sample-taken.rest sample-taken.takes front-ranges more is_whole
        (rest ++ left.rest) e tk.enough)

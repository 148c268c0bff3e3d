-- Where the bytes depart from a justified report.
use Rattle.std.proofs.Common.{◌≡◌, ◌≢◌, inl, inr, ◌⊎◌, ℕ, suc, ◌+◌, ◌-◌, ◌<◌, ◌≤◌, Bool, true, false, List, [], ◌∷◌, ◌++◌, length, get_or, take, drop, refl, sym, ap, ◌∙◌, arith, subst, append_assoc, length-append}
use Rattle.std.proofs.lemmas.Bool.{cases_lt}
use Rattle.std.proofs.lemmas.List.{append-nil, append_cancel_left, take-append-drop, take-append-le, length-take-le, get_or_append_left}
use Rattle.std.proofs.lemmas.Grind.{flat_map-append}
use Rattle.plant_model.specs.Plant.{Plant, Sample}
use Rattle.observer_step.specs.Answers.{any_justified}
use Rattle.observer_step.specs.SetsAnswers.{sets_observer}
use Rattle.report_text.specs.Line.{Line, end, put_text, lines_text}
use Rattle.report_rules.specs.Lines.{head_lines, last_lines}
use Rattle.report_rules.specs.Report.{Watch, Choice, samples_lines, report, AllowedBefore, BeginsWith}
use Rattle.report_rules.specs.Replay.{AreFew, watch, lines_so_far, Replayed, SatisfiesBy, Satisfies, DepartsAt}
use Rattle.report_rules.proofs.Parting.{cut-at}
use Rattle.report_rules.proofs.Alike.{front-alike}
use Rattle.report_rules.proofs.Agree.{fronts-agree, reports-end}
use Rattle.report_rules.proofs.Longer.{extended, extended-allowed}

-- ---- texts of lines

pub lines_text-append : (a b : List Line) → lines_text (a ++ b) ≡ lines_text a ++ lines_text b
lines_text-append a b = flat_map-append put_text a b

-- one line behind others, and what follows
pub lines_text-past : (a : List Line) (l : Line) (b : List Line) (rest : List ℕ)
    → lines_text (a ++ l ∷ b) ++ rest ≡ lines_text a ++ (put_text l ++ (lines_text b ++ rest))
lines_text-past a l b rest =
    ap (λ t. t ++ rest) (lines_text-append a (l ∷ b)) ∙ append_assoc (lines_text a) (put_text l ++ lines_text b) rest
    ∙ ap (λ t. lines_text a ++ t) (append_assoc (put_text l) (lines_text b) rest)

-- ---- the first line that differs

abbrev pub IsJustified : Watch → Choice → Type 0
IsJustified w c = AllowedBefore any_justified sets_observer w c (length w.samples)

abbrev pub report_of : Watch → Choice → List Line
report_of w c = report sets_observer w c

less-one : (n : ℕ) → n ≡ n + 1 - 1
less-one n = omega arith

-- the bytes have the first lines of a justified report, and no justified report of which they have more
module _ (w : Watch) (c : Choice) (allowed : IsJustified w c) (a b : List Line) (bytes v : List ℕ) (whole : report_of w c ≡ a ++ b)
    (is : bytes ≡ lines_text a ++ v)
    (none : (c' : Choice) → IsJustified w c' → (lines more : List Line) → lines ++ more ≡ report_of w c' → length lines ≡ length a + 1
    → (rest : List ℕ) → bytes ≢ lines_text lines ++ rest)
    (not : ¬ Satisfies w bytes) where
  departs-by : DepartsAt w (length a + 1) bytes
  departs-by = record {
    first_bad = record {
      some = omega arith;
      before = subst (λ n. BeginsWith any_justified sets_observer w n bytes) (less-one (length a)) here;
      bad = λ begins.
          none begins.front.1.choice begins.front.1.allowed begins.lines begins.front.0 begins.front.1.is begins.as_many begins.rest begins.is;
    };
    not_satisfied = not;
  }
    where
      here : BeginsWith any_justified sets_observer w (length a) bytes
      here = record { lines = a; rest = v; front = (b, record { choice = c; allowed = allowed; is = sym whole }); as_many = refl; is = is }

-- ---- under few models

no-more : (xs ys : List Line) → xs ++ ys ≡ [] → (xs ≡ []) × (ys ≡ [])
no-more [] ys e = (refl, e)
no-more (x ∷ xs) ys e = absurd cc

module _ (w : Watch) (few : AreFew w.plants) (c : Choice) (allowed : IsJustified w c) (a b : List Line) (bytes v : List ℕ)
    (whole : report_of w c ≡ a ++ b) (is : bytes ≡ lines_text a ++ v) where
  -- a justified report goes on behind the same lines, and the bytes by its line
  record GoesOn (c' : Choice) : Type 0 where
    l : Line
    others : List Line
    are : report_of w c' ≡ a ++ l ∷ others
    r : List ℕ
    goes : v ≡ put_text l ++ r

  module _ (c' : Choice) (allowed' : IsJustified w c') (lines more : List Line) (front : lines ++ more ≡ report_of w c') (rest : List ℕ)
      (text : bytes ≡ lines_text lines ++ rest) where
    longer : (d : Line) → length a < length lines → GoesOn c'
    longer d many =
        let n = length a in
        let l = get_or lines n d in
        let over = drop (suc n) lines in
        let cut = cut-at lines n d many in
        let are : report_of w c' ≡ take n lines ++ l ∷ (over ++ more) =
        sym front ∙ ap (λ ls. ls ++ more) cut ∙ append_assoc (take n lines) (l ∷ over) more in
        let text' : lines_text a ++ v ≡ lines_text (take n lines) ++ (put_text l ++ (lines_text over ++ rest)) =
        sym is ∙ text ∙ ap (λ ls. lines_text ls ++ rest) cut ∙ lines_text-past (take n lines) l over rest in
        let same : a ≡ take n lines =
        fronts-agree sets_observer w few c c' allowed allowed' a b (take n lines) (l ∷ (over ++ more)) v
        (put_text l ++ (lines_text over ++ rest)) whole are
        (length-take-le n lines (omega (arith, many))) text' in
        record {
          l = l;
          others = over ++ more;
          are = are ∙ ap (λ ls. ls ++ l ∷ (over ++ more)) (sym same);
          r = lines_text over ++ rest;
          goes = append_cancel_left (lines_text a) v (put_text l ++ (lines_text over ++ rest))
              (text' ∙ ap (λ ls. lines_text ls ++ (put_text l ++ (lines_text over ++ rest))) (sym same));
        }

    -- a whole report of no more lines is this one
    shorter : more ≡ [] → length lines ≤ length a → (lines ≡ a) × (b ≡ [])
    shorter none few-lines =
        let n = length lines in
        let cut : a ≡ take n a ++ drop n a = sym (take-append-drop n a) in
        let are : report_of w c ≡ take n a ++ (drop n a ++ b) = whole ∙ ap (λ ls. ls ++ b) cut ∙ append_assoc (take n a) (drop n a) b in
        let alone : report_of w c' ≡ lines = sym front ∙ ap (λ ls. lines ++ ls) none ∙ append-nil lines in
        let text' : lines_text (take n a) ++ (lines_text (drop n a) ++ v) ≡ lines_text lines ++ rest =
        sym (append_assoc (lines_text (take n a)) (lines_text (drop n a)) v) ∙ ap (λ t. t ++ v)
        (sym (ap lines_text cut ∙ lines_text-append (take n a) (drop n a))) ∙ sym is ∙ text in
        let same : take n a ≡ lines =
        fronts-agree sets_observer w few c c' allowed allowed' (take n a) (drop n a ++ b) lines more
        (lines_text (drop n a) ++ v) rest are (sym front)
        (sym (length-take-le n a few-lines)) text' in
        let nothing = reports-end sets_observer w few c' c allowed' allowed (drop n a ++ b)
        (are ∙ ap (λ ls. ls ++ (drop n a ++ b)) (same ∙ sym alone)) in
        let parts = no-more (drop n a) b nothing in
        (sym (cut ∙ ap (λ ls. take n a ++ ls) parts.0 ∙ append-nil (take n a) ∙ same), parts.1)

-- the report goes on with a line, and the bytes by the line of no justified report that goes on there
module _ (w : Watch) (few : AreFew w.plants) (c : Choice) (allowed : IsJustified w c) (a : List Line) (l : Line) (b : List Line)
    (bytes v : List ℕ) (whole : report_of w c ≡ a ++ l ∷ b)
    (is : bytes ≡ lines_text a ++ v)
    (differs : (c' : Choice) → IsJustified w c' → (l' : Line) (b' : List Line) → report_of w c' ≡ a ++ l' ∷ b' → (r : List ℕ)
    → v ≢ put_text l' ++ r) where
  no-longer : (c' : Choice) → IsJustified w c' → (lines more : List Line) → lines ++ more ≡ report_of w c' → length a < length lines
      → (rest : List ℕ) → bytes ≢ lines_text lines ++ rest
  no-longer c' allowed' lines more front many rest text =
      let goes = longer w few c allowed a (l ∷ b) bytes v whole is c' allowed' lines more front rest text l many in
      differs c' allowed' goes.l goes.others goes.are goes.r goes.goes

  no-whole : (c' : Choice) → IsJustified w c' → (lines : List Line) → lines ≡ report_of w c' → (rest : List ℕ) → bytes ≢ lines_text lines ++ rest
  no-whole c' allowed' lines front rest text = by (cases_lt (length a) (length lines))
    where
      by : (length a < length lines) ⊎ (length lines ≤ length a) → ⊥
      by (inl many) = no-longer c' allowed' lines [] (append-nil lines ∙ front) many rest text
      by (inr fewer) =
          let none = (shorter w few c allowed a (l ∷ b) bytes v whole is c' allowed' lines [] (append-nil lines ∙ front) rest text refl fewer).1 in
          absurd cc

  pub departs : DepartsAt w (length a + 1) bytes
  departs =
      departs-by w c allowed a (l ∷ b) bytes v whole is
      (λ c' allowed' lines more front many. no-longer c' allowed' lines more front (omega (arith, many))) (not-by w.is_whole)
    where
      not-by : (is_whole : Bool) → ¬ SatisfiesBy is_whole w bytes
      not-by true h = no-whole h.1.choice h.1.allowed h.0 h.1.is [] (h.2 ∙ sym (append-nil (lines_text h.0)))
      not-by false h = no-whole h.1.choice h.1.allowed h.0 h.1.is h.2 h.3

-- the report ends, and the bytes go on
pub departs-behind : (names : List (List ℕ)) (ps : List Plant) (samples : List Sample) → AreFew ps → (c : Choice) → IsJustified
    (watch names ps samples true) c
    → (a : List Line) (bytes v : List ℕ)
    → report_of (watch names ps samples true) c ≡ a → bytes ≡ lines_text a ++ v → v ≢ [] → DepartsAt (watch names ps samples true)
    (length a + 1) bytes
departs-behind names ps samples few c allowed a bytes v whole is some =
    departs-by (watch names ps samples true) c allowed a [] bytes v none-behind is
    (λ c' allowed' lines more front many. no-longer c' allowed' lines more front (omega (arith, many))) not-whole
  where
    none-behind : report_of (watch names ps samples true) c ≡ a ++ []
    none-behind = whole ∙ sym (append-nil a)

    no-longer : (c' : Choice) → IsJustified (watch names ps samples true) c' → (lines more : List Line) → lines ++ more ≡ report_of
        (watch names ps samples true) c' → length a < length lines
        → (rest : List ℕ) → bytes ≢ lines_text lines ++ rest
    no-longer c' allowed' lines more front many rest text =
        let goes = longer (watch names ps samples true) few c allowed a [] bytes v none-behind is c' allowed' lines more front rest text
        (end 0) many in
        let stuff = reports-end sets_observer (watch names ps samples true) few c c' allowed allowed' (goes.l ∷ goes.others)
        (goes.are ∙ ap (λ ls. ls ++ goes.l ∷ goes.others) (sym whole)) in
        absurd cc

    not-whole : ¬ Satisfies (watch names ps samples true) bytes
    not-whole h = by (cases_lt (length a) (length h.0))
      where
        front : h.0 ++ [] ≡ report_of (watch names ps samples true) h.1.choice
        front = append-nil h.0 ∙ h.1.is

        text : bytes ≡ lines_text h.0 ++ []
        text = h.2 ∙ sym (append-nil (lines_text h.0))

        by : (length a < length h.0) ⊎ (length h.0 ≤ length a) → ⊥
        by (inl many) = no-longer h.1.choice h.1.allowed h.0 [] front many [] text
        by (inr fewer) =
            let same = (shorter (watch names ps samples true) few c allowed a [] bytes v none-behind is h.1.choice h.1.allowed h.0 [] front [] text refl fewer).0 in
            some (append_cancel_left (lines_text a) v [] (sym is ∙ text ∙ ap (λ ls. lines_text ls ++ []) same))

-- ---- in the head, which all reports have

-- the line j of the head does not stand behind those before it
module _ (names : List (List ℕ)) (ps : List Plant) (samples : List Sample) (is_whole : Bool) (j : ℕ) (d : Line) (bytes left : List ℕ)
    (within : j < length (head_lines names))
    (is : bytes ≡ lines_text (take j (head_lines names)) ++ left)
    (differs : (r : List ℕ) → left ≢ put_text (get_or (head_lines names) j d) ++ r) where
  abbrev head : List Line
  head = head_lines names

  abbrev of_head : Watch
  of_head = watch names ps samples is_whole

  -- what a choice gives behind the head
  abbrev behind_head : Choice → List Line
  behind_head c = samples_lines sets_observer ps samples c (length samples) ++ last_lines (length samples) is_whole

  report-is : (c : Choice) → report_of of_head c ≡ head ++ behind_head c
  report-is c = append_assoc head (samples_lines sets_observer ps samples c (length samples)) (last_lines (length samples) is_whole)

  cut : head ≡ take j head ++ get_or head j d ∷ drop (suc j) head
  cut = cut-at head j d within

  few-lines : length (take j head) ≡ j
  few-lines = length-take-le j head (omega (arith, within))

  no-head : (c : Choice) (lines more : List Line) → lines ++ more ≡ report_of of_head c → j < length lines → (rest : List ℕ)
      → bytes ≢ lines_text lines ++ rest
  no-head c lines more front many rest text =
      let next = get_or head j d in
      let other = get_or lines j d in
      let over = drop (suc j) lines in
      let cut' = cut-at lines j d many in
      let all : lines ++ more ≡ head ++ behind_head c = front ∙ report-is c in
      let first : take j lines ≡ take j head =
      sym (take-append-le j lines more (omega (arith, many))) ∙ ap (take j) all ∙ take-append-le j head (behind_head c) (omega (arith, within)) in
      let same : other ≡ next =
      sym (get_or_append_left lines more d j many) ∙ ap (λ ls. get_or ls j d) all ∙ get_or_append_left head (behind_head c) d j within in
      let goes : bytes ≡ lines_text (take j lines) ++ (put_text other ++ (lines_text over ++ rest)) =
      text ∙ ap (λ ls. lines_text ls ++ rest) cut' ∙ lines_text-past (take j lines) other over rest in
      differs (lines_text over ++ rest)
      (append_cancel_left (lines_text (take j head)) left (put_text next ++ (lines_text over ++ rest))
      (sym is ∙ goes ∙ ap (λ ls. lines_text ls ++ (put_text other ++ (lines_text over ++ rest))) first
      ∙ ap (λ l. lines_text (take j head) ++ (put_text l ++ (lines_text over ++ rest))) same))

  pub head-departs : DepartsAt (watch names ps samples is_whole) (j + 1) bytes
  head-departs =
      let due = extended ps samples (λ k. []) 0 in
      let allowed = λ (k : ℕ) (l : k < length samples). extended-allowed any_justified ps samples (λ k. []) 0 (λ k l. absurd (omega (arith, l))) k in
      let rest = get_or head j d ∷ (drop (suc j) head ++ behind_head due) in
      let whole : report_of of_head due ≡ take j head ++ rest =
      report-is due ∙ ap (λ ls. ls ++ behind_head due) cut ∙ append_assoc (take j head) (get_or head j d ∷ drop (suc j) head) (behind_head due) in
      subst (λ n. DepartsAt of_head (n + 1) bytes) few-lines
      (departs-by of_head due allowed (take j head) rest bytes left whole is
      (λ c' allowed' lines more front many. no-head c' lines more front (omega (arith, many, few-lines))) (not-by is_whole))
    where
      long : (c : Choice) → j < length (report_of of_head c)
      long c = omega (arith, within, ap length (report-is c), length-append head (behind_head c))

      no-whole : (c : Choice) (lines : List Line) → lines ≡ report_of of_head c → (rest : List ℕ) → bytes ≢ lines_text lines ++ rest
      no-whole c lines is rest = no-head c lines [] (append-nil lines ∙ is) (omega (arith, ap length is, long c)) rest

      not-by : (whole : Bool) → ¬ SatisfiesBy whole (watch names ps samples is_whole) bytes
      not-by true h = no-whole h.1.choice h.0 h.1.is [] (h.2 ∙ sym (append-nil (lines_text h.0)))
      not-by false h = no-whole h.1.choice h.0 h.1.is h.2 h.3

-- ---- at the end

module _ (names : List (List ℕ)) (ps : List Plant) (samples : List Sample) (c : Choice) (bytes left : List ℕ)
    (replayed : Replayed names ps samples c bytes left) where
  abbrev so_far : List Line
  so_far = lines_so_far names ps samples c

  -- the report of these samples
  report-so_far : (is_whole : Bool) → report_of (watch names ps samples is_whole) c ≡ so_far ++ last_lines (length samples) is_whole
  report-so_far is_whole = refl

  -- the last line stands there, and nothing behind it
  pub end-satisfies : left ≡ put_text (end (length samples)) → Satisfies (watch names ps samples true) bytes
  end-satisfies e = (
    so_far ++ end (length samples) ∷ [],
    record { choice = c; allowed = replayed.allowed; is = sym (report-so_far true) },
    replayed.text ∙ ap (λ t. lines_text so_far ++ t) (e ∙ sym (append-nil (put_text (end (length samples)))))
        ∙ sym (lines_text-append so_far (end (length samples) ∷ [])),
  )

  -- where a row is refused, the lines so far are all that there are
  pub refused-satisfies : Satisfies (watch names ps samples false) bytes
  refused-satisfies = (
    so_far,
    record { choice = c; allowed = replayed.allowed; is = sym (report-so_far false ∙ append-nil so_far) },
    left,
    replayed.text,
  )

  module _ (few : AreFew ps) where
    -- what another justified report has behind these lines is the last line
    end-alone : (c' : Choice) → IsJustified (watch names ps samples true) c' → (x : List Line) → report_of
        (watch names ps samples true) c' ≡ so_far ++ x → x ≡ end (length samples) ∷ []
    end-alone c' allowed' x e =
        let n = length samples in
        let head = head_lines names in
        let lines = samples_lines sets_observer ps samples c n in
        let lines' = samples_lines sets_observer ps samples c' n in
        let behind : lines' ++ end n ∷ [] ≡ lines ++ x =
        append_cancel_left head (lines' ++ end n ∷ []) (lines ++ x)
        (sym (append_assoc head lines' (end n ∷ [])) ∙ e ∙ append_assoc head lines x) in
        let same = (front-alike sets_observer ps samples few c c' n replayed.allowed allowed' (end n ∷ []) x behind).0 in
        append_cancel_left lines x (end n ∷ []) (sym behind ∙ ap (λ ls. ls ++ end n ∷ []) (sym same))

    -- another line, or none, stands in its place
    pub end-departs : ((r : List ℕ) → left ≢ put_text (end (length samples)) ++ r) → DepartsAt (watch names ps samples true) (length so_far + 1) bytes
    end-departs differs =
        departs (watch names ps samples true) few c replayed.allowed so_far (end (length samples)) [] bytes left (report-so_far true) replayed.text
        (λ c' allowed' l' b' is r e.
        let last = end-alone c' allowed' (l' ∷ b') is in
        let same : l' ≡ end (length samples) = cc in
        differs r (e ∙ ap (λ l. put_text l ++ r) same))

    -- bytes stand behind it
    pub behind-departs : (v : List ℕ) → left ≡ put_text (end (length samples)) ++ v → v ≢ [] → DepartsAt (watch names ps samples true)
        (length so_far + 2) bytes
    behind-departs v e some =
        let all = so_far ++ end (length samples) ∷ [] in
        let long : length all + 1 ≡ length so_far + 2 = omega (arith, length-append so_far (end (length samples) ∷ [])) in
        let is : bytes ≡ lines_text all ++ v =
        replayed.text ∙ ap (λ t. lines_text so_far ++ t) e ∙ sym (lines_text-past so_far (end (length samples)) [] v) in
        subst (λ n. DepartsAt (watch names ps samples true) n bytes) long
        (departs-behind names ps samples few c replayed.allowed all bytes v (report-so_far true) is some)

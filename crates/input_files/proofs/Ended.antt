-- The ended lines of a stream, as its lines are cut and taken.
use Rattle.std.proofs.Common.{◌≡◌, ℕ, suc, ◌+◌, ◌-◌, ◌<◌, ◌≤◌, Bool, true, false, ◌||◌, List, [], ◌∷◌, ◌++◌, length, take, drop, refl, sym, ap, subst, ◌∙◌, arith, length-append, append-nil, ◌⊎◌, inl, inr, Option, Some, None, Result, Ok, Err, IfOk}
use Rattle.std.specs.Prelude.{filter}
use Rattle.std.specs.List.{list_any}
use Rattle.std.specs.Io.KnownBytes.{IsAtEnd}
use Rattle.std.proofs.Math.Seq.{take-append-add}
use Rattle.std.proofs.lemmas.List.{take-append-le, take-append-drop}
use Rattle.std.proofs.lemmas.List.Folds.{list_any-append}
use Rattle.plant_model.specs.Plant.{Sample}
use Rattle.telem_csv.specs.Columns.{Columns}
use Rattle.telem_csv.specs.Cutter.{Cutter, current, text_at}
use Rattle.telem_csv.specs.Lines.{RawLine, is_feed, line_text}
use Rattle.telem_csv.specs.Rows.{no_rows, rows_from, then_rows, row_of, refused_at}
use Rattle.telem_csv.specs.Telemetry.{no_header, from_line, then_header, header_of}
use Rattle.telem_csv.specs.declared.fault.TelemWhy.TheVariants as why
use Rattle.telem_csv.proofs.Cuts.{raw_lines-cut, raw_lines-last}
use Rattle.input_files.specs.Stream.{BothTold}
use Rattle.input_files.specs.Ended.{ended_lines, without_last, lines_ended, rows_ended, telemetry_ended, GrowsLine, CutsLine, EndsNoLine, TakesNoLine, TakesLine, EndsNoRow, TakesNoRow, TakesRow, EndsNoHeader, TakesNoHeader, TakesHeader}
use Rattle.input_files.proofs.Streams.{current-line, told-then}

first_false : (a b : Bool) → (a || b) ≡ false → a ≡ false
first_false true b h = absurd cc
first_false false b h = refl

-- no line feed comes to the front of a text
no_feed-take : (n : ℕ) (xs : List ℕ) → list_any is_feed xs ≡ false → list_any is_feed (take n xs) ≡ false
no_feed-take n xs h = first_false _ (list_any is_feed (drop n xs)) (sym (list_any-append is_feed (take n xs) (drop n xs)) ∙ ap (list_any is_feed) (take-append-drop n xs) ∙ h)

pub no_feed-front : (xs ys : List ℕ) → list_any is_feed (xs ++ ys) ≡ false → list_any is_feed xs ≡ false
no_feed-front xs ys h = first_false _ (list_any is_feed ys) (sym (list_any-append is_feed xs ys) ∙ h)

-- a text without a line feed has no ended line
ended-none : (xs : List ℕ) → list_any is_feed xs ≡ false → ended_lines xs ≡ []
unfolding ended_lines
ended-none [] h = refl
ended-none (x ∷ xs) h = ap (filter (λ (l : RawLine). l.is_ended)) (raw_lines-last x xs h)

-- the bytes before a line feed are an ended line
ended-cut : (xs rest : List ℕ) → list_any is_feed xs ≡ false → ended_lines (xs ++ 10 ∷ rest) ≡ record { bytes = xs; is_ended = true } ∷ ended_lines rest
unfolding ended_lines
ended-cut xs rest h = ap (filter (λ (l : RawLine). l.is_ended)) (raw_lines-cut xs rest h)

-- the same bytes, of which `here` and then `more` come, and then `there` and `rest`
module _ (here more there rest : List ℕ) (same : here ++ more ≡ there ++ rest) (later : length rest ≤ length more) where
  sizes : length here + length more ≡ length there + length rest
  sizes = sym (length-append here more) ∙ ap length same ∙ length-append there rest

  behind-same : (k : ℕ) → k ≤ length rest → here ++ without_last k more ≡ there ++ without_last k rest
  behind-same k h =
      let both = sizes in
      let count : length here + (length more - k) ≡ length there + (length rest - k) = omega arith in
      sym (take-append-add here more (length more - k)) ∙ ap (take (length here + (length more - k))) same ∙ ap (λ n. take n (there ++ rest)) count ∙ take-append-add there rest (length rest - k)

  before-same : (k : ℕ) → length rest ≤ k → here ++ without_last k more ≡ take (length here + (length more - k)) there
  before-same k h =
      let both = sizes in
      sym (take-append-add here more (length more - k)) ∙ ap (take (length here + (length more - k))) same ∙ take-append-le (length here + (length more - k)) there rest (omega arith)

-- ---- claims on what two slots tell

pub told-same : (a : Option (List ℕ)) (P : List ℕ → List ℕ → Type 0) → ((r : List ℕ) → P r r) → BothTold a a P
told-same None P f = tt
told-same (Some r) P f = f r

pub told-pair : (a b : Option (List ℕ)) (P Q : List ℕ → List ℕ → Type 0) → BothTold a b P → BothTold a b Q → BothTold a b (λ r r'. P r r' × Q r r')
told-pair None b P Q p q = tt
told-pair (Some r) None P Q p q = absurd p
told-pair (Some r) (Some r') P Q p q = (p, q)

pub of-ok : {A E : Type 0} (r : Result A E) (P : A → Type 0) → ((x : A) → P x) → IfOk r P
of-ok (Ok x) P f = f x
of-ok (Err e) P f = tt

-- ---- a line that grows

module _ {old new : Cutter} {unread unread' : List ℕ} (g : GrowsLine old new unread unread') where
  -- no line ended in what was taken
  grown-none : (k : ℕ) → length unread' ≤ k → lines_ended old (without_last k unread) ≡ []
  grown-none k h = ap ended_lines (before-same (current old).bytes unread (current new).bytes unread' g.bytes g.later k h) ∙ ended-none _ (no_feed-take _ (current new).bytes g.no_feed)

  pub grown-takes_none : TakesNoLine old unread unread'
  grown-takes_none = record { none = grown-none (length unread') (omega arith); later = g.later }

  pub grown-ends_none : EndsNoLine old unread unread'
  grown-ends_none = λ k h. grown-none k (omega (arith, h))

  -- and at the end of the stream the line is told as it stands
  pub last-taken : (last : Cutter) (is_ended : Bool) → is_ended ≡ true → unread' ≡ [] → TakesLine is_ended old last unread unread'
  last-taken last is_ended t none = record {
    cut = λ f. absurd (let clash : true ≡ false = sym t ∙ f in cc);
    before = grown-ends_none;
    later = g.later;
    ended = λ _. none;
  }

  -- a line that grew and is then cut
  pub then-cut : {cut : Cutter} {left : List ℕ} → CutsLine new cut unread' left → CutsLine old cut unread left
  then-cut c = record {
    bytes = g.bytes ∙ c.bytes;
    text = rw (sym g.room, sym g.number) c.text;
    room = c.room ∙ g.room;
    number = c.number ∙ g.number;
    is_cut = c.is_cut;
    no_feed = c.no_feed;
    later = omega (arith, c.later, g.later);
  }

  pub then-grown : {more : Cutter} {left : List ℕ} → GrowsLine new more unread' left → GrowsLine old more unread left
  then-grown m = record {
    bytes = g.bytes ∙ m.bytes;
    room = m.room ∙ g.room;
    number = m.number ∙ g.number;
    no_feed = m.no_feed;
    later = omega (arith, m.later, g.later);
  }

-- a stream that is read on has the same line at hand
module _ (a b d : Option (List ℕ)) (old mid : Cutter) (left0 left1 left2 : List ℕ) (grown : BothTold a b (λ r r'. GrowsLine old mid (left0 ++ r) (left1 ++ r')))
    (same : BothTold b d (λ r r'. left1 ++ r ≡ left2 ++ r')) where
  pub grown-read : BothTold a d (λ r r'. GrowsLine old mid (left0 ++ r) (left2 ++ r'))
  grown-read = told-then a b d (λ r r'. GrowsLine old mid (left0 ++ r) (left1 ++ r')) (λ r r'. left1 ++ r ≡ left2 ++ r') (λ r r'. GrowsLine old mid (left0 ++ r) (left2 ++ r'))
      (λ x y z g e. subst (λ t. GrowsLine old mid (left0 ++ x) t) e g) grown same

  -- at the end of the stream nothing is unread
  pub last-read : (none : BothTold b d (λ r r'. left2 ++ r' ≡ [])) (P : List ℕ → List ℕ → Type 0) → ((r r' : List ℕ) → GrowsLine old mid (left0 ++ r) (left2 ++ r') → left2 ++ r' ≡ [] → P r r') → BothTold a d P
  last-read none P f = told-then a b d (λ r r'. GrowsLine old mid (left0 ++ r) (left1 ++ r')) (λ r r'. (left1 ++ r ≡ left2 ++ r') × (left2 ++ r' ≡ [])) P
      (λ x y z g e. f x z (subst (λ t. GrowsLine old mid (left0 ++ x) t) e.0 g) e.1) grown (told-pair b d (λ r r'. left1 ++ r ≡ left2 ++ r') (λ r r'. left2 ++ r' ≡ []) same none)

-- ---- a line that is cut

-- the rows of a first line and those behind it
rows-first : (head : Columns) (room number r n : ℕ) (bytes text : List ℕ) (ls : List RawLine) → line_text room number (record { bytes = bytes; is_ended = true }) ≡ Ok text → r ≡ room → n ≡ number
    → rows_from head room number (record { bytes = bytes; is_ended = true } ∷ ls) ≡ then_rows n (row_of head text) (rows_from head (r - (length bytes + 1)) (n + 1) ls)
rows-first head room number r n bytes text ls t er en = rw (t, er, en) refl

header-first : (inputs outputs : List (List ℕ)) (room number r n : ℕ) (bytes text : List ℕ) (ls : List RawLine) → line_text room number (record { bytes = bytes; is_ended = true }) ≡ Ok text → r ≡ room → n ≡ number
    → from_line inputs outputs room number (record { bytes = bytes; is_ended = true } ∷ ls)
    ≡ then_header n (header_of inputs outputs text) (λ head. rows_from head (r - (length bytes + 1)) (n + 1) ls) (from_line inputs outputs (r - (length bytes + 1)) (n + 1) ls)
header-first inputs outputs room number r n bytes text ls t er en = rw (t, er, en) refl

module _ {old new : Cutter} {unread unread' : List ℕ} (c : CutsLine old new unread unread') where
  lines-cut : (k : ℕ) → k ≤ length unread' → lines_ended old (without_last k unread) ≡ record { bytes = new.bytes; is_ended = true } ∷ ended_lines (without_last k unread')
  lines-cut k h =
      let fewer = c.later in
      let count : suc (length unread') - k ≡ suc (length unread' - k) = omega arith in
      let kept : without_last k (10 ∷ unread') ≡ 10 ∷ without_last k unread' = ap (λ n. take n (10 ∷ unread')) count in
      ap ended_lines (behind-same (current old).bytes unread new.bytes (10 ∷ unread') c.bytes (omega arith) k (omega arith) ∙ ap (λ t. new.bytes ++ t) kept)
      ∙ ended-cut new.bytes (without_last k unread') c.no_feed

  cut-before : EndsNoLine old unread unread'
  cut-before = λ k h.
      let fewer = c.later in
      ap ended_lines (before-same (current old).bytes unread new.bytes (10 ∷ unread') c.bytes (omega arith) k (omega (arith, h))) ∙ ended-none _ (no_feed-take _ new.bytes c.no_feed)

  pub cut-taken : (is_ended : Bool) → is_ended ≡ false → TakesLine is_ended old new unread unread'
  cut-taken is_ended f = record {
    cut = λ _. c;
    before = cut-before;
    later = omega (arith, c.later);
    ended = λ t. absurd (let clash : true ≡ false = sym t ∙ f in cc);
  }

  rows-cut : (head : Columns) (k : ℕ) → k ≤ length unread' → rows_ended head old (without_last k unread) ≡ then_rows new.number (row_of head (text_at new)) (rows_ended head new (without_last k unread'))
  rows-cut head k h =
      ap (rows_from head (current old).room (current old).number) (lines-cut k h)
      ∙ rows-first head (current old).room (current old).number new.room new.number new.bytes (text_at new) (ended_lines (without_last k unread')) c.text c.room c.number
      ∙ ap (λ (d : Cutter). then_rows new.number (row_of head (text_at new)) (rows_from head d.room d.number (ended_lines (d.bytes ++ without_last k unread')))) (sym (current-line new c.is_cut))

  header-cut : (inputs outputs : List (List ℕ)) (k : ℕ) → k ≤ length unread' → telemetry_ended inputs outputs old (without_last k unread)
      ≡ then_header new.number (header_of inputs outputs (text_at new)) (λ head. rows_ended head new (without_last k unread')) (telemetry_ended inputs outputs new (without_last k unread'))
  header-cut inputs outputs k h =
      ap (from_line inputs outputs (current old).room (current old).number) (lines-cut k h)
      ∙ header-first inputs outputs (current old).room (current old).number new.room new.number new.bytes (text_at new) (ended_lines (without_last k unread')) c.text c.room c.number
      ∙ ap (λ (d : Cutter). then_header new.number (header_of inputs outputs (text_at new)) (λ head. rows_from head d.room d.number (ended_lines (d.bytes ++ without_last k unread')))
      (from_line inputs outputs d.room d.number (ended_lines (d.bytes ++ without_last k unread')))) (sym (current-line new c.is_cut))

-- ---- past blank lines

-- blank lines were taken: whatever is cut off of the bytes to come, the ended lines tell the rows that they told
pub record PassesRows (head : Columns) (is_ended : Bool) (old new : Cutter) (unread unread' : List ℕ) : Type 0 where
  pub same : is_ended ≡ false → (k : ℕ) → k ≤ length unread' → rows_ended head old (without_last k unread) ≡ rows_ended head new (without_last k unread')
  pub before : EndsNoRow head old unread unread'
  pub later : length unread' ≤ length unread
  pub ended : is_ended ≡ true → unread' ≡ []

-- the same where no header came before
pub record PassesHeader (inputs outputs : List (List ℕ)) (is_ended : Bool) (old new : Cutter) (unread unread' : List ℕ) : Type 0 where
  pub same : is_ended ≡ false → (k : ℕ) → k ≤ length unread' → telemetry_ended inputs outputs old (without_last k unread) ≡ telemetry_ended inputs outputs new (without_last k unread')
  pub before : EndsNoHeader inputs outputs old unread unread'
  pub later : length unread' ≤ length unread
  pub ended : is_ended ≡ true → unread' ≡ []

side : (k n : ℕ) → (k ≤ n) ⊎ (n < k)
side k n = grind arith

false-or-true : (b : Bool) → (b ≡ false) ⊎ (b ≡ true)
false-or-true true = inr refl
false-or-true false = inl refl

-- with all bytes cut off, or more, nothing is left but the line at hand
cut-off : (c : Cutter) (unread : List ℕ) → list_any is_feed (current c).bytes ≡ false → EndsNoLine c unread unread
cut-off c unread none = λ k h.
    let zero : length unread - k ≡ 0 = omega (arith, h) in
    ap (λ n. ended_lines ((current c).bytes ++ take n unread)) zero ∙ ap ended_lines (append-nil (current c).bytes) ∙ ended-none (current c).bytes none

pub grown-yet : (c : Cutter) (unread : List ℕ) → list_any is_feed (current c).bytes ≡ false → GrowsLine c c unread unread
grown-yet c unread none = record { bytes = refl; room = refl; number = refl; no_feed = none; later = omega arith }

rows-yet : (head : Columns) (is_ended : Bool) (c : Cutter) (unread : List ℕ) → list_any is_feed (current c).bytes ≡ false → (is_ended ≡ true → unread ≡ []) → PassesRows head is_ended c c unread unread
rows-yet head is_ended c unread none ended = record {
  same = λ _ k h. refl;
  before = λ k h. ap (rows_from head (current c).room (current c).number) (cut-off c unread none k h);
  later = omega arith;
  ended = ended;
}

header-yet : (inputs outputs : List (List ℕ)) (is_ended : Bool) (c : Cutter) (unread : List ℕ) → list_any is_feed (current c).bytes ≡ false → (is_ended ≡ true → unread ≡ []) → PassesHeader inputs outputs is_ended c c unread unread
header-yet inputs outputs is_ended c unread none ended = record {
  same = λ _ k h. refl;
  before = λ k h. ap (from_line inputs outputs (current c).room (current c).number) (cut-off c unread none k h);
  later = omega arith;
  ended = ended;
}

pub none-left : (e : Bool) (left rest : List ℕ) → (e ≡ true → (left ≡ []) × (rest ≡ [])) → e ≡ true → left ++ rest ≡ []
none-left e left rest h t = let both = h t in ap (λ l. l ++ rest) both.0 ∙ both.1

-- before the first line of a stream that may have ended
module _ (e : Bool) (c : Cutter) (left : List ℕ) (none : list_any is_feed (current c).bytes ≡ false) where
  pub rows-init : (head : Columns) (rest : Option (List ℕ)) → (e ≡ true → (left ≡ []) × IsAtEnd rest) → BothTold rest rest (λ r r'. PassesRows head e c c (left ++ r) (left ++ r'))
  rows-init head None h = tt
  rows-init head (Some r) h = rows-yet head e c (left ++ r) none (none-left e left r h)

  pub header-init : (inputs outputs : List (List ℕ)) (rest : Option (List ℕ)) → (e ≡ true → (left ≡ []) × IsAtEnd rest) → BothTold rest rest (λ r r'. PassesHeader inputs outputs e c c (left ++ r) (left ++ r'))
  header-init inputs outputs None h = tt
  header-init inputs outputs (Some r) h = header-yet inputs outputs e c (left ++ r) none (none-left e left r h)

module _ {e : Bool} {old mid : Cutter} {unread between : List ℕ} (head : Columns) (p : PassesRows head e old mid unread between) where
  -- nothing more came
  none-more : (left : List ℕ) → EndsNoLine mid between left → EndsNoRow head old unread left
  none-more left none = λ k h. by k h (side k (length between)) (false-or-true e)
    where
      by : (k : ℕ) → length left < k → (k ≤ length between) ⊎ (length between < k) → (e ≡ false) ⊎ (e ≡ true) → rows_ended head old (without_last k unread) ≡ no_rows
      by k h (inr past) ended = p.before k past
      by k h (inl few) (inl going) = p.same going k few ∙ ap (rows_from head (current mid).room (current mid).number) (none k h)
      by k h (inl few) (inr ended) = let zero = ap length (p.ended ended) in absurd (omega (arith, zero, few, h))

  pub no_more-rows : (left : List ℕ) → EndsNoLine mid between left → EndsNoRow head old unread left
  no_more-rows left none = none-more left none

  pub failed-rows : (left : List ℕ) → e ≡ false → TakesNoLine mid between left → TakesNoRow head old unread left
  failed-rows left going none = record {
    none = p.same going (length left) none.later ∙ ap (rows_from head (current mid).room (current mid).number) none.none;
    later = omega (arith, none.later, p.later);
  }

  module _ {e' : Bool} {new : Cutter} {left : List ℕ} (stays : e' ≡ false → e ≡ false) (line : TakesLine e' mid new between left) where
    rows-then : e' ≡ false → (k : ℕ) → k ≤ length left → rows_ended head old (without_last k unread) ≡ then_rows new.number (row_of head (text_at new)) (rows_ended head new (without_last k left))
    rows-then f k h = p.same (stays f) k (omega (arith, h, line.later)) ∙ rows-cut (line.cut f) head k h

    pub blank-row : row_of head (text_at new) ≡ Ok None → PassesRows head e' old new unread left
    blank-row blank = record {
      same = λ f k h. rows-then f k h ∙ ap (λ a. then_rows new.number a (rows_ended head new (without_last k left))) blank;
      before = none-more left line.before;
      later = omega (arith, line.later, p.later);
      ended = line.ended;
    }

    pub row-taken : (s : Sample) → row_of head (text_at new) ≡ Ok (Some s) → TakesRow head s e' old new unread left
    row-taken s is = record {
      row = λ f k h. rows-then f k h ∙ ap (λ a. then_rows new.number a (rows_ended head new (without_last k left))) is;
      before = none-more left line.before;
      later = omega (arith, line.later, p.later);
      ended = line.ended;
    }

module _ {e : Bool} {old mid : Cutter} {unread between : List ℕ} (inputs outputs : List (List ℕ)) (p : PassesHeader inputs outputs e old mid unread between) where
  none-yet : (left : List ℕ) → EndsNoLine mid between left → EndsNoHeader inputs outputs old unread left
  none-yet left none = λ k h. by k h (side k (length between)) (false-or-true e)
    where
      by : (k : ℕ) → length left < k → (k ≤ length between) ⊎ (length between < k) → (e ≡ false) ⊎ (e ≡ true) → telemetry_ended inputs outputs old (without_last k unread) ≡ no_header (refused_at 1 why.NoHeader)
      by k h (inr past) ended = p.before k past
      by k h (inl few) (inl going) = p.same going k few ∙ ap (from_line inputs outputs (current mid).room (current mid).number) (none k h)
      by k h (inl few) (inr ended) = let zero = ap length (p.ended ended) in absurd (omega (arith, zero, few, h))

  pub failed-header : (left : List ℕ) → e ≡ false → TakesNoLine mid between left → TakesNoHeader inputs outputs old unread left
  failed-header left going none = record {
    none = p.same going (length left) none.later ∙ ap (from_line inputs outputs (current mid).room (current mid).number) none.none;
    later = omega (arith, none.later, p.later);
  }

  module _ {e' : Bool} {new : Cutter} {left : List ℕ} (stays : e' ≡ false → e ≡ false) (line : TakesLine e' mid new between left) where
    header-then : e' ≡ false → (k : ℕ) → k ≤ length left → telemetry_ended inputs outputs old (without_last k unread)
        ≡ then_header new.number (header_of inputs outputs (text_at new)) (λ head. rows_ended head new (without_last k left)) (telemetry_ended inputs outputs new (without_last k left))
    header-then f k h = p.same (stays f) k (omega (arith, h, line.later)) ∙ header-cut (line.cut f) inputs outputs k h

    pub blank-header : header_of inputs outputs (text_at new) ≡ Ok None → PassesHeader inputs outputs e' old new unread left
    blank-header blank = record {
      same = λ f k h. header-then f k h ∙ ap (λ a. then_header new.number a (λ head. rows_ended head new (without_last k left)) (telemetry_ended inputs outputs new (without_last k left))) blank;
      before = none-yet left line.before;
      later = omega (arith, line.later, p.later);
      ended = line.ended;
    }

    pub header-taken : (head : Columns) → header_of inputs outputs (text_at new) ≡ Ok (Some head) → TakesHeader inputs outputs head e' old new unread left
    header-taken head is = record {
      header = λ f k h. header-then f k h ∙ ap (λ a. then_header new.number a (λ head. rows_ended head new (without_last k left)) (telemetry_ended inputs outputs new (without_last k left))) is;
      before = none-yet left line.before;
      later = omega (arith, line.later, p.later);
      ended = line.ended;
    }

-- The parts of a text between its commas, one after the other.
use Rattle.std.proofs.Common.{◌≡◌, ℕ, zero, suc, ◌+◌, ◌-◌, ◌<◌, ◌≤◌, Bool, true, false, not, List, [], ◌∷◌, length, take, drop, get_or, refl, sym, ◌∙◌, ap, arith, Option, Some, None}
use Rattle.std.specs.Prelude.{nat_lt, if◌then◌else◌, option_map}
use Rattle.std.specs.List.{slice_split, onto_first, before_first, after_first, position, position_or_len}
use Rattle.std.proofs.lemmas.List.{get_or-drop, length-drop, take_all, drop_all}
use Rattle.std.proofs.lemmas.List.Splits.{slice_split-cons_yes, slice_split-cons_no}
use Rattle.std.proofs.lemmas.Bool.Decides.{nat_tests}
use Rattle.csv.specs.Records.{field_at}
use Rattle.telem_csv.specs.Fields.{is_comma}

abbrev parts_of : List ℕ → List (List ℕ)
parts_of text = slice_split is_comma text

not_false : (b : Bool) → b ≡ false → not b ≡ true
not_false b h = rw h refl

place_behind : (c : ℕ) (cs : List ℕ) → is_comma c ≡ false → position_or_len is_comma (c ∷ cs) ≡ suc (position_or_len is_comma cs)
place_behind c cs h = rw (not_false (is_comma c) h) (omega arith)

place_here : (c : ℕ) (cs : List ℕ) → is_comma c ≡ true → position_or_len is_comma (c ∷ cs) ≡ 0
place_here c cs h = rw h refl

before_behind : (c : ℕ) (cs : List ℕ) → is_comma c ≡ false → before_first is_comma (c ∷ cs) ≡ c ∷ before_first is_comma cs
before_behind c cs h = ap (λ n. take n (c ∷ cs)) (place_behind c cs h)

after_here : (c : ℕ) (cs : List ℕ) → is_comma c ≡ true → after_first is_comma (c ∷ cs) ≡ cs
after_here c cs h = let e : position_or_len is_comma (c ∷ cs) + 1 ≡ suc 0 = omega (arith, place_here c cs h) in ap (λ n. drop n (c ∷ cs)) e

after_behind : (c : ℕ) (cs : List ℕ) → is_comma c ≡ false → after_first is_comma (c ∷ cs) ≡ after_first is_comma cs
after_behind c cs h =
    let e : position_or_len is_comma (c ∷ cs) + 1 ≡ suc (position_or_len is_comma cs + 1) = omega (arith, place_behind c cs h) in
    ap (λ n. drop n (c ∷ cs)) e

head_onto : (c : ℕ) (parts : List (List ℕ)) → 0 < length parts → get_or (onto_first c parts) 0 [] ≡ c ∷ get_or parts 0 []
head_onto c [] h = absurd (omega (arith, h))
head_onto c (part ∷ parts) h = refl

tail_onto : (c : ℕ) (parts : List (List ℕ)) → 0 < length parts → drop 1 (onto_first c parts) ≡ drop 1 parts
tail_onto c [] h = absurd (omega (arith, h))
tail_onto c (part ∷ parts) h = refl

size_onto : (c : ℕ) (parts : List (List ℕ)) → 0 < length parts → length (onto_first c parts) ≡ length parts
size_onto c [] h = absurd (omega (arith, h))
size_onto c (part ∷ parts) h = refl

some_parts : (text : List ℕ) → 0 < length (parts_of text)
some_parts [] = omega arith
some_parts (c ∷ cs) = by_comma (is_comma c) (some_parts cs)
  where
    by_comma : (b : Bool) → 0 < length (parts_of cs) → 0 < length (if b then ([] ∷ parts_of cs) else onto_first c (parts_of cs))
    by_comma true h = omega arith
    by_comma false h = omega (arith, h, size_onto c (parts_of cs) h)

-- the first part
pub first_part : (text : List ℕ) → get_or (parts_of text) 0 [] ≡ before_first is_comma text
first_part [] = refl
first_part (c ∷ cs) = by_comma (is_comma c) refl (first_part cs)
  where
    by_comma : (b : Bool) → is_comma c ≡ b → get_or (parts_of cs) 0 [] ≡ before_first is_comma cs → get_or (parts_of (c ∷ cs)) 0 [] ≡ before_first is_comma (c ∷ cs)
    by_comma true e h = ap (λ ps. get_or ps 0 []) (slice_split-cons_yes is_comma c cs e) ∙ sym (ap (λ n. take n (c ∷ cs)) (place_here c cs e))
    by_comma false e h = ap (λ ps. get_or ps 0 []) (slice_split-cons_no is_comma c cs e) ∙ (head_onto c (parts_of cs) (some_parts cs) ∙ (ap (λ t. c ∷ t) h ∙ sym (before_behind c cs e)))

-- the other parts
pub other_parts : (text : List ℕ) → 1 < length (parts_of text) → drop 1 (parts_of text) ≡ parts_of (after_first is_comma text)
other_parts [] h = absurd (omega (arith, h))
other_parts (c ∷ cs) h = by_comma (is_comma c) refl (other_parts cs)
  where
    by_comma : (b : Bool) → is_comma c ≡ b → (1 < length (parts_of cs) → drop 1 (parts_of cs) ≡ parts_of (after_first is_comma cs)) → drop 1 (parts_of (c ∷ cs)) ≡ parts_of (after_first is_comma (c ∷ cs))
    by_comma true e rest = rw e refl
    by_comma false e rest =
        let more : 1 < length (onto_first c (parts_of cs)) = rw e at h in
        ap (λ ps. drop 1 ps) (slice_split-cons_no is_comma c cs e) ∙ (tail_onto c (parts_of cs) (some_parts cs)
        ∙ (rest (omega (arith, more, size_onto c (parts_of cs) (some_parts cs))) ∙ ap parts_of (sym (after_behind c cs e))))

drop-next : (xs : List (List ℕ)) (i : ℕ) → drop (i + 1) xs ≡ drop 1 (drop i xs)
drop-next xs zero = refl
drop-next [] (suc i) = drop_all (suc i + 1) [] (omega arith)
drop-next (x ∷ xs) (suc i) = let e : suc i + 1 ≡ suc (i + 1) = omega arith in ap (λ n. drop n (x ∷ xs)) e ∙ drop-next xs i

-- one comma further
pub step_parts : (text rest next : List ℕ) (i : ℕ) → drop i (parts_of text) ≡ parts_of rest → i + 1 < length (parts_of text) → next ≡ after_first is_comma rest → drop (i + 1) (parts_of text) ≡ parts_of next
step_parts text rest next i h more n =
    let size : length (drop i (parts_of text)) ≡ length (parts_of text) - i = length-drop i (parts_of text) in
    let same = ap length h in
    drop-next (parts_of text) i ∙ (ap (λ xs. drop 1 xs) h ∙ (other_parts rest (omega (arith, size, same, more)) ∙ ap parts_of (sym n)))

pub part_here : (text rest here : List ℕ) (i : ℕ) → drop i (parts_of text) ≡ parts_of rest → here ≡ before_first is_comma rest → here ≡ get_or (parts_of text) i []
part_here text rest here i h e =
    let there : get_or (parts_of text) (i + 0) [] ≡ get_or (parts_of rest) 0 [] = sym (get_or-drop i (parts_of text) 0 []) ∙ ap (λ xs. get_or xs 0 []) h in
    let same : i + 0 ≡ i = omega arith in
    e ∙ (sym (first_part rest) ∙ (sym there ∙ ap (λ n. get_or (parts_of text) n []) same))

-- what a search for the first comma tells
pub record Found (text : List ℕ) (at : ℕ) : Type 0 where
  pub before : take at text ≡ before_first is_comma text
  pub behind : drop (at + 1) text ≡ after_first is_comma text

pub comma_found : (text : List ℕ) (at : ℕ) → Some at ≡ position is_comma text → Found text at
comma_found text at h = by_place (nat_lt (position_or_len is_comma text) (length text)) refl
  where
    by_place : (b : Bool) → nat_lt (position_or_len is_comma text) (length text) ≡ b → Found text at
    by_place true e =
        let same : at ≡ position_or_len is_comma text = (let f : Some at ≡ Some (position_or_len is_comma text) = rw e at h in cc) in
        record { before = ap (λ n. take n text) same; behind = ap (λ n. drop (n + 1) text) same }
    by_place false e = let f : Some at ≡ None = rw e at h in absurd (cc)

pub record NotFound (text : List ℕ) : Type 0 where
  pub before : text ≡ before_first is_comma text
  pub behind : [] ≡ after_first is_comma text

pub comma_not_found : (text : List ℕ) → None ≡ position is_comma text → NotFound text
comma_not_found text h = by_place (nat_lt (position_or_len is_comma text) (length text)) refl
  where
    by_place : (b : Bool) → nat_lt (position_or_len is_comma text) (length text) ≡ b → NotFound text
    by_place true e = let f : None ≡ Some (position_or_len is_comma text) = rw e at h in absurd (cc)
    by_place false e =
        let le : length text ≤ position_or_len is_comma text = grind (arith, nat_tests, e) in
        record { before = sym (take_all (position_or_len is_comma text) text le); behind = sym (drop_all (position_or_len is_comma text + 1) text (omega (arith, le))) }

-- the field at a place
pub field_at-some : (fields : List (List ℕ)) (i : ℕ) → i < length fields → field_at fields i ≡ Some (get_or fields i [])
unfolding field_at
field_at-some [] i h = absurd (omega (arith, h))
field_at-some (f ∷ fs) zero h = refl
field_at-some (f ∷ fs) (suc i) h = field_at-some fs i (omega (arith, h))

pub mapped_some : {A B : Type 0} (f : A → B) (o : Option A) (b : B) → option_map f o ≡ Some b → (a : A) × (o ≡ Some a) × (f a ≡ b)
mapped_some f None b h = absurd (cc)
mapped_some f (Some a) b h = (a, refl, cc)

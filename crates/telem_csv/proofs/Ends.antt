-- A text without the carriage return at its end, and without a byte order mark at its front.
use Rattle.std.proofs.Common.{suc, Bool, true, false, ◌≡◌, ◌≢◌, ℕ, ◌+◌, ◌-◌, ◌<◌, ◌≤◌, true, false, List, [], ◌∷◌, ◌++◌, length, take, drop, get_or, refl, sym, ◌∙◌, ap, arith}
use Rattle.std.proofs.lemmas.List.{take_more, take_all}
use Rattle.std.proofs.lemmas.Bool.Decides.{nat_tests}
use Rattle.std.specs.Prelude.{◌==◌, ◌||◌, if◌then◌else◌}
use Rattle.std.specs.List.{list_any}
use Rattle.csv.specs.Reading.{strip_bom, is_bom}
use Rattle.telem_csv.specs.Lines.{is_feed, is_return, without_return, text_of, most_line, IsLineText}

returned : (text : List ℕ) (c : ℕ) → is_return c ≡ true → without_return (text ++ c ∷ []) ≡ text
returned [] c h = rw h refl
returned (d ∷ []) c h = ap (λ t. d ∷ t) (returned [] c h)
returned (d ∷ e ∷ es) c h = ap (λ t. d ∷ t) (returned (e ∷ es) c h)

kept : (text : List ℕ) (c : ℕ) → is_return c ≡ false → without_return (text ++ c ∷ []) ≡ text ++ c ∷ []
kept [] c h = rw h refl
kept (d ∷ []) c h = ap (λ t. d ∷ t) (kept [] c h)
kept (d ∷ e ∷ es) c h = ap (λ t. d ∷ t) (kept (e ∷ es) c h)

pub is_a_return : (c : ℕ) → c ≡ 13 → is_return c ≡ true
is_a_return c h = grind (arith, nat_tests)

pub is_no_return : (c : ℕ) → c ≢ 13 → is_return c ≡ false
is_no_return c h = grind (arith, nat_tests)

-- all but the last byte, and the last
split_last : (text : List ℕ) → 0 < length text → text ≡ take (length text - 1) text ++ get_or text (length text - 1) 0 ∷ []
split_last text some =
    let all : (length text - 1) + 1 ≡ length text = omega (arith, some) in
    let cut = take_more text (length text - 1) 0 (omega (arith, some)) in
    sym (take_all (length text) text (omega arith)) ∙ (ap (λ n. take n text) (sym all) ∙ cut)

pub last_return : (text : List ℕ) → 0 < length text → is_return (get_or text (length text - 1) 0) ≡ true → take (length text - 1) text ≡ without_return text
last_return text some h = sym (ap without_return (split_last text some) ∙ returned (take (length text - 1) text) (get_or text (length text - 1) 0) h)

pub no_last_return : (text : List ℕ) → 0 < length text → is_return (get_or text (length text - 1) 0) ≡ false → text ≡ without_return text
no_last_return text some h = sym (ap without_return (split_last text some) ∙ (kept (take (length text - 1) text) (get_or text (length text - 1) 0) h ∙ sym (split_last text some)))

pub too_short_for_mark : (text : List ℕ) → length text < 3 → text ≡ strip_bom text
unfolding strip_bom
too_short_for_mark [] h = refl
too_short_for_mark (a ∷ []) h = refl
too_short_for_mark (a ∷ b ∷ []) h = refl
too_short_for_mark (a ∷ b ∷ c ∷ rest) h = absurd (omega (arith, h))

pub marked : (text : List ℕ) → 3 ≤ length text → is_bom (get_or text 0 0) (get_or text 1 0) (get_or text 2 0) ≡ true → drop 3 text ≡ strip_bom text
unfolding strip_bom
marked [] h m = absurd (omega (arith, h))
marked (a ∷ []) h m = absurd (omega (arith, h))
marked (a ∷ b ∷ []) h m = absurd (omega (arith, h))
marked (a ∷ b ∷ c ∷ rest) h m = rw m refl

pub not_marked : (text : List ℕ) → 3 ≤ length text → is_bom (get_or text 0 0) (get_or text 1 0) (get_or text 2 0) ≡ false → text ≡ strip_bom text
unfolding strip_bom
not_marked [] h m = absurd (omega (arith, h))
not_marked (a ∷ []) h m = absurd (omega (arith, h))
not_marked (a ∷ b ∷ []) h m = absurd (omega (arith, h))
not_marked (a ∷ b ∷ c ∷ rest) h m = rw m refl

neither : (a b : Bool) → (a || b) ≡ false → (a ≡ false) × (b ≡ false)
neither true b h = absurd (cc)
neither false b h = (refl, h)

return_gone : (p : ℕ → Bool) (text : List ℕ) → list_any p text ≡ false → list_any p (without_return text) ≡ false
return_gone p [] h = h
return_gone p (c ∷ []) h = by_return (is_return c)
  where
    by_return : (b : Bool) → list_any p (if b then [] else (c ∷ [])) ≡ false
    by_return true = refl
    by_return false = h
return_gone p (c ∷ d ∷ cs) h = let parts = neither (p c) (list_any p (d ∷ cs)) h in rw parts.0 (return_gone p (d ∷ cs) parts.1)

return_shorter : (text : List ℕ) → length (without_return text) ≤ length text
return_shorter [] = omega arith
return_shorter (c ∷ []) = by_return (is_return c)
  where
    by_return : (b : Bool) → length (if b then [] else (c ∷ [])) ≤ 1
    by_return true = omega arith
    by_return false = omega arith
return_shorter (c ∷ d ∷ cs) = omega (arith, return_shorter (d ∷ cs))

-- no byte comes with a mark's going
pub mark_gone : (p : ℕ → Bool) (text : List ℕ) → list_any p text ≡ false → list_any p (strip_bom text) ≡ false
unfolding strip_bom
mark_gone p [] h = h
mark_gone p (a ∷ []) h = h
mark_gone p (a ∷ b ∷ []) h = h
mark_gone p (a ∷ b ∷ c ∷ rest) h = by_mark (is_bom a b c)
  where
    by_mark : (m : Bool) → list_any p (if m then rest else (a ∷ b ∷ c ∷ rest)) ≡ false
    by_mark true = (neither (p c) (list_any p rest) (neither (p b) (p c || list_any p rest) (neither (p a) (p b || (p c || list_any p rest)) h).1).1).1
    by_mark false = h

mark_shorter : (text : List ℕ) → length (strip_bom text) ≤ length text
unfolding strip_bom
mark_shorter [] = omega arith
mark_shorter (a ∷ []) = omega arith
mark_shorter (a ∷ b ∷ []) = omega arith
mark_shorter (a ∷ b ∷ c ∷ rest) = by_mark (is_bom a b c)
  where
    by_mark : (m : Bool) → length (if m then rest else (a ∷ b ∷ c ∷ rest)) ≤ suc (suc (suc (length rest)))
    by_mark true = omega arith
    by_mark false = omega arith

-- the text of a line is no longer than its bytes, and has no line feed
text_short : (n : ℕ) (bytes : List ℕ) → length (text_of n bytes) ≤ length bytes
text_short n bytes = by_number (n == 1)
  where
    by_number : (b : Bool) → length (if b then strip_bom (without_return bytes) else without_return bytes) ≤ length bytes
    by_number true = omega (arith, mark_shorter (without_return bytes), return_shorter bytes)
    by_number false = return_shorter bytes

text_no_feed : (n : ℕ) (bytes : List ℕ) → list_any is_feed bytes ≡ false → list_any is_feed (text_of n bytes) ≡ false
text_no_feed n bytes h = by_number (n == 1)
  where
    by_number : (b : Bool) → list_any is_feed (if b then strip_bom (without_return bytes) else without_return bytes) ≡ false
    by_number true = mark_gone is_feed (without_return bytes) (return_gone is_feed bytes h)
    by_number false = return_gone is_feed bytes h

pub line_is_text : (n : ℕ) (bytes slice text : List ℕ) → slice ≡ bytes → text ≡ text_of n slice → length bytes ≤ most_line → list_any is_feed bytes ≡ false → list_any is_return (text_of n bytes) ≡ false → IsLineText text
line_is_text n bytes slice text s t short feed return =
    rw (t, s) (record { short = omega (arith, short, text_short n bytes); no_feed = text_no_feed n bytes feed; no_return = return })

-- The first line feed among the first bytes.
use Rattle.std.proofs.Common.{◌≡◌, ℕ, ◌+◌, ◌<◌, ◌≤◌, min, nat_le, nat_lt, Bool, true, false, not, List, ◌∷◌, ◌++◌, length, get_or, take, drop, Option, Some, None, refl, sym, ap, ◌∙◌, arith, drop-cons, suc, subst}
use Rattle.std.specs.Prelude.{cond, IfSome, IfNone, ◌-◌}
use Rattle.std.specs.List.{list_any, position, position_or_len}
use Rattle.std.proofs.lemmas.Bool.Decides.{nat_tests}
use Rattle.std.proofs.lemmas.Grind.{common_steps}
use Rattle.std.proofs.lemmas.List.{take-append-drop, length-take-le, length-take, take_min, take_rest}
use Rattle.std.proofs.lemmas.List.Quantifiers.{position-Some}
use Rattle.std.proofs.lemmas.List.Sums.{fails_before_first}
use Rattle.std.proofs.lemmas.List.Folds.{list_any_none}
use Rattle.report_text.specs.Laws.{is_feed}
use Rattle.report_rules.proofs.Placed.{and-true}
use Rattle.cert_replay.specs.Lines.{IsShortFront, most_line}

feed-is : (c : ℕ) → is_feed c ≡ true → c ≡ 10
feed-is c h = grind (arith, nat_tests)

few-test : (n : ℕ) → n ≤ 256 → nat_le n 256 ≡ true
few-test n h = grind (arith, nat_tests)

pub short-front : (bytes : List ℕ) (n at : ℕ) → n ≤ most_line → position is_feed (take n bytes) ≡ Some at → IsShortFront at bytes
short-front bytes n at few e =
    let first = position-Some is_feed (take n bytes) at 0 e in
    let near : at < n = omega (arith, first.0, length-take n bytes) in
    let within : at < length bytes = omega (arith, first.0, length-take n bytes) in
    let long : length (take at bytes) ≡ at = length-take-le at bytes (omega arith) in
    let none : list_any is_feed (take at bytes) ≡ false = list_any_none is_feed (take at bytes) (λ k d l. let before = first.2 k (omega (arith, l, long)) in there k d (omega (arith, l, long)) before) in
    let after : suc at ≡ at + 1 = omega arith in
    let feed : get_or bytes at 0 ≡ 10 = feed-is (get_or bytes at 0) (same at 0 near first.1) in
    record {
      short = and-true (nat_le (length (take at bytes)) 256) (not (list_any is_feed (take at bytes))) (few-test (length (take at bytes)) (omega (arith, long, near))) (ap not none);
      are = sym (take-append-drop at bytes) ∙ ap (λ t. take at bytes ++ t) (drop-cons bytes at 0 within ∙ ap (λ c. c ∷ drop (suc at) bytes) feed ∙ ap (λ k. 10 ∷ drop k bytes) after);
      near = omega (arith, near);
    }
  where
    same : (k d : ℕ) → k < n → is_feed (get_or (take n bytes) k d) ≡ true → is_feed (get_or bytes k d) ≡ true
    same k d l h = let e : get_or (take n bytes) k d ≡ get_or bytes k d = grind (arith, common_steps) in ap is_feed (sym e) ∙ h

    there : (k d : ℕ) → k < at → is_feed (get_or (take n bytes) k 0) ≡ false → is_feed (get_or (take at bytes) k d) ≡ false
    there k d l h = grind (arith, common_steps)

pub no-front : (bytes : List ℕ) (n : ℕ) → n ≡ min (length bytes) most_line → position is_feed (take n bytes) ≡ None → list_any is_feed (take most_line bytes) ≡ false
no-front bytes n is e =
    let all : take most_line bytes ≡ take n bytes = sym (ap (λ k. take k bytes) is ∙ take-min) in
    ap (list_any is_feed) all ∙ none (take n bytes) e
  where
    take-min : take (min (length bytes) most_line) bytes ≡ take most_line bytes
    take-min = let same : min (length bytes) most_line ≡ min most_line (length bytes) = omega arith in ap (λ k. take k bytes) same ∙ take_min most_line bytes

    behind : (n m : ℕ) → cond (nat_lt n m) (Some n) None ≡ None → m ≤ n
    behind n m e = by (nat_lt n m) refl e
      where
        by : (b : Bool) → nat_lt n m ≡ b → cond b (Some n) None ≡ None → m ≤ n
        by true h e = absurd cc
        by false h e = grind (arith, nat_tests)

    none : (xs : List ℕ) → position is_feed xs ≡ None → list_any is_feed xs ≡ false
    none xs e = list_any_none is_feed xs (λ k d l. let all = behind (position_or_len is_feed xs) (length xs) e in fails_before_first is_feed xs k d (omega (arith, all, l)))

-- what is found among the first bytes behind a place
module _ (bytes : List ℕ) (from n : ℕ) (r : Option ℕ) where
  abbrev rest : List ℕ
  rest = take (length bytes - from) (drop from bytes)

  pub some-short : from ≤ length bytes → n ≡ min (length rest) most_line → r ≡ position is_feed (take n rest) → IfSome r (λ at. IsShortFront at (drop from bytes))
  some-short h m e = by r e
    where
      by : (o : Option ℕ) → o ≡ position is_feed (take n rest) → IfSome o (λ at. IsShortFront at (drop from bytes))
      by None e = tt
      by (Some at) e = subst (IsShortFront at) (take_rest bytes from) (short-front rest n at (omega (arith, m)) (sym e))

  pub none-short : from ≤ length bytes → n ≡ min (length rest) most_line → r ≡ position is_feed (take n rest) → IfNone r (list_any is_feed (take most_line (drop from bytes)) ≡ false)
  none-short h m e = by r e
    where
      by : (o : Option ℕ) → o ≡ position is_feed (take n rest) → IfNone o (list_any is_feed (take most_line (drop from bytes)) ≡ false)
      by (Some at) e = tt
      by None e = subst (λ t. list_any is_feed (take most_line t) ≡ false) (take_rest bytes from) (no-front rest n m (sym e))

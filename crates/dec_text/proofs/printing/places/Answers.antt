use Rattle.std.proofs.Common.{◌≡◌, ℕ, ◌+◌, ◌-◌, ◌/◌, ◌%◌, ◌<◌, List, [], ◌∷◌, ◌++◌, length, length-set, drop, append_assoc, ap, sym, ◌∙◌, arith}
use Rattle.std.specs.Prelude.{slice_set}
use Rattle.std.proofs.lemmas.List.{drop-set}
use Rattle.dec_text.specs.Printed.{places_text}
use Rattle.dec_text.proofs.Printed.{places_none, places_more}
use Rattle.dec_text.proofs.printing.places.Goals as goal

-- one more digit, put before those behind it
one_more : (t rest n : ℕ) (digits : List ℕ) → t < 9 → length digits ≡ 9 → places_text (9 - t) rest ++ drop (9 - t) digits ≡ places_text 9 n
    → places_text (9 - (t + 1)) (rest / 10) ++ drop (9 - (t + 1)) (slice_set digits (8 - t) (48 + rest % 10)) ≡ places_text 9 n
one_more t rest n digits h long so_far =
    let v = 48 + rest % 10 in
    let fewer : 9 - (t + 1) ≡ 8 - t = omega arith in
    let fewer' : 9 - t - 1 ≡ 8 - t = omega arith in
    let next : 8 - t + 1 ≡ 9 - t = omega arith in
    let more = places_more (9 - t) rest (omega arith) ∙ ap (λ k. places_text k (rest / 10) ++ v ∷ []) fewer' in
    let behind = drop-set digits (8 - t) v (omega arith) ∙ ap (λ k. v ∷ drop k digits) next in
    ap (λ k. places_text k (rest / 10) ++ drop k (slice_set digits (8 - t) v)) fewer
    ∙ ap (λ xs. places_text (8 - t) (rest / 10) ++ xs) behind
    ∙ sym (append_assoc (places_text (8 - t) (rest / 10)) (v ∷ []) (drop (9 - t) digits))
    ∙ ap (λ xs. xs ++ drop (9 - t) digits) (sym more)
    ∙ so_far

pub loop-t-preserved : goal.loop-t-preserved
loop-t-preserved c = record {
  long = length-set c.loop-t.digits (8 - c.loop-t.t) (48 + c.loop-t.rest % 10) ∙ c.loop-t.invariant.long;
  text = one_more c.loop-t.t c.loop-t.rest c.args.n c.loop-t.digits (omega arith) c.loop-t.invariant.long c.loop-t.invariant.text;
}

pub returns : goal.returns
returns c =
    let end : 9 - c.loop-t.t ≡ 0 = omega arith in
    let whole = ap (λ k. places_text k c.loop-t.rest ++ drop k c.loop-t.digits) end ∙ ap (λ xs. xs ++ c.loop-t.digits) (places_none c.loop-t.rest) in
    sym whole ∙ c.loop-t.invariant.text

-- What one more sample adds to the list of samples and to the text.
use Rattle.std.proofs.Common.{◌≡◌, ℕ, ◌+◌, suc, List, [], ◌∷◌, ◌++◌, refl, sym, ap, ◌∙◌, arith, append_assoc}
use Rattle.std.proofs.lemmas.List.{flat_map_more}
use Rattle.std.proofs.lemmas.List.FromFn.{map-range_with_len_more}
use Rattle.sim_gen.specs.Process.{Process, begun, stepped, process_at, moment_of, moments}
use Rattle.sim_gen.specs.Telemetry.{line_of, text_of, header_line, telemetry_text}
use Rattle.sim_gen.specs.declared.process.Moment.{Moment}

pub process-more : (seed k : ℕ) → process_at seed (k + 1) ≡ stepped (process_at seed k)
unfolding process_at
process-more seed k = let e : k + 1 ≡ suc k = omega arith in ap (process_at seed) e

pub process-none : (seed : ℕ) → process_at seed 0 ≡ begun seed
unfolding process_at
process-none seed = refl

pub process-goes : (seed k : ℕ) (now next : Process) → now ≡ process_at seed k → next ≡ stepped now → next ≡ process_at seed (k + 1)
process-goes seed k now next here step = step ∙ ap stepped here ∙ sym (process-more seed k)

moments-more : (seed k : ℕ) → moments seed (k + 1) ≡ moments seed k ++ moment_of (process_at seed k) ∷ []
moments-more seed k = map-range_with_len_more (λ k. moment_of (process_at seed k)) 0 k k (omega arith)

pub moments-grow : (seed k : ℕ) (now : Process) (m : Moment) (old new : List Moment) → now ≡ process_at seed k → m ≡ moment_of now → old ≡ moments seed k
    → new ≡ old ++ m ∷ [] → new ≡ moments seed (k + 1)
moments-grow seed k now m old new here is before more =
    more ∙ ap (λ x. old ++ x ∷ []) (is ∙ ap moment_of here) ∙ ap (λ x. x ++ moment_of (process_at seed k) ∷ []) before ∙ sym (moments-more seed k)

pub text-grows : (seed k : ℕ) (now : Process) (m : Moment) (old new : List ℕ) → now ≡ process_at seed k → m ≡ moment_of now → old ≡ telemetry_text seed k
    → new ≡ old ++ line_of m → new ≡ telemetry_text seed (k + 1)
text-grows seed k now m old new here is before more =
    more ∙ ap (λ x. old ++ line_of x) (is ∙ ap moment_of here) ∙ ap (λ x. x ++ line_of (moment_of (process_at seed k))) before
    ∙ flat_map_more line_of header_line (moments seed k) (moment_of (process_at seed k)) ∙ ap text_of (sym (moments-more seed k))

-- a line that is written piece by piece
pub line-by : (p q l0 l1 l2 l3 l4 : List ℕ) → l0 ≡ [] → l1 ≡ l0 ++ p → l2 ≡ l1 ++ 44 ∷ [] → l3 ≡ l2 ++ q → l4 ≡ l3 ++ 10 ∷ [] → l4 ≡ p ++ 44 ∷ (q ++ 10 ∷ [])
line-by p q l0 l1 l2 l3 l4 e0 e1 e2 e3 e4 =
    let a : l1 ≡ p = e1 ∙ ap (λ l. l ++ p) e0 in
    let b : l2 ≡ p ++ 44 ∷ [] = e2 ∙ ap (λ l. l ++ 44 ∷ []) a in
    let d : l3 ≡ p ++ 44 ∷ [] ++ q = e3 ∙ ap (λ l. l ++ q) b in
    e4 ∙ ap (λ l. l ++ 10 ∷ []) d ∙ append_assoc (p ++ 44 ∷ []) q (10 ∷ []) ∙ append_assoc p (44 ∷ []) (q ++ 10 ∷ [])

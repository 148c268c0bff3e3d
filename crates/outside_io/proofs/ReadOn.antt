-- A file that is read on.
use Rattle.std.proofs.Common.{◌≡◌, ℕ, ◌+◌, ◌-◌, ◌≤◌, List, ◌++◌, length, take, drop, sym, ◌∙◌, ap}
use Rattle.std.proofs.lemmas.List.{take_rest, take_at, take-append-drop, length-take-le, drop-drop}

pub drop_on : (at n : ℕ) (bs : List ℕ) → drop (at + n) bs ≡ drop n (drop at bs)
drop_on at n bs = sym (drop-drop n at bs)

-- a read of n bytes gives them and leaves the others
pub read_on : (bs into new : List ℕ) (at n : ℕ) → new ≡ take n (take (length bs - at) (drop at bs)) → n ≤ length (take (length bs - at) (drop at bs)) → drop at bs ≡ take n (new ++ drop n into) ++ drop (at + n) bs
read_on bs into new at n e h =
    let k : n ≤ length (drop at bs) = rw (take_rest bs at) at h in
    let f : new ≡ take n (drop at bs) = rw (take_rest bs at) at e in
    let l : length new ≡ n = ap length f ∙ length-take-le n (drop at bs) k in
    rw (take_at new (drop n into) n l, f, drop_on at n bs) (sym (take-append-drop n (drop at bs)))

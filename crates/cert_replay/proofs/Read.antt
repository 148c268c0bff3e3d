-- A piece that is read behind what a window has left.
use Rattle.std.proofs.Common.{◌≡◌, ℕ, ◌+◌, ◌-◌, ◌≤◌, List, [], ◌++◌, length, take, drop, Option, Some, None, Ok, refl, sym, ap, ◌∙◌, arith, append_assoc}
use Rattle.std.specs.Io.KnownBytes.{Consumes, IsAtEnd}
use Rattle.std.proofs.lemmas.List.{take-append-le, drop-append-le, length-take-le, length-drop}
use Rattle.std.proofs.Math.Seq.{take-append-add}
use Rattle.std.proofs.lemmas.List.{drop-take}
use Rattle.outside_io.specs.Shelf.{ShelfState, Reads}
use Rattle.cert_replay.specs.Window.{left_in, ReadsAhead}
use Rattle.cert_replay.specs.declared.window.Window.{Window}

-- what is left goes on with the piece
pub left-read : (bytes into rest : List ℕ) (at end count : ℕ) → at ≤ end → end ≤ length bytes → count ≤ length into
    → take (end + count - at) (drop at (take end bytes ++ (into ++ rest))) ≡ take (end - at) (drop at bytes) ++ take count into
left-read bytes into rest at end count a e c =
    let front : drop at (take end bytes ++ (into ++ rest)) ≡ take (end - at) (drop at bytes) ++ (into ++ rest) =
    drop-append-le at (take end bytes) (into ++ rest) (omega (arith, length-take-le end bytes e)) ∙ ap (λ t. t ++ (into ++ rest)) (drop-front at end bytes a) in
    let long : length (take (end - at) (drop at bytes)) ≡ end - at = length-take-le (end - at) (drop at bytes) (omega (arith, length-drop at bytes)) in
    let many : end + count - at ≡ length (take (end - at) (drop at bytes)) + count = omega (arith, long) in
    ap (take (end + count - at)) front ∙ ap (λ n. take n (take (end - at) (drop at bytes) ++ (into ++ rest))) many
    ∙ take-append-add (take (end - at) (drop at bytes)) (into ++ rest) count
    ∙ ap (λ t. take (end - at) (drop at bytes) ++ t) (take-append-le count into rest c)
  where
    drop-front : (at end : ℕ) (bytes : List ℕ) → at ≤ end → drop at (take end bytes) ≡ take (end - at) (drop at bytes)
    drop-front at end bytes a = ap (λ n. drop at (take n bytes)) (omega arith) ∙ drop-take at (end - at) bytes

-- where what a slot has left is told, it is told behind the piece
pub told-behind : (before after : Option (List ℕ)) (piece rest : List ℕ) → Consumes before after piece → before ≡ Some rest → (rest' : List ℕ) × (after ≡ Some rest') × (rest ≡ piece ++ rest')
told-behind None after piece rest h e = absurd cc
told-behind (Some xs) None piece rest h e = absurd h
told-behind (Some xs) (Some ys) piece rest h e = let same : xs ≡ rest = cc in (ys, refl, sym same ∙ h)

pub ended-none : (told : Option (List ℕ)) (rest : List ℕ) → IsAtEnd told → told ≡ Some rest → rest ≡ []
ended-none None rest h e = absurd cc
ended-none (Some xs) rest h e = let same : xs ≡ rest = cc in sym same ∙ h

-- a piece that was read stands behind what was left
pub reads-ahead : (w w' : Window) (shelf shelf' : ShelfState) (into : List ℕ) (n : ℕ) → left_in w' ≡ left_in w ++ take n into → w'.lines ≡ w.lines
    → Reads 2 shelf (Ok n) into shelf' → ReadsAhead w shelf w' shelf'
reads-ahead w w' shelf shelf' into n left lines reads = record {
  same = λ u h.
      let t = told-behind (shelf.slot 2).rest (shelf'.slot 2).rest (take n into) h.rest reads.here.bytes.0 h.told in
      record {
        rest = t.0;
        told = t.1;
        is = h.is ∙ ap (λ r. left_in w ++ r) t.2 ∙ sym (append_assoc (left_in w) (take n into) t.0) ∙ ap (λ l. l ++ t.0) (sym left);
      };
  piece = take n into;
  grows = left;
  lines = lines;
}

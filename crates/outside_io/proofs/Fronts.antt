-- Pieces that are put one after the other.
use Rattle.std.proofs.Common.{◌≡◌, ℕ, ◌+◌, suc, List, [], ◌∷◌, ◌++◌, length, take, Option, Result, Ok, Err, OnErr, OnOk, refl, arith, length-append, ap, sym, subst}
use Rattle.std.proofs.lemmas.List.{take_at, take-append-le, append-nil}
use Rattle.std.specs.Io.KnownBytes.{Appends}
use Rattle.outside_io.specs.Sink.{AppendsFront}
use Rattle.outside_io.proofs.Grows.{appends_more, appends_none}

take-past : (xs ys : List ℕ) (n : ℕ) → take (length xs + n) (xs ++ ys) ≡ xs ++ take n ys
take-past [] ys n = let e : 0 + n ≡ n = omega arith in rw e refl
take-past (x ∷ xs) ys n = let e : length (x ∷ xs) + n ≡ suc (length xs + n) = omega arith in rw e (ap (λ l. x ∷ l) (take-past xs ys n))

-- all of one piece, and a front of the next
pub front-after : (a b c : Option (List ℕ)) (xs ys : List ℕ) → Appends a b xs → AppendsFront b c ys → AppendsFront a c (xs ++ ys)
front-after a b c xs ys p (n, h, q) = (length xs + n, omega (arith, length-append xs ys, h), appends_more a b c xs (take n ys) _ p q (take-past xs ys n))

-- a front of one piece is a front of that and more
pub front-before : (a b : Option (List ℕ)) (xs ys : List ℕ) → AppendsFront a b xs → AppendsFront a b (xs ++ ys)
front-before a b xs ys (n, h, q) = (n, omega (arith, length-append xs ys, h), subst (λ t. Appends a b t) (sym (take-append-le n xs ys h)) q)

-- all of a piece is a front of that and more
pub whole-front : (a b : Option (List ℕ)) (xs ys : List ℕ) → Appends a b xs → AppendsFront a b (xs ++ ys)
whole-front a b xs ys p = (length xs, omega (arith, length-append xs ys), subst (λ t. Appends a b t) (sym (take_at xs ys (length xs) refl)) p)

-- nothing is a front of everything
pub no-front : (a : Option (List ℕ)) (xs : List ℕ) → AppendsFront a a xs
no-front a xs = (0, omega arith, appends_none a)

pub on-err : {A E : Type 0} (r : Result A E) (P Q : Type 0) → (P → Q) → OnErr r P → OnErr r Q
on-err (Ok x) P Q f h = h
on-err (Err e) P Q f h = f h

pub on-ok : {A E : Type 0} (r : Result A E) (P Q : Type 0) → (P → Q) → OnOk r P → OnOk r Q
on-ok (Ok x) P Q f h = f h
on-ok (Err e) P Q f h = h

-- what holds holds of an error
pub of-err : {A E : Type 0} (r : Result A E) (P : Type 0) → P → OnErr r P
of-err (Ok x) P p = tt
of-err (Err e) P p = p

-- all of a piece is a front of it
pub all-front : (a b : Option (List ℕ)) (xs : List ℕ) → Appends a b xs → AppendsFront a b xs
all-front a b xs p = subst (λ t. AppendsFront a b t) (append-nil xs) (whole-front a b xs [] p)

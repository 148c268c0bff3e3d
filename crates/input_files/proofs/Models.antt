-- The first bytes of a model file tell what the whole file does.
use Rattle.std.proofs.Common.{◌≡◌, ℕ, ◌≤◌, ◌<◌, Bool, true, false, List, length, take, Option, Some, None, Result, Ok, Err, IfOk, IfErr, OnOk, IfSome, nat_lt, refl, sym, ◌∙◌, ap, arith, ◌⊎◌, inl, inr, if◌then◌else◌}
use Rattle.std.proofs.lemmas.List.{take_all, length-take}
use Rattle.std.proofs.lemmas.Bool.Decides.{nat_tests}
use Rattle.model_file.specs.Bank.{Models}
use Rattle.model_file.specs.ModelFile.{models_of}
use Rattle.model_file.specs.declared.fault.ModelFault.{ModelFault}
use Rattle.model_file.specs.declared.fault.ModelFault.TheVariants as fault
use Rattle.model_file.specs.declared.place.Count.{Count}
use Rattle.input_files.specs.Whole.{IsFront}
use Rattle.input_files.specs.declared.model.ModelEnding.{ModelEnding}
use Rattle.input_files.specs.declared.model.ModelEnding.TheVariants.{Refused, Read, Memory}
use Rattle.input_files.specs.Files.{refused, model_refusal}
use Rattle.input_files.specs.Judged.{is_memory, JudgesModel}

side : (most n : ℕ) → (n ≤ most) ⊎ (most < n)
side most n = grind arith

long-is : (n : ℕ) → 1048576 < n → nat_lt 1048576 n ≡ true
long-is n h = grind (arith, nat_tests)

same-models : (f : List ℕ) → models_of (take 1048577 f) ≡ models_of f
unfolding models_of
same-models f = by (side 1048576 (length f))
  where
    by : (length f ≤ 1048576) ⊎ (1048576 < length f) → models_of (take 1048577 f) ≡ models_of f
    by (inl few) = ap models_of (take_all 1048577 f (omega arith))
    by (inr many) =
        let l : 1048576 < length (take 1048577 f) = omega (arith, length-take 1048577 f) in
        rw (long-is (length f) many, long-is (length (take 1048577 f)) l) refl

-- what holds of the models of the front holds of those of the file
pub front-models : (file : Option (List ℕ)) (bytes : List ℕ) → IsFront 1048576 file bytes → IfSome file (λ f. models_of f ≡ models_of bytes)
front-models None bytes e = tt
front-models (Some f) bytes e = sym (ap models_of e ∙ same-models f)

short-is : (n : ℕ) (b : Bool) → nat_lt 1048576 n ≡ b → b ≡ false → n ≤ 1048576
short-is n b e f = grind (arith, nat_tests)

-- what is taken is no longer than the limit
models-short : (bytes : List ℕ) (ms : Models) → models_of bytes ≡ Ok ms → length bytes ≤ 1048576
unfolding models_of
models-short bytes ms e = by (nat_lt 1048576 (length bytes)) refl _ e
  where
    by : (b : Bool) → nat_lt 1048576 (length bytes) ≡ b → (r : Result Models ModelFault) → (if b then Err (fault.TooMany Count.Bytes 1048577 None) else r) ≡ Ok ms → length bytes ≤ 1048576
    by true e r h = absurd cc
    by false e r h = short-is (length bytes) false e refl

pub ok-file : (r : Result Models ModelEnding) (file : Option (List ℕ)) (bytes : List ℕ) → IsFront 1048576 file bytes → IfOk r (λ ms. models_of bytes ≡ Ok ms) → IfOk r (λ ms. IfSome file (λ f. models_of f ≡ Ok ms))
ok-file (Err e) file bytes is h = tt
ok-file (Ok ms) None bytes is h = tt
ok-file (Ok ms) (Some f) bytes is h = front-models (Some f) bytes is ∙ h

same-refusal : (m m' : List ℕ) → models_of m' ≡ models_of m → model_refusal m' ≡ model_refusal m
unfolding model_refusal
same-refusal m m' e = ap refused e

same-says : (e : ModelEnding) (m m' : List ℕ) → models_of m' ≡ models_of m → JudgesModel e m → JudgesModel e m'
same-says (Refused fault) m m' e h = same-refusal m m' e ∙ h
same-says Read m m' e h = tt
same-says Memory m m' e h = tt

pub says-file : (r : Result Models ModelEnding) (file : Option (List ℕ)) (bytes : List ℕ) → IsFront 1048576 file bytes → IfErr r (λ e. JudgesModel e bytes) → IfErr r (λ e. IfSome file (JudgesModel e))
says-file (Ok ms) file bytes is h = tt
says-file (Err e) None bytes is h = tt
says-file (Err e) (Some f) bytes is h = same-says e bytes f (front-models (Some f) bytes is) h

pub ok-end : (r : Result Models ModelEnding) (bytes : List ℕ) (P : Type 0) → (length bytes ≤ 1048576 → P) → IfOk r (λ ms. models_of bytes ≡ Ok ms) → OnOk r P
ok-end (Err e) bytes P last h = tt
ok-end (Ok ms) bytes P last h = last (models-short bytes ms h)

pub refused-is : (m : List ℕ) (fault : ModelFault) → models_of m ≡ Err fault → model_refusal m ≡ Some fault
unfolding model_refusal
refused-is m fault e = rw e refl

pub not-want : (f : ModelFault) (P : Type 0) → ((f ≡ fault.Memory) ⊎ P) → is_memory f ≡ false → P
not-want f P (inl e) n = let m : is_memory f ≡ true = rw e refl in absurd cc
not-want f P (inr p) n = p

-- a file whose models are read is not refused
pub accepted-is : (ms : Models) (m : List ℕ) → models_of m ≡ Ok ms → model_refusal m ≡ None
unfolding model_refusal
accepted-is ms m e = rw e refl

-- Answers that can be want of memory.
use Rattle.std.specs.Prelude.{◌≡◌, ◌≢◌, Result, Ok, Err}
use Rattle.telem_csv.specs.declared.fault.TelemWhy.{TelemWhy}
use Rattle.telem_csv.specs.declared.fault.TelemWhy.TheVariants as why

-- the answer is this one, of which f tells what it sees, or want of memory
abbrev pub IsAnswerUnlessMemory : {A B : Type 0} → (A → B) → Result B TelemWhy → Result A TelemWhy → Type 0
IsAnswerUnlessMemory see wanted (Ok x) = wanted ≡ Ok (see x)
IsAnswerUnlessMemory see wanted (Err e) = e ≢ why.Memory → wanted ≡ Err e

-- the answer is this one
abbrev pub IsAnswer : {A B : Type 0} → (A → B) → Result B TelemWhy → Result A TelemWhy → Type 0
IsAnswer see wanted (Ok x) = wanted ≡ Ok (see x)
IsAnswer see wanted (Err e) = wanted ≡ Err e

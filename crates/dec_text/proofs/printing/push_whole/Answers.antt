use Rattle.std.proofs.Common.{◌≡◌, ℕ, ◌≤◌, List, length, ap, ◌∙◌, arith}
use Rattle.std.specs.Prelude.{decimal}
use Rattle.std.proofs.lemmas.Fmt.{length-decimal-le}
use Rattle.dec_text.proofs.printing.push_whole.Goals as goal

-- at most 10 ^ 15 has at most 16 digits
few_digits : (n : ℕ) (text : List ℕ) → n ≤ 1000000000000000 → text ≡ decimal n → length text ≤ 16
few_digits n text h e =
    let short : length (decimal n) ≤ 16 = length-decimal-le 16 n (omega arith) (omega arith) (omega arith) in
    let same : length text ≡ length (decimal n) = ap length e in
    omega arith

pub unwrap-requires : goal.unwrap-requires
unwrap-requires c =
    let short = few_digits c.args.n c.as_bytes-digits.result.now c.requires.range (c.as_bytes-digits.ensures.value ∙ c.format.ensures.text) in
    c.try_extend_from_slice.ensures.variant.1 (omega arith)

pub returns-clause-longer : goal.returns-clause-longer
returns-clause-longer c =
    let short = few_digits c.args.n c.as_bytes-digits.result.now c.requires.range (c.as_bytes-digits.ensures.value ∙ c.format.ensures.text) in
    let long = rw c.unwrap.ensures at c.try_extend_from_slice.ensures.len in
    omega arith

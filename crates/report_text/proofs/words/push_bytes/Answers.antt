use Rattle.std.proofs.Common.{◌≡◌, ℕ, ◌<◌, true, List, [], ◌∷◌, arith}
use Rattle.std.specs.List.{list_all}
use Rattle.std.specs.Str.{IsAscii}
use Rattle.std.proofs.lemmas.Str.{IsUtf8-from_ascii}
use Rattle.std.proofs.lemmas.Str.Ascii.{IsAscii-nil, IsAscii-cons}
use Rattle.std.proofs.lemmas.Bool.Decides.{nat_tests}
use Rattle.dec_text.proofs.Judged.{both}
use Rattle.report_text.specs.Names.{is_name_byte}
use Rattle.report_text.proofs.words.push_bytes.Goals as goal

byte_ascii : (b : ℕ) → is_name_byte b ≡ true → b < 128
byte_ascii b h = grind (arith, nat_tests, h)

bytes_ascii : (bs : List ℕ) → list_all is_name_byte bs ≡ true → IsAscii bs
bytes_ascii [] h = IsAscii-nil
bytes_ascii (b ∷ bs) h =
    let parts = both (is_name_byte b) (list_all is_name_byte bs) h in
    IsAscii-cons b bs (byte_ascii b parts.0) (bytes_ascii bs parts.1)

-- printable bytes are a text
pub returns-in_default : goal.returns-in_default
returns-in_default c =
    absurd (c.in_default.ensures.cases.0 (IsUtf8-from_ascii c.args.text.now (bytes_ascii c.args.text.now c.requires.printable)))

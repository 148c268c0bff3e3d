-- Bytes that are no document.
use Rattle.std.proofs.Common.{◌≡◌, ℕ, Bool, true, false, List, None, Err, refl}
use Rattle.std.specs.Str.{IsUtf8, is_utf8}
use Rattle.std.proofs.lemmas.Str.{IsUtf8-from_is_utf8}
use Rattle.toml.specs.Parse.{parse_document}
use Rattle.model_file.specs.declared.fault.ModelFault.TheVariants as fault
use Rattle.model_file.specs.ModelFile.{document_of}

pub no_document : (bytes : List ℕ) → (IsUtf8 bytes → parse_document bytes ≡ None) → document_of bytes ≡ Err fault.NotToml
unfolding document_of
no_document bytes refused = by (is_utf8 bytes) refl
  where
    by : (b : Bool) → is_utf8 bytes ≡ b → document_of bytes ≡ Err fault.NotToml
    by true text = let none = refused (IsUtf8-from_is_utf8 bytes text) in rw (text, none) refl
    by false text = rw text refl

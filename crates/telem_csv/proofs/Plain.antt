-- A text without quotes and line ends is cut by csv at its commas.
use Rattle.std.proofs.Common.{◌≡◌, ℕ, ◌<◌, arith, Bool, true, false, ◌||◌, List, [], ◌∷◌, ◌++◌, length, refl, sym, ◌∙◌, ap, append_assoc, Option, Some, None}
use Rattle.std.specs.Prelude.{◌==◌, if◌then◌else◌, option_map}
use Rattle.std.specs.List.{list_any, slice_split, onto_first}
use Rattle.std.proofs.lemmas.List.{append-nil}
use Rattle.std.proofs.lemmas.Bool.Decides.{nat_tests}
use Rattle.csv.specs.Machine.{next_record, Read}
use Rattle.csv.specs.Reading.{default_config, strip_bom}
use Rattle.csv.specs.declared.parser.State.{State}
use Rattle.csv.specs.declared.parser.State.TheVariants as st
use Rattle.telem_csv.proofs.Ends.{mark_gone}
use Rattle.telem_csv.specs.Fields.{is_comma, is_quote}
use Rattle.telem_csv.specs.Lines.{is_feed, is_return, fields_in, IsLineText}

-- a byte that does not end a line or begin a quoted field
record IsPlainByte (c : ℕ) : Type 0 where
  no_feed : is_feed c ≡ false
  no_return : is_return c ≡ false
  no_quote : is_quote c ≡ false

-- and a text of such bytes
pub record IsPlain (text : List ℕ) : Type 0 where
  pub no_feed : list_any is_feed text ≡ false
  pub no_return : list_any is_return text ≡ false
  pub no_quote : list_any is_quote text ≡ false

neither : (a b : Bool) → (a || b) ≡ false → (a ≡ false) × (b ≡ false)
neither true b h = absurd (cc)
neither false b h = (refl, h)

first_plain : (c : ℕ) (cs : List ℕ) → IsPlain (c ∷ cs) → IsPlainByte c
first_plain c cs h = record {
  no_feed = (neither (is_feed c) (list_any is_feed cs) h.no_feed).0;
  no_return = (neither (is_return c) (list_any is_return cs) h.no_return).0;
  no_quote = (neither (is_quote c) (list_any is_quote cs) h.no_quote).0;
}

rest_plain : (c : ℕ) (cs : List ℕ) → IsPlain (c ∷ cs) → IsPlain cs
rest_plain c cs h = record {
  no_feed = (neither (is_feed c) (list_any is_feed cs) h.no_feed).1;
  no_return = (neither (is_return c) (list_any is_return cs) h.no_return).1;
  no_quote = (neither (is_quote c) (list_any is_quote cs) h.no_quote).1;
}

-- the parts with these bytes in front of the first
onto_parts : List ℕ → List (List ℕ) → List (List ℕ)
onto_parts field [] = []
onto_parts field (part ∷ parts) = (field ++ part) ∷ parts

abbrev parts_of : List ℕ → List (List ℕ)
parts_of text = slice_split is_comma text

onto_none : (parts : List (List ℕ)) → onto_parts [] parts ≡ parts
unfolding onto_parts
onto_none [] = refl
onto_none (part ∷ parts) = refl

split_some : (text : List ℕ) → (part : List ℕ) × (parts : List (List ℕ)) × (parts_of text ≡ part ∷ parts)
split_some [] = ([], [], refl)
split_some (c ∷ cs) = by_comma (is_comma c) (split_some cs)
  where
    by_comma : (b : Bool) → ((part : List ℕ) × (parts : List (List ℕ)) × (parts_of cs ≡ part ∷ parts)) → (part : List ℕ) × (parts : List (List ℕ)) × ((if b then ([] ∷ parts_of cs) else onto_first c (parts_of cs)) ≡ part ∷ parts)
    by_comma true s = ([], parts_of cs, refl)
    by_comma false s = (c ∷ s.0, s.1, ap (onto_first c) s.2)

onto_more : (field : List ℕ) (c : ℕ) (cs : List ℕ) → onto_parts (field ++ c ∷ []) (parts_of cs) ≡ onto_parts field (onto_first c (parts_of cs))
unfolding onto_parts
onto_more field c cs = let s = split_some cs in rw s.2 (ap (λ t. t ∷ s.1) (append_assoc field (c ∷ []) s.0))

-- in a field and at its start a plain byte does the same
state_in : Bool → State
state_in true = st.InField
state_in false = st.StartField

abbrev whole : List (List ℕ) → Option Read
whole fields = Some (fields, st.StartRecord, [])

plain_fields : (inside : Bool) (fields : List (List ℕ)) (field text : List ℕ) → IsPlain text → next_record default_config (state_in inside) fields field text ≡ whole (fields ++ onto_parts field (parts_of text))
unfolding next_record state_in onto_parts
plain_fields true fields field [] h = ap (λ f. whole (fields ++ f ∷ [])) (sym (append-nil field))
plain_fields false fields field [] h = ap (λ f. whole (fields ++ f ∷ [])) (sym (append-nil field))
plain_fields true fields field (c ∷ cs) h = by_comma (is_comma c) refl (first_plain c cs h) (plain_fields false (fields ++ field ∷ []) [] cs (rest_plain c cs h)) (plain_fields true fields (field ++ c ∷ []) cs (rest_plain c cs h))
  where
    by_comma : (b : Bool) → is_comma c ≡ b → IsPlainByte c → next_record default_config st.StartField (fields ++ field ∷ []) [] cs ≡ whole ((fields ++ field ∷ []) ++ onto_parts [] (parts_of cs))
        → next_record default_config st.InField fields (field ++ c ∷ []) cs ≡ whole (fields ++ onto_parts (field ++ c ∷ []) (parts_of cs))
        → next_record default_config st.InField fields field (c ∷ cs) ≡ whole (fields ++ onto_parts field (parts_of (c ∷ cs)))
    by_comma true e p next same = rw e (next ∙ ap whole (ap (λ t. (fields ++ field ∷ []) ++ t) (onto_none (parts_of cs)) ∙ (append_assoc fields (field ∷ []) (parts_of cs) ∙ ap (λ f. fields ++ f ∷ parts_of cs) (sym (append-nil field)))))
    by_comma false e p next same = rw (e, p.no_return, p.no_feed) (same ∙ ap (λ t. whole (fields ++ t)) (onto_more field c cs))
plain_fields false fields field (c ∷ cs) h = by_comma (is_comma c) refl (first_plain c cs h) (plain_fields false (fields ++ field ∷ []) [] cs (rest_plain c cs h)) (plain_fields true fields (field ++ c ∷ []) cs (rest_plain c cs h))
  where
    by_comma : (b : Bool) → is_comma c ≡ b → IsPlainByte c → next_record default_config st.StartField (fields ++ field ∷ []) [] cs ≡ whole ((fields ++ field ∷ []) ++ onto_parts [] (parts_of cs))
        → next_record default_config st.InField fields (field ++ c ∷ []) cs ≡ whole (fields ++ onto_parts (field ++ c ∷ []) (parts_of cs))
        → next_record default_config st.StartField fields field (c ∷ cs) ≡ whole (fields ++ onto_parts field (parts_of (c ∷ cs)))
    by_comma true e p next same = rw (p.no_quote, e) (next ∙ ap whole (ap (λ t. (fields ++ field ∷ []) ++ t) (onto_none (parts_of cs)) ∙ (append_assoc fields (field ∷ []) (parts_of cs) ∙ ap (λ f. fields ++ f ∷ parts_of cs) (sym (append-nil field)))))
    by_comma false e p next same = rw (p.no_quote, e, p.no_return, p.no_feed) (same ∙ ap (λ t. whole (fields ++ t)) (onto_more field c cs))

-- the fields of a plain line
plain_start : (c : ℕ) (cs : List ℕ) → IsPlain (c ∷ cs) → next_record default_config st.StartRecord [] [] (c ∷ cs) ≡ next_record default_config st.StartField [] [] (c ∷ cs)
unfolding next_record
plain_start c cs h = let p = first_plain c cs h in rw (p.no_return, p.no_feed) refl

pub plain_line : (text : List ℕ) → 0 < length text → IsPlain text → option_map (λ r. r.0) (next_record default_config st.StartRecord [] [] text) ≡ Some (parts_of text)
unfolding state_in
plain_line [] some h = absurd (omega (arith, some))
plain_line (c ∷ cs) some h = ap (λ r. option_map (λ r. r.0) r) (plain_start c cs h ∙ (plain_fields false [] [] (c ∷ cs) h ∙ ap whole (onto_none (parts_of (c ∷ cs)))))

pub blank_line : (text : List ℕ) → text ≡ [] → option_map (λ r. r.0) (next_record default_config st.StartRecord [] [] text) ≡ None
unfolding next_record
blank_line text h = rw h refl

pub plain_text : (text : List ℕ) → list_any is_feed text ≡ false → list_any is_return text ≡ false → list_any is_quote (strip_bom text) ≡ false → IsPlain (strip_bom text)
plain_text text f r q = record { no_feed = mark_gone is_feed text f; no_return = mark_gone is_return text r; no_quote = q }

pub fields_plain : (text unmarked : List ℕ) → unmarked ≡ strip_bom text → IsLineText text → list_any is_quote unmarked ≡ false → (length unmarked == 0) ≡ false → Some (slice_split is_comma unmarked) ≡ fields_in text
fields_plain text unmarked e h q some =
    let quote : list_any is_quote (strip_bom text) ≡ false = rw (sym e) q in
    let size : (length (strip_bom text) == 0) ≡ false = rw (sym e) some in
    rw e (sym (plain_line (strip_bom text) (grind (arith, nat_tests, size)) (plain_text text h.no_feed h.no_return quote)))

pub fields_blank : (text unmarked : List ℕ) → unmarked ≡ strip_bom text → (length unmarked == 0) ≡ true → None ≡ fields_in text
fields_blank text unmarked e none = sym (blank_line (strip_bom text) (sym e ∙ length-zero unmarked (grind (arith, nat_tests, none))))
  where
    length-zero : (xs : List ℕ) → length xs ≡ 0 → xs ≡ []
    length-zero [] h = refl
    length-zero (x ∷ xs) h = absurd (omega (arith, h))

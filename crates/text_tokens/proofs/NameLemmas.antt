-- Identifiers of `rust_lex` as those of names, and names that are spelled.
use Rattle.std.proofs.Common.{◌≡◌, refl, ap, sym, ◌∙◌, ℕ, Bool, true, false, List, [], ◌∷◌, Some, None, IsUtf8, chars, encode_utf8_all}
use Rattle.std.specs.Prelude.{◌&&◌, if◌then◌else◌, bytes_eq}
use Rattle.std.proofs.lemmas.Str.{encodes-chars, is_utf8-from_IsUtf8}
use Rattle.std.specs.Cmp.Lexicographic.{bytes_decides}
use Rattle.unicode_normalization.specs.Forms.{nfc}
use Rattle.rust_lex.specs.Identifiers as i
use Rattle.text_meaning.specs.Names.{is_identifier}
use Rattle.text_tokens.specs.Scan.{spelled_name}
use Rattle.text_tokens.specs.Naming.{is_name}
use Rattle.text_tokens.proofs.EncodingLemmas.{chars_of, encodes_once}

same_identifier : (cs : List ℕ) → i.are_identifier cs ≡ is_identifier cs
same_identifier [] = refl
same_identifier (c ∷ cs) = refl

pub text_identifier : (text : List ℕ) → IsUtf8 text → i.is_identifier text ≡ is_identifier (chars text)
unfolding i.is_identifier
text_identifier text u = let e = is_utf8-from_IsUtf8 text u in rw e (same_identifier (chars text))

-- the name of a text, where both are identifiers
none_first : (cs : List ℕ) (a : Bool) → is_identifier cs ≡ a → a ≡ false → None ≡ spelled_name cs
unfolding spelled_name
none_first cs true e h = absurd cc
none_first cs false e h = rw e refl

pub not_identifier : (text : List ℕ) → IsUtf8 text → i.is_identifier text ≡ false → None ≡ spelled_name (chars text)
not_identifier text u h = none_first (chars text) (is_identifier (chars text)) refl (sym (text_identifier text u) ∙ h)

spelled_by : (cs : List ℕ) (a b : Bool) → is_identifier cs ≡ a → is_identifier (nfc cs) ≡ b → a ≡ true →
    (if b then Some (encode_utf8_all (nfc cs)) else None) ≡ spelled_name cs
unfolding spelled_name
spelled_by cs false b e f h = absurd cc
spelled_by cs true b e f h = rw (e, f) refl

-- the name's bytes are those of the normal form
normal_identifier : (text name : List ℕ) → IsUtf8 name → name ≡ i.name_of text → i.is_identifier name ≡ is_identifier (nfc (chars text))
normal_identifier text name u e = text_identifier name u ∙ ap is_identifier (chars_of name (nfc (chars text)) u e)

pub no_name : (text name : List ℕ) → IsUtf8 text → IsUtf8 name → i.is_identifier text ≡ true → name ≡ i.name_of text → i.is_identifier name ≡ false → None ≡ spelled_name (chars text)
no_name text name u w h e k =
    spelled_by (chars text) (is_identifier (chars text)) false refl (sym (normal_identifier text name w e) ∙ k) (sym (text_identifier text u) ∙ h)

pub a_name : (text name : List ℕ) → IsUtf8 text → IsUtf8 name → i.is_identifier text ≡ true → name ≡ i.name_of text → i.is_identifier name ≡ true → Some name ≡ spelled_name (chars text)
a_name text name u w h e k =
    ap (λ x. Some x) e ∙ spelled_by (chars text) (is_identifier (chars text)) true refl (sym (normal_identifier text name w e) ∙ k) (sym (text_identifier text u) ∙ h)

-- ---- names

same_answer : (a b : Bool) → (a ≡ true → b ≡ true) → (b ≡ true → a ≡ true) → a ≡ b
same_answer true b f g = sym (f refl)
same_answer false true f g = g refl
same_answer false false f g = refl

-- a text's bytes are those of its normal form where its characters are
same_bytes : (text : List ℕ) → IsUtf8 text → bytes_eq (i.name_of text) text ≡ bytes_eq (nfc (chars text)) (chars text)
same_bytes text u =
    let e = encodes-chars text u in
    same_answer (bytes_eq (i.name_of text) text) (bytes_eq (nfc (chars text)) (chars text))
    (λ h. (bytes_decides (nfc (chars text)) (chars text)).1 (encodes_once (nfc (chars text)) (chars text) ((bytes_decides (i.name_of text) text).0 h ∙ sym e)))
    (λ h. (bytes_decides (i.name_of text) text).1 (ap encode_utf8_all ((bytes_decides (nfc (chars text)) (chars text)).0 h) ∙ e))

name_by : (text : List ℕ) (a b : Bool) → IsUtf8 text → is_identifier (chars text) ≡ a → bytes_eq (nfc (chars text)) (chars text) ≡ b → a && b ≡ is_name text
unfolding is_name
name_by text a b u e f = let g = is_utf8-from_IsUtf8 text u in rw (g, e, f) refl

pub no_normal : (text : List ℕ) → IsUtf8 text → i.is_identifier text ≡ false → false ≡ is_name text
no_normal text u h = name_by text false (bytes_eq (nfc (chars text)) (chars text)) u (sym (text_identifier text u) ∙ h) refl

pub normal : (text name : List ℕ) (b : Bool) → IsUtf8 text → i.is_identifier text ≡ true → name ≡ i.name_of text → b ≡ bytes_eq name text → b ≡ is_name text
normal text name b u h e f =
    f ∙ ap (λ n. bytes_eq n text) e ∙ same_bytes text u
    ∙ name_by text true (bytes_eq (nfc (chars text)) (chars text)) u (sym (text_identifier text u) ∙ h) refl

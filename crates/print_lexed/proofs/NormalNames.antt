-- The normal form of an identifier and of a lifetime.
use Rattle.std.proofs.Common.{◌≡◌, refl, ap, sym, subst, ◌∙◌, ℕ, ◌≤◌, true, false, List, [], ◌∷◌, ◌++◌, append-nil, append_assoc, Some, None, IsUtf8, chars, encode_utf8_all, arith}
use Rattle.std.specs.Prelude.{◌&&◌, ◌||◌, not, nat_le}
use Rattle.std.specs.List.{list_all}
use Rattle.std.specs.Str.{is_utf8}
use Rattle.std.proofs.Math.Utf8.{scalar, scalars}
use Rattle.std.proofs.lemmas.Bool.Decides.{nat_tests}
use Rattle.std.proofs.lemmas.Str.{chars-encodes, encode_ascii, is_utf8-from_IsUtf8}
use Rattle.ucd_table.specs.Rows.{Range, in_ranges}
use Rattle.ucd_table.proofs.Stepped.{Stepped, of_ranges, zip_stepped}
use Rattle.ucd_table.proofs.Facts.{Stepped-everywhere}
use Rattle.ucd_derived.proofs.BinaryLemmas.{is_xid_continue_stepped}
use Rattle.ucd_normal.specs.Composition.{paired_with}
use Rattle.ucd_normal.specs.Compositions.{compositions, compositions_rows}
use Rattle.ucd_normal.proofs.CompositionLemmas.{composite-paired_with}
use Rattle.ucd_table.specs.Rows.{value_in}
use Rattle.unicode_ident.specs.Ident.{is_xid_continue}
use Rattle.unicode_ident.proofs.Computing.{unicode_ident}
use Rattle.unicode_normalization.specs.Compose.{primary_composite, compose, compose_after, or_else}
use Rattle.unicode_normalization.specs.Hangul.{compose_hangul}
use Rattle.unicode_normalization.specs.Forms.{Nfd, nfc, nfd}
use Rattle.ucd_normal.specs.CanonicalCombiningClass.{canonical_combining_class as ccc}
use Rattle.unicode_normalization.proofs.ComposeLemmas.{compose_after-cases, compose_after-nil, compose-nil, compose-starter, compose-mark}
use Rattle.unicode_normalization.proofs.FormsLemmas.{nfc_idem, nfc-by_nfd, normalize-Nfd, decomposed-passing, is_final-Nfd, quick_check-ascii, class-latin}
use Rattle.rust_lex.specs.Characters.{begins}
use Rattle.rust_lex.specs.Identifiers.{starts_identifier, are_identifier, is_identifier, is_named, name_of}
use Rattle.print_lexed.proofs.Blanks.{and_first, and_second, chars_low, and_both}
use Rattle.print_lexed.proofs.LexedNames.{IsNormal}

-- ---- characters of identifiers are scalar values

abbrev scalar_ranges : List Range
scalar_ranges = (0, 55295) ∷ (57344, 1114111) ∷ []

abbrev scalar_stepped : Stepped (in_ranges scalar_ranges)
unfolding unicode_ident
scalar_stepped = of_ranges scalar_ranges refl

in_scalars : (c : ℕ) → is_xid_continue c ≡ true → in_ranges scalar_ranges c ≡ true
unfolding unicode_ident
in_scalars c h =
    let both = zip_stepped (λ a b. not a || b) is_xid_continue (in_ranges scalar_ranges) is_xid_continue_stepped scalar_stepped in
    subst (λ a. (not a || in_ranges scalar_ranges c) ≡ true) h (Stepped-everywhere _ both refl c)

by_ranges : (c : ℕ) → (nat_le 0 c && nat_le c 55295) || ((nat_le 57344 c && nat_le c 1114111) || false) ≡ true → scalar c ≡ true
by_ranges c h = grind (arith, nat_tests)

one_scalar : (c : ℕ) → is_xid_continue c ≡ true → scalar c ≡ true
unfolding in_ranges
one_scalar c h = by_ranges c (in_scalars c h)

all_scalars : (cs : List ℕ) → list_all is_xid_continue cs ≡ true → scalars cs ≡ true
all_scalars [] h = refl
all_scalars (c ∷ cs) h = and_both _ _ (one_scalar c (and_first (is_xid_continue c) (list_all is_xid_continue cs) h)) (all_scalars cs (and_second (is_xid_continue c) (list_all is_xid_continue cs) h))

-- ---- the name of an identifier is in normal form

pub name_normal : (w : List ℕ) → is_named w ≡ true → IsNormal (name_of w)
unfolding is_named is_identifier
name_normal w h =
    let cs = nfc (chars w) in
    let goes = and_second (begins starts_identifier (nfc (chars w))) (list_all is_xid_continue (nfc (chars w))) (and_first (begins starts_identifier (nfc (chars w)) && list_all is_xid_continue (nfc (chars w))) _ h) in
    let s = all_scalars (nfc (chars w)) goes in
    let e : chars (name_of w) ≡ nfc (chars w) = chars-encodes (nfc (chars w)) s in
    let u : IsUtf8 (name_of w) = (nfc (chars w), (s, refl)) in
    record {
      identifier = and_both (is_utf8 (name_of w)) (are_identifier (chars (name_of w))) (is_utf8-from_IsUtf8 (name_of w) u) (ap are_identifier e ∙ h);
      normal = ap nfc e ∙ nfc_idem (chars w) ∙ sym e;
    }

-- ---- `'` composes with nothing

alone : (c : ℕ) → primary_composite 39 c ≡ None
unfolding primary_composite compose_hangul compositions compositions_rows paired_with value_in
alone c = ap (or_else (compose_hangul 39 c)) (composite-paired_with 39 c)

no_join : (c p : ℕ) → primary_composite 39 c ≡ Some p → ⊥
no_join c p h = let e = sym (alone c) ∙ h in cc

quote_after : (bs ds : List ℕ) → compose_after 39 bs ds ≡ 39 ∷ (bs ++ compose ds)
quote_after bs [] = compose_after-nil 39 bs ∙ ap (λ x. 39 ∷ x) (sym (append-nil bs) ∙ ap (λ x. bs ++ x) (sym compose-nil))
quote_after bs (c ∷ cs) =
    compose_after-cases 39 bs c cs (λ x. x ≡ 39 ∷ (bs ++ compose (c ∷ cs)))
    (λ p free h. absurd (no_join c p h))
    (λ j z. ap (λ x. 39 ∷ (bs ++ x)) (sym (compose-starter c cs z)))
    (λ j z. quote_after (bs ++ c ∷ []) cs ∙ ap (λ x. 39 ∷ x) (append_assoc bs (c ∷ []) (compose cs)) ∙ ap (λ x. 39 ∷ (bs ++ x)) (sym (compose-mark c cs z)))

nfc_quote : (cs : List ℕ) → nfc (39 ∷ cs) ≡ 39 ∷ nfc cs
nfc_quote cs =
    let z : ccc 39 ≤ 0 = let e = class-latin 39 (omega arith) in omega (arith, e) in
    let d : nfd (39 ∷ cs) ≡ 39 ∷ nfd cs = normalize-Nfd (39 ∷ cs) ∙ decomposed-passing Nfd 39 cs (is_final-Nfd 39 (quick_check-ascii Nfd 39 (omega arith))) z ∙ ap (λ x. 39 ∷ x) (sym (normalize-Nfd cs)) in
    nfc-by_nfd (39 ∷ cs) ∙ ap compose d ∙ compose-starter 39 (nfd cs) z ∙ quote_after [] (nfd cs) ∙ ap (λ x. 39 ∷ x) (sym (nfc-by_nfd cs))

-- the name of a lifetime is `'` and the name of its identifier
pub quoted_name : (v : List ℕ) → name_of (39 ∷ v) ≡ 39 ∷ name_of v
quoted_name v =
    ap (λ x. encode_utf8_all (nfc x)) (chars_low 39 v (omega arith)) ∙ ap encode_utf8_all (nfc_quote (chars v)) ∙ ap (λ x. x ++ name_of v) (encode_ascii 39 (omega arith))

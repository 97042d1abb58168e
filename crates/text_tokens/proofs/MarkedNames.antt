-- What stands between marks is read as a name: its normal form is brought about.
use Rattle.std.proofs.Common.{◌≡◌, refl, ap, sym, ◌∙◌, ℕ, ◌+◌, length, Option, ◌≤◌, Bool, true, false, List, [], ◌∷◌, arith, leb-true}
use Rattle.std.specs.Prelude.{◌&&◌, ◌||◌, nat_le, nat_lt, chars}
use Rattle.std.specs.List.{list_all}
use Rattle.std.specs.Char.{IsScalar}
use Rattle.std.specs.Str.{all_scalars}
use Rattle.std.proofs.lemmas.Bool.Decides.{nat_tests}
use Rattle.std.proofs.lemmas.Str.{chars-encodes}
use Rattle.ucd_derived.specs.XidContinueRanges.{xid_continue_ranges}
use Rattle.ucd_table.specs.Rows.{Range, in_ranges}
use Rattle.unicode_ident.specs.Ident.{is_xid_continue}
use Rattle.unicode_normalization.proofs.FormsLemmas.{nfc_idem}
use Rattle.unicode_normalization.specs.Forms.{nfc}
use Rattle.text_meaning.specs.Lexing.{IsMarked}
use Rattle.text_meaning.specs.Lists.{Each}
use Rattle.text_meaning.specs.Names.{IsName, begins, starts_identifier, is_identifier}
use Rattle.aen_base.specs.declared.span.Span.{Span}
use Rattle.text_tokens.specs.declared.lexeme.LexemeKind.{LexemeKind}
use Rattle.text_tokens.specs.declared.lexeme.LexemeKind.TheVariants.{Word, Marked, Number, Punct}
use Rattle.text_tokens.specs.declared.lexeme.Lexeme.{Lexeme}
use Rattle.text_tokens.specs.declared.lexeme.Lexemes.{Lexemes}
use Rattle.text_tokens.specs.Lexing.{IsSpelled, Lexes, ends, next, stray, BearsName}
use Rattle.text_tokens.specs.Scan.{cut_text}
use Rattle.text_tokens.proofs.LexingLemmas.{cut_lexes}
use Rattle.text_tokens.proofs.Spellings.{and_left, and_right, and_both}

-- characters of identifiers are no surrogates
abbrev scalar_range : Range → Bool
scalar_range r = nat_lt r.1 55296 || (nat_le 57344 r.0 && nat_lt r.1 1114112)

scalar_ranges : list_all scalar_range xid_continue_ranges ≡ true
unfolding xid_continue_ranges
scalar_ranges = refl

scalar_low : (c b : ℕ) → c ≤ b → nat_lt b 55296 ≡ true → IsScalar c
scalar_low c b l h = grind (arith, nat_tests)

scalar_high : (c a b : ℕ) → a ≤ c → c ≤ b → nat_le 57344 a ≡ true → nat_lt b 1114112 ≡ true → IsScalar c
scalar_high c a b k l g h = grind (arith, nat_tests)

scalar_by : (low : Bool) (c a b : ℕ) → nat_lt b 55296 ≡ low → (low || (nat_le 57344 a && nat_lt b 1114112)) ≡ true → a ≤ c → c ≤ b → IsScalar c
scalar_by true c a b e h k l = scalar_low c b l e
scalar_by false c a b e h k l = scalar_high c a b k l (and_left _ _ h) (and_right (nat_le 57344 a) _ h)

or_by : (P : Type 0) (a b : Bool) → (a || b) ≡ true → (a ≡ true → P) → (b ≡ true → P) → P
or_by P true b h f g = f refl
or_by P false b h f g = g h

in_scalar : (rs : List Range) (c : ℕ) → list_all scalar_range rs ≡ true → in_ranges rs c ≡ true → IsScalar c
unfolding in_ranges
in_scalar [] c h k = absurd cc
in_scalar (r ∷ rs) c h k =
    or_by (IsScalar c) (nat_le r.0 c && nat_le c r.1) (in_ranges rs c) k
    (λ e. scalar_by (nat_lt r.1 55296) c r.0 r.1 refl (and_left _ _ h) (leb-true r.0 c (and_left _ _ e)) (leb-true c r.1 (and_right (nat_le r.0 c) _ e)))
    (λ e. in_scalar rs c (and_right (scalar_range r) _ h) e)

continue_scalar : (c : ℕ) → is_xid_continue c ≡ true → IsScalar c
unfolding is_xid_continue
continue_scalar c h = in_scalar xid_continue_ranges c scalar_ranges h

continue_scalars : (cs : List ℕ) → list_all is_xid_continue cs ≡ true → all_scalars cs ≡ true
continue_scalars [] h = refl
continue_scalars (c ∷ cs) h = and_both _ _ (continue_scalar c (and_left _ _ h)) (continue_scalars cs (and_right (is_xid_continue c) _ h))

-- a name between marks
marked_name : (n s : List ℕ) → IsMarked n s → IsName n
marked_name n s h =
    let cs = nfc (chars h.inner) in
    let scalars = continue_scalars cs (and_right (begins starts_identifier cs) _ (and_left _ _ h.normal)) in
    let same : chars n ≡ cs = ap chars h.is_name ∙ chars-encodes cs scalars in
    record {
      utf8 = (cs, (scalars, sym h.is_name));
      identifier = ap is_identifier same ∙ h.normal;
      normal = ap nfc same ∙ nfc_idem (chars h.inner) ∙ sym same;
    }

naming : (kind : LexemeKind) (spelling rest : List ℕ) → IsSpelled kind spelling rest → BearsName kind
naming (Word w) s rest h = tt
naming (Marked n) s rest h = marked_name n s h
naming (Number d) s rest h = tt
naming (Punct m) s rest h = tt

names_lexed : (at : ℕ) (text : List ℕ) (ls : List Lexeme) (bad : Option Span) → Lexes at text ls bad → Each (λ l. BearsName l.kind) ls
names_lexed at text ls bad (ends g) = tt
names_lexed at text ls bad (next {ls = ms} gap spelling rest kind s g k later) =
    (naming kind spelling rest k, names_lexed (at + length gap + length spelling) rest ms bad later)
names_lexed at text ls bad (stray gap c rest s g i k) = tt

pub cut_names : (text : List ℕ) (l : Lexemes) → l ≡ cut_text text → Each (λ x. BearsName x.kind) l.list
cut_names text l e = names_lexed 0 text l.list l.fault (cut_lexes text l e)

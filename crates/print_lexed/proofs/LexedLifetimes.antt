-- Lifetimes, and places of fields, are lexed as themselves.
use Rattle.std.proofs.Common.{◌≡◌, refl, ap, sym, ◌∙◌, ℕ, ◌<◌, Bool, true, false, List, [], ◌∷◌, Some, None, chars, codes, arith}
use Rattle.std.specs.Prelude.{◌&&◌, ◌||◌, ◌==◌, not, bytes_eq, if◌then◌else◌}
use Rattle.std.specs.List.{list_all}
use Rattle.std.specs.Char.{is_ascii_digit}
use Rattle.std.specs.Str.{is_utf8}
use Rattle.std.proofs.lemmas.Bool.{eqb-true}
use Rattle.std.proofs.lemmas.Bool.Decides.{nat_tests}
use Rattle.std.proofs.lemmas.Str.{chars-IsAscii, IsUtf8-from_ascii, IsUtf8-append}
use Rattle.unicode_ident.specs.Ident.{is_xid_continue}
use Rattle.rust_lex.specs.declared.token.Kind.TheVariants as K
use Rattle.rust_lex.specs.declared.token.Form.TheVariants.{Lifetime, Number}
use Rattle.rust_lex.specs.Characters.{begins}
use Rattle.rust_lex.specs.Identifiers.{starts_identifier, are_identifier, is_identifier, is_named, name_of}
use Rattle.rust_lex.specs.Numbers.{are_digits, is_small}
use Rattle.source_grammar.specs.declared.class.Class.TheVariants as C
use Rattle.source_grammar.specs.Spelled.{class_named}
use Rattle.rust_printer.specs.Tok.{lifetime, placed, content_of}
use Rattle.print_lexed.proofs.Blanks.{and_first, and_second, low, ascii_of, low_digit}
use Rattle.print_lexed.proofs.LexedNames.{IsNormal, of_form, of_form_at, own_name, named_by, utf8_of, and_none}
use Rattle.print_lexed.proofs.NormalNames.{quoted_name}
use Rattle.print_lexed.proofs.Sequences.{IsLexed}

-- ---- lifetimes

pub no_underscore : (w : List ℕ) → is_identifier w ≡ true → bytes_eq w (95 ∷ []) ≡ false
unfolding is_identifier
no_underscore [] h = refl
no_underscore (c ∷ d ∷ w) h = by_test (c == 95) where
  by_test : (b : Bool) → b && false ≡ false
  by_test true = refl
  by_test false = refl
no_underscore (c ∷ []) h = ap (λ b. b && true) (by_test (c == 95) refl) where
  lone : is_identifier (95 ∷ []) ≡ true → false ≡ true
  lone k =
      let a = and_second (is_utf8 (95 ∷ [])) (are_identifier (chars (95 ∷ []))) k in
      let b : are_identifier (95 ∷ []) ≡ true = sym (ap are_identifier (chars-IsAscii (95 ∷ []) (low 95 (omega arith)))) ∙ a in
      and_second (begins starts_identifier (95 ∷ []) && list_all is_xid_continue (95 ∷ [])) (not (bytes_eq (95 ∷ []) (95 ∷ []))) b

  by_test : (b : Bool) → c == 95 ≡ b → c == 95 ≡ false
  by_test true e = let k = lone (sym (ap (λ x. is_identifier (x ∷ [])) (eqb-true c 95 e)) ∙ h) in absurd cc
  by_test false e = e

life_kind : (a b c : Bool) → a ≡ false → b ≡ true → c ≡ false → (if a then Some K.Lifetime else (if b then (if c then Some K.Excluded else Some K.Lifetime) else None)) ≡ Some K.Lifetime
life_kind true b c p q r = absurd cc
life_kind false false c p q r = absurd cc
life_kind false true true p q r = absurd cc
life_kind false true false p q r = refl

pub life_lexed : (w : List ℕ) → IsNormal w → bytes_eq w (codes "static") ≡ false → IsLexed false (lifetime (39 ∷ w))
life_lexed w n h =
    let u = no_underscore w n.identifier in
    of_form (lifetime (39 ∷ w)) Lifetime K.Lifetime refl (omega arith) (IsUtf8-append (39 ∷ []) w (IsUtf8-from_ascii (39 ∷ []) (low 39 (omega arith))) (utf8_of w n.identifier)) refl refl
    (λ i. n.identifier i || bytes_eq w (95 ∷ []))
    (life_kind (bytes_eq w (95 ∷ [])) (is_named w) (bytes_eq (name_of w) (codes "static")) u (named_by w n) (ap (λ x. bytes_eq x (codes "static")) (own_name w n) ∙ h))
    (ap (λ b. if b then C.Elided else C.Lifetime) u) (ap (λ (x : List ℕ). content_of (lifetime x)) (quoted_name w ∙ ap (λ x. 39 ∷ x) (own_name w n)))

-- ---- places

not_this : (c k : ℕ) → k < 48 → is_ascii_digit c ≡ true → c == k ≡ false
not_this c k l h = grind (arith, nat_tests)

small_kind : (b : Bool) → b ≡ true → (if b then Some K.Integer else None) ≡ Some K.Integer
small_kind true h = refl
small_kind false h = absurd cc

pub digits_lexed : (w : List ℕ) → are_digits w ≡ true → is_small w ≡ true → IsLexed true (placed w)
digits_lexed [] h s = absurd cc
digits_lexed (c ∷ w) h s =
    let d = and_first (is_ascii_digit c) (list_all is_ascii_digit w) h in
    let slash = not_this c 47 (omega arith) d in
    of_form_at true (placed (c ∷ w)) Number K.Integer refl (omega arith) (IsUtf8-from_ascii (c ∷ w) (ascii_of is_ascii_digit low_digit (c ∷ w) h)) (not_this c 34 (omega arith) d)
    (λ i. (and_none (c == 47) (begins (λ d. d == 47) w) slash i) || (and_none (c == 47) (begins (λ d. d == 42) w) slash i)) h (small_kind (is_small (c ∷ w)) s)
    (sym (ap (λ b. if b then C.Digits else class_named (c ∷ w) C.Other) h)) refl

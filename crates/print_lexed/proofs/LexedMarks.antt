-- Words and marks are lexed as themselves.
use Rattle.std.proofs.Common.{◌≡◌, refl, ap, ◌∙◌, ℕ, zero, suc, ◌≤◌, ◌<◌, Bool, true, false, List, [], ◌∷◌, length, take, None, codes, arith}
use Rattle.std.specs.Prelude.{◌==◌, ◌||◌}
use Rattle.std.specs.List.{list_all, list_any}
use Rattle.std.specs.Char.{is_ascii_alphabetic, is_ascii_alphanumeric}
use Rattle.std.proofs.lemmas.Str.{IsUtf8-from_ascii}
use denote.Enum.Bare.{sameb}
use Rattle.rust_lex.specs.declared.token.Kind.TheVariants as K
use Rattle.rust_lex.specs.declared.token.Form.{Form}
use Rattle.rust_lex.specs.declared.token.Form.TheVariants.{Identifier, Lifetime, Number, Quoted, Mark}
use Rattle.rust_lex.specs.Characters.{begins}
use Rattle.rust_lex.specs.Comments.{begins_comment}
use Rattle.rust_lex.specs.Identifiers.{word_kind, starts_identifier}
use Rattle.rust_lex.specs.Words.{is_word, is_excluded, int_named}
use Rattle.rust_lex.specs.Numbers.{is_number}
use Rattle.rust_lex.specs.Punctuation.{is_mark, is_single, is_double, is_triple}
use Rattle.rust_lex.specs.Lexing.{is_form}
use Rattle.source_grammar.specs.declared.class.Class.{Class}
use Rattle.source_grammar.specs.declared.class.Class.TheVariants as C
use Rattle.source_grammar.specs.contracts.class.Class as cls
use Rattle.source_grammar.specs.Classes as G
use Rattle.source_grammar.specs.Spelled.{class_named, class_marked}
use Rattle.source_syntax.specs.Spelled as S
use Rattle.rust_printer.specs.Tok.{mark, after}
use Rattle.print_lexed.proofs.Blanks.{none, ascii_of, is_low, low_byte}
use Rattle.print_lexed.proofs.LexedNames.{of_form, ascii_normal, own_name, kind_is, utf8_of, some_byte, no_quote, no_slash, first_byte, starts_low}
use Rattle.print_lexed.proofs.Sequences.{IsLexed}

mark_by : (c : Class) → after (mark c) ≡ codes " " → list_all is_low (G.spelling c) ≡ true → 0 < length (G.spelling c) → begins (λ d. d == 34) (G.spelling c) ≡ false → begins_comment (G.spelling c) ≡ false → is_mark (G.spelling c) ≡ true →
    class_marked (G.spelling c) ≡ c → IsLexed false (mark c)
mark_by c a l s q k m e = of_form (mark c) Mark K.Punct a s (IsUtf8-from_ascii (G.spelling c) (ascii_of is_low low_byte (G.spelling c) l)) q k m refl e refl

word_by : (c : Class) → after (mark c) ≡ codes " " → begins is_ascii_alphabetic (G.spelling c) ≡ true → list_all is_ascii_alphanumeric (G.spelling c) ≡ true → word_kind (G.spelling c) ≡ K.Word → class_named (G.spelling c) C.IntWord ≡ c →
    int_named (G.spelling c) ≡ None → IsLexed false (mark c)
word_by c a b l k e f =
    let w = G.spelling c in
    let n = ascii_normal (G.spelling c) b l in
    of_form (mark c) Identifier K.Word a (some_byte (G.spelling c) n.identifier) (utf8_of (G.spelling c) n.identifier) (no_quote (G.spelling c) n.identifier) (no_slash (G.spelling c) n.identifier) n.identifier (kind_is (G.spelling c) K.Word n k)
    (ap (λ x. class_named x C.IntWord) (own_name (G.spelling c) n) ∙ e) (ap (λ x. S.int_type (int_named x)) (own_name (G.spelling c) n) ∙ ap S.int_type f)

-- ---- the dot, before whatever follows

not_dot : (g : Form) (b : ℕ) (v : List ℕ) → is_form false g (46 ∷ b ∷ v) ≡ true → ⊥
unfolding is_number is_double is_triple
not_dot Identifier b v h = none (starts_identifier 46) (first_byte 46 (b ∷ v) h (omega arith)) (starts_low 46 (omega arith) refl refl)
not_dot Lifetime b v h = cc
not_dot Number b v h = cc
not_dot Quoted b v h = cc
not_dot Mark b [] h = cc
not_dot Mark b (c ∷ []) h = cc
not_dot Mark b (c ∷ d ∷ v) h = cc

dot_longest : (rest : List ℕ) (g : Form) (m : ℕ) → m ≤ length (46 ∷ rest) → is_form false g (take m (46 ∷ rest)) ≡ true → m ≤ 1
dot_longest rest g zero l h = omega arith
dot_longest rest g (suc zero) l h = omega arith
dot_longest [] g (suc (suc m)) l h = absurd (omega (arith, l))
dot_longest (b ∷ rest) g (suc (suc m)) l h = absurd (not_dot g b (take m rest) h)

pub dot_lexed : IsLexed false (mark C.Dot)
unfolding is_single
dot_lexed = record {
  kind = K.Punct;
  some = omega arith;
  is = λ rest. record {
    form = Mark;
    longest = record { within = omega arith; is = refl; longest = dot_longest rest };
    no_comment = refl;
    is_kind = refl;
  };
  class = refl;
  content = refl;
}

-- ---- each class that says nothing beside it

abbrev pub is_plain : Class → Bool
is_plain c = list_any (sameb cls.the_type c) (take 20 G.names) || list_any (sameb cls.the_type c) G.marks

pub mark_lexed : (c : Class) → is_plain c ≡ true → IsLexed false (mark c)
unfolding is_single is_double is_triple is_word is_excluded
mark_lexed C.IntWord h = cc
mark_lexed C.Other h = cc
mark_lexed C.Lifetime h = cc
mark_lexed C.Elided h = cc
mark_lexed C.Integer h = cc
mark_lexed C.Digits h = cc
mark_lexed C.Text h = cc
mark_lexed C.Excluded h = cc
mark_lexed C.As h = word_by C.As refl refl refl refl refl refl
mark_lexed C.Break h = word_by C.Break refl refl refl refl refl refl
mark_lexed C.Continue h = word_by C.Continue refl refl refl refl refl refl
mark_lexed C.Else h = word_by C.Else refl refl refl refl refl refl
mark_lexed C.Enum h = word_by C.Enum refl refl refl refl refl refl
mark_lexed C.False h = word_by C.False refl refl refl refl refl refl
mark_lexed C.Fn h = word_by C.Fn refl refl refl refl refl refl
mark_lexed C.If h = word_by C.If refl refl refl refl refl refl
mark_lexed C.Let h = word_by C.Let refl refl refl refl refl refl
mark_lexed C.Loop h = word_by C.Loop refl refl refl refl refl refl
mark_lexed C.Match h = word_by C.Match refl refl refl refl refl refl
mark_lexed C.Mut h = word_by C.Mut refl refl refl refl refl refl
mark_lexed C.Pub h = word_by C.Pub refl refl refl refl refl refl
mark_lexed C.Return h = word_by C.Return refl refl refl refl refl refl
mark_lexed C.Struct h = word_by C.Struct refl refl refl refl refl refl
mark_lexed C.True h = word_by C.True refl refl refl refl refl refl
mark_lexed C.Use h = word_by C.Use refl refl refl refl refl refl
mark_lexed C.While h = word_by C.While refl refl refl refl refl refl
mark_lexed C.Bool h = word_by C.Bool refl refl refl refl refl refl
mark_lexed C.Box h = word_by C.Box refl refl refl refl refl refl
mark_lexed C.Allow h = cc
mark_lexed C.Derive h = cc
mark_lexed C.Std h = cc
mark_lexed C.Mem h = cc
mark_lexed C.New h = cc
mark_lexed C.Replace h = cc
mark_lexed C.Swap h = cc
mark_lexed C.Panic h = cc
mark_lexed C.Unreachable h = cc
mark_lexed C.Assert h = cc
mark_lexed C.ShlEquals h = mark_by C.ShlEquals refl refl (omega arith) refl refl refl refl
mark_lexed C.ShrEquals h = mark_by C.ShrEquals refl refl (omega arith) refl refl refl refl
mark_lexed C.Colons h = mark_by C.Colons refl refl (omega arith) refl refl refl refl
mark_lexed C.Arrow h = mark_by C.Arrow refl refl (omega arith) refl refl refl refl
mark_lexed C.Gives h = mark_by C.Gives refl refl (omega arith) refl refl refl refl
mark_lexed C.EqualsEquals h = mark_by C.EqualsEquals refl refl (omega arith) refl refl refl refl
mark_lexed C.NotEquals h = mark_by C.NotEquals refl refl (omega arith) refl refl refl refl
mark_lexed C.LessEquals h = mark_by C.LessEquals refl refl (omega arith) refl refl refl refl
mark_lexed C.GreaterEquals h = mark_by C.GreaterEquals refl refl (omega arith) refl refl refl refl
mark_lexed C.AndAnd h = mark_by C.AndAnd refl refl (omega arith) refl refl refl refl
mark_lexed C.BarBar h = mark_by C.BarBar refl refl (omega arith) refl refl refl refl
mark_lexed C.Shl h = mark_by C.Shl refl refl (omega arith) refl refl refl refl
mark_lexed C.Shr h = mark_by C.Shr refl refl (omega arith) refl refl refl refl
mark_lexed C.PlusEquals h = mark_by C.PlusEquals refl refl (omega arith) refl refl refl refl
mark_lexed C.MinusEquals h = mark_by C.MinusEquals refl refl (omega arith) refl refl refl refl
mark_lexed C.StarEquals h = mark_by C.StarEquals refl refl (omega arith) refl refl refl refl
mark_lexed C.SlashEquals h = mark_by C.SlashEquals refl refl (omega arith) refl refl refl refl
mark_lexed C.PercentEquals h = mark_by C.PercentEquals refl refl (omega arith) refl refl refl refl
mark_lexed C.AndEquals h = mark_by C.AndEquals refl refl (omega arith) refl refl refl refl
mark_lexed C.BarEquals h = mark_by C.BarEquals refl refl (omega arith) refl refl refl refl
mark_lexed C.CaretEquals h = mark_by C.CaretEquals refl refl (omega arith) refl refl refl refl
mark_lexed C.Plus h = mark_by C.Plus refl refl (omega arith) refl refl refl refl
mark_lexed C.Minus h = mark_by C.Minus refl refl (omega arith) refl refl refl refl
mark_lexed C.Star h = mark_by C.Star refl refl (omega arith) refl refl refl refl
mark_lexed C.Slash h = mark_by C.Slash refl refl (omega arith) refl refl refl refl
mark_lexed C.Percent h = mark_by C.Percent refl refl (omega arith) refl refl refl refl
mark_lexed C.And h = mark_by C.And refl refl (omega arith) refl refl refl refl
mark_lexed C.Bar h = mark_by C.Bar refl refl (omega arith) refl refl refl refl
mark_lexed C.Caret h = mark_by C.Caret refl refl (omega arith) refl refl refl refl
mark_lexed C.Not h = mark_by C.Not refl refl (omega arith) refl refl refl refl
mark_lexed C.Equals h = mark_by C.Equals refl refl (omega arith) refl refl refl refl
mark_lexed C.Less h = mark_by C.Less refl refl (omega arith) refl refl refl refl
mark_lexed C.Greater h = mark_by C.Greater refl refl (omega arith) refl refl refl refl
mark_lexed C.OpenBracket h = mark_by C.OpenBracket refl refl (omega arith) refl refl refl refl
mark_lexed C.CloseBracket h = mark_by C.CloseBracket refl refl (omega arith) refl refl refl refl
mark_lexed C.OpenBrace h = mark_by C.OpenBrace refl refl (omega arith) refl refl refl refl
mark_lexed C.CloseBrace h = mark_by C.CloseBrace refl refl (omega arith) refl refl refl refl
mark_lexed C.OpenSquare h = mark_by C.OpenSquare refl refl (omega arith) refl refl refl refl
mark_lexed C.CloseSquare h = mark_by C.CloseSquare refl refl (omega arith) refl refl refl refl
mark_lexed C.Comma h = mark_by C.Comma refl refl (omega arith) refl refl refl refl
mark_lexed C.Semicolon h = mark_by C.Semicolon refl refl (omega arith) refl refl refl refl
mark_lexed C.Colon h = mark_by C.Colon refl refl (omega arith) refl refl refl refl
mark_lexed C.Dot h = dot_lexed
mark_lexed C.Hash h = mark_by C.Hash refl refl (omega arith) refl refl refl refl
mark_lexed C.Wild h = mark_by C.Wild refl refl (omega arith) refl refl refl refl

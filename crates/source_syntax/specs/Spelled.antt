-- The lexemes that the tokens of a source are (LANGUAGE.md, "Tokens").
use Rattle.std.specs.Prelude.{ℕ, Bool, true, false, ◌==◌, if◌then◌else◌, List, [], ◌∷◌, Option, Some, None, bytes_eq, codes}
use Rattle.aen_base.specs.declared.int_ty.IntTy.{IntTy}
use Rattle.aen_base.specs.declared.span.Span.{Span}
use Rattle.rust_lex.specs.declared.token.Integer.{Integer}
use Rattle.rust_lex.specs.declared.token.Kind.{Kind}
use Rattle.rust_lex.specs.declared.token.Kind.TheVariants as K
use Rattle.rust_lex.specs.declared.token.Token.{Token}
use Rattle.rust_lex.specs.Identifiers.{name_of}
use Rattle.rust_lex.specs.Numbers.{integer_of}
use Rattle.rust_lex.specs.Slices.{text_of}
use Rattle.rust_lex.specs.Words.{int_named}
use Rattle.source_grammar.specs.declared.class.Class.{Class}
use Rattle.source_grammar.specs.declared.class.Class.TheVariants as C
use Rattle.source_grammar.specs.declared.lexeme.Content.{Content}
use Rattle.source_grammar.specs.declared.lexeme.Content.TheVariants as says
use Rattle.source_grammar.specs.declared.lexeme.Lexeme.{Lexeme}
use Rattle.source_grammar.specs.Spelled.{class_named, class_marked}

-- the class of a token with this spelling, which may stand directly after a dot: words and special identifiers by
-- their name, marks by their spelling
abbrev pub class_of : Kind → Bool → List ℕ → Class
class_of K.Ident after_dot w = class_named (name_of w) C.Other
class_of K.Word after_dot w = class_named (name_of w) C.IntWord
class_of K.Excluded after_dot w = C.Excluded
class_of K.Lifetime after_dot w = if bytes_eq w (codes "'_") then C.Elided else C.Lifetime
class_of K.Integer true w = C.Digits
class_of K.Integer false w = C.Integer
class_of K.Str after_dot w = C.Text
class_of K.Punct after_dot w = class_marked w

abbrev pub number : Option Integer → Content
number None = says.Nothing
number (Some n) = says.Number n.value n.suffix

abbrev pub int_type : Option IntTy → Content
int_type None = says.Nothing
int_type (Some t) = says.Int t

-- what it says: a name, of a lifetime with its `'`; digits as they are spelled; an integer; an integer type
abbrev pub content_of : Kind → Bool → List ℕ → Content
content_of K.Ident after_dot w = says.Name (name_of w)
content_of K.Word after_dot w = int_type (int_named (name_of w))
content_of K.Lifetime after_dot w = says.Name (name_of w)
content_of K.Integer true w = says.Name w
content_of K.Integer false w = number (integer_of w)
content_of kind after_dot w = says.Nothing

-- that says nothing beside its class
abbrev pub plain : Class → Span → Lexeme
plain class span = record { class = class; span = span; content = says.Nothing }

abbrev pub lexeme_of : Kind → Bool → Span → List ℕ → Lexeme
lexeme_of kind after_dot span w = record { class = class_of kind after_dot w; span = span; content = content_of kind after_dot w }

-- whether a dot ends at this byte
abbrev pub ends_at : Option ℕ → ℕ → Bool
ends_at None at = false
ends_at (Some end) at = end == at

-- where a lexeme ends that is a dot
abbrev pub dot_end : Class → ℕ → Option ℕ
dot_end C.Dot end = Some end
dot_end class end = None

-- the lexeme of a token, where a dot may end before it
abbrev pub lexeme : List ℕ → Option ℕ → Token → Lexeme
lexeme text dot t = lexeme_of t.kind (ends_at dot t.span.lo) t.span (text_of text t)

abbrev pub dot_after : Lexeme → Option ℕ
dot_after l = dot_end l.class l.span.hi

abbrev pub lexemes : List ℕ → Option ℕ → List Token → List Lexeme
lexemes text dot [] = []
lexemes text dot (t ∷ ts) = lexeme text dot t ∷ lexemes text (dot_after (lexeme text dot t)) ts

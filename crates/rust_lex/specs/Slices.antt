-- What is known of each token of a text (LANGUAGE.md, "Tokens").
use Rattle.std.specs.Prelude.{◌≡◌, ℕ, ◌≤◌, Bool, true, List, [], ◌∷◌, Some, IsCharBoundary}
use Rattle.std.specs.List.{slice_range}
use Rattle.std.specs.Option.{is_some}
use Rattle.rust_lex.specs.declared.token.Form.{Form}
use Rattle.rust_lex.specs.declared.token.Kind.TheVariants.{Integer}
use Rattle.rust_lex.specs.declared.token.Token.{Token}
use Rattle.rust_lex.specs.Numbers.{integer_of}
use Rattle.rust_lex.specs.Lexing.{is_form, kind_of}

-- a token's text
abbrev pub text_of : List ℕ → Token → List ℕ
text_of text t = slice_range text t.span.lo t.span.hi

-- a token's text is a slice of whole characters, has the form of its kind, and an integer has a value
pub record IsTokenOf (text : List ℕ) (t : Token) : Type 0 where
  pub order : t.span.lo ≤ t.span.hi
  pub begins : IsCharBoundary text t.span.lo
  pub ends : IsCharBoundary text t.span.hi
  pub after_dot : Bool
  pub form : Form
  pub is : is_form after_dot form (text_of text t) ≡ true
  pub is_kind : kind_of form (text_of text t) ≡ Some t.kind
  pub value : t.kind ≡ Integer → is_some (integer_of (text_of text t)) ≡ true

-- each token of a list is one of the text
abbrev pub AreInText : List ℕ → List Token → Type 0
AreInText text [] = Unit {0}
AreInText text (t ∷ ts) = IsTokenOf text t × AreInText text ts

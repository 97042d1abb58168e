-- Tokens that are lexed as themselves, one after another: their text is lexed as all of them.
use Rattle.std.proofs.Common.{◌≡◌, ◌⊎◌, refl, ap, sym, subst, ◌∙◌, inl, inr, ℕ, ◌+◌, ◌-◌, ◌≤◌, ◌<◌, Bool, true, false, List, [], ◌∷◌, ◌++◌, length, length-append, append_assoc, take, drop, slice_range, Option, None, codes, arith}
use Rattle.std.specs.Prelude.{◌==◌}
use Rattle.std.proofs.Math.Seq.{take-append_seam}
use Rattle.std.proofs.lemmas.Bool.Decides.{nat_tests}
use Rattle.rust_lex.specs.declared.token.Kind.{Kind}
use Rattle.rust_lex.specs.declared.token.Token.{Token}
use Rattle.rust_lex.specs.Comments.{white}
use Rattle.rust_lex.specs.Lexing.{IsToken, Lexes, ends, gap, next, token, is_dot}
use Rattle.source_grammar.specs.declared.class.Class.{Class}
use Rattle.source_grammar.specs.declared.class.Class.TheVariants as C
use Rattle.source_grammar.specs.declared.lexeme.Lexeme.{Lexeme}
use Rattle.source_syntax.specs.Spelled as S
use Rattle.rust_printer.specs.Tok.{Tok, mark, spelling, spelled, after, class_of, content_of}
use Rattle.rust_printer.specs.Laid.{Laid}
use Rattle.rust_printer.specs.Laid as L

-- a token is lexed as itself before a blank, and says what it says
pub record IsLexed (dot : Bool) (t : Tok) : Type 0 where
  pub kind : Kind
  pub some : 0 < length (spelling t)
  pub is : (rest : List ℕ) → IsToken dot (length (spelling t)) kind (spelling t ++ (after t ++ rest))
  pub class : S.class_of kind dot (spelling t) ≡ class_of t
  pub content : S.content_of kind dot (spelling t) ≡ content_of t

-- directly after a dot, or not
pub data AreLexed : Bool → List Tok → Type 0 where
  none : {dot : Bool} → AreLexed dot []
  then_blank : {dot : Bool} {t : Tok} {ts : List Tok} → IsLexed dot t → after t ≡ codes " " → AreLexed false ts → AreLexed dot (t ∷ ts)
  then_dot : {dot : Bool} {ts : List Tok} → IsLexed dot (mark C.Dot) → AreLexed true ts → AreLexed dot (mark C.Dot ∷ ts)

drop_front : (w x : List ℕ) → drop (length w) (w ++ x) ≡ x
drop_front [] x = refl
drop_front (c ∷ w) x = drop_front w x

-- the slice of a text that stands after other bytes
slice_at : (pre w x : List ℕ) → slice_range (pre ++ (w ++ x)) (length pre) (length pre + length w) ≡ w
slice_at pre w x =
    let n : (length pre + length w) - length pre ≡ length w = omega arith in
    ap (λ y. take ((length pre + length w) - length pre) y) (drop_front pre (w ++ x)) ∙ ap (λ k. take k (w ++ x)) n ∙ take-append_seam w x

-- what is lexed of a text from byte `at` on, and the lexemes of it
pub record IsText (text : List ℕ) (at : ℕ) (dot : Bool) (d : Option ℕ) (toks : List Tok) : Type 0 where
  pub tokens : List Token
  pub lexes : Lexes at dot (spelled toks) tokens None
  pub laid : Laid at toks (S.lexemes text d tokens)

-- whether a lexeme is a dot
pub dot_cases : (c : Class) (end : ℕ) → (S.dot_end c end ≡ None) ⊎ (c ≡ C.Dot)
dot_cases C.IntWord end = inl refl
dot_cases C.Other end = inl refl
dot_cases C.Lifetime end = inl refl
dot_cases C.Elided end = inl refl
dot_cases C.Integer end = inl refl
dot_cases C.Digits end = inl refl
dot_cases C.Text end = inl refl
dot_cases C.Excluded end = inl refl
dot_cases C.As end = inl refl
dot_cases C.Break end = inl refl
dot_cases C.Continue end = inl refl
dot_cases C.Else end = inl refl
dot_cases C.Enum end = inl refl
dot_cases C.False end = inl refl
dot_cases C.Fn end = inl refl
dot_cases C.If end = inl refl
dot_cases C.Let end = inl refl
dot_cases C.Loop end = inl refl
dot_cases C.Match end = inl refl
dot_cases C.Mut end = inl refl
dot_cases C.Pub end = inl refl
dot_cases C.Return end = inl refl
dot_cases C.Struct end = inl refl
dot_cases C.True end = inl refl
dot_cases C.Use end = inl refl
dot_cases C.While end = inl refl
dot_cases C.Bool end = inl refl
dot_cases C.Box end = inl refl
dot_cases C.Allow end = inl refl
dot_cases C.Derive end = inl refl
dot_cases C.Std end = inl refl
dot_cases C.Mem end = inl refl
dot_cases C.New end = inl refl
dot_cases C.Replace end = inl refl
dot_cases C.Swap end = inl refl
dot_cases C.Panic end = inl refl
dot_cases C.Unreachable end = inl refl
dot_cases C.Assert end = inl refl
dot_cases C.ShlEquals end = inl refl
dot_cases C.ShrEquals end = inl refl
dot_cases C.Colons end = inl refl
dot_cases C.Arrow end = inl refl
dot_cases C.Gives end = inl refl
dot_cases C.EqualsEquals end = inl refl
dot_cases C.NotEquals end = inl refl
dot_cases C.LessEquals end = inl refl
dot_cases C.GreaterEquals end = inl refl
dot_cases C.AndAnd end = inl refl
dot_cases C.BarBar end = inl refl
dot_cases C.Shl end = inl refl
dot_cases C.Shr end = inl refl
dot_cases C.PlusEquals end = inl refl
dot_cases C.MinusEquals end = inl refl
dot_cases C.StarEquals end = inl refl
dot_cases C.SlashEquals end = inl refl
dot_cases C.PercentEquals end = inl refl
dot_cases C.AndEquals end = inl refl
dot_cases C.BarEquals end = inl refl
dot_cases C.CaretEquals end = inl refl
dot_cases C.Plus end = inl refl
dot_cases C.Minus end = inl refl
dot_cases C.Star end = inl refl
dot_cases C.Slash end = inl refl
dot_cases C.Percent end = inl refl
dot_cases C.And end = inl refl
dot_cases C.Bar end = inl refl
dot_cases C.Caret end = inl refl
dot_cases C.Not end = inl refl
dot_cases C.Equals end = inl refl
dot_cases C.Less end = inl refl
dot_cases C.Greater end = inl refl
dot_cases C.OpenBracket end = inl refl
dot_cases C.CloseBracket end = inl refl
dot_cases C.OpenBrace end = inl refl
dot_cases C.CloseBrace end = inl refl
dot_cases C.OpenSquare end = inl refl
dot_cases C.CloseSquare end = inl refl
dot_cases C.Comma end = inl refl
dot_cases C.Semicolon end = inl refl
dot_cases C.Colon end = inl refl
dot_cases C.Dot end = inr refl
dot_cases C.Hash end = inl refl
dot_cases C.Wild end = inl refl

pub differs : (m n : ℕ) → m < n → (m == n) ≡ false
differs m n h = grind (arith, nat_tests)

equals : (m n : ℕ) → m ≡ n → (m == n) ≡ true
equals m n h = grind (arith, nat_tests)

-- a lexeme that ends earlier ends directly before nothing
dot_over : (c : Class) (end at : ℕ) → end < at → S.ends_at (S.dot_end c end) at ≡ false
dot_over c end at h = by_case (dot_cases c end) where
  by_case : (S.dot_end c end ≡ None) ⊎ (c ≡ C.Dot) → S.ends_at (S.dot_end c end) at ≡ false
  by_case (inl e) = ap (λ d. S.ends_at d at) e
  by_case (inr e) = ap (λ (d : Class). S.ends_at (S.dot_end d end) at) e ∙ differs end at h

earlier : {at from : ℕ} {ts : List Tok} {ls : List Lexeme} → from ≤ at → Laid at ts ls → Laid from ts ls
earlier h L.nothing = L.nothing
earlier h (L.next a b c d r) = L.next (omega (arith, h, a)) b c d r

-- the lexeme of a token that stands after other bytes
record IsLexeme (text : List ℕ) (pre rest : List ℕ) (dot : Bool) (d : Option ℕ) (t : Tok) (x : IsLexed dot t) : Type 0 where
  pub class : (S.lexeme text d (token x.kind (length pre) (length (spelling t)))).class ≡ class_of t
  pub content : (S.lexeme text d (token x.kind (length pre) (length (spelling t)))).content ≡ content_of t

is_lexeme : (text pre rest : List ℕ) (dot : Bool) (d : Option ℕ) (t : Tok) (x : IsLexed dot t) → text ≡ pre ++ (spelling t ++ rest) → S.ends_at d (length pre) ≡ dot → IsLexeme text pre rest dot d t x
is_lexeme text pre rest dot d t x whole after_dot =
    let same : slice_range text (length pre) (length pre + length (spelling t)) ≡ spelling t = ap (λ y. slice_range y (length pre) (length pre + length (spelling t))) whole ∙ slice_at pre (spelling t) rest in
    record {
      class = (λ i. S.class_of x.kind (after_dot i) (same i)) ∙ x.class;
      content = (λ i. S.content_of x.kind (after_dot i) (same i)) ∙ x.content;
    }

-- before a blank
over_blank : (text pre : List ℕ) (dot : Bool) (d : Option ℕ) (t : Tok) (ts : List Tok) (x : IsLexed dot t) → after t ≡ codes " " → text ≡ pre ++ spelled (t ∷ ts) → S.ends_at d (length pre) ≡ dot →
    ((mid : List ℕ) (e : Option ℕ) → text ≡ mid ++ spelled ts → S.ends_at e (length mid) ≡ false → IsText text (length mid) false e ts) → IsText text (length pre) dot d (t ∷ ts)
over_blank text pre dot d t ts x blank whole after_dot f =
    let w = spelling t in
    let l = S.lexeme text d (token x.kind (length pre) (length (spelling t))) in
    let is = is_lexeme text pre (after t ++ spelled ts) dot d t x whole after_dot in
    let mid = pre ++ (spelling t ++ codes " ") in
    let count : length (pre ++ (spelling t ++ codes " ")) ≡ (length pre + length (spelling t)) + 1 = let a = length-append pre (spelling t ++ codes " ") in let b = length-append (spelling t) (codes " ") in omega (arith, a, b) in
    let split : text ≡ (pre ++ (spelling t ++ codes " ")) ++ spelled ts =
    whole ∙ ap (λ y. pre ++ (spelling t ++ (y ++ spelled ts))) blank ∙ ap (λ y. pre ++ y) (sym (append_assoc (spelling t) (codes " ") (spelled ts))) ∙ sym (append_assoc pre (spelling t ++ codes " ") (spelled ts)) in
    let y = f (pre ++ (spelling t ++ codes " ")) (S.dot_after l) split (dot_over l.class l.span.hi (length (pre ++ (spelling t ++ codes " "))) (omega (arith, count))) in
    let behind : drop (length (spelling t)) (spelling t ++ (after t ++ spelled ts)) ≡ 32 ∷ spelled ts = drop_front (spelling t) (after t ++ spelled ts) ∙ ap (λ a. a ++ spelled ts) blank in
    record {
      tokens = token x.kind (length pre) (length (spelling t)) ∷ y.tokens;
      lexes = next (x.is (spelled ts)) (subst (λ r. Lexes (length pre + length (spelling t)) (is_dot (take (length (spelling t)) (spelling t ++ (after t ++ spelled ts)))) r y.tokens None) (sym behind)
          (gap (white refl) (subst (λ at. Lexes at false (spelled ts) y.tokens None) count y.lexes)));
      laid = L.next (omega arith) (let some = x.some in omega (arith, some)) is.class is.content (earlier (omega (arith, count)) y.laid);
    }

-- a dot, directly before the name or place of a field
over_dot : (text pre : List ℕ) (dot : Bool) (d : Option ℕ) (ts : List Tok) (x : IsLexed dot (mark C.Dot)) → text ≡ pre ++ spelled (mark C.Dot ∷ ts) → S.ends_at d (length pre) ≡ dot →
    ((mid : List ℕ) (e : Option ℕ) → text ≡ mid ++ spelled ts → S.ends_at e (length mid) ≡ true → IsText text (length mid) true e ts) → IsText text (length pre) dot d (mark C.Dot ∷ ts)
over_dot text pre dot d ts x whole after_dot f =
    let l = S.lexeme text d (token x.kind (length pre) 1) in
    let is = is_lexeme text pre (spelled ts) dot d (mark C.Dot) x whole after_dot in
    let count : length (pre ++ codes ".") ≡ length pre + 1 = length-append pre (codes ".") in
    let split : text ≡ (pre ++ codes ".") ++ spelled ts = whole ∙ sym (append_assoc pre (codes ".") (spelled ts)) in
    let ends : S.ends_at (S.dot_after l) (length (pre ++ codes ".")) ≡ true =
    ap (λ c. S.ends_at (S.dot_end c l.span.hi) (length (pre ++ codes "."))) is.class ∙ equals (length pre + 1) (length (pre ++ codes ".")) (sym count) in
    let y = f (pre ++ codes ".") (S.dot_after l) split ends in
    record {
      tokens = token x.kind (length pre) 1 ∷ y.tokens;
      lexes = next (x.is (spelled ts)) (subst (λ at. Lexes at true (spelled ts) y.tokens None) count y.lexes);
      laid = L.next (omega arith) (omega arith) is.class is.content (earlier (omega (arith, count)) y.laid);
    }

pub lexed : {dot : Bool} {toks : List Tok} → AreLexed dot toks → (text pre : List ℕ) (d : Option ℕ) → text ≡ pre ++ spelled toks → S.ends_at d (length pre) ≡ dot → IsText text (length pre) dot d toks
lexed none text pre d whole after_dot = record { tokens = []; lexes = ends; laid = L.nothing }
lexed (then_blank {dot} {t} {ts} x blank more) text pre d whole after_dot = over_blank text pre dot d t ts x blank whole after_dot (λ mid e split k. lexed more text mid e split k)
lexed (then_dot {dot} {ts} x more) text pre d whole after_dot = over_dot text pre dot d ts x whole after_dot (λ mid e split k. lexed more text mid e split k)

-- the text of tokens that are lexed as themselves: its tokens, and the lexemes of these
pub text_lexed : (toks : List Tok) → AreLexed false toks → IsText (spelled toks) 0 false None toks
text_lexed toks h = lexed h (spelled toks) [] None refl refl

-- The lexemes of a text say what is lexed as itself: by going along its tokens.
use Rattle.std.proofs.Common.{◌≡◌, ◌⊎◌, refl, ap, sym, subst, ◌∙◌, inl, inr, ℕ, zero, suc, ◌+◌, ◌-◌, ◌≤◌, ◌<◌, Bool, true, false, List, [], ◌∷◌, length, length-drop, take, drop, slice_range, Option, Some, None, arith}
use Rattle.std.specs.Prelude.{◌==◌}
use Rattle.std.proofs.lemmas.Bool.{eqb-true}
use Rattle.std.proofs.lemmas.List.{drop-drop}
use Rattle.aen_base.specs.declared.span.Span.{Span}
use Rattle.rust_lex.specs.declared.token.Kind.{Kind}
use Rattle.rust_lex.specs.declared.token.Token.{Token}
use Rattle.rust_lex.specs.Characters.{begins, begins_two, in_line}
use Rattle.rust_lex.specs.Comments.{Gap, white, line, block, Closes, here, nested, other, begins_line_comment, begins_block_comment}
use Rattle.rust_lex.specs.Lexing.{AreTokens, IsToken, Lexes, ends, gap, next, fault, token, is_dot}
use Rattle.source_grammar.specs.declared.class.Class.{Class}
use Rattle.source_grammar.specs.declared.class.Class.TheVariants as C
use Rattle.source_syntax.specs.Spelled as S
use Rattle.rust_printer.specs.ReadFrom.{AreLexemes}
use Rattle.print_lexed.proofs.Blanks.{none, and_first, and_second}
use Rattle.print_lexed.proofs.Proper.{AreProper}
use Rattle.print_lexed.proofs.Sequences.{dot_cases, differs}
use Rattle.print_lexed.proofs.TextTokens.{Says, token_says}

-- ---- white space and comments have a byte

closes_shorter : {cs rest : List ℕ} → Closes cs rest → length rest ≤ length cs
closes_shorter here = omega arith
closes_shorter (nested a b) = let x = closes_shorter a in let y = closes_shorter b in omega (arith, x, y)
closes_shorter (other p q a) = let x = closes_shorter a in omega (arith, x)

two_bytes : (a b : ℕ) (text : List ℕ) → begins_two a b text ≡ true → 2 ≤ length text
two_bytes a b [] h = absurd cc
two_bytes a b (c ∷ []) h = absurd (none false (and_second (c == a) false h) refl)
two_bytes a b (c ∷ d ∷ text) h = omega arith

in_comment : (text : List ℕ) → begins_line_comment text ≡ true → begins in_line text ≡ false → ⊥
in_comment [] h k = absurd cc
in_comment (c ∷ text) h k =
    let e : c ≡ 47 = eqb-true c 47 (and_first (c == 47) (begins (λ d. d == 47) text) h) in
    none (in_line 47) refl (sym (ap in_line e) ∙ k)

line_byte : (n : ℕ) (text : List ℕ) → begins_line_comment text ≡ true → begins in_line (drop n text) ≡ false → 0 < n
line_byte zero text h e = absurd (in_comment text h e)
line_byte (suc n) text h e = omega arith

block_byte : (n : ℕ) (text : List ℕ) → begins_block_comment text ≡ true → Closes (drop 2 text) (drop n text) → 0 < n
block_byte zero text h c = let x = closes_shorter c in let y = length-drop 2 text in let z = two_bytes 47 42 text h in absurd (omega (arith, x, y, z))
block_byte (suc n) text h c = omega arith

gap_bytes : {n : ℕ} {text : List ℕ} → Gap n text → 0 < n
gap_bytes (white h) = omega arith
gap_bytes (line {n} {text} h l k e) = line_byte n text h e
gap_bytes (block {n} {text} h l c) = block_byte n text h c

-- ---- whether a dot stands directly before

record Follows (d : Option ℕ) (at : ℕ) (dot : Bool) : Type 0 where
  ends_here : S.ends_at d at ≡ true → dot ≡ true
  before : (end : ℕ) → d ≡ Some end → end ≤ at

over_gap : (d : Option ℕ) (at n : ℕ) (dot : Bool) → 0 < n → Follows d at dot → Follows d (at + n) false
over_gap None at n dot p f = record { ends_here = λ e. absurd cc; before = λ end e. absurd cc }
over_gap (Some end) at n dot p f =
    let l = f.before end refl in
    record { ends_here = λ e. none (end == (at + n)) e (differs end (at + n) (omega (arith, l, p))); before = λ other e. (let k = f.before other e in omega (arith, k)) }

some_end : (x y : ℕ) → Some x ≡ Some y → y ≤ x
some_end x y e = let f : x ≡ y = cc in omega (arith, f)

after_token : (c : Class) (end : ℕ) (dot : Bool) → (c ≡ C.Dot → dot ≡ true) → Follows (S.dot_end c end) end dot
after_token c end dot h = by_case (dot_cases c end) where
  by_case : (S.dot_end c end ≡ None) ⊎ (c ≡ C.Dot) → Follows (S.dot_end c end) end dot
  by_case (inl e) = subst (λ d. Follows d end dot) (sym e) (record { ends_here = λ k. absurd cc; before = λ other k. absurd cc })
  by_case (inr e) = subst (λ (x : Class). Follows (S.dot_end x end) end dot) (sym e) (record { ends_here = λ k. h e; before = λ other k. some_end end other k })

-- ---- along the tokens

slice_is : (n at : ℕ) (source text : List ℕ) → text ≡ drop at source → slice_range source at (at + n) ≡ take n text
slice_is n at source text e =
    let k : (at + n) - at ≡ n = omega arith in
    ap (λ m. take m (drop at source)) k ∙ ap (λ x. take n x) (sym e)

says_of : {dot : Bool} {n : ℕ} {kind : Kind} {text : List ℕ} → IsToken dot n kind text → (b : Bool) → (b ≡ true → dot ≡ true) → Says (take n text) (S.class_of kind b (take n text)) (S.content_of kind b (take n text))
says_of {dot} {n} {kind} {text} x b after = token_says dot x.form kind (take n text) x.longest.is x.is_kind b after

all_said : {at : ℕ} {dot : Bool} {text : List ℕ} {ts : List Token} {bad : Option Span} → Lexes at dot text ts bad → (source : List ℕ) → text ≡ drop at source → (d : Option ℕ) → Follows d at dot →
    AreProper (S.lexemes source d ts) × AreLexemes (S.lexemes source d ts)
all_said ends source e d f = (tt, tt)
all_said (fault x) source e d f = (tt, tt)
all_said (gap {at} {n} {after_dot} {text} g r) source e d f =
    all_said r source (ap (λ x. drop n x) e ∙ drop-drop n at source) d (over_gap d at n after_dot (gap_bytes g) f)
all_said (next {at} {n} {after_dot} {text} {ts} {bad} {kind} x r) source e d f =
    let b = S.ends_at d at in
    let l = S.lexeme source d (token kind at n) in
    let said : Says (take n text) l.class l.content = subst (λ w. Says (take n text) (S.class_of kind (S.ends_at d at) w) (S.content_of kind (S.ends_at d at) w)) (sym (slice_is n at source text e)) (says_of x (S.ends_at d at) f.ends_here) in
    let rest = all_said r source (ap (λ x. drop n x) e ∙ drop-drop n at source) (S.dot_after l) (after_token l.class (at + n) (is_dot (take n text)) said.dot) in (
      (record { name = λ h. (said.name h).0; life = said.life; digits = λ h. (said.digits h).0; size = said.size }, rest.0),
      ((λ h. (said.name h).1, λ h. (said.digits h).1), rest.1),
    )

pub all_proper : (source : List ℕ) (ts : List Token) → AreTokens source ts None → AreProper (S.lexemes source None ts) × AreLexemes (S.lexemes source None ts)
all_proper source ts r = all_said r source refl None (record { ends_here = λ e. absurd cc; before = λ end e. absurd cc })

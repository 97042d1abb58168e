-- A text read token by token.
use Rattle.std.proofs.Common.{◌≡◌, refl, ap, sym, subst, ◌∙◌, ℕ, zero, suc, ◌+◌, ◌≤◌, ◌<◌, Bool, true, false, List, [], ◌∷◌, ◌++◌, length, length-append, length-drop, encode_utf8, take, drop, get_or, append_assoc, append-nil, Option, Some, None, IsUtf8, IsCharBoundary, arith}
use Rattle.std.specs.Prelude.{◌==◌}
use Rattle.std.proofs.lemmas.Bool.{eqb-true}
use Rattle.std.proofs.lemmas.Bool.Decides.{nat_tests}
use Rattle.std.proofs.lemmas.List.{drop-drop}
use Rattle.std.proofs.lemmas.Str.{IsUtf8-drop, IsCharBoundary-from_drop, IsCharBoundary-after_ascii, IsCharBoundary-before_ascii, IsCharBoundary-end}
use Rattle.aen_base.specs.declared.span.Span.{Span}
use Rattle.rust_lex.specs.declared.token.Kind.{Kind}
use Rattle.rust_lex.specs.declared.token.Token.{Token}
use Rattle.rust_lex.specs.declared.step.Step.{Step}
use Rattle.rust_lex.specs.declared.step.Step.TheVariants as S
use Rattle.rust_lex.specs.Characters.{begins, in_line}
use Rattle.rust_lex.specs.Comments.{Closes, Gap, white, line, block, begins_line_comment, begins_block_comment}
use Rattle.rust_lex.specs.Lexing.{IsToken, IsFault, string, comment, malformed, stray, span, token, is_dot, Lexes, ends, gap, next, fault, AreTokens, NoOthers}
use Rattle.rust_lex.specs.Scan.{step}
use Rattle.rust_lex.proofs.TestLemmas.{clash, and_left, and_right}
use Rattle.rust_lex.proofs.FirstBytes.{no_form}
use Rattle.rust_lex.proofs.Boundaries.{form_boundary, last_slash}
use Rattle.rust_lex.proofs.StepLemmas.{IsStep, step_right, gap_only, token_only, fault_only}

-- ---- a step goes on inside the text

pub record Advances (n : ℕ) (text : List ℕ) : Type 0 where
  pub some : 1 ≤ n
  pub within : n ≤ length text
  pub boundary : IsCharBoundary text n

line_boundary : (n : ℕ) (text : List ℕ) → IsUtf8 text → n ≤ length text → begins in_line (drop n text) ≡ false → IsCharBoundary text n
line_boundary n text u l h = by_rest (drop n text) refl h
  where
    by_rest : (r : List ℕ) → drop n text ≡ r → begins in_line r ≡ false → IsCharBoundary text n
    by_rest [] e h = let d = ap length (sym e) ∙ length-drop n text in let q : length text ≡ n = omega arith in subst (IsCharBoundary text) q (IsCharBoundary-end text)
    by_rest (c ∷ r) e h =
        let d = ap length (sym e) ∙ length-drop n text in
        let f = first_at n text c r e in
        let g : c ≡ 10 = feed c h in
        IsCharBoundary-before_ascii text n (omega arith) (omega arith)
      where
        feed : (c : ℕ) → in_line c ≡ false → c ≡ 10
        feed c h = grind (arith, nat_tests)

        first_at : (n : ℕ) (text : List ℕ) (c : ℕ) (r : List ℕ) → drop n text ≡ c ∷ r → get_or text n 0 ≡ c
        first_at zero [] c r e = absurd cc
        first_at zero (d ∷ text) c r e = cc
        first_at (suc n) [] c r e = absurd cc
        first_at (suc n) (d ∷ text) c r e = first_at n text c r e

block_boundary : (n : ℕ) (text : List ℕ) → IsUtf8 text → begins_block_comment text ≡ true → n ≤ length text → Closes (drop 2 text) (drop n text) → Advances n text
block_boundary n [] u h l k = absurd cc
block_boundary n (c ∷ []) u h l k = absurd (clash (begins (λ d. d == 42) []) (and_right (c == 47) (begins (λ d. d == 42) []) h) refl)
block_boundary n (c ∷ d ∷ cs) u h l k =
    let s = last_slash cs (drop n (c ∷ d ∷ cs)) k in
    let w = s.within in
    let a = ap length (sym s.left) ∙ length-drop (suc s.before) cs in
    let b = length-drop n (c ∷ d ∷ cs) in
    let q : suc (suc s.before) + 1 ≡ n = omega arith in
    let x : get_or (c ∷ d ∷ cs) (suc (suc s.before)) 0 < 128 = let y = s.slash in omega arith in
    record { some = omega arith; within = l; boundary = subst (IsCharBoundary (c ∷ d ∷ cs)) q (IsCharBoundary-after_ascii (c ∷ d ∷ cs) (suc (suc s.before)) u (omega arith) x) }

line_some : (n : ℕ) (text : List ℕ) → begins_line_comment text ≡ true → begins in_line (drop n text) ≡ false → 1 ≤ n
line_some zero [] h k = absurd cc
line_some zero (c ∷ cs) h k = absurd (let e = eqb-true c 47 (and_left (c == 47) _ h) in clash (in_line c) (ap in_line e) k)
line_some (suc n) text h k = omega arith

pub gap_advances : (n : ℕ) (text : List ℕ) → IsUtf8 text → Gap n text → Advances n text
gap_advances n text u (white {c = c} {cs = cs} h) =
    let x : c < 128 = grind (arith, nat_tests) in
    record { some = omega arith; within = omega arith; boundary = IsCharBoundary-after_ascii (c ∷ cs) 0 u (omega arith) x }
gap_advances n text u (line h l a b) = record { some = line_some n text h b; within = l; boundary = line_boundary n text u l b }
gap_advances n text u (block h l k) = block_boundary n text u h l k

token_some : (dot : Bool) (n : ℕ) (kind : Kind) (text : List ℕ) → IsToken dot n kind text → 1 ≤ n
token_some dot zero kind text t = absurd (no_form dot t.form t.longest.is)
token_some dot (suc n) kind text t = omega arith

pub token_advances : (dot : Bool) (n : ℕ) (kind : Kind) (text : List ℕ) → IsUtf8 text → IsToken dot n kind text → Advances n text
token_advances dot n kind text u t =
    record { some = token_some dot n kind text t; within = t.longest.within; boundary = form_boundary dot t.form n text u t.longest.within t.longest.is }

-- ---- what is left of a text

-- so far these are the text's tokens, and from byte `at` on it is read on
pub record Reads (text : List ℕ) (list : List Token) (at : ℕ) (dot : Bool) : Type 0 where
  pub within : at ≤ length text
  pub utf8 : IsUtf8 (drop at text)
  pub gives : (ts : List Token) (bad : Option Span) → Lexes at dot (drop at text) ts bad → AreTokens text (list ++ ts) bad
  pub only : (ts : List Token) (bad : Option Span) → AreTokens text ts bad → (us : List Token) × (ts ≡ list ++ us) × Lexes at dot (drop at text) us bad

pub reads_start : (text : List ℕ) → IsUtf8 text → Reads text [] 0 false
reads_start text u = record { within = omega arith; utf8 = u; gives = λ ts bad l. l; only = λ ts bad l. (ts, refl, l) }

at_boundary : (text : List ℕ) (at : ℕ) → at ≤ length text → IsUtf8 (drop at text) → IsCharBoundary text at
at_boundary text at l u = IsCharBoundary-from_drop text at l u

pub reads_boundary : (text : List ℕ) (list : List Token) (at : ℕ) (dot : Bool) → Reads text list at dot → IsCharBoundary text at
reads_boundary text list at dot r = IsCharBoundary-from_drop text at r.within r.utf8

-- ---- what a step leaves

abbrev pub Left : ℕ → Step → List ℕ → List Token → Option Span → Type 0
Left at S.End text ts bad = (ts ≡ []) × (bad ≡ None)
Left at (S.Gap n) text ts bad = Lexes (at + n) false (drop n text) ts bad
Left at (S.Token kind n) text ts bad = (us : List Token) × (ts ≡ token kind at n ∷ us) × Lexes (at + n) (is_dot (take n text)) (drop n text) us bad
Left at (S.Fault n) text ts bad = (ts ≡ []) × (bad ≡ Some (span at n))

nothing : (dot : Bool) → step dot [] ≡ S.End
unfolding step
nothing dot = refl

left_of : (at : ℕ) (dot : Bool) (text : List ℕ) (ts : List Token) (bad : Option Span) → IsUtf8 text → Lexes at dot text ts bad → Left at (step dot text) text ts bad
left_of at dot text ts bad u (ends) = subst (λ s. Left at s [] [] None) (sym (nothing dot)) (refl, refl)
left_of at dot text ts bad u (gap {n = n} g l) = subst (λ s. Left at s text ts bad) (sym (gap_only dot n text g)) l
left_of at dot text ts bad u (next {n = n} {ts = us} {kind = kind} t l) = subst (λ s. Left at s text (token kind at n ∷ us) bad) (sym (token_only dot n kind text u t)) (us, refl, l)
left_of at dot text ts bad u (fault {n = n} f) = subst (λ s. Left at s text [] (Some (span at n))) (sym (fault_only dot n text u f)) (refl, refl)

left_by : (s : Step) (at : ℕ) (dot : Bool) (text : List ℕ) (ts : List Token) (bad : Option Span) → IsUtf8 text → step dot text ≡ s → Lexes at dot text ts bad → Left at s text ts bad
left_by s at dot text ts bad u e l = subst (λ s. Left at s text ts bad) e (left_of at dot text ts bad u l)

right_by : (s : Step) (dot : Bool) (text : List ℕ) → IsUtf8 text → step dot text ≡ s → IsStep dot text s
right_by s dot text u e = subst (IsStep dot text) e (step_right dot text u)

-- ---- the turns

on_utf8 : (at n : ℕ) (text : List ℕ) → IsUtf8 (drop at text) → IsCharBoundary (drop at text) n → IsUtf8 (drop (at + n) text)
on_utf8 at n text u b = subst IsUtf8 (drop-drop n at text) (IsUtf8-drop (drop at text) n u b)

inside : (at n : ℕ) (text : List ℕ) → at ≤ length text → n ≤ length (drop at text) → at + n ≤ length text
inside at n text h k = let d = length-drop at text in omega arith

pub gap_turn : (text : List ℕ) (list : List Token) (at n : ℕ) (dot : Bool) → Reads text list at dot → step dot (drop at text) ≡ S.Gap n → Reads text list (at + n) false
gap_turn text list at n dot r e =
    let g : Gap n (drop at text) = right_by (S.Gap n) dot (drop at text) r.utf8 e in
    let a = gap_advances n (drop at text) r.utf8 g in
    let d = drop-drop n at text in
    record {
      within = inside at n text r.within a.within;
      utf8 = on_utf8 at n text r.utf8 a.boundary;
      gives = λ ts bad l. r.gives ts bad (gap g (subst (λ x. Lexes (at + n) false x ts bad) (sym d) l));
      only = λ ts bad l.
          let (us, p, m) = r.only ts bad l in
          (us, p, subst (λ x. Lexes (at + n) false x us bad) d (left_by (S.Gap n) at dot (drop at text) us bad r.utf8 e m));
    }

pub token_turn : (text : List ℕ) (list list' : List Token) (at n : ℕ) (dot dot' : Bool) (kind : Kind) → Reads text list at dot → step dot (drop at text) ≡ S.Token kind n →
    list' ≡ list ++ token kind at n ∷ [] → dot' ≡ is_dot (take n (drop at text)) → Reads text list' (at + n) dot'
token_turn text list list' at n dot dot' kind r e p q =
    let t : IsToken dot n kind (drop at text) = right_by (S.Token kind n) dot (drop at text) r.utf8 e in
    let a = token_advances dot n kind (drop at text) r.utf8 t in
    let d = drop-drop n at text in
    let one = token kind at n ∷ [] in
    record {
      within = inside at n text r.within a.within;
      utf8 = on_utf8 at n text r.utf8 a.boundary;
      gives = λ ts bad l.
          let m = subst (λ x. Lexes (at + n) x (drop n (drop at text)) ts bad) q (subst (λ x. Lexes (at + n) dot' x ts bad) (sym d) l) in
          subst (λ x. AreTokens text x bad) (sym (ap (λ x. x ++ ts) p ∙ append_assoc list one ts)) (r.gives (token kind at n ∷ ts) bad (next t m));
      only = λ ts bad l.
          let (us, f, m) = r.only ts bad l in
          let (vs, g, k) = left_by (S.Token kind n) at dot (drop at text) us bad r.utf8 e m in (
            vs,
            f ∙ ap (λ x. list ++ x) g ∙ sym (ap (λ x. x ++ vs) p ∙ append_assoc list one vs),
            subst (λ x. Lexes (at + n) x (drop (at + n) text) vs bad) (sym q) (subst (λ x. Lexes (at + n) (is_dot (take n (drop at text))) x vs bad) d k),
          );
    }

-- these are the tokens and the fault of a text, and nothing else is
pub record IsWhole (text : List ℕ) (list : List Token) (bad : Option Span) : Type 0 where
  pub tokens : AreTokens text list bad
  pub only : NoOthers text list bad

last_part : (text : List ℕ) (list : List Token) (at : ℕ) (dot : Bool) (bad : Option Span) → Reads text list at dot → Lexes at dot (drop at text) [] bad →
    ((us : List Token) (b : Option Span) → Lexes at dot (drop at text) us b → (us ≡ []) × (b ≡ bad)) → IsWhole text list bad
last_part text list at dot bad r l f =
    record {
      tokens = subst (λ x. AreTokens text x bad) (append-nil list) (r.gives [] bad l);
      only = λ ts b m.
          let (us, p, k) = r.only ts b m in
          let (e, g) = f us b k in
          (p ∙ ap (λ x. list ++ x) e ∙ append-nil list, g);
    }

pub end_turn : (text : List ℕ) (list : List Token) (at : ℕ) (dot : Bool) → Reads text list at dot → step dot (drop at text) ≡ S.End → IsWhole text list None
end_turn text list at dot r e =
    let n : drop at text ≡ [] = right_by S.End dot (drop at text) r.utf8 e in
    last_part text list at dot None r (subst (λ x. Lexes at dot x [] None) (sym n) ends) (λ us b l. left_by S.End at dot (drop at text) us b r.utf8 e l)

pub fault_turn : (text : List ℕ) (list : List Token) (at n : ℕ) (dot : Bool) → Reads text list at dot → step dot (drop at text) ≡ S.Fault n → IsWhole text list (Some (span at n))
fault_turn text list at n dot r e =
    let f : IsFault dot n (drop at text) = right_by (S.Fault n) dot (drop at text) r.utf8 e in
    last_part text list at dot (Some (span at n)) r (fault f) (λ us b l. left_by (S.Fault n) at dot (drop at text) us b r.utf8 e l)

-- ---- how far a step goes

pub gap_far : (text : List ℕ) (list : List Token) (at n : ℕ) (dot : Bool) → Reads text list at dot → step dot (drop at text) ≡ S.Gap n → (1 ≤ n) × (at + n ≤ length text)
gap_far text list at n dot r e =
    let a = gap_advances n (drop at text) r.utf8 (right_by (S.Gap n) dot (drop at text) r.utf8 e) in
    (a.some, inside at n text r.within a.within)

pub token_far : (text : List ℕ) (list : List Token) (at n : ℕ) (dot : Bool) (kind : Kind) → Reads text list at dot → step dot (drop at text) ≡ S.Token kind n →
    (1 ≤ n) × (at + n ≤ length text) × (n ≤ length (drop at text))
token_far text list at n dot kind r e =
    let a = token_advances dot n kind (drop at text) r.utf8 (right_by (S.Token kind n) dot (drop at text) r.utf8 e) in
    (a.some, inside at n text r.within a.within, a.within)

fault_within : (dot : Bool) (n : ℕ) (text : List ℕ) → IsFault dot n text → n ≤ length text
fault_within dot n text (string h k) = omega arith
fault_within dot n text (comment h k) = omega arith
fault_within dot n text (malformed form a h e) = a.within
fault_within dot n text (stray c rest e w h q f) = let l = ap length e ∙ length-append (encode_utf8 c) rest in omega arith

pub fault_far : (text : List ℕ) (list : List Token) (at n : ℕ) (dot : Bool) → Reads text list at dot → step dot (drop at text) ≡ S.Fault n → at + n ≤ length text
fault_far text list at n dot r e = inside at n text r.within (fault_within dot n (drop at text) (right_by (S.Fault n) dot (drop at text) r.utf8 e))

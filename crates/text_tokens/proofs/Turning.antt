-- A turn of the loop that cuts a text.
use Rattle.std.proofs.Common.{◌≡◌, sym, ◌∙◌, ℕ, suc, ◌+◌, ◌-◌, ◌<◌, ◌≤◌, min, List, [], ◌∷◌, ◌++◌, length, get_or, append-nil, append_assoc, Some, None, arith}
use Rattle.aen_base.specs.declared.span.Span.{Span}
use Rattle.text_meaning.specs.Lexing.{is_space}
use Rattle.text_tokens.specs.declared.lexeme.LexemeKind.{LexemeKind}
use Rattle.text_tokens.specs.declared.lexeme.Lexeme.{Lexeme}
use Rattle.text_tokens.specs.declared.lexeme.Lexemes.{Lexemes}
use Rattle.text_tokens.specs.Fronts.{back, past}
use Rattle.text_tokens.specs.Scan.{cut, prepend, whole, span, width, lexeme, lexeme_at}

left : (n k : ℕ) → k < n → n - k ≡ suc (n - (k + 1))
left n k h = omega arith

alone : (list : List Lexeme) (total : Lexemes) → prepend list whole ≡ total → record { list = list; fault = None } ≡ total
alone list total h = (λ i. record { list = sym (append-nil list) i; fault = None }) ∙ h

pub empty_turn : (list : List Lexeme) (end n k : ℕ) (rest : List ℕ) (total : Lexemes) → k < n → length rest < 1 →
    prepend list (cut end (n - k) rest) ≡ total → record { list = list; fault = None } ≡ total
unfolding cut
empty_turn list end n k [] total h z e = let e2 = rw (left n k h) at e in alone list total e2
empty_turn list end n k (c ∷ cs) total h z e = absurd (omega arith)

pub end_turn : (list : List Lexeme) (end n k : ℕ) (rest : List ℕ) (total : Lexemes) → n ≤ k →
    prepend list (cut end (n - k) rest) ≡ total → record { list = list; fault = None } ≡ total
unfolding cut
end_turn list end n k rest total h e = let z : n - k ≡ 0 = omega arith in let e2 = rw z at e in alone list total e2

pub fault_turn : (list : List Lexeme) (end n k : ℕ) (rest : List ℕ) (s : Span) (total : Lexemes) → k < n → 1 ≤ length rest →
    lexeme_at (get_or rest 0 0) (past rest) ≡ None →
    s ≡ span (end - length rest) (end - length rest + min (width (get_or rest 0 0)) (length rest)) →
    prepend list (cut end (n - k) rest) ≡ total → record { list = list; fault = Some s } ≡ total
unfolding cut
fault_turn list end n k [] s total h z x p e = absurd (omega arith)
fault_turn list end n k (c ∷ cs) s total h z x p e =
    let e2 = rw (left n k h, x) at e in
    (λ i. record { list = sym (append-nil list) i; fault = Some (p i) }) ∙ e2

pub more_turn : (list list' : List Lexeme) (end n k : ℕ) (rest rest' after : List ℕ) (kind : LexemeKind) (s : Span) (total : Lexemes) → k < n → 1 ≤ length rest →
    lexeme_at (get_or rest 0 0) (past rest) ≡ Some (kind, after) →
    s ≡ span (end - length rest) (end - length after) →
    list' ≡ list ++ record { kind = kind; span = s } ∷ [] → rest' ≡ back is_space after →
    prepend list (cut end (n - k) rest) ≡ total → prepend list' (cut end (n - (k + 1)) rest') ≡ total
unfolding cut
more_turn list list' end n k [] rest' after kind s total h z x p q r e = absurd (omega arith)
more_turn list list' end n k (c ∷ cs) rest' after kind s total h z x p q r e =
    let e2 = rw (left n k h, x) at e in
    let cutting = cut end (n - (k + 1)) (back is_space after) in
    rw (q, r, p) ((λ i. record { list = append_assoc list (lexeme kind (end - length (c ∷ cs)) (end - length after) ∷ []) cutting.list i; fault = cutting.fault }) ∙ e2)

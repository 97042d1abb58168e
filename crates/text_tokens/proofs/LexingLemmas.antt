-- What is cut off a text are its lexemes, and no others are.
use Rattle.std.proofs.Common.{◌≡◌, refl, ap, sym, subst, ◌∙◌, ℕ, zero, suc, ◌+◌, ◌-◌, ◌≤◌, true, false, List, [], ◌∷◌, ◌++◌, length, length-append, append-nil, Option, Some, None, arith}
use Rattle.std.specs.Prelude.{min}
use Rattle.aen_base.specs.declared.span.Span.{Span}
use Rattle.text_meaning.specs.Names.{begins}
use Rattle.text_meaning.specs.Lexing.{is_space, is_gap}
use Rattle.text_tokens.specs.declared.lexeme.Lexeme.{Lexeme}
use Rattle.text_tokens.specs.declared.lexeme.Lexemes.{Lexemes}
use Rattle.text_tokens.specs.Fronts.{front, back}
use Rattle.text_tokens.specs.Lexing.{NoLexeme, Lexes, ends, next, stray, IsLexed, NoOthers}
use Rattle.text_tokens.specs.Scan.{Next, cut, cut_then, cut_text, prepend, whole, faulty, span, width, lexeme, lexeme_at}
use Rattle.text_tokens.proofs.Exact.{step, back_short, gap_back}
use Rattle.text_tokens.proofs.Fronting.{all_front, front_back, back_all, begins_back}
use Rattle.text_tokens.proofs.Spellings.{found_at, kind_starts, next_at}

-- ---- what is cut off

-- nothing is left but white space
gap_left : (text : List ℕ) → [] ≡ back is_space text → is_gap text ≡ true
gap_left text e =
    let f : front is_space text ≡ text = sym (append-nil (front is_space text)) ∙ ap (λ x. front is_space text ++ x) e ∙ front_back is_space text in
    subst (λ x. is_gap x ≡ true) f (all_front is_space text)

-- where the ink begins
ink_at : (end at : ℕ) (text cs : List ℕ) → at + length text ≡ end → cs ≡ back is_space text → at + length (front is_space text) ≡ end - length cs
ink_at end at text cs e h =
    let l = ap length (sym (front_back is_space text)) ∙ length-append (front is_space text) (back is_space text) in
    let k = ap length h in
    omega arith

none_here : (c : ℕ) (cs : List ℕ) → lexeme_at c cs ≡ None → NoLexeme (c ∷ cs)
none_here c cs h kind spelling rest e s =
    let f = kind_starts kind spelling rest s in
    let g : next_at (c ∷ cs) ≡ Some (kind, rest) = ap next_at e ∙ f.next in
    let i : None ≡ Some (kind, rest) = sym h ∙ g in
    absurd cc

cuts_step : (o : Next) (end n at c : ℕ) (text cs : List ℕ) → at + length text ≡ end → c ∷ cs ≡ back is_space text → length (c ∷ cs) ≤ suc n → lexeme_at c cs ≡ o →
    ((from : ℕ) (rest : List ℕ) → from + length rest ≡ end → length (back is_space rest) ≤ n →
    Lexes from rest (cut end n (back is_space rest)).list (cut end n (back is_space rest)).fault) →
    Lexes at text (cut_then end (length (c ∷ cs)) c o (λ rest. cut end n (back is_space rest))).list
    (cut_then end (length (c ∷ cs)) c o (λ rest. cut end n (back is_space rest))).fault
cuts_step None end n at c text cs e h l x again =
    let p = ink_at end at text (c ∷ cs) e h in
    let s = sym (front_back is_space text) ∙ ap (λ y. front is_space text ++ y) (sym h) in
    let i : begins is_space (c ∷ cs) ≡ false = subst (λ y. begins is_space y ≡ false) (sym h) (begins_back is_space text) in
    subst (λ k. Lexes at text [] (Some (span k (k + min (width c) (length (c ∷ cs)))))) p
    (stray (front is_space text) c cs s (all_front is_space text) i (none_here c cs x))
cuts_step (Some q) end n at c text cs e h l x again =
    let p = ink_at end at text (c ∷ cs) e h in
    let g = found_at c cs q.0 q.1 x in
    let long = g.long in
    let len = ap length g.split ∙ length-append g.spelling q.1 in
    let all = ap length (sym (front_back is_space text)) ∙ length-append (front is_space text) (back is_space text) in
    let ink = ap length h in
    let short = back_short q.1 in
    let here : at + length (front is_space text) + length g.spelling ≡ end - length q.1 = omega arith in
    let s = sym (front_back is_space text) ∙ ap (λ y. front is_space text ++ y) (sym h ∙ g.split) in
    let later = again (at + length (front is_space text) + length g.spelling) q.1 (omega arith) (omega arith) in
    subst (λ k. Lexes at text (lexeme q.0 k (end - length q.1) ∷ (cut end n (back is_space q.1)).list) (cut end n (back is_space q.1)).fault) p
    (subst (λ k. Lexes at text (lexeme q.0 (at + length (front is_space text)) k ∷ (cut end n (back is_space q.1)).list) (cut end n (back is_space q.1)).fault) here
    (next (front is_space text) g.spelling q.1 q.0 s (all_front is_space text) g.is later))

cuts_from : (end n at : ℕ) (text cs : List ℕ) → at + length text ≡ end → cs ≡ back is_space text → length cs ≤ n →
    Lexes at text (cut end n cs).list (cut end n cs).fault
unfolding cut
cuts_from end zero at text [] e h l = ends (gap_left text h)
cuts_from end zero at text (c ∷ cs) e h l = absurd (omega arith)
cuts_from end (suc n) at text [] e h l = ends (gap_left text h)
cuts_from end (suc n) at text (c ∷ cs) e h l =
    cuts_step (lexeme_at c cs) end n at c text cs e h l refl (λ from rest f k. cuts_from end n from rest (back is_space rest) f refl k)

pub cut_lexes : (text : List ℕ) (l : Lexemes) → l ≡ cut_text text → IsLexed text l.list l.fault
unfolding cut_text
cut_lexes text l e =
    let c = cuts_from (length text) (length text) 0 text (back is_space text) (omega arith) refl (back_short text) in
    subst (λ (k : Lexemes). IsLexed text k.list k.fault) (sym e) c

-- ---- nothing else is

abbrev cutting : List Lexeme → Option Span → Lexemes
cutting ls bad = record { list = ls; fault = bad }

nothing_cut : (end n : ℕ) → cut end n [] ≡ whole
unfolding cut
nothing_cut end zero = refl
nothing_cut end (suc n) = refl

fault_cut : (end m c : ℕ) (cs : List ℕ) → lexeme_at c cs ≡ None →
    cut end (suc m) (c ∷ cs) ≡ faulty (end - length (c ∷ cs)) (end - length (c ∷ cs) + min (width c) (length (c ∷ cs)))
unfolding cut
fault_cut end m c cs h = rw h refl

no_lexeme : (o : Next) (c : ℕ) (cs : List ℕ) → lexeme_at c cs ≡ o → NoLexeme (c ∷ cs) → lexeme_at c cs ≡ None
no_lexeme None c cs h n = h
no_lexeme (Some p) c cs h n = let f = found_at c cs p.0 p.1 h in absurd (n p.0 f.spelling p.1 f.split f.is)

only_from : (end n at : ℕ) (text : List ℕ) (ls : List Lexeme) (bad : Option Span) → Lexes at text ls bad → at + length text ≡ end →
    length (back is_space text) ≤ n → cutting ls bad ≡ cut end n (back is_space text)
only_from end n at text ls bad (ends g) e l = sym (nothing_cut end n) ∙ ap (cut end n) (sym (gap_back text g))
only_from end zero at text ls bad (next gap spelling rest kind s g k later) e l =
    let f = kind_starts kind spelling rest k in
    let b = ap (back is_space) s ∙ back_all is_space gap (spelling ++ rest) g f.ink in
    let long = f.long in
    let len = length-append spelling rest in
    let blen = ap length b in
    absurd (omega arith)
only_from end (suc m) at text ls bad (next {ls = ms} gap spelling rest kind s g k later) e l =
    let f = kind_starts kind spelling rest k in
    let b = ap (back is_space) s ∙ back_all is_space gap (spelling ++ rest) g f.ink in
    let long = f.long in
    let len = length-append spelling rest in
    let blen = ap length b in
    let short = back_short rest in
    let all = ap length s ∙ length-append gap (spelling ++ rest) in
    let r = only_from end m (at + length gap + length spelling) rest ms bad later (omega arith) (omega arith) in
    let lo : at + length gap ≡ end - length (spelling ++ rest) = omega arith in
    let hi : at + length gap + length spelling ≡ end - length rest = omega arith in
    (λ i. prepend (lexeme kind (lo i) (hi i) ∷ []) (r i)) ∙ sym (step end m (spelling ++ rest) rest kind f.next) ∙ ap (cut end (suc m)) (sym b)
only_from end zero at text ls bad (stray gap c rest s g i k) e l =
    let b = ap length (ap (back is_space) s ∙ back_all is_space gap (c ∷ rest) g i) in absurd (omega arith)
only_from end (suc m) at text ls bad (stray gap c rest s g i k) e l =
    let b = ap (back is_space) s ∙ back_all is_space gap (c ∷ rest) g i in
    let all = ap length s ∙ length-append gap (c ∷ rest) in
    let lo : at + length gap ≡ end - length (c ∷ rest) = omega arith in
    (λ j. faulty (lo j) (lo j + min (width c) (length (c ∷ rest)))) ∙ sym (fault_cut end m c rest (no_lexeme (lexeme_at c rest) c rest refl k)) ∙ ap (cut end (suc m)) (sym b)

pub no_others : (text : List ℕ) (l : Lexemes) → l ≡ cut_text text → NoOthers text l.list l.fault
unfolding cut_text
no_others text l e ms other h =
    let r = only_from (length text) (length text) 0 text ms other h (omega arith) (back_short text) ∙ sym e in
    (ap (λ x. x.list) r, ap (λ x. x.fault) r)

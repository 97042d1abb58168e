-- The tokens of a text are those that its lexemes stand for.
use Rattle.std.proofs.Common.{◌≡◌, refl, ap, sym, subst, ◌∙◌, ℕ, zero, suc, ◌-◌, ◌≤◌, true, List, [], ◌∷◌, ◌++◌, length, length-append, append-nil, Some, None, arith}
use Rattle.text_meaning.specs.Tokens.{Token}
use Rattle.text_meaning.specs.Lists.{Each}
use Rattle.text_meaning.specs.Lexing.{Lexed, is_space, is_gap}
use Rattle.text_tokens.specs.declared.lexeme.LexemeKind.{LexemeKind}
use Rattle.text_tokens.specs.declared.lexeme.Lexemes.{Lexemes}
use Rattle.text_tokens.specs.Fronts.{front, back}
use Rattle.text_tokens.specs.Scan.{Next, cut, cut_then, cut_text, prepend, lexeme, lexeme_at}
use Rattle.text_tokens.specs.Stands.{AllStand, IsProper, AreLexemes, HasNoTokens}
use Rattle.text_tokens.proofs.Fronting.{all_front, front_back, back_all}
use Rattle.text_tokens.proofs.Spellings.{token_starts, found_at, token_of, next_at}

-- one lexeme is cut off
pub step : (end m : ℕ) (text rest : List ℕ) (kind : LexemeKind) → next_at text ≡ Some (kind, rest) →
    cut end (suc m) text ≡ prepend (lexeme kind (end - length text) (end - length rest) ∷ []) (cut end m (back is_space rest))
unfolding cut
step end m [] rest kind h = absurd cc
step end m (c ∷ cs) rest kind h = rw h refl

pub back_short : (cs : List ℕ) → length (back is_space cs) ≤ length cs
back_short cs = omega (arith, ap length (front_back is_space cs), length-append (front is_space cs) (back is_space cs))

pub gap_back : (text : List ℕ) → is_gap text ≡ true → back is_space text ≡ []
gap_back text h = ap (back is_space) (sym (append-nil text)) ∙ back_all is_space text [] h refl

pub record Complete (cutting : Lexemes) (ts : List Token) : Type 0 where
  pub clean : cutting.fault ≡ None
  pub stand : AllStand cutting.list ts

whole_complete : (end n : ℕ) → Complete (cut end n []) []
unfolding cut
whole_complete end zero = record { clean = refl; stand = tt }
whole_complete end (suc n) = record { clean = refl; stand = tt }

pub complete : (end n : ℕ) (text : List ℕ) (ts : List Token) → length (back is_space text) ≤ n → Each IsProper ts → Lexed ts text →
    Complete (cut end n (back is_space text)) ts
complete end n text [] h p l = rw (gap_back text l) (whole_complete end n)
complete end zero text (t ∷ ts) h p l =
    let s = token_starts t l.spelling l.rest l.token p.0 in
    let b = ap (back is_space) l.split ∙ back_all is_space l.gap (l.spelling ++ l.rest) l.space s.ink in
    let long = s.long in
    let len = length-append l.spelling l.rest in
    let blen = ap length b in
    absurd (omega arith)
complete end (suc m) text (t ∷ ts) h p l =
    let s = token_starts t l.spelling l.rest l.token p.0 in
    let b = ap (back is_space) l.split ∙ back_all is_space l.gap (l.spelling ++ l.rest) l.space s.ink in
    let e = step end m (l.spelling ++ l.rest) l.rest s.kind s.next in
    let long = s.long in
    let short = back_short l.rest in
    let len = length-append l.spelling l.rest in
    let blen = ap length b in
    let r = complete end m l.rest ts (omega arith) p.1 l.later in
    rw (b, e) (record { clean = r.clean; stand = (s.stands, r.stand) })

-- what is left is empty
none_left : (text : List ℕ) (ts : List Token) → [] ≡ back is_space text → AllStand [] ts → Lexed ts text
none_left text [] e a =
    let whole = front_back is_space text in
    let f : front is_space text ≡ text = sym (append-nil (front is_space text)) ∙ ap (λ x. front is_space text ++ x) e ∙ whole in
    subst (λ x. is_gap x ≡ true) f (all_front is_space text)
none_left text (t ∷ ts) e a = absurd a

sound_step : (o : Next) (end n c : ℕ) (text cs : List ℕ) (ts : List Token) → c ∷ cs ≡ back is_space text → length (c ∷ cs) ≤ suc n → lexeme_at c cs ≡ o →
    (cut_then end (length (c ∷ cs)) c o (λ rest. cut end n (back is_space rest))).fault ≡ None →
    AllStand (cut_then end (length (c ∷ cs)) c o (λ rest. cut end n (back is_space rest))).list ts →
    ((rest : List ℕ) (us : List Token) → length (back is_space rest) ≤ n → (cut end n (back is_space rest)).fault ≡ None → AllStand (cut end n (back is_space rest)).list us → Lexed us rest) →
    Lexed ts text
sound_step None end n c text cs ts e h x f a again = absurd cc
sound_step (Some p) end n c text cs [] e h x f a again = absurd a
sound_step (Some p) end n c text cs (t ∷ ts) e h x f a again =
    let g = found_at c cs p.0 p.1 x in
    let long = g.long in
    let len = ap length g.split ∙ length-append g.spelling p.1 in
    let short = back_short p.1 in
    record {
      gap = front is_space text;
      spelling = g.spelling;
      rest = p.1;
      space = all_front is_space text;
      split = sym (front_back is_space text) ∙ ap (λ x. front is_space text ++ x) (sym e ∙ g.split);
      token = token_of p.0 t g.spelling p.1 g.is a.0;
      later = again p.1 ts (omega arith) f a.1;
    }

pub sound_from : (end n : ℕ) (text cs : List ℕ) (ts : List Token) → cs ≡ back is_space text → length cs ≤ n →
    (cut end n cs).fault ≡ None → AllStand (cut end n cs).list ts → Lexed ts text
unfolding cut
sound_from end zero text [] ts e h f a = none_left text ts e a
sound_from end zero text (c ∷ cs) ts e h f a = absurd (omega arith)
sound_from end (suc n) text [] ts e h f a = none_left text ts e a
sound_from end (suc n) text (c ∷ cs) ts e h f a =
    sound_step (lexeme_at c cs) end n c text cs ts e h refl f a (λ rest us k g b. sound_from end n rest (back is_space rest) us refl k g b)

-- the whole text
pub lexemes_exact : (text : List ℕ) (l : Lexemes) → l ≡ cut_text text → l.fault ≡ None → AreLexemes l.list text
unfolding cut_text
lexemes_exact text l e f ts p =
    let k : AllStand l.list ts → Lexed ts text = λ a.
    let f2 = rw e at f in let a2 = rw e at a in
    sound_from (length text) (length text) text (back is_space text) ts refl (back_short text) f2 a2 in
    ((λ h. rw e (complete (length text) (length text) text ts (back_short text) p h).stand), k)

clean_none : {G : Type 0} (l m : Lexemes) → l ≡ m → m.fault ≡ None → (l.fault ≡ None → ⊥) → G
clean_none l m e f h = absurd (h (ap (λ x. x.fault) e ∙ f))

pub lexemes_none : (text : List ℕ) (l : Lexemes) → l ≡ cut_text text → (l.fault ≡ None → ⊥) → HasNoTokens text
unfolding cut_text
lexemes_none text l e f ts p h =
    clean_none l (cut (length text) (length text) (back is_space text)) e (complete (length text) (length text) text ts (back_short text) p h).clean f

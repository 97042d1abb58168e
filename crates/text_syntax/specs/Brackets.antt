-- How many brackets are open at once: at most 10,000 (TEXT.md, "Limits").
use Rattle.std.specs.Prelude.{◌≡◌, refl, ℕ, suc, ◌-◌, Bool, true, false, ◌&&◌, if◌then◌else◌, nat_lt, List, [], ◌∷◌}
use Rattle.std.proofs.Common.{ap, sym}
use denote.Enum.Bare.{sameb}
use Rattle.text_meaning.specs.contracts.mark.Mark.{the_type}
use Rattle.text_meaning.specs.declared.mark.Mark.{Mark}
use Rattle.text_meaning.specs.declared.mark.Mark.TheVariants as M
use Rattle.text_meaning.specs.Tokens.{Token, word, id, number, mark}
use Rattle.text_tokens.specs.declared.lexeme.Lexeme.{Lexeme}
use Rattle.text_tokens.specs.declared.lexeme.LexemeKind.{LexemeKind}
use Rattle.text_tokens.specs.declared.lexeme.LexemeKind.TheVariants.{Word, Marked, Number, Punct}
use Rattle.text_tokens.specs.Stands.{Stands, AllStand}

abbrev pub is_token : Mark → Token → Bool
is_token m (mark k) = sameb the_type k m
is_token m _ = false

abbrev pub is_mark : Mark → LexemeKind → Bool
is_mark m (Punct k) = sameb the_type k m
is_mark m _ = false

-- at most 10,000 brackets are open at once, where so many are open before
abbrev pub few_open : ℕ → List Token → Bool
few_open held [] = true
few_open held (t ∷ ts) =
    if is_token M.Open t then nat_lt held 10000 && few_open (suc held) ts
    else (if is_token M.Close t then few_open (held - 1) ts else few_open held ts)

-- the same of lexemes
abbrev pub few_lexemes : ℕ → List Lexeme → Bool
few_lexemes held [] = true
few_lexemes held (l ∷ ls) =
    if is_mark M.Open l.kind then nat_lt held 10000 && few_lexemes (suc held) ls
    else (if is_mark M.Close l.kind then few_lexemes (held - 1) ls else few_lexemes held ls)

same_mark : (m : Mark) (k : LexemeKind) (t : Token) → Stands k t → is_mark m k ≡ is_token m t
same_mark m (Word w) (word v) h = refl
same_mark m (Word w) (id n) h = refl
same_mark m (Word w) (number z) h = absurd h
same_mark m (Word w) (mark k) h = absurd h
same_mark m (Marked n) (word v) h = absurd h
same_mark m (Marked n) (id k) h = refl
same_mark m (Marked n) (number z) h = absurd h
same_mark m (Marked n) (mark k) h = absurd h
same_mark m (Number s) (word v) h = absurd h
same_mark m (Number s) (id n) h = absurd h
same_mark m (Number s) (number z) h = refl
same_mark m (Number s) (mark k) h = absurd h
same_mark m (Punct j) (word v) h = absurd h
same_mark m (Punct j) (id n) h = absurd h
same_mark m (Punct j) (number z) h = absurd h
same_mark m (Punct j) (mark k) h = ap (λ x. sameb the_type x m) (sym h)

abbrev counted : Bool → Bool → Bool → Bool → Bool → Bool
counted opens closes more fewer same = if opens then more else (if closes then fewer else same)

-- lexemes that stand for tokens have their brackets
pub same_few : (ls : List Lexeme) (ts : List Token) (held : ℕ) → AllStand ls ts → few_lexemes held ls ≡ few_open held ts
same_few [] [] held h = refl
same_few [] (t ∷ ts) held h = absurd h
same_few (l ∷ ls) [] held h = absurd h
same_few (l ∷ ls) (t ∷ ts) held h =
    let o = same_mark M.Open l.kind t h.0 in
    let c = same_mark M.Close l.kind t h.0 in
    let a = same_few ls ts (suc held) h.1 in
    let b = same_few ls ts (held - 1) h.1 in
    let d = same_few ls ts held h.1 in
    (λ i. counted (o i) (c i) (nat_lt held 10000 && a i) (b i) (d i))

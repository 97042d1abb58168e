-- A piece of text that is lexed as its tokens wherever what follows allows it, and how pieces join.
use Rattle.std.proofs.Common.{◌≡◌, refl, ap, sym, ◌∙◌, ℕ, Bool, true, false, not, ◌&&◌, List, [], ◌∷◌, ◌++◌, append_assoc}
use Rattle.std.specs.Prelude.{◌==◌, if◌then◌else◌}
use Rattle.std.specs.List.{flat_map}
use Rattle.std.specs.Char.{is_ascii_digit}
use Rattle.std.specs.Fmt.{signed_decimal}
use Rattle.std.proofs.lemmas.List.Folds.{list_all-append}
use Rattle.text_meaning.specs.Lists.{Each}
use Rattle.text_meaning.specs.Names.{begins, is_word_byte}
use Rattle.text_meaning.specs.Tokens.{Token, word, id, number, mark, mark_text}
use Rattle.text_meaning.specs.Lexing.{Lexed, IsToken, is_gap, is_space, goes_on}

-- no word goes on here
abbrev pub free : List ℕ → Bool
free rest = not (begins is_word_byte rest)

-- `(` is no `()` here
abbrev pub apart : List ℕ → Bool
apart rest = not (begins (λ c. c == 41) rest)

-- before a rest with p, the text is these tokens, and it begins with s
pub record Lays (s p : List ℕ → Bool) (text : List ℕ) (toks : List Token) : Type 0 where
  pub run : (rest : List ℕ) (ts : List Token) → p rest ≡ true → Lexed ts rest → Lexed (toks ++ ts) (text ++ rest)
  pub start : (rest : List ℕ) → p rest ≡ true → s (text ++ rest) ≡ true

pub seq : {s m p : List ℕ → Bool} {a b : List ℕ} {us vs : List Token} → Lays s m a us → Lays m p b vs → Lays s p (a ++ b) (us ++ vs)
seq {s} {m} {p} {a} {b} {us} {vs} x y = record {
  run = λ rest ts h l. coe 1 0 (i. Lexed (append_assoc us vs ts i) (append_assoc a b rest i)) (x.run (b ++ rest) (vs ++ ts) (y.start rest h) (y.run rest ts h l));
  start = λ rest h. ap s (append_assoc a b rest) ∙ x.start (b ++ rest) (y.start rest h);
}

pub nothing : {s : List ℕ → Bool} → Lays s s [] []
nothing = record { run = λ rest ts h l. l; start = λ rest h. h }

-- white space before tokens
and_true : (a b : Bool) → a ≡ true → b ≡ true → (a && b) ≡ true
and_true a b p q = (λ i. p i && b) ∙ q

pub gap_append : (g h : List ℕ) → is_gap g ≡ true → is_gap h ≡ true → is_gap (g ++ h) ≡ true
gap_append g h p q = list_all-append is_space g h ∙ and_true (is_gap g) (is_gap h) p q

pub gap_run : (g : List ℕ) → is_gap g ≡ true → (ts : List Token) (rest : List ℕ) → Lexed ts rest → Lexed ts (g ++ rest)
gap_run g p [] rest l = gap_append g rest p l
gap_run g p (t ∷ ts) rest l = record {
  gap = g ++ l.gap;
  spelling = l.spelling;
  rest = l.rest;
  space = gap_append g l.gap p l.space;
  split = ap (λ x. g ++ x) l.split ∙ sym (append_assoc g l.gap (l.spelling ++ l.rest));
  token = l.token;
  later = l.later;
}

-- one token
pub token_run : (t : Token) (spelling rest : List ℕ) (ts : List Token) → IsToken t spelling rest → Lexed ts rest → Lexed (t ∷ ts) (spelling ++ rest)
token_run t spelling rest ts h l = record {
  gap = [];
  spelling = spelling;
  rest = rest;
  space = refl;
  split = refl;
  token = h;
  later = l;
}

-- where a test fails, in both spellings
pub not_true : (b : Bool) → not b ≡ true → b ≡ false
not_true true h = sym h
not_true false h = refl

-- pieces of fixed text: white space and tokens
pub data Piece : Type 0 where
  blank : List ℕ → Piece
  tok : Token → Piece

abbrev pub token_text : Token → List ℕ
token_text (word w) = w
token_text (id n) = []
token_text (number z) = signed_decimal z
token_text (mark m) = mark_text m

abbrev pub piece_text : Piece → List ℕ
piece_text (blank g) = g
piece_text (tok t) = token_text t

abbrev pub glue_text : List Piece → List ℕ
glue_text [] = []
glue_text (p ∷ ps) = piece_text p ++ glue_text ps

abbrev pub piece_tokens : Piece → List Token
piece_tokens (blank g) = []
piece_tokens (tok t) = t ∷ []

abbrev pub glue_tokens : List Piece → List Token
glue_tokens [] = []
glue_tokens (p ∷ ps) = piece_tokens p ++ glue_tokens ps

-- whether a piece stands so before the rest
abbrev pub fine : Token → List ℕ → Bool
fine (word w) rest = free rest
fine (id n) rest = false
fine (number z) rest = not (begins is_ascii_digit rest)
fine (mark m) rest = not (goes_on m rest)

abbrev pub fine_piece : Piece → List ℕ → Bool
fine_piece (blank g) rest = is_gap g
fine_piece (tok t) rest = fine t rest

abbrev pub fits : List Piece → List ℕ → Bool
fits [] rest = true
fits (p ∷ []) rest = fine_piece p rest
fits (p ∷ q ∷ ps) rest = if fine_piece p (glue_text (q ∷ ps) ++ rest) then fits (q ∷ ps) rest else false

fine_run : (t : Token) (rest : List ℕ) (ts : List Token) → fine t rest ≡ true → Lexed ts rest → Lexed (t ∷ ts) (token_text t ++ rest)
fine_run (word w) rest ts h l = token_run (word w) w rest ts (refl, not_true _ h) l
fine_run (id n) rest ts h l = absurd cc
fine_run (number z) rest ts h l = token_run (number z) (signed_decimal z) rest ts (refl, not_true _ h) l
fine_run (mark m) rest ts h l = token_run (mark m) (mark_text m) rest ts (refl, not_true _ h) l

piece_run : (p : Piece) (rest : List ℕ) (ts : List Token) → fine_piece p rest ≡ true → Lexed ts rest → Lexed (piece_tokens p ++ ts) (piece_text p ++ rest)
piece_run (blank g) rest ts h l = gap_run g h ts rest l
piece_run (tok t) rest ts h l = fine_run t rest ts h l

-- both parts of a test
both : (a b : Bool) → (if a then b else false) ≡ true → (a ≡ true) × (b ≡ true)
both true b h = (refl, h)
both false b h = absurd cc

glue_run : (ps : List Piece) (rest : List ℕ) (ts : List Token) → fits ps rest ≡ true → Lexed ts rest → Lexed (glue_tokens ps ++ ts) (glue_text ps ++ rest)
glue_run [] rest ts h l = l
glue_run (p ∷ []) rest ts h l =
    coe 1 0 (i. Lexed (append_assoc (piece_tokens p) [] ts i) (append_assoc (piece_text p) [] rest i)) (piece_run p rest ts h l)
glue_run (p ∷ q ∷ ps) rest ts h l =
    let b = both (fine_piece p (glue_text (q ∷ ps) ++ rest)) (fits (q ∷ ps) rest) h in
    coe 1 0 (i. Lexed (append_assoc (piece_tokens p) (glue_tokens (q ∷ ps)) ts i) (append_assoc (piece_text p) (glue_text (q ∷ ps)) rest i))
    (piece_run p (glue_text (q ∷ ps) ++ rest) (glue_tokens (q ∷ ps) ++ ts) b.0 (glue_run (q ∷ ps) rest ts b.1 l))

pub glue : (s p : List ℕ → Bool) (ps : List Piece) → ((rest : List ℕ) → p rest ≡ true → fits ps rest ≡ true) →
    ((rest : List ℕ) → p rest ≡ true → s (glue_text ps ++ rest) ≡ true) → Lays s p (glue_text ps) (glue_tokens ps)
glue s p ps h k = record { run = λ rest ts q l. glue_run ps rest ts (h rest q) l; start = k }

-- texts of the items of a list, one after another
pub each_lays : {A : Type 0} {s : List ℕ → Bool} (f : A → List ℕ) (g : A → List Token) (P : A → Type 0) →
    ((x : A) → P x → Lays s s (f x) (g x)) → (xs : List A) → Each P xs → Lays s s (flat_map f xs) (flat_map g xs)
each_lays f g P h [] e = nothing
each_lays f g P h (x ∷ xs) e = seq (h x e.0) (each_lays f g P h xs e.1)

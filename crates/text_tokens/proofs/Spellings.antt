-- What a token is spelled as is found as a lexeme that stands for it, and what is found is spelled so.
use Rattle.std.proofs.Common.{◌≡◌, refl, ap, sym, subst, ◌∙◌, ℕ, suc, ◌+◌, ◌<◌, Bool, true, false, List, [], ◌∷◌, ◌++◌, length, take, drop, append_assoc, Option, Some, None, arith, inl, inr}
use Rattle.std.specs.Prelude.{◌==◌, ◌&&◌, if◌then◌else◌, chars, encode_utf8_all, IsUtf8}
use Rattle.std.specs.List.{list_all}
use Rattle.std.specs.Char.{is_ascii_digit}
use Rattle.std.specs.Fmt.{signed_decimal}
use Rattle.std.proofs.lemmas.Bool.{eqb-true}
use Rattle.std.proofs.lemmas.Str.{encodes-chars, IsUtf8-from_is_utf8}
use Rattle.std.specs.Str.{is_utf8}
use Rattle.std.specs.Option.{option_map}
use Rattle.std.proofs.Math.Seq.{take-append_seam, drop-append-add}
use Rattle.unicode_ident.specs.Ident.{is_xid_continue}
use Rattle.unicode_normalization.specs.Forms.{nfc}
use Rattle.text_meaning.specs.declared.mark.Mark.{Mark}
use Rattle.text_meaning.specs.declared.mark.Mark.TheVariants as M
use Rattle.text_meaning.specs.Names.{begins, is_word_start, is_word_byte, is_bare, is_identifier, are_digits}
use Rattle.text_meaning.specs.Tokens.{Token, word, id, number, mark, mark_text}
use Rattle.text_meaning.specs.Lexing.{IsToken, IsMarked, is_space, goes_on, quoted}
use Rattle.text_tokens.specs.declared.lexeme.LexemeKind.{LexemeKind}
use Rattle.text_tokens.specs.declared.lexeme.LexemeKind.TheVariants.{Word, Marked, Number, Punct}
use Rattle.text_tokens.specs.Fronts.{front, back, past, begins_two, close_at}
use Rattle.text_tokens.specs.Scan.{Next, lexeme_at, other_at, mark_at, marked_at, marked_then, marked_name, spelled_name, name_then, negative_at, either, arrow_at, mark_then, mark_of}
use Rattle.text_tokens.specs.Lexing.{IsSpelled}
use Rattle.text_tokens.specs.Stands.{Stands, IsProper, is_plain, is_numeral}
use Rattle.text_tokens.proofs.Fronting.{all_front, front_all, back_all, begins_back, front_back}
use Rattle.text_tokens.proofs.Excluding.{digit_not_start, digit_not_space, digit_not_minus, start_not_space}
use Rattle.text_tokens.proofs.Marking.{text_name}
use Rattle.text_tokens.proofs.Closing.{encodes_pass, close_after, Passes}

abbrev pub next_at : List ℕ → Next
next_at [] = None
next_at (c ∷ cs) = lexeme_at c cs

-- a lexeme for t is found at this spelling before this rest
pub record Starts (t : Token) (spelling rest : List ℕ) : Type 0 where
  pub kind : LexemeKind
  pub next : next_at (spelling ++ rest) ≡ Some (kind, rest)
  pub stands : Stands kind t
  pub ink : begins is_space (spelling ++ rest) ≡ false
  pub long : 0 < length spelling

pub and_left : (a b : Bool) → (a && b) ≡ true → a ≡ true
and_left true b h = refl
and_left false b h = h

pub and_right : (a b : Bool) → (a && b) ≡ true → b ≡ true
and_right true b h = h
and_right false b h = absurd cc

pub and_both : (a b : Bool) → a ≡ true → b ≡ true → (a && b) ≡ true
and_both true b h k = k
and_both false b h k = absurd cc

pub if_true : {A : Type 0} (b : Bool) (x y : A) → b ≡ true → (if b then x else y) ≡ x
if_true true x y h = refl
if_true false x y h = absurd cc

pub if_false : {A : Type 0} (b : Bool) (x y : A) → b ≡ false → (if b then x else y) ≡ y
if_false true x y h = absurd cc
if_false false x y h = refl

-- words
word_next : (w rest : List ℕ) → is_plain w ≡ true → begins is_word_byte rest ≡ false → next_at (w ++ rest) ≡ Some (Word w, rest)
unfolding lexeme_at
word_next [] rest h k = absurd cc
word_next (c ∷ cs) rest h k =
    let s = and_left (is_word_start c) (list_all is_word_byte (c ∷ cs)) h in
    let a = and_right (is_word_start c) (list_all is_word_byte (c ∷ cs)) h in
    let f = front_all is_word_byte (c ∷ cs) rest a k in
    let b = back_all is_word_byte (c ∷ cs) rest a k in
    if_true (is_word_start c) (Some (Word (front is_word_byte (c ∷ (cs ++ rest))), back is_word_byte (c ∷ (cs ++ rest)))) _ s ∙ (λ i. Some (Word (f i), b i))

word_ink : (w rest : List ℕ) → is_plain w ≡ true → begins is_space (w ++ rest) ≡ false
word_ink [] rest h = absurd cc
word_ink (c ∷ cs) rest h = start_not_space c (and_left (is_word_start c) (list_all is_word_byte (c ∷ cs)) h)

word_long : (w : List ℕ) → is_plain w ≡ true → 0 < length w
word_long [] h = absurd cc
word_long (c ∷ cs) h = omega arith

pub bare_plain : (w : List ℕ) → is_bare w ≡ true → is_plain w ≡ true
bare_plain w h = and_left _ _ (and_left _ _ h)

-- numbers
digits_next : (ds rest : List ℕ) → are_digits ds ≡ true → begins is_ascii_digit rest ≡ false → next_at (ds ++ rest) ≡ Some (Number ds, rest)
unfolding lexeme_at
digits_next [] rest h k = absurd cc
digits_next (c ∷ cs) rest h k =
    let d = and_left (is_ascii_digit c) (list_all is_ascii_digit cs) h in
    let s = digit_not_start c d in
    let f = front_all is_ascii_digit (c ∷ cs) rest h k in
    let b = back_all is_ascii_digit (c ∷ cs) rest h k in
    let here : Next = Some (Number (front is_ascii_digit (c ∷ (cs ++ rest))), back is_ascii_digit (c ∷ (cs ++ rest))) in
    if_false (is_word_start c) _ (if is_ascii_digit c then here else other_at c (cs ++ rest)) s ∙ if_true (is_ascii_digit c) here (other_at c (cs ++ rest)) d ∙ (λ i. Some (Number (f i), b i))

digits_begin : (ds rest : List ℕ) → are_digits ds ≡ true → begins is_ascii_digit (ds ++ rest) ≡ true
digits_begin [] rest h = absurd cc
digits_begin (c ∷ cs) rest h = and_left (is_ascii_digit c) (list_all is_ascii_digit cs) h

digits_all : (ds : List ℕ) → are_digits ds ≡ true → list_all is_ascii_digit ds ≡ true
digits_all [] h = absurd cc
digits_all (c ∷ cs) h = h

minus_next : (c : ℕ) (ds rest : List ℕ) → c ≡ 45 → are_digits ds ≡ true → begins is_ascii_digit rest ≡ false → next_at (c ∷ (ds ++ rest)) ≡ Some (Number (c ∷ ds), rest)
unfolding lexeme_at other_at
minus_next c ds rest e h k =
    let g = digits_begin ds rest h in
    let f = front_all is_ascii_digit ds rest (digits_all ds h) k in
    let b = back_all is_ascii_digit ds rest (digits_all ds h) k in
    rw e (rw g (λ i. Some (Number (45 ∷ f i), b i)))

number_by : (test : Bool) (c : ℕ) (cs rest : List ℕ) → (c == 45) ≡ test → (if test then are_digits cs else are_digits (c ∷ cs)) ≡ true →
    begins is_ascii_digit rest ≡ false → next_at ((c ∷ cs) ++ rest) ≡ Some (Number (c ∷ cs), rest)
number_by true c cs rest e h k = minus_next c cs rest (eqb-true c 45 e) h k
number_by false c cs rest e h k = digits_next (c ∷ cs) rest h k

number_next : (s rest : List ℕ) → is_numeral s ≡ true → begins is_ascii_digit rest ≡ false → next_at (s ++ rest) ≡ Some (Number s, rest)
number_next [] rest h k = absurd cc
number_next (c ∷ cs) rest h k = number_by (c == 45) c cs rest refl h k

ink_by : (test : Bool) (c : ℕ) (cs : List ℕ) → (c == 45) ≡ test → (if test then are_digits cs else are_digits (c ∷ cs)) ≡ true → is_space c ≡ false
ink_by true c cs e h = let f = eqb-true c 45 e in rw f refl
ink_by false c cs e h = digit_not_space c (and_left (is_ascii_digit c) (list_all is_ascii_digit cs) h)

number_ink : (s rest : List ℕ) → is_numeral s ≡ true → begins is_space (s ++ rest) ≡ false
number_ink [] rest h = absurd cc
number_ink (c ∷ cs) rest h = ink_by (c == 45) c cs refl h

number_long : (s : List ℕ) → is_numeral s ≡ true → 0 < length s
number_long [] h = absurd cc
number_long (c ∷ cs) h = omega arith

-- punctuation
mark_next : (m : Mark) (rest : List ℕ) → goes_on m rest ≡ false → next_at (mark_text m ++ rest) ≡ Some (Punct m, rest)
unfolding lexeme_at other_at mark_at
mark_next M.Open rest h = rw h refl
mark_next M.Close rest h = refl
mark_next M.Unit rest h = refl
mark_next M.OpenBrace rest h = refl
mark_next M.CloseBrace rest h = refl
mark_next M.Colon rest h = rw h refl
mark_next M.Becomes rest h = refl
mark_next M.Comma rest h = refl
mark_next M.Semicolon rest h = refl
mark_next M.Dot rest h = refl
mark_next M.Hash rest h = refl
mark_next M.Bar rest h = refl
mark_next M.Gives rest h = refl
mark_next M.Plus rest h = refl
mark_next M.To rest h = refl
mark_next M.From rest h = refl
mark_next M.Times rest h = refl

mark_ink : (m : Mark) (rest : List ℕ) → begins is_space (mark_text m ++ rest) ≡ false
mark_ink M.Open rest = refl
mark_ink M.Close rest = refl
mark_ink M.Unit rest = refl
mark_ink M.OpenBrace rest = refl
mark_ink M.CloseBrace rest = refl
mark_ink M.Colon rest = refl
mark_ink M.Becomes rest = refl
mark_ink M.Comma rest = refl
mark_ink M.Semicolon rest = refl
mark_ink M.Dot rest = refl
mark_ink M.Hash rest = refl
mark_ink M.Bar rest = refl
mark_ink M.Gives rest = refl
mark_ink M.Plus rest = refl
mark_ink M.To rest = refl
mark_ink M.From rest = refl
mark_ink M.Times rest = refl

mark_long : (m : Mark) → 0 < length (mark_text m)
mark_long M.Open = omega arith
mark_long M.Close = omega arith
mark_long M.Unit = omega arith
mark_long M.OpenBrace = omega arith
mark_long M.CloseBrace = omega arith
mark_long M.Colon = omega arith
mark_long M.Becomes = omega arith
mark_long M.Comma = omega arith
mark_long M.Semicolon = omega arith
mark_long M.Dot = omega arith
mark_long M.Hash = omega arith
mark_long M.Bar = omega arith
mark_long M.Gives = omega arith
mark_long M.Plus = omega arith
mark_long M.To = omega arith
mark_long M.From = omega arith
mark_long M.Times = omega arith

-- names between marks
spelled : (cs : List ℕ) → is_identifier cs ≡ true → is_identifier (nfc cs) ≡ true → spelled_name cs ≡ Some (encode_utf8_all (nfc cs))
unfolding spelled_name
spelled cs h k = rw (h, k) refl

continues : (cs : List ℕ) → is_identifier cs ≡ true → list_all is_xid_continue cs ≡ true
continues cs h = and_right _ _ (and_left _ _ h)

inner_passes : (inner : List ℕ) → IsUtf8 inner → is_identifier (chars inner) ≡ true → Passes inner
inner_passes inner u h = subst Passes (encodes-chars inner u) (encodes_pass (chars inner) (continues (chars inner) h))

marked_found : (inner rest : List ℕ) (name : List ℕ) → Passes inner → marked_name inner ≡ Some name → marked_at (inner ++ 194 ∷ 187 ∷ rest) ≡ Some (Marked name, rest)
unfolding marked_at
marked_found inner rest name h k =
    let c = close_after inner rest h in
    let t : take (length inner) (inner ++ 194 ∷ 187 ∷ rest) ≡ inner = take-append_seam inner (194 ∷ 187 ∷ rest) in
    let d : drop (length inner + 2) (inner ++ 194 ∷ 187 ∷ rest) ≡ rest = drop-append-add inner (194 ∷ 187 ∷ rest) 2 in
    rw c (rw (t, d, k) refl)

marked_next : (inner rest : List ℕ) (name : List ℕ) → Passes inner → marked_name inner ≡ Some name → next_at (quoted inner ++ rest) ≡ Some (Marked name, rest)
unfolding lexeme_at other_at
marked_next inner rest name h k = rw append_assoc (marked_found inner rest name h k)

-- a lexeme that is spelled so is found
pub record KindStarts (kind : LexemeKind) (spelling rest : List ℕ) : Type 0 where
  pub next : next_at (spelling ++ rest) ≡ Some (kind, rest)
  pub ink : begins is_space (spelling ++ rest) ≡ false
  pub long : 0 < length spelling

pub kind_starts : (kind : LexemeKind) (spelling rest : List ℕ) → IsSpelled kind spelling rest → KindStarts kind spelling rest
kind_starts (Word w) s rest h = record {
  next = rw h.1 (word_next w rest h.0 h.2);
  ink = rw h.1 (word_ink w rest h.0);
  long = rw h.1 (word_long w h.0);
}
kind_starts (Marked n) s rest h =
    let e = sym (text_name h.inner h.utf8) ∙ spelled (chars h.inner) h.identifier h.normal ∙ ap (λ x. Some x) (sym h.is_name) in
    record {
      next = rw h.same (marked_next h.inner rest n (inner_passes h.inner h.utf8 h.identifier) e);
      ink = rw h.same refl;
      long = rw h.same (omega arith);
    }
kind_starts (Number d) s rest h = record {
  next = rw h.1 (number_next d rest h.0 h.2);
  ink = rw h.1 (number_ink d rest h.0);
  long = rw h.1 (number_long d h.0);
}
kind_starts (Punct m) s rest h = record {
  next = rw h.0 (mark_next m rest h.1);
  ink = rw h.0 (mark_ink m rest);
  long = rw h.0 (mark_long m);
}

starts_as : (kind : LexemeKind) (t : Token) (spelling rest : List ℕ) → Stands kind t → IsSpelled kind spelling rest → Starts t spelling rest
starts_as kind t s rest h k =
    let f = kind_starts kind s rest k in record { kind = kind; next = f.next; stands = h; ink = f.ink; long = f.long }

pub token_starts : (t : Token) (spelling rest : List ℕ) → IsToken t spelling rest → IsProper t → Starts t spelling rest
token_starts (word w) s rest h p = starts_as (Word w) (word w) s rest refl (p, h.0, h.1)
token_starts (id n) s rest (inl h) p = starts_as (Word n) (id n) s rest (refl, h.bare) (bare_plain n h.bare, h.same, h.ends)
token_starts (id n) s rest (inr h) p = starts_as (Marked n) (id n) s rest refl h
token_starts (number z) s rest h p = starts_as (Number (signed_decimal z)) (number z) s rest refl (p, h.0, h.1)
token_starts (mark m) s rest h p = starts_as (Punct m) (mark m) s rest refl h

-- what was found is spelled so
pub record Found (kind : LexemeKind) (text rest : List ℕ) : Type 0 where
  pub spelling : List ℕ
  pub split : text ≡ spelling ++ rest
  pub is : IsSpelled kind spelling rest
  pub long : 0 < length spelling

-- the cases of a test
by_test : {A : Type 0} {G : Type 0} (b : Bool) (x y z : A) → (if b then x else y) ≡ z → (b ≡ true → x ≡ z → G) → (b ≡ false → y ≡ z → G) → G
by_test true x y z h f g = f refl h
by_test false x y z h f g = g refl h

pub token_of : (kind : LexemeKind) (t : Token) (s rest : List ℕ) → IsSpelled kind s rest → Stands kind t → IsToken t s rest
token_of (Word w) (word v) s rest h k = (h.1 ∙ sym k, h.2)
token_of (Word w) (id n) s rest h k = inl (record { same = h.1 ∙ sym k.0; bare = ap is_bare k.0 ∙ k.1; ends = h.2 })
token_of (Word w) (number z) s rest h k = absurd k
token_of (Word w) (mark m) s rest h k = absurd k
token_of (Marked n) (word v) s rest h k = absurd k
token_of (Marked n) (id m) s rest h k = inr (subst (λ x. IsMarked x s) (sym k) h)
token_of (Marked n) (number z) s rest h k = absurd k
token_of (Marked n) (mark m) s rest h k = absurd k
token_of (Number n) (word v) s rest h k = absurd k
token_of (Number n) (id m) s rest h k = absurd k
token_of (Number n) (number z) s rest h k = (h.1 ∙ k, h.2)
token_of (Number n) (mark m) s rest h k = absurd k
token_of (Punct m) (word v) s rest h k = absurd k
token_of (Punct m) (id n) s rest h k = absurd k
token_of (Punct m) (number z) s rest h k = absurd k
token_of (Punct m) (mark l) s rest h k = (h.0 ∙ ap mark_text (sym k), ap (λ x. goes_on x rest) k ∙ h.1)

abbrev found : LexemeKind → List ℕ → Next
found kind rest = Some (kind, rest)

carry : (text rest rest' : List ℕ) (kind kind' : LexemeKind) → found kind rest ≡ found kind' rest' → Found kind text rest → Found kind' text rest'
carry text rest rest' kind kind' e f =
    let pair : LexemeKind × List ℕ = (kind, rest) in let pair' : LexemeKind × List ℕ = (kind', rest') in let q : pair ≡ pair' = cc in
    subst (λ (p : LexemeKind × List ℕ). Found p.0 text p.1) q f

none_some : {G : Type 0} (p : LexemeKind × List ℕ) → None ≡ Some p → G
none_some p e = absurd cc

front_long : (p : ℕ → Bool) (c : ℕ) (cs : List ℕ) → p c ≡ true → 0 < length (front p (c ∷ cs))
front_long p c cs h = rw (if_true (p c) (c ∷ front p cs) [] h) (omega arith)

begins_byte : (b : ℕ) (cs : List ℕ) → begins (λ d. d == b) cs ≡ true → cs ≡ b ∷ past cs
begins_byte b [] h = absurd cc
begins_byte b (d ∷ cs) h = (λ i. eqb-true d b h i ∷ cs)

begins_both : (a b : ℕ) (cs : List ℕ) → begins_two a b cs ≡ true → cs ≡ a ∷ b ∷ past (past cs)
begins_both a b [] h = absurd cc
begins_both a b (c ∷ []) h = absurd cc
begins_both a b (c ∷ d ∷ cs) h = (λ i. eqb-true c a (and_left (c == a) (d == b) h) i ∷ eqb-true d b (and_right (c == a) (d == b) h) i ∷ cs)

-- a mark that is found
mark_found : (m : Mark) (text rest : List ℕ) → text ≡ mark_text m ++ rest → goes_on m rest ≡ false → Found (Punct m) text rest
mark_found m text rest e g = record { spelling = mark_text m; split = e; is = (refl, g); long = mark_long m }

one_found : (m : Mark) (c b : ℕ) (cs rest : List ℕ) (kind : LexemeKind) → (c == b) ≡ true → b ∷ cs ≡ mark_text m ++ cs → goes_on m cs ≡ false →
    found (Punct m) cs ≡ found kind rest → Found kind (c ∷ cs) rest
one_found m c b cs rest kind t e g h = carry (c ∷ cs) cs rest (Punct m) kind h (mark_found m (c ∷ cs) cs ((λ i. eqb-true c b t i ∷ cs) ∙ e) g)

two_found : (m : Mark) (c b d : ℕ) (cs rest : List ℕ) (kind : LexemeKind) → (c == b) ≡ true → begins (λ x. x == d) cs ≡ true →
    b ∷ d ∷ past cs ≡ mark_text m ++ past cs → goes_on m (past cs) ≡ false →
    found (Punct m) (past cs) ≡ found kind rest → Found kind (c ∷ cs) rest
two_found m c b d cs rest kind t u e g h =
    carry (c ∷ cs) (past cs) rest (Punct m) kind h (mark_found m (c ∷ cs) (past cs) ((λ i. eqb-true c b t i ∷ begins_byte d cs u i) ∙ e) g)

by_mark : {G : Type 0} (b : Bool) (m : Mark) (o : Option Mark) (cs : List ℕ) (z : Next) → mark_then (if b then Some m else o) cs ≡ z →
    (b ≡ true → Some (Punct m, cs) ≡ z → G) → (b ≡ false → mark_then o cs ≡ z → G) → G
by_mark true m o cs z h f g = f refl h
by_mark false m o cs z h f g = g refl h

alone_found : (c : ℕ) (cs rest : List ℕ) (kind : LexemeKind) → mark_then (mark_of c) cs ≡ Some (kind, rest) → Found kind (c ∷ cs) rest
alone_found c cs rest kind h =
    let out : Next = Some (kind, rest) in
    by_mark (c == 41) M.Close _ cs out h (λ t e. one_found M.Close c 41 cs rest kind t refl refl e) (λ t e.
    by_mark (c == 123) M.OpenBrace _ cs out e (λ t e. one_found M.OpenBrace c 123 cs rest kind t refl refl e) (λ t e.
    by_mark (c == 125) M.CloseBrace _ cs out e (λ t e. one_found M.CloseBrace c 125 cs rest kind t refl refl e) (λ t e.
    by_mark (c == 44) M.Comma _ cs out e (λ t e. one_found M.Comma c 44 cs rest kind t refl refl e) (λ t e.
    by_mark (c == 59) M.Semicolon _ cs out e (λ t e. one_found M.Semicolon c 59 cs rest kind t refl refl e) (λ t e.
    by_mark (c == 46) M.Dot _ cs out e (λ t e. one_found M.Dot c 46 cs rest kind t refl refl e) (λ t e.
    by_mark (c == 35) M.Hash _ cs out e (λ t e. one_found M.Hash c 35 cs rest kind t refl refl e) (λ t e.
    by_mark (c == 124) M.Bar _ cs out e (λ t e. one_found M.Bar c 124 cs rest kind t refl refl e) (λ t e.
    by_mark (c == 43) M.Plus None cs out e (λ t e. one_found M.Plus c 43 cs rest kind t refl refl e) (λ t e. none_some (kind, rest) e)))))))))

arrow_found : (c : ℕ) (cs rest : List ℕ) (kind : LexemeKind) → (c == 226) ≡ true → arrow_at cs ≡ Some (kind, rest) → Found kind (c ∷ cs) rest
arrow_found c cs rest kind t h =
    by_test (begins_two 134 146 cs) (Some (Punct M.To, past (past cs))) _ (Some (kind, rest)) h
    (λ u e. carry (c ∷ cs) (past (past cs)) rest (Punct M.To) kind e (mark_found M.To (c ∷ cs) (past (past cs)) (λ i. eqb-true c 226 t i ∷ begins_both 134 146 cs u i) refl)) (λ u e.
    by_test (begins_two 134 144 cs) (Some (Punct M.From, past (past cs))) None (Some (kind, rest)) e
    (λ u e. carry (c ∷ cs) (past (past cs)) rest (Punct M.From) kind e (mark_found M.From (c ∷ cs) (past (past cs)) (λ i. eqb-true c 226 t i ∷ begins_both 134 144 cs u i) refl))
    (λ u e. none_some (kind, rest) e))

punct_found : (c : ℕ) (cs rest : List ℕ) (kind : LexemeKind) → mark_at c cs ≡ Some (kind, rest) → Found kind (c ∷ cs) rest
unfolding mark_at
punct_found c cs rest kind h =
    let out : Next = Some (kind, rest) in
    by_test (c == 40) (either 41 M.Unit (Some M.Open) cs) _ out h (λ t e.
    by_test (begins (λ d. d == 41) cs) (Some (Punct M.Unit, past cs)) (Some (Punct M.Open, cs)) out e
    (λ u e. two_found M.Unit c 40 41 cs rest kind t u refl refl e) (λ u e. one_found M.Open c 40 cs rest kind t refl u e)) (λ t e.
    by_test (c == 58) (either 61 M.Becomes (Some M.Colon) cs) _ out e (λ t e.
    by_test (begins (λ d. d == 61) cs) (Some (Punct M.Becomes, past cs)) (Some (Punct M.Colon, cs)) out e
    (λ u e. two_found M.Becomes c 58 61 cs rest kind t u refl refl e) (λ u e. one_found M.Colon c 58 cs rest kind t refl u e)) (λ t e.
    by_test (c == 61) (either 62 M.Gives None cs) _ out e (λ t e.
    by_test (begins (λ d. d == 62) cs) (Some (Punct M.Gives, past cs)) None out e
    (λ u e. two_found M.Gives c 61 62 cs rest kind t u refl refl e) (λ u e. none_some (kind, rest) e)) (λ t e.
    by_test (c == 195) (either 151 M.Times None cs) _ out e (λ t e.
    by_test (begins (λ d. d == 151) cs) (Some (Punct M.Times, past cs)) None out e
    (λ u e. two_found M.Times c 195 151 cs rest kind t u refl refl e) (λ u e. none_some (kind, rest) e)) (λ t e.
    by_test (c == 226) (arrow_at cs) (mark_then (mark_of c) cs) out e (λ t e. arrow_found c cs rest kind t e) (λ t e. alone_found c cs rest kind e)))))

-- names between marks
close_map : (c : ℕ) (bs : List ℕ) (n : ℕ) (o : Option ℕ) → option_map (λ n. n + 1) o ≡ Some n →
    ((m : ℕ) → o ≡ Some m → bs ≡ take m bs ++ 194 ∷ 187 ∷ drop (m + 2) bs) → c ∷ bs ≡ take n (c ∷ bs) ++ 194 ∷ 187 ∷ drop (n + 2) (c ∷ bs)
close_map c bs n None e f = absurd cc
close_map c bs n (Some m) e f =
    let q : suc m ≡ n = let z : m + 1 ≡ n = cc in omega arith in
    subst (λ k. c ∷ bs ≡ take k (c ∷ bs) ++ 194 ∷ 187 ∷ drop (k + 2) (c ∷ bs)) q
    (let k : suc m + 2 ≡ suc (m + 2) = omega arith in rw k (ap (λ x. c ∷ x) (f m refl)))

close_by : (b : Bool) (c : ℕ) (bs : List ℕ) (n : ℕ) (o : Option ℕ) → (b ≡ true → c ∷ bs ≡ 194 ∷ 187 ∷ past bs) →
    (if b then Some 0 else option_map (λ n. n + 1) o) ≡ Some n →
    ((m : ℕ) → o ≡ Some m → bs ≡ take m bs ++ 194 ∷ 187 ∷ drop (m + 2) bs) → c ∷ bs ≡ take n (c ∷ bs) ++ 194 ∷ 187 ∷ drop (n + 2) (c ∷ bs)
close_by true c [] n o g e f = absurd (let h = g refl in cc)
close_by true c (d ∷ bs) n o g e f =
    let q : 0 ≡ n = cc in subst (λ k. c ∷ d ∷ bs ≡ take k (c ∷ d ∷ bs) ++ 194 ∷ 187 ∷ drop (k + 2) (c ∷ d ∷ bs)) q (g refl)
close_by false c bs n o g e f = close_map c bs n o e f

close_split : (bs : List ℕ) (n : ℕ) → close_at bs ≡ Some n → bs ≡ take n bs ++ 194 ∷ 187 ∷ drop (n + 2) bs
close_split [] n h = absurd cc
close_split (c ∷ bs) n h = close_by (begins_two 194 187 (c ∷ bs)) c bs n (close_at bs) (begins_both 194 187 (c ∷ bs)) h (close_split bs)

name_marked : (inner name : List ℕ) → marked_name inner ≡ Some name → IsMarked name (quoted inner)
unfolding marked_name spelled_name
name_marked inner name h =
    by_test (is_utf8 inner) (spelled_name (chars inner)) None (Some name) h
    (λ u e. by_test (is_identifier (chars inner) && is_identifier (nfc (chars inner))) (Some (encode_utf8_all (nfc (chars inner)))) None (Some name) e
    (λ b e. record { inner = inner; same = refl; utf8 = IsUtf8-from_is_utf8 inner u; identifier = and_left _ _ b; normal = and_right _ _ b; is_name = cc })
    (λ b e. absurd cc))
    (λ u e. absurd cc)

name_found : (o : Option (List ℕ)) (bs rest : List ℕ) (n : ℕ) (kind : LexemeKind) → bs ≡ take n bs ++ 194 ∷ 187 ∷ drop (n + 2) bs →
    ((name : List ℕ) → o ≡ Some name → IsMarked name (quoted (take n bs))) → name_then o (drop (n + 2) bs) ≡ Some (kind, rest) → Found kind (194 ∷ 171 ∷ bs) rest
name_found None bs rest n kind s f h = absurd cc
name_found (Some name) bs rest n kind s f h =
    carry (194 ∷ 171 ∷ bs) (drop (n + 2) bs) rest (Marked name) kind h
    (record { spelling = quoted (take n bs); split = ap (λ x. 194 ∷ 171 ∷ x) (s ∙ sym (append_assoc (take n bs) (194 ∷ 187 ∷ []) (drop (n + 2) bs))); is = f name refl; long = omega arith })

marks_by : (o : Option ℕ) (bs rest : List ℕ) (kind : LexemeKind) → ((n : ℕ) → o ≡ Some n → bs ≡ take n bs ++ 194 ∷ 187 ∷ drop (n + 2) bs) →
    marked_then bs o ≡ Some (kind, rest) → Found kind (194 ∷ 171 ∷ bs) rest
marks_by None bs rest kind f h = absurd cc
marks_by (Some n) bs rest kind f h = name_found (marked_name (take n bs)) bs rest n kind (f n refl) (name_marked (take n bs)) h

marks_found : (c : ℕ) (cs rest : List ℕ) (kind : LexemeKind) → (c == 194) ≡ true → begins (λ d. d == 171) cs ≡ true → marked_at (past cs) ≡ Some (kind, rest) → Found kind (c ∷ cs) rest
unfolding marked_at
marks_found c cs rest kind t u h =
    subst (λ x. Found kind x rest) (sym (λ i. eqb-true c 194 t i ∷ begins_byte 171 cs u i)) (marks_by (close_at (past cs)) (past cs) rest kind (close_split (past cs)) h)

digits_front : (cs : List ℕ) → begins is_ascii_digit cs ≡ true → are_digits (front is_ascii_digit cs) ≡ true
digits_front [] h = absurd cc
digits_front (c ∷ cs) h =
    let e : front is_ascii_digit (c ∷ cs) ≡ c ∷ front is_ascii_digit cs = if_true (is_ascii_digit c) (c ∷ front is_ascii_digit cs) [] h in
    let a = all_front is_ascii_digit (c ∷ cs) in
    rw e (rw e at a)

minus_found : (c : ℕ) (cs rest : List ℕ) (kind : LexemeKind) → (c == 45) ≡ true → negative_at cs ≡ Some (kind, rest) → Found kind (c ∷ cs) rest
minus_found c cs rest kind t h =
    by_test (begins is_ascii_digit cs) (Some (Number (45 ∷ front is_ascii_digit cs), back is_ascii_digit cs)) None (Some (kind, rest)) h
    (λ u e. carry (c ∷ cs) (back is_ascii_digit cs) rest (Number (45 ∷ front is_ascii_digit cs)) kind e
    (record { spelling = 45 ∷ front is_ascii_digit cs; split = (λ i. eqb-true c 45 t i ∷ sym (front_back is_ascii_digit cs) i); is = (digits_front cs u, refl, begins_back is_ascii_digit cs); long = omega arith }))
    (λ u e. none_some (kind, rest) e)

other_found : (c : ℕ) (cs rest : List ℕ) (kind : LexemeKind) → other_at c cs ≡ Some (kind, rest) → Found kind (c ∷ cs) rest
unfolding other_at
other_found c cs rest kind h =
    let out : Next = Some (kind, rest) in
    by_test (c == 45) (negative_at cs) _ out h (λ t e. minus_found c cs rest kind t e) (λ t e.
    by_test (c == 194) (if begins (λ d. d == 171) cs then marked_at (past cs) else None) (mark_at c cs) out e
    (λ t e. by_test (begins (λ d. d == 171) cs) (marked_at (past cs)) None out e (λ u e. marks_found c cs rest kind t u e) (λ u e. none_some (kind, rest) e))
    (λ t e. punct_found c cs rest kind e))

run_found : (p : ℕ → Bool) (make : List ℕ → LexemeKind) (c : ℕ) (cs rest : List ℕ) (kind : LexemeKind) → p c ≡ true →
    IsSpelled (make (front p (c ∷ cs))) (front p (c ∷ cs)) (back p (c ∷ cs)) →
    found (make (front p (c ∷ cs))) (back p (c ∷ cs)) ≡ found kind rest → Found kind (c ∷ cs) rest
run_found p make c cs rest kind t k e =
    carry (c ∷ cs) (back p (c ∷ cs)) rest (make (front p (c ∷ cs))) kind e
    (record { spelling = front p (c ∷ cs); split = sym (front_back p (c ∷ cs)); is = k; long = front_long p c cs t })

word_byte : (c : ℕ) → is_word_start c ≡ true → is_word_byte c ≡ true
word_byte c h = rw h refl

plain_front : (c : ℕ) (cs : List ℕ) → is_word_start c ≡ true → is_plain (front is_word_byte (c ∷ cs)) ≡ true
plain_front c cs h =
    let e : front is_word_byte (c ∷ cs) ≡ c ∷ front is_word_byte cs = if_true (is_word_byte c) (c ∷ front is_word_byte cs) [] (word_byte c h) in
    let a = all_front is_word_byte (c ∷ cs) in
    rw e (and_both (is_word_start c) (list_all is_word_byte (c ∷ front is_word_byte cs)) h (rw e at a))

numeral_front : (c : ℕ) (cs : List ℕ) → is_ascii_digit c ≡ true → is_numeral (front is_ascii_digit (c ∷ cs)) ≡ true
numeral_front c cs h =
    let e : front is_ascii_digit (c ∷ cs) ≡ c ∷ front is_ascii_digit cs = if_true (is_ascii_digit c) (c ∷ front is_ascii_digit cs) [] h in
    let a = all_front is_ascii_digit (c ∷ cs) in
    rw (e, digit_not_minus c h) (rw e at a)

pub found_at : (c : ℕ) (cs : List ℕ) (kind : LexemeKind) (rest : List ℕ) → lexeme_at c cs ≡ Some (kind, rest) → Found kind (c ∷ cs) rest
unfolding lexeme_at
found_at c cs kind rest h =
    let out : Next = Some (kind, rest) in
    by_test (is_word_start c) (Some (Word (front is_word_byte (c ∷ cs)), back is_word_byte (c ∷ cs))) _ out h
    (λ t e. run_found is_word_byte (λ s. Word s) c cs rest kind (word_byte c t) (plain_front c cs t, refl, begins_back is_word_byte (c ∷ cs)) e) (λ t e.
    by_test (is_ascii_digit c) (Some (Number (front is_ascii_digit (c ∷ cs)), back is_ascii_digit (c ∷ cs))) (other_at c cs) out e
    (λ t e. run_found is_ascii_digit (λ s. Number s) c cs rest kind t (numeral_front c cs t, refl, begins_back is_ascii_digit (c ∷ cs)) e)
    (λ t e. other_found c cs rest kind e))

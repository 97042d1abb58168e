-- What is read of a text leaves a text.
use Rattle.std.proofs.Common.{◌≡◌, refl, ap, sym, subst, ◌∙◌, ℕ, zero, suc, ◌+◌, ◌≤◌, ◌<◌, Bool, true, false, List, [], ◌∷◌, ◌++◌, length, length-drop, take, drop, get_or, get_or-drop, Option, Some, None, is_some, IsUtf8, IsCharBoundary, take-append-drop, arith}
use Rattle.std.specs.Prelude.{◌&&◌, ◌==◌, nat_lt, bytes_eq}
use Rattle.std.specs.List.{list_all, list_any}
use Rattle.std.specs.Char.{is_ascii_digit}
use Rattle.std.proofs.lemmas.Bool.{eqb-true}
use Rattle.std.proofs.lemmas.Bool.Decides.{nat_tests}
use Rattle.std.proofs.lemmas.List.{drop-drop}
use Rattle.std.proofs.lemmas.Str.{IsUtf8-append, IsUtf8-from_ascii, IsCharBoundary-from_take, IsCharBoundary-after_ascii}
use Rattle.aen_base.specs.declared.int_ty.IntTy.{IntTy}
use Rattle.aen_base.specs.declared.int_ty.IntTy.TheVariants.{U8, U16, U32, U64, U128, Usize, I8, I16, I32, I64, I128, Isize}
use Rattle.rust_lex.specs.declared.token.Form.{Form}
use Rattle.rust_lex.specs.declared.token.Form.TheVariants.{Identifier, Lifetime, Number, Quoted, Mark}
use Rattle.rust_lex.specs.declared.token.Base.{Base}
use Rattle.rust_lex.specs.declared.token.Base.TheVariants.{Binary, Octal, Decimal, Hexadecimal}
use Rattle.rust_lex.specs.Characters.{begins, begins_two, front, back}
use Rattle.rust_lex.specs.Words.{int_word, int_named}
use Rattle.rust_lex.specs.Identifiers.{is_identifier, is_lifetime}
use Rattle.rust_lex.specs.Numbers.{is_number, are_digits, base_of, prefix_length, after_prefix, goes_on, is_digit_of, suffix_of, is_suffix}
use Rattle.rust_lex.specs.Punctuation.{is_mark, is_single, is_double, is_triple, single_marks, double_marks, triple_marks}
use Rattle.rust_lex.specs.Comments.{Closes, here, nested, other}
use Rattle.rust_lex.specs.Lexing.{is_form, is_string, closes_string}
use Rattle.rust_lex.proofs.TestLemmas.{by_test, and_left, and_right, and_both, or_cases, clash, same_bytes}
use Rattle.rust_lex.proofs.FrontLemmas.{front_back, all_front}
use Rattle.rust_lex.proofs.IdentifierLemmas.{spelled}
use Rattle.rust_lex.proofs.SuffixLemmas.{named_word}

abbrev pub is_low : ℕ → Bool
is_low c = nat_lt c 128

low_at : (w : List ℕ) → list_all is_low w ≡ true → (i : ℕ) → get_or w i 0 < 128
low_at [] h zero = omega arith
low_at [] h (suc i) = omega arith
low_at (c ∷ w) h zero = let k = and_left (is_low c) (list_all is_low w) h in grind (arith, nat_tests)
low_at (c ∷ w) h (suc i) = low_at w (and_right (is_low c) (list_all is_low w) h) i

low_text : (w : List ℕ) → list_all is_low w ≡ true → IsUtf8 w
low_text w h = IsUtf8-from_ascii w (low_at w h)

all_more : (p q : ℕ → Bool) → ((c : ℕ) → p c ≡ true → q c ≡ true) → (w : List ℕ) → list_all p w ≡ true → list_all q w ≡ true
all_more p q f [] h = refl
all_more p q f (c ∷ w) h = and_both (q c) (list_all q w) (f c (and_left (p c) (list_all p w) h)) (all_more p q f w (and_right (p c) (list_all p w) h))

all_both : (p : ℕ → Bool) (v w : List ℕ) → list_all p v ≡ true → list_all p w ≡ true → list_all p (v ++ w) ≡ true
all_both p [] w h k = k
all_both p (c ∷ v) w h k = and_both (p c) (list_all p (v ++ w)) (and_left (p c) (list_all p v) h) (all_both p v w (and_right (p c) (list_all p v) h) k)

-- ---- numbers

digit_low : (c : ℕ) → is_ascii_digit c ≡ true → is_low c ≡ true
digit_low c h = grind (arith, nat_tests)

goes_low : (b : Base) (c : ℕ) → goes_on b c ≡ true → is_low c ≡ true
goes_low Binary c h = grind (arith, nat_tests)
goes_low Octal c h = grind (arith, nat_tests)
goes_low Decimal c h = grind (arith, nat_tests)
goes_low Hexadecimal c h = grind (arith, nat_tests)

word_low : (t : IntTy) → list_all is_low (int_word t) ≡ true
word_low U8 = refl
word_low U16 = refl
word_low U32 = refl
word_low U64 = refl
word_low U128 = refl
word_low Usize = refl
word_low I8 = refl
word_low I16 = refl
word_low I32 = refl
word_low I64 = refl
word_low I128 = refl
word_low Isize = refl

suffix_low : (w : List ℕ) → is_suffix w ≡ true → list_all is_low w ≡ true
suffix_low [] h = refl
suffix_low (c ∷ w) h = by_type (int_named (c ∷ w)) refl h
  where
    by_type : (o : Option IntTy) → int_named (c ∷ w) ≡ o → is_some o ≡ true → list_all is_low (c ∷ w) ≡ true
    by_type None e k = absurd cc
    by_type (Some t) e k = ap (list_all is_low) (named_word (c ∷ w) t e) ∙ word_low t

two_low : (a b : ℕ) (w : List ℕ) → begins_two a b w ≡ true → is_low a ≡ true → is_low b ≡ true → list_all is_low (take 2 w) ≡ true
two_low a b [] h k l = absurd cc
two_low a b (c ∷ []) h k l = absurd (clash (begins (λ d. d == b) []) (and_right (c == a) (begins (λ d. d == b) []) h) refl)
two_low a b (c ∷ d ∷ w) h k l =
    and_both (is_low c) (is_low d && true) (ap is_low (eqb-true c a (and_left (c == a) (d == b) h)) ∙ k)
    (and_both (is_low d) true (ap is_low (eqb-true d b (and_right (c == a) (d == b) h)) ∙ l) refl)

prefix_low : (w : List ℕ) → list_all is_low (take (prefix_length (base_of w)) w) ≡ true
prefix_low w = by_base (begins_two 48 120 w) (begins_two 48 111 w) (begins_two 48 98 w) refl refl refl
  where
    by_base : (x y z : Bool) → begins_two 48 120 w ≡ x → begins_two 48 111 w ≡ y → begins_two 48 98 w ≡ z → list_all is_low (take (prefix_length (base_of w)) w) ≡ true
    by_base true y z e f g = rw e (two_low 48 120 w e refl refl)
    by_base false true z e f g = rw (e, f) (two_low 48 111 w f refl refl)
    by_base false false true e f g = rw (e, f, g) (two_low 48 98 w g refl refl)
    by_base false false false e f g = rw (e, f, g) refl

number_low : (w : List ℕ) → is_number w ≡ true → list_all is_low w ≡ true
unfolding is_number
number_low w h =
    let q = goes_on (base_of w) in
    let v = after_prefix w in
    let p = prefix_length (base_of w) in
    let a = all_more q is_low (goes_low (base_of w)) (front q v) (all_front q v) in
    let b = suffix_low (back q v) (and_right (begins (is_digit_of (base_of w)) v) (is_suffix (suffix_of w)) h) in
    let c : list_all is_low v ≡ true = subst (λ x. list_all is_low x ≡ true) (front_back q v) (all_both is_low (front q v) (back q v) a b) in
    subst (λ x. list_all is_low x ≡ true) (take-append-drop p w) (all_both is_low (take p w) (drop p w) (prefix_low w) c)

digits_low : (w : List ℕ) → are_digits w ≡ true → list_all is_low w ≡ true
digits_low [] h = refl
digits_low (c ∷ w) h = all_more is_ascii_digit is_low digit_low (c ∷ w) h

-- ---- punctuation

any_low : (c : ℕ) (ds : List ℕ) → list_all is_low ds ≡ true → list_any (λ d. c == d) ds ≡ true → is_low c ≡ true
any_low c [] h k = absurd cc
any_low c (d ∷ ds) h k =
    or_cases (c == d) (list_any (λ d. c == d) ds) k
    (λ e. ap is_low (eqb-true c d e) ∙ and_left (is_low d) (list_all is_low ds) h)
    (λ e. any_low c ds (and_right (is_low d) (list_all is_low ds) h) e)

any_word_low : (w : List ℕ) (ms : List (List ℕ)) → list_all (list_all is_low) ms ≡ true → list_any (bytes_eq w) ms ≡ true → list_all is_low w ≡ true
any_word_low w [] h k = absurd cc
any_word_low w (m ∷ ms) h k =
    or_cases (bytes_eq w m) (list_any (bytes_eq w) ms) k
    (λ e. ap (list_all is_low) (same_bytes w m e) ∙ and_left (list_all is_low m) (list_all (list_all is_low) ms) h)
    (λ e. any_word_low w ms (and_right (list_all is_low m) (list_all (list_all is_low) ms) h) e)

mark_low : (w : List ℕ) → is_mark w ≡ true → list_all is_low w ≡ true
unfolding is_single is_double is_triple
mark_low [] h = refl
mark_low (a ∷ []) h = and_both (is_low a) true (any_low a single_marks refl h) refl
mark_low (a ∷ b ∷ []) h = any_word_low (a ∷ b ∷ []) double_marks refl h
mark_low (a ∷ b ∷ c ∷ []) h = any_word_low (a ∷ b ∷ c ∷ []) triple_marks refl h
mark_low (a ∷ b ∷ c ∷ d ∷ w) h = absurd cc

-- ---- lifetimes

lifetime_text : (w : List ℕ) → is_lifetime w ≡ true → IsUtf8 w
lifetime_text [] h = low_text [] refl
lifetime_text (c ∷ w) h =
    let q : list_all is_low (c ∷ []) ≡ true = and_both (is_low c) true (ap is_low (eqb-true c 39 (and_left (c == 39) _ h))) refl in
    IsUtf8-append (c ∷ []) w (low_text (c ∷ []) q)
    (or_cases (is_identifier w) (bytes_eq w (95 ∷ [])) (and_right (c == 39) _ h)
    (λ e. (spelled w e).utf8)
    (λ e. low_text w (ap (list_all is_low) (same_bytes w (95 ∷ []) e))))

-- ---- strings

pub record LastQuote (k : ℕ) (cs : List ℕ) : Type 0 where
  pub before : ℕ
  pub count : k ≡ suc before
  pub quote : get_or cs before 0 ≡ 34

last_quote : (taken : Bool) (k : ℕ) (cs : List ℕ) → k ≤ length cs → closes_string taken (take k cs) ≡ true → LastQuote k cs
last_quote true zero cs l h = absurd cc
last_quote false zero cs l h = absurd cc
last_quote true (suc k) [] l h = absurd cc
last_quote false (suc k) [] l h = absurd cc
last_quote true (suc k) (c ∷ cs) l h =
    let r = last_quote false k cs (omega arith) h in
    record { before = suc r.before; count = ap suc r.count; quote = r.quote }
last_quote false (suc k) (c ∷ cs) l h =
    by_test (c == 34) (bytes_eq (take k cs) []) (closes_string (c == 92) (take k cs)) true h
    (λ t e. at_end k cs (omega arith) e (eqb-true c 34 t))
    (λ t e. let r = last_quote (c == 92) k cs (omega arith) e in
    record { before = suc r.before; count = ap suc r.count; quote = r.quote })
  where
    at_end : (k : ℕ) (cs : List ℕ) → k ≤ length cs → bytes_eq (take k cs) [] ≡ true → c ≡ 34 → LastQuote (suc k) (c ∷ cs)
    at_end zero cs l h e = record { before = 0; count = refl; quote = e }
    at_end (suc k) [] l h e = absurd (omega arith)
    at_end (suc k) (d ∷ cs) l h e = absurd cc

string_boundary : (n : ℕ) (text : List ℕ) → IsUtf8 text → n ≤ length text → is_string (take n text) ≡ true → IsCharBoundary text n
string_boundary zero text u l h = absurd cc
string_boundary (suc k) [] u l h = absurd cc
string_boundary (suc k) (c ∷ cs) u l h =
    let r = last_quote false k cs (omega arith) (and_right (c == 34) (closes_string false (take k cs)) h) in
    let e = r.count in
    let q = r.quote in
    let a : suc r.before < length (c ∷ cs) = omega arith in
    let b : get_or (c ∷ cs) (suc r.before) 0 < 128 = omega arith in
    let s : suc r.before + 1 ≡ suc k = omega arith in
    subst (IsCharBoundary (c ∷ cs)) s (IsCharBoundary-after_ascii (c ∷ cs) (suc r.before) u a b)

-- ---- all forms

pub form_boundary : (dot : Bool) (f : Form) (n : ℕ) (text : List ℕ) → IsUtf8 text → n ≤ length text → is_form dot f (take n text) ≡ true → IsCharBoundary text n
form_boundary dot Identifier n text u l h = IsCharBoundary-from_take text n u l (spelled (take n text) h).utf8
form_boundary dot Lifetime n text u l h = IsCharBoundary-from_take text n u l (lifetime_text (take n text) h)
form_boundary false Number n text u l h = IsCharBoundary-from_take text n u l (low_text (take n text) (number_low (take n text) h))
form_boundary true Number n text u l h = IsCharBoundary-from_take text n u l (low_text (take n text) (digits_low (take n text) h))
form_boundary dot Quoted n text u l h = string_boundary n text u l h
form_boundary dot Mark n text u l h = IsCharBoundary-from_take text n u l (low_text (take n text) (mark_low (take n text) h))

-- ---- white space and comments

-- the byte before what stands behind a closed comment is a `/`
pub record LastSlash (cs rest : List ℕ) : Type 0 where
  pub before : ℕ
  pub within : before < length cs
  pub slash : get_or cs before 0 ≡ 47
  pub left : drop (suc before) cs ≡ rest

pub last_slash : (cs rest : List ℕ) → Closes cs rest → LastSlash cs rest
last_slash cs rest (here) = record { before = 1; within = omega arith; slash = refl; left = refl }
last_slash cs rest (nested {cs = inner} {mid = mid} a b) = join inner mid rest (last_slash inner mid a) (last_slash mid rest b)
  where
    join : (inner mid rest : List ℕ) → LastSlash inner mid → LastSlash mid rest → LastSlash (47 ∷ 42 ∷ inner) rest
    join inner mid rest a b =
        let s = a.within in
        let t = b.within in
        let m = ap length (sym a.left) ∙ length-drop (suc a.before) inner in
        let e : suc (suc a.before + b.before) ≡ suc a.before + suc b.before = omega arith in
        record {
          before = suc (suc (suc a.before + b.before));
          within = omega arith;
          slash = sym (get_or-drop (suc a.before) inner b.before 0) ∙ ap (λ x. get_or x b.before 0) a.left ∙ b.slash;
          left = ap (λ n. drop n inner) e ∙ sym (drop-drop (suc b.before) (suc a.before) inner) ∙ ap (drop (suc b.before)) a.left ∙ b.left;
        }
last_slash cs rest (other {c = c} {cs = inner} h k a) =
    let r = last_slash inner rest a in
    let s = r.within in
    record { before = suc r.before; within = omega arith; slash = r.slash; left = r.left }

-- What the lexeme of a token says is lexed as itself.
use Rattle.std.proofs.Common.{◌≡◌, refl, ap, sym, subst, ◌∙◌, ℕ, ◌<◌, ◌^◌, Bool, true, false, List, [], ◌∷◌, Option, Some, None, codes, arith}
use Rattle.std.specs.Prelude.{◌&&◌, ◌||◌, ◌==◌, not, nat_lt, bytes_eq, if◌then◌else◌}
use Rattle.std.specs.List.{list_all}
use Rattle.std.proofs.lemmas.Bool.{eqb-true}
use Rattle.std.proofs.lemmas.Bool.Decides.{nat_tests}
use Rattle.aen_base.specs.declared.int_ty.IntTy.{IntTy}
use Rattle.rust_lex.specs.declared.token.Kind.{Kind}
use Rattle.rust_lex.specs.declared.token.Kind.TheVariants as K
use Rattle.rust_lex.specs.declared.token.Form.{Form}
use Rattle.rust_lex.specs.declared.token.Form.TheVariants.{Identifier, Lifetime, Number, Quoted, Mark}
use Rattle.rust_lex.specs.Identifiers.{is_identifier, is_named, name_of, word_kind}
use Rattle.rust_lex.specs.Lexing.{is_form, kind_of, is_dot}
use Rattle.rust_lex.specs.Numbers.{are_digits, is_number, is_small, integer_of, number_value, suffix_of}
use Rattle.rust_lex.specs.Words.{is_word, is_excluded, int_named}
use Rattle.source_grammar.specs.declared.class.Class.{Class}
use Rattle.source_grammar.specs.declared.class.Class.TheVariants as C
use Rattle.source_grammar.specs.declared.lexeme.Content.{Content}
use Rattle.source_grammar.specs.declared.lexeme.Content.TheVariants as says
use Rattle.source_grammar.specs.declared.terminal.Terminal.TheVariants as T
use Rattle.source_grammar.specs.Classes.{spelling, names, marks}
use Rattle.source_grammar.specs.Lexemes.{has_class}
use Rattle.source_grammar.specs.Spelled.{class_among, class_named, class_marked}
use Rattle.source_syntax.specs.Spelled as S
use Rattle.source_ways.specs.Says.{name_in, number_in}
use Rattle.rust_printer.specs.Tok.{is_place}
use Rattle.print_lexed.proofs.Blanks.{and_first, and_second, and_both}
use Rattle.print_lexed.proofs.LexedLifetimes.{life_lexed, digits_lexed}
use Rattle.print_lexed.proofs.LexedNames.{name_lexed, place_lexed}
use Rattle.print_lexed.proofs.NormalNames.{name_normal, quoted_name}
use Rattle.print_lexed.proofs.Proper.{no_true}
use Rattle.print_lexed.proofs.Spellable.{IsName, IsPlace, IsLife, IsSize}

-- of a token that is spelled so
pub record Says (w : List ℕ) (class : Class) (content : Content) : Type 0 where
  pub name : has_class T.Identifier class ≡ true → IsName (name_in content) × (class_named (name_in content) C.Other ≡ class)
  pub life : has_class T.Lifetime class ≡ true → IsLife (name_in content)
  pub digits : has_class T.Digits class ≡ true → IsPlace (name_in content) × (is_place (name_in content) ≡ true)
  pub size : IsSize (number_in content).0
  pub dot : class ≡ C.Dot → is_dot w ≡ true

-- ---- classes

abbrev is_other : Class → Bool
is_other c = not (has_class T.Lifetime c) && (not (has_class T.Digits c) && not (has_class T.Dot c))

abbrev is_plain : Class → Bool
is_plain c = not (has_class T.Identifier c) && is_other c

not_true : {A : Type 0} (b : Bool) → not b ≡ true → b ≡ true → A
not_true true p q = absurd cc
not_true false p q = absurd cc

-- of no lifetime, digits or dot
others : (w : List ℕ) (c : Class) (x : Content) → is_other c ≡ true → (has_class T.Identifier c ≡ true → IsName (name_in x) × (class_named (name_in x) C.Other ≡ c)) → IsSize (number_in x).0 → Says w c x
others w c x o n z =
    let d = and_second (not (has_class T.Lifetime c)) (not (has_class T.Digits c) && not (has_class T.Dot c)) o in
    record {
      name = n;
      life = λ h. not_true (has_class T.Lifetime c) (and_first (not (has_class T.Lifetime c)) (not (has_class T.Digits c) && not (has_class T.Dot c)) o) h;
      digits = λ h. not_true (has_class T.Digits c) (and_first (not (has_class T.Digits c)) (not (has_class T.Dot c)) d) h;
      size = z;
      dot = λ e. not_true (has_class T.Dot c) (and_second (not (has_class T.Digits c)) (not (has_class T.Dot c)) d) (ap (has_class T.Dot) e);
    }

-- of no identifier either
plain : (w : List ℕ) (c : Class) (x : Content) → is_plain c ≡ true → (number_in x).0 ≡ 0 → Says w c x
plain w c x p z =
    others w c x (and_second (not (has_class T.Identifier c)) (is_other c) p) (λ h. not_true (has_class T.Identifier c) (and_first (not (has_class T.Identifier c)) (is_other c) p) h) (omega (arith, z))

-- what holds of each of these classes and of the other
among_all : (test : Class → Bool) (w : List ℕ) (d : Class) (cs : List Class) → test d ≡ true → list_all test cs ≡ true → test (class_among w d cs) ≡ true
among_all test w d [] o h = o
among_all test w d (c ∷ cs) o h = by_test (bytes_eq w (spelling c)) (among_all test w d cs o (and_second (test c) (list_all test cs) h)) where
  by_test : (b : Bool) → test (class_among w d cs) ≡ true → test (if b then c else class_among w d cs) ≡ true
  by_test true k = and_first (test c) (list_all test cs) h
  by_test false k = k

same_bytes : (xs ys : List ℕ) → bytes_eq xs ys ≡ true → xs ≡ ys
same_bytes [] [] h = refl
same_bytes [] (y ∷ ys) h = absurd cc
same_bytes (x ∷ xs) [] h = absurd cc
same_bytes (x ∷ xs) (y ∷ ys) h =
    let e = eqb-true x y (and_first (x == y) (bytes_eq xs ys) h) in
    let f = same_bytes xs ys (and_second (x == y) (bytes_eq xs ys) h) in
    λ i. e i ∷ f i

-- a word has the class of no identifier
abbrev no_name : Class → Bool
no_name c = not (has_class T.Identifier c) || not (is_word (spelling c))

or_first : (a b : Bool) → a || not b ≡ true → b ≡ true → a ≡ true
or_first true b h k = refl
or_first false true h k = absurd cc
or_first false false h k = absurd cc

word_class : (w : List ℕ) (cs : List Class) → list_all no_name cs ≡ true → is_word w ≡ true → not (has_class T.Identifier (class_among w C.IntWord cs)) ≡ true
word_class w [] h k = refl
word_class w (c ∷ cs) h k = by_test (bytes_eq w (spelling c)) refl (word_class w cs (and_second (no_name c) (list_all no_name cs) h) k) where
  by_test : (b : Bool) → bytes_eq w (spelling c) ≡ b → not (has_class T.Identifier (class_among w C.IntWord cs)) ≡ true → not (has_class T.Identifier (if b then c else class_among w C.IntWord cs)) ≡ true
  by_test true e more = or_first (not (has_class T.Identifier c)) (is_word (spelling c)) (and_first (no_name c) (list_all no_name cs) h) (sym (ap is_word (same_bytes w (spelling c) e)) ∙ k)
  by_test false e more = more

no_names : list_all no_name names ≡ true
unfolding is_word
no_names = refl

-- the mark of the class of a dot
not_dot : (c : Class) → has_class T.Dot c ≡ false → {A : Type 0} → c ≡ C.Dot → A
not_dot c h e = no_true (has_class T.Dot c) h (ap (has_class T.Dot) e)

dot_among : (w : List ℕ) (cs : List Class) → class_among w C.Excluded cs ≡ C.Dot → is_dot w ≡ true
dot_among w [] e = let h : has_class T.Dot C.Excluded ≡ true = ap (has_class T.Dot) e in absurd cc
dot_among w (c ∷ cs) e = by_test (λ k. dot_among w cs k) (bytes_eq w (spelling c)) refl e where
  by_test : (class_among w C.Excluded cs ≡ C.Dot → is_dot w ≡ true) → (b : Bool) → bytes_eq w (spelling c) ≡ b → (if b then c else class_among w C.Excluded cs) ≡ C.Dot → is_dot w ≡ true
  by_test more true h e = sym (ap (λ (d : Class). bytes_eq w (spelling d)) e) ∙ h
  by_test more false h e = more e

-- ---- tests

some_by : {A : Type 0} (b : Bool) (x y : A) → (if b then Some x else None) ≡ Some y → (b ≡ true) × (x ≡ y)
some_by true x y e = (refl, some_same x y e) where
  some_same : {A : Type 0} (x y : A) → Some x ≡ Some y → x ≡ y
  some_same x y e = cc
some_by false x y e = absurd cc

small_below : (n : ℕ) → nat_lt n (2 ^ 128) ≡ true → n < 2 ^ 128
small_below n h = grind (arith, nat_tests)

abbrev SaysOf : List ℕ → Bool → Kind → Type 0
SaysOf w b kind = Says w (S.class_of kind b w) (S.content_of kind b w)

-- ---- identifiers and words

ident_says : (w : List ℕ) (b : Bool) → is_named w ≡ true → word_kind (name_of w) ≡ K.Ident → SaysOf w b K.Ident
ident_says w b n k =
    let normal = name_normal w n in
    others w (class_named (name_of w) C.Other) (says.Name (name_of w)) (among_all is_other (name_of w) C.Other names refl refl)
    (λ h. ((name_lexed (name_of w) normal k, place_lexed (name_of w) normal k), refl)) (omega arith)

no_size : (x : Option IntTy) → (number_in (S.int_type x)).0 ≡ 0
no_size None = refl
no_size (Some ty) = refl

word_says : (w : List ℕ) (b : Bool) → is_word (name_of w) ≡ true → SaysOf w b K.Word
word_says w b h =
    plain w (class_named (name_of w) C.IntWord) (S.int_type (int_named (name_of w)))
    (and_both _ _ (word_class (name_of w) names no_names h) (among_all is_other (name_of w) C.IntWord names refl refl)) (no_size (int_named (name_of w)))

identifier_says : (w : List ℕ) (b : Bool) (kind : Kind) → kind_of Identifier w ≡ Some kind → SaysOf w b kind
identifier_says w b kind e =
    let s = some_by (is_named w) (word_kind (name_of w)) kind e in
    subst (λ k. SaysOf w b k) s.1 (by_word (is_word (name_of w)) refl (is_excluded (name_of w)) refl s.0)
  where
    by_word : (x : Bool) → is_word (name_of w) ≡ x → (y : Bool) → is_excluded (name_of w) ≡ y → is_named w ≡ true → SaysOf w b (word_kind (name_of w))
    by_word true f y g n = subst (λ x. SaysOf w b (if x then K.Word else (if is_excluded (name_of w) then K.Excluded else K.Ident))) (sym f) (word_says w b f)
    by_word false f true g n = subst (λ (k : Kind). SaysOf w b k) (sym (λ i. if f i then K.Word else (if g i then K.Excluded else K.Ident))) (plain w C.Excluded says.Nothing refl refl)
    by_word false f false g n =
        let k : word_kind (name_of w) ≡ K.Ident = λ i. if f i then K.Word else (if g i then K.Excluded else K.Ident) in
        subst (λ (x : Kind). SaysOf w b x) (sym k) (ident_says w b n k)

-- ---- lifetimes

elided_says : (w : List ℕ) (b : Bool) → bytes_eq w (codes "'_") ≡ true → SaysOf w b K.Lifetime
elided_says w b h = subst (λ x. Says w (if x then C.Elided else C.Lifetime) (says.Name (name_of w))) (sym h) (plain w C.Elided (says.Name (name_of w)) refl refl)

life_says : (w v : List ℕ) (b : Bool) → w ≡ 39 ∷ v → bytes_eq w (codes "'_") ≡ false → is_named v ≡ true → bytes_eq (name_of v) (codes "static") ≡ false → SaysOf w b K.Lifetime
life_says w v b e h n s = subst (λ x. Says w (if x then C.Elided else C.Lifetime) (says.Name (name_of w))) (sym h) (record {
  name = λ k. absurd cc;
  life = λ k. subst IsLife (sym (ap name_of e ∙ quoted_name v)) (life_lexed (name_of v) (name_normal v n) s);
  digits = λ k. absurd cc;
  size = omega arith;
  dot = λ k. not_dot C.Lifetime refl k;
})

lifetime_says : (w : List ℕ) (b : Bool) (kind : Kind) → is_form b Lifetime w ≡ true → kind_of Lifetime w ≡ Some kind → SaysOf w b kind
lifetime_says [] b kind f e = absurd cc
lifetime_says (c ∷ v) b kind f e = by_test (bytes_eq v (95 ∷ [])) refl e where
  first : c == 39 ≡ true
  first = and_first (c == 39) (is_identifier v || bytes_eq v (95 ∷ [])) f

  by_static : (x : Bool) → bytes_eq (name_of v) (codes "static") ≡ x → bytes_eq v (95 ∷ []) ≡ false → is_named v ≡ true → (if x then K.Excluded else K.Lifetime) ≡ kind → SaysOf (c ∷ v) b kind
  by_static true g h n k = subst (λ (y : Kind). SaysOf (c ∷ v) b y) k (plain (c ∷ v) C.Excluded says.Nothing refl refl)
  by_static false g h n k =
      subst (λ (y : Kind). SaysOf (c ∷ v) b y) k (life_says (c ∷ v) v b (ap (λ x. x ∷ v) (eqb-true c 39 first)) (λ i. first i && h i) n g)

  by_name : (x y : Bool) → is_named v ≡ x → bytes_eq (name_of v) (codes "static") ≡ y → bytes_eq v (95 ∷ []) ≡ false → (if x then (if y then Some K.Excluded else Some K.Lifetime) else None) ≡ Some kind → SaysOf (c ∷ v) b kind
  by_name true true n g h k = by_static true g h n (some_by true K.Excluded kind k).1
  by_name true false n g h k = by_static false g h n (some_by true K.Lifetime kind k).1
  by_name false y n g h k = absurd cc

  by_test : (x : Bool) → bytes_eq v (95 ∷ []) ≡ x → (if x then Some K.Lifetime else (if is_named v then (if bytes_eq (name_of v) (codes "static") then Some K.Excluded else Some K.Lifetime) else None)) ≡ Some kind → SaysOf (c ∷ v) b kind
  by_test true h k = subst (λ (y : Kind). SaysOf (c ∷ v) b y) (some_by true K.Lifetime kind k).1 (elided_says (c ∷ v) b (λ i. first i && h i))
  by_test false h k = by_name (is_named v) (bytes_eq (name_of v) (codes "static")) refl refl h k

-- ---- numbers and digits

place_of : (w : List ℕ) → are_digits w ≡ true → is_place w ≡ true
place_of [] h = absurd cc
place_of (c ∷ w) h = h

digits_say : (w : List ℕ) → are_digits w ≡ true → is_small w ≡ true → SaysOf w true K.Integer
digits_say w d s = record {
  name = λ k. absurd cc;
  life = λ k. absurd cc;
  digits = λ k. (digits_lexed w d s, place_of w d);
  size = omega arith;
  dot = λ k. not_dot C.Digits refl k;
}

integer_size : (w : List ℕ) → IsSize (number_in (S.number (integer_of w))).0
integer_size w = by_test (is_number w && is_small w) refl where
  by_test : (b : Bool) → (is_number w && is_small w) ≡ b → IsSize (number_in (S.number (if b then Some (record { value = number_value w; suffix = int_named (suffix_of w) }) else None))).0
  by_test true e = small_below (number_value w) (and_second (is_number w) (is_small w) e)
  by_test false e = omega arith

integer_says : (w : List ℕ) → SaysOf w false K.Integer
integer_says w = record {
  name = λ k. absurd cc;
  life = λ k. absurd cc;
  digits = λ k. absurd cc;
  size = integer_size w;
  dot = λ k. not_dot C.Integer refl k;
}

number_says : (w : List ℕ) (dot b : Bool) (kind : Kind) → (b ≡ true → dot ≡ true) → is_form dot Number w ≡ true → kind_of Number w ≡ Some kind → SaysOf w b kind
number_says w dot b kind after f e =
    let s = some_by (is_small w) K.Integer kind e in
    subst (λ (k : Kind). SaysOf w b k) s.1 (by_dot b after s.0)
  where
    by_dot : (b : Bool) → (b ≡ true → dot ≡ true) → is_small w ≡ true → SaysOf w b K.Integer
    by_dot true after s = digits_say w (sym (ap (λ x. is_form x Number w) (after refl)) ∙ f) s
    by_dot false after s = integer_says w

-- ---- marks

abbrev is_marked : Class → Bool
is_marked c = not (has_class T.Identifier c) && (not (has_class T.Lifetime c) && not (has_class T.Digits c))

mark_says : (w : List ℕ) (b : Bool) → SaysOf w b K.Punct
mark_says w b =
    let test = among_all is_marked w C.Excluded marks refl refl in
    record {
      name = λ h. not_true (has_class T.Identifier (class_marked w)) (and_first (not (has_class T.Identifier (class_marked w))) (not (has_class T.Lifetime (class_marked w)) && not (has_class T.Digits (class_marked w))) test) h;
      life = λ h. not_true (has_class T.Lifetime (class_marked w)) (and_first (not (has_class T.Lifetime (class_marked w))) (not (has_class T.Digits (class_marked w))) (and_second (not (has_class T.Identifier (class_marked w))) _ test)) h;
      digits = λ h. not_true (has_class T.Digits (class_marked w)) (and_second (not (has_class T.Lifetime (class_marked w))) (not (has_class T.Digits (class_marked w))) (and_second (not (has_class T.Identifier (class_marked w))) _ test)) h;
      size = omega arith;
      dot = λ e. dot_among w marks e;
    }

-- ---- each form

pub token_says : (dot : Bool) (form : Form) (kind : Kind) (w : List ℕ) → is_form dot form w ≡ true → kind_of form w ≡ Some kind → (b : Bool) → (b ≡ true → dot ≡ true) → SaysOf w b kind
token_says dot Identifier kind w f e b after = identifier_says w b kind e
token_says dot Lifetime kind w f e b after = lifetime_says w b kind f e
token_says dot Number kind w f e b after = number_says w dot b kind after f e
token_says dot Quoted kind w f e b after = subst (λ (k : Kind). SaysOf w b k) (some_by true K.Str kind e).1 (plain w C.Text says.Nothing refl refl)
token_says dot Mark kind w f e b after = subst (λ (k : Kind). SaysOf w b k) (some_by true K.Punct kind e).1 (mark_says w b)

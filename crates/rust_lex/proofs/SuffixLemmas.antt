-- The integer type that an integer names at its end.
use Rattle.std.proofs.Common.{◌≡◌, refl, ap, sym, subst, ◌∙◌, ℕ, true, List, [], ◌∷◌, ◌++◌, length, take, Option, Some, None, is_some}
use Rattle.std.specs.Prelude.{bytes_eq}
use Rattle.aen_base.specs.declared.int_ty.IntTy.{IntTy}
use Rattle.aen_base.specs.declared.int_ty.IntTy.TheVariants.{U8, U16, U32, U64, U128, Usize, I8, I16, I32, I64, I128, Isize}
use Rattle.rust_lex.specs.Words.{int_types, int_word, int_named, int_among}
use Rattle.rust_lex.specs.Numbers.{is_suffix}
use Rattle.rust_lex.specs.Scan.{begins_word, suffix_among, suffix_length}
use Rattle.rust_lex.proofs.TestLemmas.{by_test, same_bytes, some_same}

among_word : (w : List ℕ) (ts : List IntTy) (t : IntTy) → int_among w ts ≡ Some t → w ≡ int_word t
among_word w [] t h = absurd cc
among_word w (u ∷ ts) t h =
    by_test (bytes_eq w (int_word u)) (Some u) (int_among w ts) (Some t) h
    (λ b e. same_bytes w (int_word u) b ∙ ap int_word (some_same u t e))
    (λ b e. among_word w ts t e)

-- a suffix is the name of the type that it names
pub named_word : (w : List ℕ) (t : IntTy) → int_named w ≡ Some t → w ≡ int_word t
named_word w t h = among_word w int_types t h

-- each type is found by its name, before anything
pub suffix_found : (t : IntTy) (rest : List ℕ) → suffix_among (int_word t ++ rest) int_types ≡ Some t
suffix_found U8 rest = refl
suffix_found U16 rest = refl
suffix_found U32 rest = refl
suffix_found U64 rest = refl
suffix_found U128 rest = refl
suffix_found Usize rest = refl
suffix_found I8 rest = refl
suffix_found I16 rest = refl
suffix_found I32 rest = refl
suffix_found I64 rest = refl
suffix_found I128 rest = refl
suffix_found Isize rest = refl

pub word_is_suffix : (t : IntTy) → is_suffix (int_word t) ≡ true
word_is_suffix U8 = refl
word_is_suffix U16 = refl
word_is_suffix U32 = refl
word_is_suffix U64 = refl
word_is_suffix U128 = refl
word_is_suffix Usize = refl
word_is_suffix I8 = refl
word_is_suffix I16 = refl
word_is_suffix I32 = refl
word_is_suffix I64 = refl
word_is_suffix I128 = refl
word_is_suffix Isize = refl

-- what is found begins the text
pub suffix_begins : (text : List ℕ) (ts : List IntTy) (t : IntTy) → suffix_among text ts ≡ Some t → take (length (int_word t)) text ≡ int_word t
suffix_begins text [] t h = absurd cc
suffix_begins text (u ∷ ts) t h =
    by_test (begins_word (int_word u) text) (Some u) (suffix_among text ts) (Some t) h
    (λ b e. subst (λ v. take (length (int_word v)) text ≡ int_word v) (some_same u t e) (sym (same_bytes (int_word u) (take (length (int_word u)) text) b)))
    (λ b e. suffix_begins text ts t e)

-- a suffix that ends a text is found, also before more
named_length : (o : Option IntTy) (c : ℕ) (w rest : List ℕ) → is_some o ≡ true → ((t : IntTy) → o ≡ Some t → c ∷ w ≡ int_word t) →
    length (c ∷ w) ≡ suffix_length (suffix_among ((c ∷ w) ++ rest) int_types)
named_length None c w rest h f = absurd cc
named_length (Some t) c w rest h f =
    let e = f t refl in
    ap length e ∙ ap suffix_length (sym (ap (λ x. suffix_among (x ++ rest) int_types) e ∙ suffix_found t rest))

pub suffix_counted : (c : ℕ) (w rest : List ℕ) → is_suffix (c ∷ w) ≡ true → length (c ∷ w) ≡ suffix_length (suffix_among ((c ∷ w) ++ rest) int_types)
suffix_counted c w rest h = named_length (int_named (c ∷ w)) c w rest h (named_word (c ∷ w))

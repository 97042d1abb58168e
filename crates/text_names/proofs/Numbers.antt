-- What words with a number and digits stand for.
use Rattle.std.proofs.Common.{◌≡◌, refl, ap, sym, subst, ◌∙◌, ℕ, ◌<◌, ◌≤◌, ◌^◌, Bool, true, false, List, [], ◌∷◌, Some, None, arith}
use Rattle.std.specs.Prelude.{◌&&◌, nat_lt, if◌then◌else◌, bytes_eq}
use Rattle.std.specs.List.{list_all}
use Rattle.std.specs.Char.{is_ascii_digit, digit_value}
use Rattle.std.specs.Fmt.{decimal, signed_decimal}
use Rattle.std.specs.Str.Parse.{IsNumeral, AllDigits, digits_value}
use Rattle.std.specs.Cmp.Lexicographic.{bytes_decides}
use Rattle.std.proofs.Math.Dec.{lit≤}
use Rattle.std.proofs.lemmas.Bool.{ltb-true}
use Rattle.std.proofs.lemmas.Bool.Decides.{nat_tests}
use Rattle.std.proofs.lemmas.Fmt.{decimal_is_IsNumeral_wide}
use Rattle.aen_base.specs.declared.int_ty.IntTy.{IntTy}
use Rattle.aen_base.specs.declared.int_ty.IntTy.TheVariants.{U8, U16, U32, U64, U128, Usize, I8, I16, I32, I64, I128, Isize}
use Rattle.aen_base.specs.Numbers as numbers
use Rattle.aen_base.specs.Numbers.{Number, limit, depth, in_range, signed}
use Rattle.text_meaning.specs.Names.{are_digits}
use Rattle.text_meaning.specs.Ranges.{IsSmall, IsInRange}
use Rattle.raw_meaning.specs.Numbers as s

pub by_test : {A : Type 0} {G : Type 0} (b : Bool) (x y z : A) → (if b then x else y) ≡ z → (b ≡ true → x ≡ z → G) → (b ≡ false → y ≡ z → G) → G
by_test true x y z h f g = f refl h
by_test false x y z h f g = g refl h

pub and_left : (a b : Bool) → (a && b) ≡ true → a ≡ true
and_left true b h = refl
and_left false b h = h

pub and_right : (a b : Bool) → (a && b) ≡ true → b ≡ true
and_right true b h = h
and_right false b h = absurd cc

pub and_true : (a b : Bool) → a ≡ true → b ≡ true → (a && b) ≡ true
and_true a b p q = (λ i. p i && b) ∙ q

same_bytes : (a b : List ℕ) → bytes_eq a b ≡ true → a ≡ b
same_bytes a b h = (bytes_decides a b).0 h

pub bytes_same : (a : List ℕ) → bytes_eq a a ≡ true
bytes_same a = (bytes_decides a a).1 refl

pub lt_true : (a b : ℕ) → a < b → nat_lt a b ≡ true
lt_true a b h = grind (arith, nat_tests)

-- numbers below 2^32
pub small_sound : (ds : List ℕ) (n : ℕ) → s.small_number ds ≡ Some n → (ds ≡ decimal n) × IsSmall n
small_sound ds n h =
    by_test (are_digits ds) (s.checked_number (digits_value 10 ds) ds) None (Some n) h
    (λ a e. let v = digits_value 10 ds in
    by_test (nat_lt v (2 ^ 32) && bytes_eq (decimal v) ds) (Some v) None (Some n) e
    (λ b e. let q : v ≡ n = cc in
    (sym (same_bytes (decimal v) ds (and_right _ _ b)) ∙ ap decimal q, subst IsSmall q (ltb-true v (2 ^ 32) (and_left _ _ b))))
    (λ b e. absurd cc))
    (λ a e. absurd cc)

digit_class : (c : ℕ) → digit_value c < 10 → is_ascii_digit c ≡ true
digit_class c h = grind (arith, nat_tests)

all_class : (ds : List ℕ) → AllDigits 10 ds → list_all is_ascii_digit ds ≡ true
all_class [] h = refl
all_class (c ∷ cs) h = and_true _ _ (digit_class c h.0) (all_class cs h.1)

numeral_class : (ds : List ℕ) → IsNumeral 10 ds → are_digits ds ≡ true
numeral_class [] h = let k : 0 < 0 = h.0 in absurd (omega arith)
numeral_class (c ∷ cs) h = all_class (c ∷ cs) h.1

pub decimal_digits : (n : ℕ) → n < 10 ^ 64 → are_digits (decimal n) ≡ true
decimal_digits n h = numeral_class (decimal n) (decimal_is_IsNumeral_wide n h).0

pub wide : (n : ℕ) → IsSmall n → n < 10 ^ 64
wide n h = let large : 2 ^ 32 ≤ 10 ^ 64 = lit≤ tt in omega arith

pub small_complete : (n : ℕ) → IsSmall n → s.small_number (decimal n) ≡ Some n
small_complete n h =
    let d = decimal_digits n (wide n h) in
    let v = (decimal_is_IsNumeral_wide n (wide n h)).1 in
    rw d (rw v (rw (and_true _ _ (lt_true n (2 ^ 32) h) (bytes_same (decimal n))) refl))

-- numbers of a type
pub number_sound : (ds : List ℕ) (t : IntTy) (n : Number) → s.number_of ds t ≡ Some n → (ds ≡ signed_decimal n.value) × (n.ty ≡ t) × IsInRange n
number_sound ds t n h =
    let z = signed (s.has_minus ds) (s.magnitude ds) in
    let here : Number = record { ty = t; value = z } in
    by_test (bytes_eq (signed_decimal z) ds && in_range t z) (Some here) None (Some n) h
    (λ b e. let q : here ≡ n = cc in
    (sym (same_bytes (signed_decimal z) ds (and_left _ _ b)) ∙ ap (λ (x : Number). signed_decimal x.value) q, ap (λ (x : Number). x.ty) (sym q), subst IsInRange q (and_right _ _ b)))
    (λ b e. absurd cc)

pub large_limit : (t : IntTy) → limit t ≤ 2 ^ 128
unfolding numbers.limit
large_limit U8 = lit≤ tt
large_limit U16 = lit≤ tt
large_limit U32 = lit≤ tt
large_limit U64 = lit≤ tt
large_limit U128 = lit≤ tt
large_limit Usize = lit≤ tt
large_limit I8 = lit≤ tt
large_limit I16 = lit≤ tt
large_limit I32 = lit≤ tt
large_limit I64 = lit≤ tt
large_limit I128 = lit≤ tt
large_limit Isize = lit≤ tt

pub digits_not_minus : (ds : List ℕ) → are_digits ds ≡ true → s.has_minus ds ≡ false
digits_not_minus [] h = refl
digits_not_minus (c ∷ cs) h = let k = and_left (is_ascii_digit c) (list_all is_ascii_digit cs) h in grind (arith, nat_tests)

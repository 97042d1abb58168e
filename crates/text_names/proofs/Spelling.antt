-- What digits write, and that they are spelled so.
use Rattle.std.proofs.Common.{◌≡◌, refl, ap, sym, subst, ◌∙◌, ℕ, zero, suc, ◌+◌, ◌*◌, ◌-◌, ◌/◌, ◌%◌, ◌<◌, ◌≤◌, ◌^◌, Bool, true, false, rules, List, [], ◌∷◌, ◌++◌, length, drop, take, get_or, Option, Some, None, arith, ℤ, pos, negsuc}
use Rattle.std.specs.Prelude.{◌==◌, ◌&&◌, nat_lt, if◌then◌else◌, bytes_eq}
use Rattle.std.specs.Char.{digit_value}
use Rattle.std.specs.List.{list_all}
use Rattle.std.specs.Fmt.{decimal, signed_decimal}
use Rattle.std.specs.Option.{option_and_then}
use Rattle.std.specs.Str.Parse.{IsNumeral, AllDigits, digits_value_after, digits_value}
use Rattle.std.proofs.Math.Dec.{lit≤}
use Rattle.std.proofs.lemmas.Bool.{ltb-true, eqb-true}
use Rattle.std.proofs.lemmas.Bool.Decides.{nat_tests}
use Rattle.std.proofs.lemmas.Fmt.{decimal_is_IsNumeral_wide, decimal_by_steps_wide, decimal_step_wide, decimal_digit}
use Rattle.std.proofs.lemmas.List.{append-nil, append_assoc, take_all}
use Rattle.std.proofs.lemmas.Str.{digit_value_digit}
use Rattle.std.proofs.lemmas.Str.Parse.{IsNumeralModel, numerals_by_fold, digit_from_value}
use Rattle.aen_base.specs.declared.int_ty.IntTy.{IntTy}
use Rattle.aen_base.specs.declared.int_ty.IntTy.TheVariants.{U8, U16, U32, U64, U128, Usize, I8, I16, I32, I64, I128, Isize}
use Rattle.aen_base.specs.Arithmetic.{number}
use Rattle.aen_base.specs.Decimals.{is_digit, is_number, digits_value as number_digits, decimal_below}
use Rattle.aen_base.specs.Numbers as numbers
use Rattle.aen_base.specs.Numbers.{Number, in_range, signed, limit, depth}
use Rattle.text_names.specs.Digits as d
use Rattle.raw_meaning.specs.Numbers as s
use Rattle.text_names.proofs.Numbers.{by_test, lt_true, and_left, and_right, and_true, bytes_same, small_sound, small_complete, number_sound, large_limit, digits_not_minus, decimal_digits}

-- digits, as std has them
own : IsNumeralModel (λ ds. list_all is_digit ds ≡ true) (number_digits 0)
own = numerals_by_fold _ (search rules) number_digits (search rules)

all_digits : (ds : List ℕ) → is_number ds ≡ true → list_all is_digit ds ≡ true
all_digits [] h = absurd cc
all_digits (c ∷ cs) h = h

some_digits : (ds : List ℕ) → IsNumeral 10 ds → is_number ds ≡ true
some_digits [] h = let k : 0 < 0 = h.0 in absurd (omega arith)
some_digits (c ∷ cs) h = own.from (c ∷ cs) h.1

decimal_sound : (limit : ℕ) (ds : List ℕ) (m : ℕ) → decimal_below limit ds ≡ Some m → AllDigits 10 ds × (m ≡ digits_value 10 ds) × (m < limit)
decimal_sound limit ds m h =
    by_test (is_number ds && nat_lt (number_digits 0 ds) limit) (Some (number_digits 0 ds)) None (Some m) h
    (λ b e. let q : number_digits 0 ds ≡ m = cc in
    let all = own.to ds (all_digits ds (and_left _ _ b)) in
    (all, sym q ∙ own.same ds all, subst (λ x. x < limit) q (ltb-true (number_digits 0 ds) limit (and_right _ _ b))))
    (λ b e. absurd cc)

decimal_complete : (limit : ℕ) (ds : List ℕ) → IsNumeral 10 ds → digits_value 10 ds < limit → decimal_below limit ds ≡ Some (digits_value 10 ds)
decimal_complete limit ds h l =
    let same = own.same ds h.1 in
    let b = and_true (is_number ds) (nat_lt (number_digits 0 ds) limit) (some_digits ds h) (lt_true (number_digits 0 ds) limit (omega (arith, same))) in
    ap (λ (b : Bool). if b then Some (number_digits 0 ds) else None) b ∙ ap (λ x. Some x) same

value_grows : (n : ℕ) (ds : List ℕ) → n ≤ digits_value_after 10 n ds
value_grows n [] = omega arith
value_grows n (c ∷ cs) = omega (arith, value_grows (n * 10 + digit_value c) cs)

-- the first digit
abbrev Front : ℕ → List ℕ → Type 0
Front m [] = ⊥
Front m (c ∷ cs) = 0 < m → c ≡ 48 → ⊥

front_more : (m k x : ℕ) (ds : List ℕ) → 0 < k → Front k ds → Front m (ds ++ x ∷ [])
front_more m k x [] l f = absurd f
front_more m k x (c ∷ cs) l f = λ a e. f l e

front : (n : ℕ) → n < 10 ^ 64 → Front n (decimal n)
front = decimal_by_steps_wide Front (λ n l a e. omega arith) (λ n ds l f. front_more n (n / 10) (48 + n % 10) ds (omega arith) f)

front_padded : (n : ℕ) (ds : List ℕ) → 0 < n → Front n ds → d.is_padded ds ≡ false
front_padded n [] l f = absurd f
front_padded n (c ∷ []) l f = refl
front_padded n (c ∷ e ∷ ds) l f = let no = f l in grind (arith, nat_tests)

not_padded : (n : ℕ) → n < 10 ^ 64 → d.is_padded (decimal n) ≡ false
not_padded zero h = ap d.is_padded (decimal_digit 0 (omega arith))
not_padded (suc n) h = front_padded (suc n) (decimal (suc n)) (omega arith) (front (suc n) h)

large : 2 ^ 128 ≤ 10 ^ 64
large = lit≤ tt

value_after : (n : ℕ) (ds : List ℕ) → 0 < n → AllDigits 10 ds → digits_value_after 10 n ds < 10 ^ 64 → decimal (digits_value_after 10 n ds) ≡ decimal n ++ ds
value_after n [] some h small = sym (append-nil (decimal n))
value_after n (c ∷ cs) some h small =
    let m : ℕ = n * 10 + digit_value c in
    let k = digit_value_digit c (digit_from_value c h.0) in
    let first : m / 10 ≡ n = omega (arith, h.0) in
    let end : 48 + m % 10 ≡ c = omega (arith, h.0) in
    value_after m cs (omega arith) h.1 small
    ∙ ap (λ x. x ++ cs) (decimal_step_wide m (omega arith) (omega (arith, value_grows m cs)) ∙ (λ i. decimal (first i) ++ (end i ∷ [])))
    ∙ append_assoc (decimal n) (c ∷ []) cs

no_zero : (c : ℕ) → (c == 48) ≡ false → c ≡ 48 → ⊥
no_zero c h e = grind (arith, nat_tests)

above_zero_digit : (c : ℕ) → digit_value c + 48 ≡ c → (c ≡ 48 → ⊥) → 0 < 0 * 10 + digit_value c
above_zero_digit c k n = let q : digit_value c ≡ 0 → ⊥ = λ z. n (omega (arith, z)) in omega (arith, q)

spelled : (ds : List ℕ) → AllDigits 10 ds → d.is_padded ds ≡ false → digits_value 10 ds < 10 ^ 64 → decimal (digits_value 10 ds) ≡ ds
spelled [] h p small = absurd cc
spelled (c ∷ []) h p small =
    let k = digit_value_digit c (digit_from_value c h.0) in
    decimal_digit (0 * 10 + digit_value c) (omega (arith, h.0)) ∙ ap (λ x. x ∷ []) (omega arith)
spelled (c ∷ e ∷ cs) h p small =
    let k = digit_value_digit c (digit_from_value c h.0) in
    let is : 48 + (0 * 10 + digit_value c) ≡ c = omega arith in
    value_after (0 * 10 + digit_value c) (e ∷ cs) (above_zero_digit c k (no_zero c p)) h.1 small
    ∙ ap (λ x. x ++ (e ∷ cs)) (decimal_digit (0 * 10 + digit_value c) (omega (arith, h.0)) ∙ ap (λ x. x ∷ []) is)

-- the number that is written
written_sound : (limit : ℕ) (ds : List ℕ) (m : ℕ) → limit ≤ 2 ^ 128 → d.written limit ds ≡ Some m → (ds ≡ decimal m) × (m < limit)
unfolding d.written
written_sound limit ds m few h =
    by_test (d.is_padded ds) None (decimal_below limit ds) (Some m) h
    (λ b e. absurd cc)
    (λ b e. let r = decimal_sound limit ds m e in
    let l = large in
    (sym (spelled ds r.0 b (omega (arith, r.1, r.2))) ∙ ap decimal (sym r.1), r.2))

written_complete : (limit m : ℕ) → limit ≤ 2 ^ 128 → m < limit → d.written limit (decimal m) ≡ Some m
unfolding d.written
written_complete limit m few h =
    let l = large in
    let w : m < 10 ^ 64 = omega arith in
    let n = decimal_is_IsNumeral_wide m w in
    rw (not_padded m w) (decimal_complete limit (decimal m) n.0 (omega (arith, n.1)) ∙ ap Some n.1)

-- numbers below 2^32
small_limit : 2 ^ 32 ≤ 2 ^ 128
small_limit = lit≤ tt

none_small : (ds : List ℕ) (o : Option ℕ) → s.small_number ds ≡ o → d.written (2 ^ 32) ds ≡ None → o ≡ None
none_small ds None h w = refl
none_small ds (Some n) h w =
    let r = small_sound ds n h in
    let k = written_complete (2 ^ 32) n small_limit r.1 in
    let e = ap (d.written (2 ^ 32)) r.0 in
    absurd cc

small_by : (ds : List ℕ) (o : Option ℕ) → d.written (2 ^ 32) ds ≡ o → s.small_number ds ≡ o
small_by ds (Some m) w = let r = written_sound (2 ^ 32) ds m small_limit w in ap s.small_number r.0 ∙ small_complete m r.1
small_by ds None w = none_small ds (s.small_number ds) refl w

pub small_is : (ds : List ℕ) → s.small_number ds ≡ d.written (2 ^ 32) ds
small_is ds = small_by ds (d.written (2 ^ 32) ds) refl

-- numbers of a type
plain_value : (ds : List ℕ) → s.has_minus ds ≡ false → s.magnitude ds ≡ digits_value 10 ds
plain_value [] h = refl
plain_value (c ∷ cs) h = rw h refl

plain_signed : (m : ℕ) → m < 10 ^ 64 → signed (s.has_minus (decimal m)) (s.magnitude (decimal m)) ≡ pos m
plain_signed m h =
    let n = digits_not_minus (decimal m) (decimal_digits m h) in
    let v = plain_value (decimal m) n ∙ (decimal_is_IsNumeral_wide m h).1 in
    rw (n, v) refl

plain_number : (m : ℕ) (t : IntTy) → m < 10 ^ 64 → s.number_of (decimal m) t ≡ d.signed_number false t m
plain_number m t h = ap (λ z. s.valued (decimal m) z t) (plain_signed m h) ∙ rw (bytes_same (decimal m)) refl

minus_zero : (t : IntTy) → s.number_of (45 ∷ decimal 0) t ≡ None
minus_zero t =
    ap (λ ds. s.valued (45 ∷ ds) (signed (s.has_minus (45 ∷ ds)) (s.magnitude (45 ∷ ds))) t) (decimal_digit 0 (omega arith))
    ∙ ap (λ ds. if bytes_eq ds (45 ∷ 48 ∷ []) && in_range t (pos 0) then Some (number t (pos 0)) else None) (decimal_digit 0 (omega arith))

minus_some : (k : ℕ) (t : IntTy) → suc k < 10 ^ 64 → s.number_of (45 ∷ decimal (suc k)) t ≡ d.signed_number true t (suc k)
minus_some k t h =
    let v = (decimal_is_IsNumeral_wide (suc k) h).1 in
    ap (λ z. s.valued (45 ∷ decimal (suc k)) (signed true z) t) v ∙ rw (bytes_same (45 ∷ decimal (suc k))) refl

not_zero : (k : ℕ) → (suc k == 0) ≡ false
not_zero k = grind (arith, nat_tests)

minus_decimal : (m : ℕ) (t : IntTy) → m < 10 ^ 64 → s.number_of (45 ∷ decimal m) t ≡ d.minus_number t m
minus_decimal zero t h = minus_zero t
minus_decimal (suc k) t h = minus_some k t h ∙ ap (λ (b : Bool). if b then None else d.signed_number true t (suc k)) (sym (not_zero k))

depth_below : (t : IntTy) → depth t + 1 ≤ 2 ^ 128
unfolding numbers.depth
depth_below U8 = lit≤ tt
depth_below U16 = lit≤ tt
depth_below U32 = lit≤ tt
depth_below U64 = lit≤ tt
depth_below U128 = lit≤ tt
depth_below Usize = lit≤ tt
depth_below I8 = lit≤ tt
depth_below I16 = lit≤ tt
depth_below I32 = lit≤ tt
depth_below I64 = lit≤ tt
depth_below I128 = lit≤ tt
depth_below Isize = lit≤ tt

written_front : (n : ℕ) → n < 2 ^ 128 → s.has_minus (decimal n) ≡ false
written_front n h = let l = large in digits_not_minus (decimal n) (decimal_digits n (omega arith))

not_plain : (ds : List ℕ) (z : ℤ) (t : IntTy) → ds ≡ signed_decimal z → in_range t z ≡ true → s.has_minus ds ≡ false → d.written (2 ^ 128) ds ≡ None → ⊥
not_plain ds (pos n) t e r m w =
    let a = ltb-true n (limit t) r in
    let b = large_limit t in
    let k = written_complete (2 ^ 128) n (omega arith) (omega arith) in
    let f = ap (d.written (2 ^ 128)) e in
    cc
not_plain ds (negsuc n) t e r m w = let f = ap s.has_minus e in cc

not_minus : (cs : List ℕ) (z : ℤ) (t : IntTy) → (45 ∷ cs) ≡ signed_decimal z → in_range t z ≡ true → d.written (2 ^ 128) cs ≡ None → ⊥
not_minus cs (pos n) t e r w =
    let a = ltb-true n (limit t) r in
    let b = large_limit t in
    let k = written_front n (omega arith) in
    let f = ap s.has_minus e in
    cc
not_minus cs (negsuc n) t e r w =
    let a = ltb-true n (depth t) r in
    let b = depth_below t in
    let k = written_complete (2 ^ 128) (suc n) (omega arith) (omega arith) in
    let f = ap (λ (ds : List ℕ). d.written (2 ^ 128) (drop 1 ds)) e in
    cc

none_plain : (ds : List ℕ) (t : IntTy) (o : Option Number) → s.number_of ds t ≡ o → s.has_minus ds ≡ false → d.written (2 ^ 128) ds ≡ None → o ≡ None
none_plain ds t None h m w = refl
none_plain ds t (Some n) h m w =
    let r = number_sound ds t n h in
    absurd (not_plain ds n.value n.ty r.0 r.2 m w)

none_minus : (cs : List ℕ) (t : IntTy) (o : Option Number) → s.number_of (45 ∷ cs) t ≡ o → d.written (2 ^ 128) cs ≡ None → o ≡ None
none_minus cs t None h w = refl
none_minus cs t (Some n) h w =
    let r = number_sound (45 ∷ cs) t n h in
    absurd (not_minus cs n.value n.ty r.0 r.2 w)

plain_by : (ds : List ℕ) (t : IntTy) (o : Option ℕ) → d.written (2 ^ 128) ds ≡ o → s.has_minus ds ≡ false → s.number_of ds t ≡ option_and_then (d.signed_number false t) o
plain_by ds t (Some m) w h =
    let r = written_sound (2 ^ 128) ds m (omega arith) w in
    let l = large in
    ap (λ ds. s.number_of ds t) r.0 ∙ plain_number m t (omega (arith, r.1))
plain_by ds t None w h = none_plain ds t (s.number_of ds t) refl h w

minus_by : (cs : List ℕ) (t : IntTy) (o : Option ℕ) → d.written (2 ^ 128) cs ≡ o → s.number_of (45 ∷ cs) t ≡ option_and_then (d.minus_number t) o
minus_by cs t (Some m) w =
    let r = written_sound (2 ^ 128) cs m (omega arith) w in
    let l = large in
    ap (λ ds. s.number_of (45 ∷ ds) t) r.0 ∙ minus_decimal m t (omega (arith, r.1))
minus_by cs t None w = none_minus cs t (s.number_of (45 ∷ cs) t) refl w

empty : (z : ℤ) (t : IntTy) → [] ≡ signed_decimal z → in_range t z ≡ true → ⊥
empty (pos n) t e r =
    let a = ltb-true n (limit t) r in
    let b = large_limit t in
    let l = large in
    let k = (decimal_is_IsNumeral_wide n (omega arith)).0.0 in
    let f = ap (λ (ds : List ℕ). length ds) e in
    omega (arith, f)
empty (negsuc n) t e r = cc

none_number : (t : IntTy) (o : Option Number) → s.number_of [] t ≡ o → o ≡ None
none_number t None h = refl
none_number t (Some n) h = absurd (empty n.value n.ty (number_sound [] t n h).0 (number_sound [] t n h).2)

number_by : (b : Bool) (c : ℕ) (cs : List ℕ) (t : IntTy) → (c == 45) ≡ b → s.number_of (c ∷ cs) t ≡ (if b then d.below_zero cs t else d.above_zero (c ∷ cs) t)
unfolding d.below_zero d.above_zero
number_by true c cs t h = ap (λ c. s.number_of (c ∷ cs) t) (eqb-true c 45 h) ∙ minus_by cs t (d.written (2 ^ 128) cs) refl
number_by false c cs t h = plain_by (c ∷ cs) t (d.written (2 ^ 128) (c ∷ cs)) refl h

pub number_is : (ds : List ℕ) (t : IntTy) → s.number_of ds t ≡ d.number_read ds t
number_is [] t = none_number t (s.number_of [] t) refl
number_is (c ∷ cs) t = number_by (c == 45) c cs t refl

-- a minus stands first
pub number_minus : (ds : List ℕ) (t : IntTy) → 1 ≤ length ds → get_or ds 0 0 ≡ 45 → d.below_zero (take (length ds - 1) (drop 1 ds)) t ≡ s.number_of ds t
number_minus [] t l e = absurd (omega arith)
number_minus (c ∷ cs) t l e =
    ap (λ xs. d.below_zero xs t) (take_all (length (c ∷ cs) - 1) cs (omega arith))
    ∙ ap (λ (k : ℕ). if k == 45 then d.below_zero cs t else d.above_zero (c ∷ cs) t) (sym e)
    ∙ sym (number_is (c ∷ cs) t)

-- Numbers that words write: their range, and what is printed for them.
use Rattle.std.proofs.Common.{◌≡◌, ℕ, ◌^◌, ◌<◌, Bool, true, false, ◌&&◌, List, [], ◌∷◌, length, rules, refl, ap, ◌∙◌, arith, nat_lt}
use Rattle.std.specs.Prelude.{Some, None, pos, if◌then◌else◌}
use Rattle.std.specs.List.{list_all}
use Rattle.std.specs.Fmt.{decimal}
use Rattle.std.proofs.lemmas.Bool.{ltb-true, lt-ltb}
use Rattle.std.proofs.lemmas.Option.{same_Some}
use Rattle.std.proofs.lemmas.Str.Parse.{IsNumeralModel, numerals_by_fold}
use Rattle.std.proofs.lemmas.Fmt.{digits_decimal, digits_value-decimal, decimal_nonempty}
use Rattle.aen_base.specs.declared.int_ty.IntTy.TheVariants.{U32}
use Rattle.aen_base.specs.Numbers.{limit, in_range}
use Rattle.aen_base.specs.Decimals.{is_digit, is_number, digits_value, decimal_below}

limit_is : limit U32 ≡ 2 ^ 32
unfolding limit
limit_is = refl

pub in_u32 : (n : ℕ) → n < 2 ^ 32 → in_range U32 (pos n) ≡ true
in_u32 n h = ap (nat_lt n) limit_is ∙ lt-ltb n (2 ^ 32) h

small_by : (a l : Bool) (k m : ℕ) → nat_lt k (2 ^ 32) ≡ l → (if a && l then Some k else None) ≡ Some m → m < 2 ^ 32
small_by true true k m e h =
    let same : k ≡ m = same_Some k m h in
    let low = ltb-true k (2 ^ 32) e in
    omega arith
small_by true false k m e h = absurd (cc)
small_by false l k m e h = absurd (cc)

pub word_small : (w : List ℕ) (m : ℕ) → decimal_below (2 ^ 32) w ≡ Some m → m < 2 ^ 32
word_small w m h = small_by (is_number w) (nat_lt (digits_value 0 w) (2 ^ 32)) (digits_value 0 w) m refl h

own : IsNumeralModel (λ ds. list_all is_digit ds ≡ true) (digits_value 0)
own = numerals_by_fold _ (search rules) digits_value (search rules)

some_digits : (ds : List ℕ) → 0 < length ds → list_all is_digit ds ≡ true → is_number ds ≡ true
some_digits [] h all = absurd (omega arith)
some_digits (c ∷ ds) h all = all

-- what is printed for a number is read as this number
pub printed : (n : ℕ) → n < 2 ^ 32 → decimal_below (2 ^ 32) (decimal n) ≡ Some n
printed n h =
    let all = digits_decimal own n (omega arith) in
    let same = digits_value-decimal own n (omega arith) in
    let digits = some_digits (decimal n) (decimal_nonempty n (omega arith)) all in
    ap (λ (b : Bool). if b && nat_lt (digits_value 0 (decimal n)) (2 ^ 32) then Some (digits_value 0 (decimal n)) else None) digits
    ∙ ap (λ (k : ℕ). if nat_lt k (2 ^ 32) then Some k else None) same
    ∙ ap (λ (b : Bool). if b then Some n else None) (lt-ltb n (2 ^ 32) h)

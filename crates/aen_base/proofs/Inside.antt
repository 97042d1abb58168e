-- What the operators give is in the range of its type.
use Rattle.std.proofs.Common.{◌≡◌, refl, ℕ, ◌-◌, ◌/◌, ◌^◌, ◌<◌, Bool, true, false, nat_lt, ℤ, pos, negsuc, ◌+ℤ◌, ◌-ℤ◌, ◌*ℤ◌, neg_ℤ, int_div, int_rem, bit_and, bit_or, bit_xor, Result, IfOk, arith}
use Rattle.std.specs.Prelude.{Ok, Err, if◌then◌else◌}
use Rattle.std.specs.Ordering.{int_eq}
use Rattle.std.proofs.lemmas.Bool.{lt-ltb, ltb-false}
use Rattle.std.proofs.lemmas.Nat.{pow_pos, shr_le, and_le_l, or_lt, xor_lt}
use Rattle.aen_base.specs.declared.int_ty.IntTy.{IntTy}
use Rattle.aen_base.specs.declared.operators.BinOp.{BinOp}
use Rattle.aen_base.specs.declared.operators.BinOp.TheVariants as B
use Rattle.aen_base.specs.declared.operators.PanicKind.{PanicKind}
use Rattle.aen_base.specs.declared.operators.PanicKind.TheVariants.{Overflow, DivideByZero}
use Rattle.aen_base.specs.Numbers.{Number, width, limit, depth, in_range}
use Rattle.aen_base.specs.Arithmetic.{number, kept, bits_of, of_bits, cast_to, shift_right, shifted, apply, negated, inverted}
use Rattle.aen_base.proofs.LowBits.{low_bits_below}
use Rattle.aen_base.proofs.Results.{nearer, nearer_below, remainder_inside}
use Rattle.aen_base.proofs.Sizes.{sizes}

-- a result, where it is one, is in range
abbrev pub IsInside : Result Number PanicKind → Type 0
IsInside r = IfOk r (λ n. in_range n.ty n.value ≡ true)

-- the number of some bits
of_bits_by : (t : IntTy) (n : ℕ) (test : Bool) → nat_lt n (limit t) ≡ test → n < 2 ^ width t →
    in_range t (if test then pos n else negsuc (2 ^ width t - 1 - n)) ≡ true
of_bits_by t n true e h = e
of_bits_by t n false e h = lt-ltb (2 ^ width t - 1 - n) (depth t) (omega (arith, sizes t, ltb-false n (limit t) e))

pub of_bits_inside : (t : IntTy) (n : ℕ) → n < 2 ^ width t → in_range t (of_bits t n) ≡ true
of_bits_inside t n h = of_bits_by t n (nat_lt n (limit t)) refl h

pub cast_inside : (t : IntTy) (z : ℤ) → in_range t (cast_to t z) ≡ true
cast_inside t z = of_bits_inside t (bits_of t z) (low_bits_below (width t) z)

pub inverted_inside : (t : IntTy) (z : ℤ) → in_range t (inverted t z) ≡ true
inverted_inside t z =
    let p : 0 < 2 ^ width t = pow_pos (width t) in
    of_bits_inside t (2 ^ width t - 1 - bits_of t z) (omega arith)

-- a result that is tested
kept_by : (t : IntTy) (z : ℤ) (test : Bool) → in_range t z ≡ test → IsInside (if test then Ok (number t z) else Err Overflow)
kept_by t z true e = e
kept_by t z false e = tt

pub kept_inside : (t : IntTy) (z : ℤ) → IsInside (kept t z)
kept_inside t z = kept_by t z (in_range t z) refl

by_divisor : (zero : Bool) (r : Result Number PanicKind) → IsInside r → IsInside (if zero then Err DivideByZero else r)
by_divisor true r h = tt
by_divisor false r h = h

remainder_by : (t : IntTy) (a b : ℤ) (test : Bool) → in_range t a ≡ true → IsInside (if test then Ok (number t (int_rem a b)) else Err Overflow)
remainder_by t a b true h = remainder_inside t a b h
remainder_by t a b false h = tt

-- a shift
shifted_by : (t : IntTy) (z : ℤ) (test : Bool) → in_range t z ≡ true → IsInside (if test then Ok (number t z) else Err Overflow)
shifted_by t z true h = h
shifted_by t z false h = tt

shifted_inside : (t : IntTy) (f : ℕ → ℤ) (b : ℤ) → ((k : ℕ) → in_range t (f k) ≡ true) → IsInside (shifted t f b)
shifted_inside t f (pos k) h = shifted_by t (f k) (nat_lt k (width t)) (h k)
shifted_inside t f (negsuc k) h = tt

shift_right_inside : (t : IntTy) (a : ℤ) (k : ℕ) → in_range t a ≡ true → in_range t (shift_right a k) ≡ true
shift_right_inside t (pos n) k h = nearer t (n / 2 ^ k) n (shr_le n k) h
shift_right_inside t (negsuc n) k h = nearer_below t (n / 2 ^ k) n (shr_le n k) h

-- an operator on a number in range
pub apply_inside : (op : BinOp) (t : IntTy) (a b : ℤ) → in_range t a ≡ true → IsInside (apply op t a b)
apply_inside B.Add t a b h = kept_inside t (a +ℤ b)
apply_inside B.Sub t a b h = kept_inside t (a -ℤ b)
apply_inside B.Mul t a b h = kept_inside t (a *ℤ b)
apply_inside B.Div t a b h = by_divisor (int_eq b (pos 0)) (kept t (int_div a b)) (kept_inside t (int_div a b))
apply_inside B.Rem t a b h =
    by_divisor (int_eq b (pos 0)) (if in_range t (int_div a b) then Ok (number t (int_rem a b)) else Err Overflow)
    (remainder_by t a b (in_range t (int_div a b)) h)
apply_inside B.Shl t a b h = shifted_inside t (λ k. cast_to t (a *ℤ pos (2 ^ k))) b (λ k. cast_inside t (a *ℤ pos (2 ^ k)))
apply_inside B.Shr t a b h = shifted_inside t (shift_right a) b (λ k. shift_right_inside t a k h)
apply_inside B.And t a b h =
    let bits = low_bits_below (width t) a in
    of_bits_inside t (bit_and (bits_of t a) (bits_of t b)) (omega (arith, bits, and_le_l (bits_of t a) (bits_of t b)))
apply_inside B.Or t a b h =
    of_bits_inside t (bit_or (bits_of t a) (bits_of t b))
    (or_lt (width t) (bits_of t a) (bits_of t b) (low_bits_below (width t) a) (low_bits_below (width t) b))
apply_inside B.Xor t a b h =
    of_bits_inside t (bit_xor (bits_of t a) (bits_of t b))
    (xor_lt (width t) (bits_of t a) (bits_of t b) (low_bits_below (width t) a) (low_bits_below (width t) b))

pub negated_inside : (t : IntTy) (a : ℤ) → IsInside (negated t a)
negated_inside t a = kept_inside t (neg_ℤ a)

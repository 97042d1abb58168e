-- Arithmetic on unbounded whole numbers: the exact result, or why it panics
-- (LANGUAGE.md, "Integers").
use Rattle.std.specs.Prelude.{ℕ, ◌-◌, ◌/◌, ◌%◌, ◌^◌, Bool, not, nat_lt, if◌then◌else◌, ℤ, pos, negsuc, ◌+ℤ◌, ◌-ℤ◌, ◌*ℤ◌, neg_ℤ, int_div, int_rem, int_lt, int_le, bit_and, bit_or, bit_xor, Result, Ok, Err}
use Rattle.std.specs.Ordering.{int_eq}
use Rattle.aen_base.specs.declared.int_ty.IntTy.{IntTy}
use Rattle.aen_base.specs.declared.operators.BinOp.{BinOp}
use Rattle.aen_base.specs.declared.operators.BinOp.TheVariants as B
use Rattle.aen_base.specs.declared.operators.CmpOp.{CmpOp}
use Rattle.aen_base.specs.declared.operators.CmpOp.TheVariants as C
use Rattle.aen_base.specs.declared.operators.PanicKind.{PanicKind}
use Rattle.aen_base.specs.declared.operators.PanicKind.TheVariants.{Overflow, DivideByZero}
use Rattle.aen_base.specs.Numbers.{Number, width, limit, in_range}

-- a number of this type
abbrev pub number : IntTy → ℤ → Number
number t z = record { ty = t; value = z }

-- the result where it is in range
abbrev pub kept : IntTy → ℤ → Result Number PanicKind
kept t z = if in_range t z then Ok (number t z) else Err Overflow

-- the number's lowest k bits, in two's complement
abbrev pub low_bits : ℕ → ℤ → ℕ
low_bits k (pos n) = n % 2 ^ k
low_bits k (negsuc n) = 2 ^ k - 1 - n % 2 ^ k

-- the bits of a number of this type, and the number of this type that has these bits
abbrev pub bits_of : IntTy → ℤ → ℕ
bits_of t z = low_bits (width t) z

abbrev pub of_bits : IntTy → ℕ → ℤ
of_bits t n = if nat_lt n (limit t) then pos n else negsuc (2 ^ width t - 1 - n)

-- `as`: the low bits when narrowing, the source's sign when widening
abbrev pub cast_to : IntTy → ℤ → ℤ
cast_to t z = of_bits t (bits_of t z)

-- division toward zero
abbrev pub divided : IntTy → ℤ → ℤ → Result Number PanicKind
divided t a b = if int_eq b (pos 0) then Err DivideByZero else kept t (int_div a b)

-- the remainder has the sign of the left side; the least value by -1 panics as its quotient does
abbrev pub remainder : IntTy → ℤ → ℤ → Result Number PanicKind
remainder t a b =
    if int_eq b (pos 0) then Err DivideByZero
    else (if in_range t (int_div a b) then Ok (number t (int_rem a b)) else Err Overflow)

-- the sign is repeated
abbrev pub shift_right : ℤ → ℕ → ℤ
shift_right (pos n) k = pos (n / 2 ^ k)
shift_right (negsuc n) k = negsuc (n / 2 ^ k)

-- a shift by a number below the width; any other panics
abbrev pub shifted : IntTy → (ℕ → ℤ) → ℤ → Result Number PanicKind
shifted t f (pos k) = if nat_lt k (width t) then Ok (number t (f k)) else Err Overflow
shifted t f (negsuc k) = Err Overflow

-- an operation on bits
abbrev pub bitwise : IntTy → (ℕ → ℕ → ℕ) → ℤ → ℤ → Result Number PanicKind
bitwise t f a b = Ok (number t (of_bits t (f (bits_of t a) (bits_of t b))))

-- an operator on a number of type t and a whole number
abbrev pub apply : BinOp → IntTy → ℤ → ℤ → Result Number PanicKind
apply B.Add t a b = kept t (a +ℤ b)
apply B.Sub t a b = kept t (a -ℤ b)
apply B.Mul t a b = kept t (a *ℤ b)
apply B.Div t a b = divided t a b
apply B.Rem t a b = remainder t a b
apply B.Shl t a b = shifted t (λ k. cast_to t (a *ℤ pos (2 ^ k))) b
apply B.Shr t a b = shifted t (shift_right a) b
apply B.And t a b = bitwise t bit_and a b
apply B.Or t a b = bitwise t bit_or a b
apply B.Xor t a b = bitwise t bit_xor a b

-- unary minus
abbrev pub negated : IntTy → ℤ → Result Number PanicKind
negated t a = kept t (neg_ℤ a)

-- `!` on a number: every bit flipped
abbrev pub inverted : IntTy → ℤ → ℤ
inverted t a = of_bits t (2 ^ width t - 1 - bits_of t a)

abbrev pub compared : CmpOp → ℤ → ℤ → Bool
compared C.Eq a b = int_eq a b
compared C.Ne a b = not (int_eq a b)
compared C.Lt a b = int_lt a b
compared C.Le a b = int_le a b
compared C.Gt a b = int_lt b a
compared C.Ge a b = int_le b a

-- Numbers as they are spelled: without leading zeros.
use Rattle.std.specs.Prelude.{ℕ, ◌^◌, ◌==◌, Bool, true, false, if◌then◌else◌, List, [], ◌∷◌, Option, Some, None}
use Rattle.std.specs.Option.{option_and_then}
use Rattle.aen_base.specs.declared.int_ty.IntTy.{IntTy}
use Rattle.aen_base.specs.Arithmetic.{number}
use Rattle.aen_base.specs.Decimals.{decimal_below}
use Rattle.aen_base.specs.Numbers.{Number, in_range, signed}

-- no digit at all, or a zero before others
abbrev pub is_padded : List ℕ → Bool
is_padded [] = true
is_padded (c ∷ []) = false
is_padded (c ∷ d ∷ ds) = c == 48

-- the number below the limit that digits write without leading zeros
unfoldable pub written : ℕ → List ℕ → Option ℕ
written limit ds = if is_padded ds then None else decimal_below limit ds

-- the number of a type with a sign and a magnitude, if it is in range
abbrev pub signed_number : Bool → IntTy → ℕ → Option Number
signed_number minus t m = if in_range t (signed minus m) then Some (number t (signed minus m)) else None

-- no zero stands after a minus
abbrev pub minus_number : IntTy → ℕ → Option Number
minus_number t m = if m == 0 then None else signed_number true t m

-- the number of a type that digits write after a minus, and without one
unfoldable pub below_zero : List ℕ → IntTy → Option Number
below_zero ds t = option_and_then (minus_number t) (written (2 ^ 128) ds)

unfoldable pub above_zero : List ℕ → IntTy → Option Number
above_zero ds t = option_and_then (signed_number false t) (written (2 ^ 128) ds)

abbrev pub number_read : List ℕ → IntTy → Option Number
number_read [] t = None
number_read (c ∷ cs) t = if c == 45 then below_zero cs t else above_zero (c ∷ cs) t

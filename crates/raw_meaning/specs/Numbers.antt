-- The numbers that words and digits write (TEXT.md, "Tokens", "Faults").
use Rattle.std.specs.Prelude.{ℕ, ℤ, ◌^◌, ◌==◌, ◌&&◌, nat_lt, Bool, false, if◌then◌else◌, List, [], ◌∷◌, Option, Some, None, bytes_eq}
use Rattle.std.specs.Str.Parse.{digits_value}
use Rattle.std.specs.Fmt.{decimal, signed_decimal}
use Rattle.aen_base.specs.declared.int_ty.IntTy.{IntTy}
use Rattle.aen_base.specs.Numbers.{Number, in_range, signed}
use Rattle.text_meaning.specs.Names.{are_digits}

-- a decimal number below 2^32 without leading zeros
abbrev pub checked_number : ℕ → List ℕ → Option ℕ
checked_number n ds = if nat_lt n (2 ^ 32) && bytes_eq (decimal n) ds then Some n else None

abbrev pub small_number : List ℕ → Option ℕ
small_number ds = if are_digits ds then checked_number (digits_value 10 ds) ds else None

-- such a number after a prefix
abbrev pub numbered : List ℕ → List ℕ → Option ℕ
numbered [] w = small_number w
numbered (c ∷ cs) [] = None
numbered (c ∷ cs) (d ∷ w) = if d == c then numbered cs w else None

-- the number of a type that digits with a sign write
abbrev pub magnitude : List ℕ → ℕ
magnitude [] = 0
magnitude (c ∷ cs) = if c == 45 then digits_value 10 cs else digits_value 10 (c ∷ cs)

abbrev pub has_minus : List ℕ → Bool
has_minus [] = false
has_minus (c ∷ cs) = c == 45

abbrev pub valued : List ℕ → ℤ → IntTy → Option Number
valued s z t = if bytes_eq (signed_decimal z) s && in_range t z then Some (record { ty = t; value = z }) else None

abbrev pub number_of : List ℕ → IntTy → Option Number
number_of s t = valued s (signed (has_minus s) (magnitude s)) t

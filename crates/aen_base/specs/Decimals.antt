-- Decimal digits as bytes, and the number that they write (LANGUAGE.md, "Tokens").
use Rattle.std.specs.Prelude.{ℕ, ◌+◌, ◌-◌, ◌*◌, ◌^◌, Bool, false, ◌&&◌, nat_le, nat_lt, if◌then◌else◌, List, [], ◌∷◌, Option, Some, None}
use Rattle.std.specs.List.{list_all}

abbrev pub is_digit : ℕ → Bool
is_digit c = nat_le 48 c && nat_le c 57

-- the number that decimal digits write, after the digits that were read
abbrev pub digits_value : ℕ → List ℕ → ℕ
digits_value n [] = n
digits_value n (c ∷ cs) = digits_value (n * 10 + (c - 48)) cs

-- a number: one decimal digit or more
abbrev pub is_number : List ℕ → Bool
is_number [] = false
is_number (c ∷ cs) = list_all is_digit (c ∷ cs)

-- the number that a word writes, if it is a number, and below the limit; it may begin with zeros
abbrev pub decimal_below : ℕ → List ℕ → Option ℕ
decimal_below limit w = if is_number w && nat_lt (digits_value 0 w) limit then Some (digits_value 0 w) else None

abbrev pub decimal_number : List ℕ → Option ℕ
decimal_number w = decimal_below (2 ^ 128) w

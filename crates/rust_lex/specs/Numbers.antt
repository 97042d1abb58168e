-- How integers are spelled, and the number that a spelling means (LANGUAGE.md, "Tokens").
-- The digits of a base, with `_` between them; decimal words without `_` are those of `Decimals` in `aen_base`.
use Rattle.std.specs.Prelude.{ℕ, ◌+◌, ◌*◌, ◌^◌, Bool, true, false, nat_lt, ◌&&◌, ◌||◌, ◌==◌, if◌then◌else◌, List, [], ◌∷◌, Option, Some, None, drop}
use Rattle.std.specs.Option.{is_some}
use Rattle.std.specs.List.{list_all}
use Rattle.std.specs.Char.{is_ascii_digit, digit_value}
use Rattle.rust_lex.specs.Characters.{begins, begins_two, front, back}
use Rattle.rust_lex.specs.Words.{int_named}
use Rattle.rust_lex.specs.declared.token.Base.{Base}
use Rattle.rust_lex.specs.declared.token.Base.TheVariants.{Binary, Octal, Decimal, Hexadecimal}
use Rattle.rust_lex.specs.declared.token.Integer.{Integer}

abbrev pub radix : Base → ℕ
radix Binary = 2
radix Octal = 8
radix Decimal = 10
radix Hexadecimal = 16

-- `0x`, `0o` and `0b` tell the base
abbrev pub base_of : List ℕ → Base
base_of w =
    if begins_two 48 120 w then Hexadecimal
    else (if begins_two 48 111 w then Octal
    else (if begins_two 48 98 w then Binary else Decimal))

abbrev pub prefix_length : Base → ℕ
prefix_length Decimal = 0
prefix_length b = 2

abbrev pub after_prefix : List ℕ → List ℕ
after_prefix w = drop (prefix_length (base_of w)) w

-- a digit of a base
abbrev pub is_digit_of : Base → ℕ → Bool
is_digit_of b c = nat_lt (digit_value c) (radix b)

-- what may stand after the first digit: digits and `_`
abbrev pub goes_on : Base → ℕ → Bool
goes_on b c = is_digit_of b c || (c == 95)

abbrev pub digits_of : List ℕ → List ℕ
digits_of w = front (goes_on (base_of w)) (after_prefix w)

abbrev pub suffix_of : List ℕ → List ℕ
suffix_of w = back (goes_on (base_of w)) (after_prefix w)

-- nothing, or an integer type's name
abbrev pub is_suffix : List ℕ → Bool
is_suffix [] = true
is_suffix (c ∷ w) = is_some (int_named (c ∷ w))

-- an integer: perhaps a prefix, a digit, digits and `_`, and perhaps a suffix
unfoldable pub is_number : List ℕ → Bool
is_number w = begins (is_digit_of (base_of w)) (after_prefix w) && is_suffix (suffix_of w)

-- what is read directly after `.`: decimal digits alone
abbrev pub are_digits : List ℕ → Bool
are_digits [] = false
are_digits (c ∷ w) = list_all is_ascii_digit (c ∷ w)

-- the number that digits write in a base, after the number n; `_` means nothing
abbrev pub value_in : ℕ → ℕ → List ℕ → ℕ
value_in base n [] = n
value_in base n (c ∷ cs) = if c == 95 then value_in base n cs else value_in base (n * base + digit_value c) cs

-- the number that an integer's spelling means
unfoldable pub number_value : List ℕ → ℕ
number_value w = value_in (radix (base_of w)) 0 (digits_of w)

-- there is no number above 2^128 - 1
abbrev pub is_small : List ℕ → Bool
is_small w = nat_lt (number_value w) (2 ^ 128)

-- the value and the suffix of an integer
abbrev pub integer_of : List ℕ → Option Integer
integer_of w = if is_number w && is_small w then Some (record { value = number_value w; suffix = int_named (suffix_of w) }) else None

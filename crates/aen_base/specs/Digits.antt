-- Steps of reading a decimal number.
use Rattle.std.specs.Prelude.{ℕ, ◌+◌, ◌-◌, ◌*◌, ◌^◌, ◌&&◌, nat_lt, if◌then◌else◌, Option, Some, None}
use Rattle.aen_base.specs.Decimals.{is_digit}

-- a number below 2^128 with one more digit
unfoldable pub with_digit : ℕ → ℕ → Option ℕ
with_digit n c = if is_digit c && nat_lt (n * 10 + (c - 48)) (2 ^ 128) then Some (n * 10 + (c - 48)) else None

-- a number, if it is below 2^32
abbrev pub narrowed : ℕ → Option ℕ
narrowed n = if nat_lt n (2 ^ 32) then Some n else None

-- Whole numbers as the code holds them: a sign and a magnitude below 2 ^ 128.
use Rattle.std.specs.Prelude.{◌≡◌, ℕ, zero, suc, ◌-◌, ◌≤◌, ◌^◌, Bool, true, false, ℤ, Option, Some, None, unsigned_abs}
use Rattle.aen_base.specs.declared.whole.Whole.{Whole}
use Rattle.aen_base.specs.Numbers.{signed}

-- the number that a sign and a magnitude are; a zero may bear either sign
abbrev pub whole : Whole → ℤ
whole w = signed w.neg w.mag

-- the exact result, or none where its magnitude has more than 128 bits
abbrev pub IsExact : Option Whole → ℤ → Type 0
IsExact (Some w) z = whole w ≡ z
IsExact None z = 2 ^ 128 ≤ unsigned_abs z

-- the lowest k bits of a number of this sign, where m is the lowest k bits of its magnitude
abbrev pub negated_low : ℕ → Bool → ℕ → ℕ
negated_low k false m = m
negated_low k true zero = 0
negated_low k true (suc m) = 2 ^ k - suc m

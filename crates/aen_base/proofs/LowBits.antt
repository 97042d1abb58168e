-- Bits in two's complement.
use Rattle.std.proofs.Common.{◌≡◌, ℕ, ◌^◌, ◌<◌, ℤ, pos, negsuc, arith}
use Rattle.std.proofs.lemmas.Nat.{pow_pos, mod_below}
use Rattle.aen_base.specs.declared.int_ty.IntTy.{IntTy}
use Rattle.aen_base.specs.Numbers.{width}
use Rattle.aen_base.specs.Arithmetic.{low_bits, bits_of}

-- k bits are a number below 2 to the power of k
pub low_bits_below : (k : ℕ) (z : ℤ) → low_bits k z < 2 ^ k
low_bits_below k (pos n) = mod_below n (2 ^ k) (pow_pos k)
low_bits_below k (negsuc n) = let p : 0 < 2 ^ k = pow_pos k in omega arith

pub bits_below : (t : IntTy) (z : ℤ) (n : ℕ) → n ≡ bits_of t z → n < 2 ^ width t
bits_below t z n e = rw e (low_bits_below (width t) z)

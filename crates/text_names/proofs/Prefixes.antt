-- A word that ends before its prefix does.
use Rattle.std.proofs.Common.{◌≡◌, refl, ℕ, zero, suc, ◌<◌, List, [], ◌∷◌, length, drop, None, arith}
use Rattle.raw_meaning.specs.Numbers.{numbered}

pub ends : (prefix left : List ℕ) (i : ℕ) → i < length prefix → length left < 1 → numbered (drop i prefix) left ≡ None
ends [] left i h e = absurd (omega arith)
ends (c ∷ cs) [] zero h e = refl
ends (c ∷ cs) (x ∷ xs) zero h e = absurd (omega arith)
ends (c ∷ cs) left (suc i) h e = ends cs left i (omega arith) e

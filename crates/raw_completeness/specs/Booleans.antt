-- Truths that are known.
use Rattle.std.proofs.Common.{◌≡◌, refl, ◌∙◌, Bool, true, false}
use Rattle.std.specs.Prelude.{◌&&◌}

pub both_true : (a b : Bool) → a ≡ true → b ≡ true → a && b ≡ true
both_true a b p q = (λ i. p i && b) ∙ q

pub false_if : (b : Bool) → (b ≡ true → ⊥) → b ≡ false
false_if true h = absurd (h refl)
false_if false h = refl

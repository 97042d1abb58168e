-- What is found after something that is found, and only where a test holds.
use Rattle.std.proofs.Common.{◌≡◌, refl, Bool, true, false, Option, Some, None}
use Rattle.rust_sums.specs.Gets.{and_then, where_}

pub found_after : {A B : Type 0} (o : Option A) (f : A → Option B) (y : B) → and_then o f ≡ Some y → (x : A) × (o ≡ Some x) × (f x ≡ Some y)
found_after None f y h = absurd cc
found_after (Some x) f y h = (x, refl, h)

pub found_where : {A : Type 0} (b : Bool) (o : Option A) (y : A) → where_ b o ≡ Some y → (b ≡ true) × (o ≡ Some y)
found_where true o y h = (refl, h)
found_where false o y h = absurd cc

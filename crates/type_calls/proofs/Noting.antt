-- A parameter against a type, and as many types on both sides.
use Rattle.std.proofs.Common.{◌≡◌, ℕ, List, length, refl, ap, ◌∙◌}
use Rattle.std.specs.Prelude.{Bool, true, ◌==◌, Option, Some, None, option_map, slice_set}
use Rattle.core_ty.specs.Types as t
use Rattle.type_rules.specs.Matching.{Finds, find_of, match_param}
use Rattle.type_rules.specs.TypeFacts.{count, same}
use Rattle.type_values.specs.Counting.{count_is}

pub counted : (xs ys : List t.Ty) → (count (t.tys xs) == count (t.tys ys)) ≡ (length xs == length ys)
counted xs ys = ap (λ (n : ℕ). n == count (t.tys ys)) (count_is xs) ∙ ap (λ (n : ℕ). length xs == n) (count_is ys)

found_so : (k : ℕ) (y : t.Ty) (f : Finds) (o : Option t.Ty) (b : Bool) → Some b ≡ option_map (λ x. same x y) o → match_param k y f o ≡ (b, f)
found_so k y f None b h = absurd cc
found_so k y f (Some x) b h = cc

not_found : (k : ℕ) (y : t.Ty) (f : Finds) (o : Option t.Ty) → None ≡ option_map (λ x. same x y) o → match_param k y f o ≡ (true, slice_set f k (Some y))
not_found k y f None h = refl
not_found k y f (Some x) h = absurd cc

pub matches : (k : ℕ) (y : t.Ty) (f : Finds) (b : Bool) → Some b ≡ option_map (λ x. same x y) (find_of f k) → match_param k y f (find_of f k) ≡ (b, f)
matches k y f b h = found_so k y f (find_of f k) b h

pub finds : (k : ℕ) (y : t.Ty) (f : Finds) → None ≡ option_map (λ x. same x y) (find_of f k) → match_param k y f (find_of f k) ≡ (true, slice_set f k (Some y))
finds k y f h = not_found k y f (find_of f k) h

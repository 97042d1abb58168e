-- The parts of a call.
use Rattle.std.proofs.Common.{◌≡◌, ℕ, suc, List, [], ◌∷◌, ◌++◌, length, refl, ap}
use Rattle.rust_ast.specs.Spelled as s
use Rattle.type_calls.specs.Wholes.{seconds}
use Rattle.type_rules.specs.Arguments.{part_count, values_of}

pub counted : (vs : List (ℕ × s.Val)) → part_count (s.parts vs) ≡ length vs
counted [] = refl
counted (v ∷ vs) = ap (λ n. suc n) (counted vs)

pub seconds_onto : (vs : List (ℕ × s.Val)) (v : ℕ × s.Val) → seconds (vs ++ v ∷ []) ≡ seconds vs ++ v.1 ∷ []
seconds_onto [] v = refl
seconds_onto (w ∷ vs) v = ap (λ (xs : List s.Val). w.1 ∷ xs) (seconds_onto vs v)

pub values_are : (vs : List (ℕ × s.Val)) → values_of (s.parts vs) ≡ s.values (seconds vs)
values_are [] = refl
values_are (v ∷ vs) = ap (s.more_values v.1) (values_are vs)

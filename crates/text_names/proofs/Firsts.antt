-- The first place of several.
use Rattle.std.proofs.Common.{◌≡◌, List, [], ◌∷◌, ◌++◌, ℕ, Option, Some}
use Rattle.aen_base.specs.declared.span.Span.{Span}
use Rattle.raw_meaning.specs.Rules.{unless_declared}
use Rattle.text_names.specs.Settled.{first}

pub first_append : (xs ys : List Span) (place : Span) → first xs ≡ Some place → first (xs ++ ys) ≡ Some place
first_append [] ys place h = absurd cc
first_append (x ∷ xs) ys place h = h

pub first_declared : (xs : List Span) (found : Option (ℕ × ℕ)) (count : ℕ) (end place : Span) → first xs ≡ Some place → first (unless_declared xs found count end) ≡ Some place
first_declared [] found count end place h = absurd cc
first_declared (x ∷ xs) found count end place h = h

-- What looking at one node comes to.
use Rattle.std.specs.Prelude.{◌≡◌, List, [], ◌∷◌, Option, Some, None, Result, Ok, Err}
use Rattle.aen_base.specs.declared.span.Span.{Span}

-- the first of some places
abbrev pub first : {A : Type 0} → List A → Option A
first [] = None
first (x ∷ xs) = Some x

-- its value where no rule is broken, else the first place at which one is
abbrev pub Settles : {A : Type 0} → List Span → Option A → Result A Span → Type 0
Settles faults value (Ok x) = (faults ≡ []) × (value ≡ Some x)
Settles faults value (Err place) = first faults ≡ Some place

-- the same of a node without a value
abbrev pub Keeps : {A : Type 0} → List Span → Result A Span → Type 0
Keeps faults (Ok x) = faults ≡ []
Keeps faults (Err place) = first faults ≡ Some place

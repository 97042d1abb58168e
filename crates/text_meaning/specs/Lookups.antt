-- The names of types, constructors and functions by their numbers, empty where there is none.
use Rattle.std.specs.Prelude.{ℕ, List, [], Option, Some, None, slice_get, length}
use Rattle.std.specs.Option.{option_map, option_and_then}
use Rattle.pure_ast.specs.declared.ctor.CtorId.{CtorId}
use Rattle.pure_ast.specs.declared.ctor.CtorId.TheVariants.{Of, Brk, Ret}
use Rattle.pure_ast.specs.declared.def.Defs.{Defs}
use Rattle.pure_ast.specs.Types.{PTy}

-- the name that is there, or none
abbrev pub or_empty : Option (List ℕ) → List ℕ
or_empty None = []
or_empty (Some name) = name

abbrev pub type_name : Defs → ℕ → List ℕ
type_name defs t = or_empty (option_map (λ d. d.name) (slice_get defs.types t))

-- a variant's name and its fields
abbrev pub Variant : Type 0
Variant = List ℕ × List (List ℕ × PTy)

abbrev pub variant : Defs → ℕ → ℕ → Option Variant
variant defs t k = option_and_then (λ d. slice_get d.variants k) (slice_get defs.types t)

abbrev pub variant_name : Defs → ℕ → ℕ → List ℕ
variant_name defs t k = or_empty (option_map (λ v. v.0) (variant defs t k))

abbrev pub function_name : Defs → ℕ → List ℕ
function_name defs f = or_empty (slice_get defs.names f)

-- the type parameter in this place
abbrev pub parameter_name : List (List ℕ) → ℕ → List ℕ
parameter_name names k = or_empty (slice_get names k)

-- how many parts a constructor has; None where there is no such constructor
abbrev pub parts_of : Defs → CtorId → Option ℕ
parts_of defs (Of t k) = option_map (λ v. length v.1) (variant defs t.0 k)
parts_of defs Brk = Some 1
parts_of defs Ret = Some 1

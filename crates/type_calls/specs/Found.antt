-- One type parameter, before and after more is found.
use Rattle.std.specs.Prelude.{Bool, false, Option, Some, None}
use Rattle.type_rules.specs.TypeFacts.{has_reference}
use Rattle.core_ty.specs.Types as t

-- what is found holds a reference
abbrev pub found_reference : Option t.Ty → Bool
found_reference None = false
found_reference (Some x) = has_reference x

-- it holds one, and wasn't found before
abbrev pub new_reference : Option t.Ty → Option (Option t.Ty) → Bool
new_reference (Some x) o = false
new_reference None None = false
new_reference None (Some o) = found_reference o

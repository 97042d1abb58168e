-- What is called, as code says it.
use Rattle.std.specs.Prelude.{ℕ, List, map}
use Rattle.type_calls.specs.declared.callees.Callee as code
use Rattle.type_rules.specs.Callees.{Callee}
use Rattle.core_ty.specs.Types as t

abbrev pub as_callee : code.Callee → Callee
as_callee g = record { types = g.types; params = g.params; result = g.result }

abbrev pub field_types : List (List ℕ × t.Ty) → List t.Ty
field_types fs = map (λ (f : List ℕ × t.Ty). f.1) fs

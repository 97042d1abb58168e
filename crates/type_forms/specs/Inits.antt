-- Which field a named argument has.
use Rattle.std.specs.List.{list_any}
use Rattle.std.specs.Prelude.{Bool, ℕ, ◌==◌, Result, Ok, Option, List, map, option_map}
use Rattle.aen_base.specs.declared.span.Span.{Span}
use Rattle.type_rules.specs.Constructors.{field_number, is_no_field}
use Rattle.type_rules.specs.Faults.{Fault, refuse}
use Rattle.type_rules.specs.Fields.{field_named}
use Rattle.type_rules.specs.declared.fault.KindOfFault.TheVariants.{Field}
use Rattle.rust_ast.specs.Spelled as s
use Rattle.core_ty.specs.Types as t

-- the fields that are written so far
abbrev pub written_fields : List (ℕ × s.Val) → List ℕ
written_fields vs = map (λ (v : ℕ × s.Val). v.0) vs

abbrev pub is_written : ℕ → List (ℕ × s.Val) → Bool
is_written k vs = list_any (λ j. j == k) (written_fields vs)

abbrev pub field_of_init : Span → List ℕ → List (List ℕ × t.Ty) → List (ℕ × s.Val) → Result (ℕ × Option t.Ty) Fault
field_of_init p name fs vs =
    refuse (is_no_field (field_named name 0 fs) (written_fields vs)) p Field (
    Ok (field_number (field_named name 0 fs), option_map (λ (k : ℕ × t.Ty). k.1) (field_named name 0 fs)))

-- Integers as they are written (LANGUAGE.md, "Expressions", "Patterns").
use Rattle.std.specs.Prelude.{Bool, false, Result, Ok, ℕ, not, Option, Some, None}
use Rattle.aen_base.specs.Numbers.{Number, signed, in_range}
use Rattle.aen_base.specs.declared.int_ty.IntTy.{IntTy}
use Rattle.aen_base.specs.declared.int_ty.IntTy.TheVariants.{I32}
use Rattle.aen_base.specs.declared.span.Span.{Span}
use Rattle.type_rules.specs.Faults.{Fault, refuse}
use Rattle.type_rules.specs.TypeFacts.{same}
use Rattle.type_rules.specs.declared.fault.KindOfFault.TheVariants.{Mismatch, LiteralRange}
use Rattle.rust_ast.specs.Patterns as p
use Rattle.core_ty.specs.Types as t

abbrev pub is_other_type : IntTy → Option t.Ty → Bool
is_other_type i None = false
is_other_type i (Some x) = not (same x (t.int i))

-- the type of a literal: its suffix, the expected integer type, or i32
abbrev pub literal_type : p.Suffix → Option t.Ty → IntTy
literal_type (p.some_suffix i) o = i
literal_type p.no_suffix (Some (t.int i)) = i
literal_type p.no_suffix o = I32

-- LiteralRange: the literal is outside its type
abbrev pub is_outside : IntTy → Bool → ℕ → Bool
is_outside i negative m = not (in_range i (signed negative m))

-- a literal where this type, or any, is expected
unfoldable pub literal : Span → Bool → ℕ → p.Suffix → Option t.Ty → Result Number Fault
literal s negative m suffix o =
    refuse (is_other_type (literal_type suffix o) o) s Mismatch (
    refuse (is_outside (literal_type suffix o) negative m) s LiteralRange (
    Ok (record { ty = literal_type suffix o; value = signed negative m })))

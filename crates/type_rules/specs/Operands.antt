-- The parts of expressions, and the forms that have none or are tuples (LANGUAGE.md, "Expressions").
use Rattle.std.specs.Prelude.{Bool, true, Result, ℕ, ◌==◌, if◌then◌else◌, Option, Some, List, [], length, map}
use Rattle.aen_base.specs.declared.span.Span.{Span}
use Rattle.type_rules.specs.Expecting.{expected_type, for_part, or_unit}
use Rattle.type_rules.specs.Faults.{Fault, and_then}
use Rattle.type_rules.specs.Forms.{Expected, Raw, stands, held}
use Rattle.type_rules.specs.Literals.{literal}
use Rattle.type_rules.specs.Places.{Answer, gives, of_type, type_of}
use Rattle.type_rules.specs.States.{may_be_written, type_of_variable}
use Rattle.type_rules.specs.WrittenOut.{finished}
use Rattle.type_rules.specs.declared.state.Scope.{Scope}
use Rattle.type_rules.specs.declared.state.State.{State}
use Rattle.rust_ast.specs.Patterns as p
use Rattle.rust_ast.specs.Spelled as s
use Rattle.core_ty.specs.Types as t

-- a part of an expression: where it stands, whether it is a literal without a suffix, and what
-- typing gives for it
pub record Operand : Type 0 where
  pub span : Span
  pub unsuffixed : Bool
  pub read : Expected → State → Answer

abbrev pub Valued : Type 0
Valued = Result (s.Val × State) Fault

-- the part as a value
abbrev pub value_of : Operand → Expected → State → Valued
value_of a x st = finished x a.span (a.read x st)

-- what has every type: the type that is expected, else unit
abbrev pub diverging : Expected → Span → s.Form → Raw
diverging x p n = held (s.value (or_unit (expected_type x)) true p n)

-- a literal
unfoldable pub number_rule : Span → Bool → ℕ → p.Suffix → Expected → State → Answer
number_rule p negative m suffix x st =
    and_then (literal p negative m suffix (expected_type x)) (λ n.
    gives (of_type (t.int n.ty) p (s.number n)) st)

-- a variable is a place
unfoldable pub variable_rule : Scope → ℕ → State → Answer
variable_rule c k st = gives (stands (s.variable k) (type_of_variable st k) (may_be_written c k)) st

-- a tuple
abbrev pub parts_expected : Expected → ℕ → Option t.Ty → List Expected
parts_expected x n (Some (t.tuple xs)) = if length (t.tys_list xs) == n then map (for_part x) (t.tys_list xs) else []
parts_expected x n o = []

abbrev pub types_of : s.Values → t.Tys
types_of s.no_values = t.no_tys
types_of (s.more_values v vs) = t.more_tys (type_of v) (types_of vs)

abbrev pub tuple_type : s.Values → t.Ty
tuple_type s.no_values = t.unit
tuple_type (s.more_values v vs) = t.tuple (types_of (s.more_values v vs))

unfoldable pub tuple_rule : Span → ℕ → (List Expected → State → Result (s.Values × State) Fault) → Expected → State → Answer
tuple_rule p n read x st =
    and_then (read (parts_expected x n (expected_type x)) st) (λ r.
    gives (of_type (tuple_type r.0) p (s.tuple r.0)) r.1)

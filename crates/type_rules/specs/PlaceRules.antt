-- Operators on places: `*`, `&`, fields, assignments (LANGUAGE.md, "Places").
use Rattle.std.specs.Prelude.{Bool, Ok, Err, ℕ, ◌&&◌, if◌then◌else◌, Option, Some, None, List}
use Rattle.aen_base.specs.declared.operators.BinOp.{BinOp}
use Rattle.aen_base.specs.declared.span.Span.{Span}
use Rattle.type_rules.specs.Access.{dereferenced, field_of, stripped}
use Rattle.type_rules.specs.Faults.{and_then, at, refuse}
use Rattle.type_rules.specs.Fields.{Part, part_of}
use Rattle.type_rules.specs.Forms.{none, hint, want, Raw}
use Rattle.type_rules.specs.Operands.{Operand, Valued, value_of}
use Rattle.type_rules.specs.Operators.{is_shift, takes_type}
use Rattle.type_rules.specs.Places.{Answer, gives, is_not_mutable, is_not_place, of_type, raw_type, the_place, type_of}
use Rattle.type_rules.specs.TypeFacts.{is_integer, is_nested_borrow, is_not_integer, no_region}
use Rattle.type_rules.specs.declared.fault.KindOfFault.TheVariants.{NestedBorrow, Field, NotPlace, NotMutable, NotInteger}
use Rattle.type_rules.specs.declared.state.Scope.{Scope}
use Rattle.type_rules.specs.declared.state.State.{State}
use Rattle.rust_ast.specs.Spelled as s
use Rattle.core_ty.specs.Types as t

-- `*e`
abbrev pub deref_given : Span → Option Raw → State → Answer
deref_given p None st = Err (at p NotInteger)
deref_given p (Some r) st = gives r st

unfoldable pub deref_rule : Span → Operand → State → Answer
deref_rule p a st = and_then (a.read none st) (λ r. deref_given a.span (dereferenced (raw_type r.0) p r.0) r.1)

-- `&e`, `&mut e`
unfoldable pub borrow_rule : Span → Bool → Operand → State → Answer
borrow_rule p m a st =
    and_then (a.read none st) (λ r.
    refuse (is_not_place r.0) a.span NotPlace (
    refuse (m && is_not_mutable r.0) a.span NotMutable (
    refuse (is_nested_borrow (raw_type r.0)) p NestedBorrow (
    gives (of_type (t.ref no_region m (raw_type r.0)) p (s.borrow m (the_place r.0))) r.1))))

-- `e.f`: through references and boxes to the first struct or tuple; there the field is or isn't
abbrev pub field_given : Span → Span → Part → Raw → State → Answer
field_given p f None r st = Err (at f Field)
field_given p f (Some k) r st = gives (field_of p k.0 k.1 r) st

unfoldable pub field_rule : Scope → Span → Operand → Span → List ℕ → State → Answer
field_rule c p a f name st =
    and_then (a.read none st) (λ r.
    field_given p f (part_of c.decls name (raw_type (stripped (raw_type r.0) a.span r.0))) (stripped (raw_type r.0) a.span r.0) r.1)

-- the left side of an assignment
abbrev pub target : Operand → State → Answer
target a st =
    and_then (a.read none st) (λ r.
    refuse (is_not_place r.0) a.span NotPlace (
    refuse (is_not_mutable r.0) a.span NotMutable (
    Ok r)))

-- `p = e`
unfoldable pub assign_rule : Span → Operand → Operand → State → Answer
assign_rule p a b st =
    and_then (target a st) (λ l.
    and_then (value_of b (want (raw_type l.0)) l.1) (λ r.
    gives (of_type t.unit p (s.assign (the_place l.0) r.0)) r.1))

-- `p += e`
abbrev pub update_value : BinOp → Operand → t.Ty → State → Valued
update_value op b x st =
    and_then (value_of b (if is_shift op then none else hint x) st) (λ r.
    refuse (is_shift op && is_not_integer is_integer (type_of r.0)) b.span NotInteger (Ok r))

unfoldable pub update_rule : Span → BinOp → Operand → Operand → State → Answer
update_rule p op a b st =
    and_then (target a st) (λ l.
    refuse (is_not_integer (takes_type op) (raw_type l.0)) a.span NotInteger (
    and_then (update_value op b (raw_type l.0) l.1) (λ r.
    gives (of_type t.unit p (s.update (raw_type l.0) op (the_place l.0) r.0)) r.1)))

-- Operators on values (LANGUAGE.md, "Expressions").
use Rattle.std.specs.Prelude.{Bool, true, false, Result, Ok, ◌&&◌, if◌then◌else◌, is_none}
use Rattle.aen_base.specs.declared.int_ty.IntTy.{IntTy}
use Rattle.aen_base.specs.declared.operators.BinOp.{BinOp}
use Rattle.aen_base.specs.declared.operators.CmpOp.{CmpOp}
use Rattle.aen_base.specs.declared.span.Span.{Span}
use Rattle.type_rules.specs.Expecting.{expected_type, for_operand}
use Rattle.type_rules.specs.Faults.{Fault, and_then, refuse}
use Rattle.type_rules.specs.Forms.{Expected, none, hint}
use Rattle.type_rules.specs.Operands.{Operand, value_of}
use Rattle.type_rules.specs.Places.{Answer, gives, of_type, type_of}
use Rattle.type_rules.specs.TypeFacts.{is_integer, is_integer_or_bool, is_not_integer, is_signed_integer}
use Rattle.type_rules.specs.declared.fault.KindOfFault.TheVariants.{NotInteger}
use Rattle.type_rules.specs.declared.state.State.{State}
use Rattle.aen_base.specs.declared.operators.BinOp.TheVariants as B
use Rattle.aen_base.specs.declared.operators.CmpOp.TheVariants as C
use Rattle.rust_ast.specs.Spelled as s
use Rattle.core_ty.specs.Types as t

-- `-e`
unfoldable pub minus_rule : Span → Operand → Expected → State → Answer
minus_rule p a x st =
    and_then (value_of a (for_operand x) st) (λ r.
    refuse (is_not_integer is_signed_integer (type_of r.0)) a.span NotInteger (
    gives (of_type (type_of r.0) p (s.minus r.0)) r.1))

-- `!e`
unfoldable pub negation_rule : Span → Operand → Expected → State → Answer
negation_rule p a x st =
    and_then (value_of a (for_operand x) st) (λ r.
    refuse (is_not_integer is_integer_or_bool (type_of r.0)) a.span NotInteger (
    gives (of_type (type_of r.0) p (s.negation r.0)) r.1))

-- two operands of one type that the operator takes: the left one first, unless it is a literal
-- without a suffix where no type is expected
abbrev pub Operands : Type 0
Operands = Result ((s.Val × s.Val) × State) Fault

abbrev pub left_first : (t.Ty → Bool) → Operand → Operand → Expected → State → Operands
left_first takes a b x st =
    and_then (value_of a x st) (λ l.
    refuse (is_not_integer takes (type_of l.0)) a.span NotInteger (
    and_then (value_of b (hint (type_of l.0)) l.1) (λ r.
    Ok ((l.0, r.0), r.1))))

abbrev pub right_first : (t.Ty → Bool) → Operand → Operand → State → Operands
right_first takes a b st =
    and_then (value_of b none st) (λ r.
    refuse (is_not_integer takes (type_of r.0)) b.span NotInteger (
    and_then (value_of a (hint (type_of r.0)) r.1) (λ l.
    Ok ((l.0, r.0), l.1))))

abbrev pub is_unexpected : Expected → Bool
is_unexpected x = is_none (expected_type x)

unfoldable pub operands : (t.Ty → Bool) → Operand → Operand → Expected → State → Operands
operands takes a b x st = (if a.unsuffixed && is_unexpected x then right_first takes a b else left_first takes a b x) st

abbrev pub is_shift : BinOp → Bool
is_shift B.Shl = true
is_shift B.Shr = true
is_shift op = false

abbrev pub takes_type : BinOp → t.Ty → Bool
takes_type B.And x = is_integer_or_bool x
takes_type B.Or x = is_integer_or_bool x
takes_type B.Xor x = is_integer_or_bool x
takes_type op x = is_integer x

abbrev pub compares_type : CmpOp → t.Ty → Bool
compares_type C.Eq x = is_integer_or_bool x
compares_type C.Ne x = is_integer_or_bool x
compares_type op x = is_integer x

-- the right side of a shift has an integer type of its own
abbrev pub shift : Operand → Operand → Expected → State → Operands
shift a b x st =
    and_then (value_of a x st) (λ l.
    refuse (is_not_integer is_integer (type_of l.0)) a.span NotInteger (
    and_then (value_of b none l.1) (λ r.
    refuse (is_not_integer is_integer (type_of r.0)) b.span NotInteger (
    Ok ((l.0, r.0), r.1)))))

unfoldable pub binary_rule : Span → BinOp → Operand → Operand → Expected → State → Answer
binary_rule p op a b x st =
    and_then ((if is_shift op then shift a b (for_operand x) else operands (takes_type op) a b (for_operand x)) st) (λ r.
    gives (of_type (type_of r.0.0) p (s.binary op r.0.0 r.0.1)) r.1)

unfoldable pub compare_rule : Span → CmpOp → Operand → Operand → State → Answer
compare_rule p op a b st =
    and_then (operands (compares_type op) a b none st) (λ r.
    gives (of_type t.bool p (s.compare op r.0.0 r.0.1)) r.1)

-- `a && b`, `a || b`
unfoldable pub lazy_rule : Span → (s.Val → s.Val → s.Form) → Operand → Operand → State → Answer
lazy_rule p node a b st =
    and_then (value_of a (hint t.bool) st) (λ l.
    and_then (value_of b (hint t.bool) l.1) (λ r.
    gives (of_type t.bool p (node l.0 r.0)) r.1))

-- `e as T`
unfoldable pub cast_rule : Span → Operand → IntTy → State → Answer
cast_rule p a i st =
    and_then (value_of a none st) (λ r.
    refuse (is_not_integer is_integer_or_bool (type_of r.0)) a.span NotInteger (
    gives (of_type (t.int i) p (s.cast r.0 i)) r.1))

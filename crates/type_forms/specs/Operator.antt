-- Operators that share their rules: which types they take, and what they make.
use Rattle.std.specs.Prelude.{Bool, true, false}
use Rattle.type_forms.specs.declared.operators.Operator.{Operator}
use Rattle.type_forms.specs.declared.operators.Operator.TheVariants.{Binary, Compare}
use Rattle.type_rules.specs.Operators.{takes_type, compares_type}
use Rattle.rust_ast.specs.Spelled as s
use Rattle.core_ty.specs.Types as t

abbrev pub takes : Operator → t.Ty → Bool
takes (Binary op) x = takes_type op x
takes (Compare op) x = compares_type op x

-- `&&`, or `||`
abbrev pub lazy_form : Bool → s.Val → s.Val → s.Form
lazy_form true = s.both
lazy_form false = s.either

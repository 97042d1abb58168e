-- A value is larger than its parts.
use Rattle.std.specs.Prelude.{◌≤◌, ◌+◌, ◌*◌, List, [], ◌∷◌}
use Rattle.std.proofs.Common.{arith}
use denote.Param.Weighed.{most}
use Rattle.pure_ast.specs.declared.value.PValueNode.{PValueNode}
use Rattle.pure_ast.specs.declared.value.PValueNode.TheVariants as N
use Rattle.pure_ast.specs.declared.value.PValue.TheDeep.{deep-PValueNode}
use Rattle.pure_ast.specs.Values.{PValue, pvalues, nodes_pvalue, nodes_pvalues}
use Rattle.pure_ast.specs.ValueView.{value_of}

most_values : (vs : List PValue) → most (λ v. nodes_pvalue v + 1) vs ≤ nodes_pvalues (pvalues vs) + 1
most_values [] = omega arith
most_values (v ∷ vs) = omega (arith, most_values vs)

pub value_falls : (n : PValueNode) → deep-PValueNode n ≤ nodes_pvalue (value_of n)
value_falls (N.Tuple vs) = omega (arith, most_values vs)
value_falls (N.Ctor c vs) = omega (arith, most_values vs)
value_falls _ = omega arith

-- the parts of a value are smaller than the value
pub most_dropped : (vs : List PValue) → most (λ v. 2 * (nodes_pvalue v + 1) + 0) vs ≤ 2 * nodes_pvalues (pvalues vs)
most_dropped [] = omega arith
most_dropped (v ∷ vs) = omega (arith, most_dropped vs)

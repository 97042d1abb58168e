-- A type is larger than its parts.
use Rattle.std.specs.Prelude.{◌≤◌, ◌+◌, ◌*◌, List, [], ◌∷◌}
use Rattle.std.proofs.Common.{arith}
use denote.Param.Weighed.{most}
use Rattle.pure_ast.specs.declared.ty.PTyNode.{PTyNode}
use Rattle.pure_ast.specs.declared.ty.PTyNode.TheVariants as N
use Rattle.pure_ast.specs.declared.ty.PTy.TheDeep.{deep-PTyNode}
use Rattle.pure_ast.specs.Types.{PTy, ptys, nodes_pty, nodes_ptys}
use Rattle.pure_ast.specs.TypeView.{type_of}

most_types : (ts : List PTy) → most (λ t. nodes_pty t + 1) ts ≤ nodes_ptys (ptys ts) + 1
most_types [] = omega arith
most_types (t ∷ ts) = omega (arith, most_types ts)

pub type_falls : (n : PTyNode) → deep-PTyNode n ≤ nodes_pty (type_of n)
type_falls (N.Prod ts) = omega (arith, most_types ts)
type_falls (N.Named t ts) = omega (arith, most_types ts)
type_falls _ = omega arith

-- the parts of a type are smaller than the type
pub most_dropped : (ts : List PTy) → most (λ t. 2 * (nodes_pty t + 1) + 0) ts ≤ 2 * nodes_ptys (ptys ts)
most_dropped [] = omega arith
most_dropped (t ∷ ts) = omega (arith, most_dropped ts)

-- A type is larger than its parts.
use Rattle.std.specs.Prelude.{◌≤◌, ◌+◌, ◌*◌, List, [], ◌∷◌}
use Rattle.std.proofs.Common.{arith}
use denote.Param.Weighed.{most}
use Rattle.raw_ast.specs.declared.ty.RawTypeNode.{RawTypeNode}
use Rattle.raw_ast.specs.declared.ty.RawTypeNode.TheVariants as N
use Rattle.raw_ast.specs.declared.ty.RawType.TheDeep.{deep-RawTypeNode}
use Rattle.raw_ast.specs.Types.{RawType, rawtypes, nodes_rawtype, nodes_rawtypes}
use Rattle.raw_ast.specs.TypeView.{type_of}

most_types : (ts : List RawType) → most (λ t. nodes_rawtype t + 1) ts ≤ nodes_rawtypes (rawtypes ts) + 1
most_types [] = omega arith
most_types (t ∷ ts) = omega (arith, most_types ts)

pub type_falls : (n : RawTypeNode) → deep-RawTypeNode n ≤ nodes_rawtype (type_of n)
type_falls (N.Prod ts) = omega (arith, most_types ts)
type_falls (N.Named t ts) = omega (arith, most_types ts)
type_falls _ = omega arith

-- the parts of a type are smaller than the type
pub most_dropped : (ts : List RawType) → most (λ t. 2 * (nodes_rawtype t + 1) + 0) ts ≤ 2 * nodes_rawtypes (rawtypes ts)
most_dropped [] = omega arith
most_dropped (t ∷ ts) = omega (arith, most_dropped ts)

-- The type that a node of the tree stands for (TEXT.md, "Types").
use Rattle.raw_ast.specs.declared.ty.RawTypeNode.{RawTypeNode}
use Rattle.raw_ast.specs.declared.ty.RawTypeNode.TheVariants as N
use Rattle.raw_ast.specs.Types.{RawType, integer, boolean, unit, product, named, exit, rawtypes}

abbrev pub type_of : RawTypeNode → RawType
type_of (N.Int t) = integer t
type_of N.Bool = boolean
type_of N.Unit = unit
type_of (N.Prod ts) = product (rawtypes ts)
type_of (N.Named t ts) = named t (rawtypes ts)
type_of (N.Exit a b) = exit a b

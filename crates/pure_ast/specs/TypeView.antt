-- The type that a node of the tree stands for (TEXT.md, "Types").
use Rattle.pure_ast.specs.declared.ty.PTyNode.{PTyNode}
use Rattle.pure_ast.specs.declared.ty.PTyNode.TheVariants as N
use Rattle.pure_ast.specs.Types.{PTy, integer, boolean, unit, product, named, parameter, exit, ptys}

abbrev pub type_of : PTyNode → PTy
type_of (N.Int t) = integer t
type_of N.Bool = boolean
type_of N.Unit = unit
type_of (N.Prod ts) = product (ptys ts)
type_of (N.Named t ts) = named t.0 (ptys ts)
type_of (N.Param k) = parameter k
type_of (N.Exit a b) = exit a b

-- The value that a node of the tree stands for (TEXT.md, "Values").
use Rattle.pure_ast.specs.declared.value.PValueNode.{PValueNode}
use Rattle.pure_ast.specs.declared.value.PValueNode.TheVariants as N
use Rattle.pure_ast.specs.Values.{PValue, number, truth, tuple, built, pvalues}

abbrev pub value_of : PValueNode → PValue
value_of (N.Num n) = number n
value_of (N.Bool b) = truth b
value_of (N.Tuple vs) = tuple (pvalues vs)
value_of (N.Ctor c vs) = built c (pvalues vs)

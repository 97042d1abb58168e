-- The code that a node of the tree stands for (TEXT.md, "RawCode").
use Rattle.raw_ast.specs.declared.code.RawCodeNode.{RawCodeNode}
use Rattle.raw_ast.specs.declared.code.RawCodeNode.TheVariants as N
use Rattle.raw_ast.specs.Code.{RawCode, bind, put, select, last, rawarms}

abbrev pub code_of : RawCodeNode → RawCode
code_of (N.Bind v c rest) = bind v c rest
code_of (N.Let v t rest) = put v t rest
code_of (N.Match t all) = select t (rawarms all)
code_of (N.Last c) = last c

-- The code that a node of the tree stands for (TEXT.md, "Code").
use Rattle.pure_ast.specs.declared.code.CodeNode.{CodeNode}
use Rattle.pure_ast.specs.declared.code.CodeNode.TheVariants as N
use Rattle.pure_ast.specs.Code.{Code, bind, put, select, last, bind_select, arms}

abbrev pub code_of : CodeNode → Code
code_of (N.Bind v c rest) = bind v c rest
code_of (N.Let v t rest) = put v t rest
code_of (N.Match t all) = select t (arms all)
code_of (N.Last c) = last c
code_of (N.BindMatch v t all rest) = bind_select v t (arms all) rest

-- What contracts see of a node: the tree with what its lists and boxes hold.
-- Made by tools/code.py from tools/rust_ast.desc.py.
use Rattle.rust_ast.specs.Patterns as t
use Rattle.rust_ast.specs.declared.patterns.PatNode.{PatNode}
use Rattle.rust_ast.specs.declared.patterns.PatNode.TheVariants as Pat_

abbrev pub pat_of : PatNode → t.Pat
pat_of (Pat_.Wild a0) = t.wild a0
pat_of (Pat_.Bind a0 a1 a2 a3) = t.bind a0 a1 a2 a3
pat_of (Pat_.Number a0 a1 a2 a3) = t.number a0 a1 a2 (t.suffix a3)
pat_of (Pat_.Truth a0 a1) = t.truth a0 a1
pat_of (Pat_.Tuple a0 a1) = t.tuple a0 (t.pats a1)
pat_of (Pat_.Construct a0 a1 a2 a3 a4) = t.construct a0 a1 a2 a3 (t.pats a4)
pat_of (Pat_.Literal a0 a1 a2 a3 a4) = t.literal a0 a1 a2 a3 (t.fieldpats a4)

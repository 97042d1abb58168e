-- What contracts see of a node: the tree with what its lists and boxes hold.
-- Made by tools/code.py from tools/rust_ast.desc.py.
use Rattle.rust_ast.specs.SpelledPatterns as t
use Rattle.rust_ast.specs.declared.spelled_patterns.ModeNode.{ModeNode}
use Rattle.rust_ast.specs.declared.spelled_patterns.ModeNode.TheVariants as Mode_
use Rattle.rust_ast.specs.declared.spelled_patterns.PatNode.{PatNode}
use Rattle.rust_ast.specs.declared.spelled_patterns.PatNode.TheVariants as Pat_

abbrev pub mode_of : ModeNode → t.Mode
mode_of Mode_.Copy = t.copy
mode_of Mode_.Move = t.move
mode_of (Mode_.Refer a0) = t.refer a0

abbrev pub pat_of : PatNode → t.Pat
pat_of Pat_.Wild = t.wild
pat_of (Pat_.Bind a0 a1 a2) = t.bind a0 a1 a2
pat_of (Pat_.Number a0) = t.number a0
pat_of (Pat_.Truth a0) = t.truth a0
pat_of (Pat_.Tuple a0) = t.tuple (t.pats a0)
pat_of (Pat_.Construct a0 a1 a2) = t.construct a0 a1 (t.fieldpats a2)
pat_of (Pat_.Through a0 a1) = t.through a0 a1

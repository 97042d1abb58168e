-- What contracts see of a node: the tree with what its lists and boxes hold.
-- Made by tools/code.py from tools/rust_ast.desc.py.
use Rattle.rust_ast.specs.SourcePatterns as t
use Rattle.rust_ast.specs.Patterns as suffixes
use Rattle.rust_ast.specs.declared.source_patterns.PatNode.{PatNode}
use Rattle.rust_ast.specs.declared.source_patterns.PatNode.TheVariants as Pat_
use Rattle.rust_ast.specs.declared.source_patterns.FieldPatNode.{FieldPatNode}
use Rattle.rust_ast.specs.declared.source_patterns.FieldPatNode.TheVariants as FieldPat_

abbrev pub pat_of : PatNode → t.Pat
pat_of (Pat_.Wild a0) = t.wild a0
pat_of (Pat_.Lone a0) = t.lone a0
pat_of (Pat_.MutBind a0 a1) = t.mut_bind a0 a1
pat_of (Pat_.Number a0 a1 a2 a3) = t.number a0 a1 a2 (suffixes.suffix a3)
pat_of (Pat_.Truth a0 a1) = t.truth a0 a1
pat_of (Pat_.Tuple a0 a1) = t.tuple a0 (t.pats a1)
pat_of (Pat_.Construct a0 a1 a2) = t.construct a0 a1 (t.pats a2)
pat_of (Pat_.Literal a0 a1 a2) = t.literal a0 a1 (t.fieldpats a2)

abbrev pub fieldpat_of : FieldPatNode → t.FieldPat
fieldpat_of (FieldPat_.Short a0) = t.short a0
fieldpat_of (FieldPat_.Given a0 a1 a2) = t.given a0 a1 a2

-- What contracts see of a node: the tree with what its lists and boxes hold.
-- Made by tools/code.py from tools/rust_ast.desc.py.
use Rattle.rust_ast.specs.Source as t
use Rattle.rust_ast.specs.SourceTypes as types
use Rattle.rust_ast.specs.Patterns as suffixes
use Rattle.rust_ast.specs.declared.source.ExprNode.{ExprNode}
use Rattle.rust_ast.specs.declared.source.ExprNode.TheVariants as Expr_
use Rattle.rust_ast.specs.declared.source.StmtNode.{StmtNode}
use Rattle.rust_ast.specs.declared.source.StmtNode.TheVariants as Stmt_
use Rattle.rust_ast.specs.declared.source.BlockNode.{BlockNode}
use Rattle.rust_ast.specs.declared.source.BlockNode.TheVariants as Block_

abbrev pub expr_of : ExprNode → t.Expr
expr_of (Expr_.Number a0 a1 a2 a3) = t.number a0 a1 a2 (suffixes.suffix a3)
expr_of (Expr_.Truth a0 a1) = t.truth a0 a1
expr_of (Expr_.Tuple a0 a1) = t.tuple a0 (t.exprs a1)
expr_of (Expr_.Inner a0) = t.inner a0
expr_of (Expr_.Branch a0 a1 a2 a3) = t.branch a0 a1 a2 a3
expr_of (Expr_.Select a0 a1 a2) = t.select a0 a1 (t.arms a2)
expr_of (Expr_.LetBranch a0 a1 a2 a3 a4) = t.let_branch a0 a1 a2 a3 a4
expr_of (Expr_.Forever a0 a1 a2) = t.forever a0 a1 a2
expr_of (Expr_.Panic a0) = t.panic a0
expr_of (Expr_.Path a0 a1) = t.path a0 a1
expr_of (Expr_.Call a0 a1 a2 a3) = t.call a0 a1 a2 (t.exprs a3)
expr_of (Expr_.Literal a0 a1 a2 a3) = t.literal a0 a1 a2 (t.inits a3)
expr_of (Expr_.Field a0 a1 a2 a3) = t.field a0 a1 a2 a3
expr_of (Expr_.Minus a0 a1) = t.minus a0 a1
expr_of (Expr_.Negation a0 a1) = t.negation a0 a1
expr_of (Expr_.Deref a0 a1) = t.deref a0 a1
expr_of (Expr_.Borrow a0 a1 a2) = t.borrow a0 a1 a2
expr_of (Expr_.Binary a0 a1 a2 a3) = t.binary a0 a1 a2 a3
expr_of (Expr_.Compare a0 a1 a2 a3) = t.compare a0 a1 a2 a3
expr_of (Expr_.Both a0 a1 a2) = t.both a0 a1 a2
expr_of (Expr_.Either a0 a1 a2) = t.either a0 a1 a2
expr_of (Expr_.Cast a0 a1 a2) = t.cast a0 a1 a2
expr_of (Expr_.Assign a0 a1 a2) = t.assign a0 a1 a2
expr_of (Expr_.Update a0 a1 a2 a3) = t.update a0 a1 a2 a3
expr_of (Expr_.Give a0 a1) = t.give a0 (t.maybeexpr a1)
expr_of (Expr_.Leave a0 a1) = t.leave a0 (t.maybeexpr a1)
expr_of (Expr_.GoOn a0) = t.go_on a0

abbrev pub stmt_of : StmtNode → t.Stmt
stmt_of (Stmt_.Run a0 a1) = t.run a0 a1
stmt_of (Stmt_.Bind a0 a1 a2 a3) = t.bind a0 a1 (types.maybewritten a2) (t.maybeexpr a3)

abbrev pub block_of : BlockNode → t.Block
block_of (Block_.Block a0 a1 a2) = t.block a0 (t.stmts a1) (t.maybeexpr a2)

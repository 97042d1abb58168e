-- What contracts see of a node: the tree with what its lists and boxes hold.
-- Made by tools/code.py from tools/rust_ast.desc.py.
use Rattle.rust_ast.specs.Resolved as t
use Rattle.rust_ast.specs.Written as types
use Rattle.rust_ast.specs.Patterns as suffixes
use Rattle.rust_ast.specs.declared.resolved.CalleeNode.{CalleeNode}
use Rattle.rust_ast.specs.declared.resolved.CalleeNode.TheVariants as Callee_
use Rattle.rust_ast.specs.declared.resolved.ExprNode.{ExprNode}
use Rattle.rust_ast.specs.declared.resolved.ExprNode.TheVariants as Expr_
use Rattle.rust_ast.specs.declared.resolved.StmtNode.{StmtNode}
use Rattle.rust_ast.specs.declared.resolved.StmtNode.TheVariants as Stmt_
use Rattle.rust_ast.specs.declared.resolved.BlockNode.{BlockNode}
use Rattle.rust_ast.specs.declared.resolved.BlockNode.TheVariants as Block_

abbrev pub callee_of : CalleeNode → t.Callee
callee_of (Callee_.Function a0) = t.function a0
callee_of (Callee_.BuiltinOf a0) = t.builtin_of a0
callee_of (Callee_.Constructor a0 a1) = t.constructor a0 a1

abbrev pub expr_of : ExprNode → t.Expr
expr_of (Expr_.Number a0 a1 a2 a3) = t.number a0 a1 a2 (suffixes.suffix a3)
expr_of (Expr_.Truth a0 a1) = t.truth a0 a1
expr_of (Expr_.Tuple a0 a1) = t.tuple a0 (t.exprs a1)
expr_of (Expr_.Inner a0) = t.inner a0
expr_of (Expr_.Branch a0 a1 a2 a3) = t.branch a0 a1 a2 a3
expr_of (Expr_.Select a0 a1 a2) = t.select a0 a1 (t.arms a2)
expr_of (Expr_.Forever a0 a1 a2 a3) = t.forever a0 a1 a2 a3
expr_of (Expr_.Panic a0) = t.panic a0
expr_of (Expr_.Variable a0 a1) = t.variable a0 a1
expr_of (Expr_.Call a0 a1 a2 a3) = t.call a0 a1 a2 (t.exprs a3)
expr_of (Expr_.Literal a0 a1 a2 a3 a4) = t.literal a0 a1 a2 a3 (t.inits a4)
expr_of (Expr_.Field a0 a1 a2 a3) = t.field a0 a1 a2 a3
expr_of (Expr_.Minus a0 a1) = t.minus a0 a1
expr_of (Expr_.Negation a0 a1) = t.negation a0 a1
expr_of (Expr_.Deref a0 a1) = t.deref a0 a1
expr_of (Expr_.Borrow a0 a1 a2) = t.borrow a0 a1 a2
expr_of (Expr_.Binary a0 a1 a2 a3) = t.binary a0 a1 a2 a3
expr_of (Expr_.Compare a0 a1 a2 a3) = t.compare a0 a1 a2 a3
expr_of (Expr_.Both a0 a1 a2) = t.both a0 a1 a2
expr_of (Expr_.Either a0 a1 a2) = t.either a0 a1 a2
expr_of (Expr_.Cast a0 a1 a2) = t.cast a0 a1 a2
expr_of (Expr_.Assign a0 a1 a2) = t.assign a0 a1 a2
expr_of (Expr_.Update a0 a1 a2 a3) = t.update a0 a1 a2 a3
expr_of (Expr_.Give a0 a1) = t.give a0 (t.maybeexpr a1)
expr_of (Expr_.Leave a0 a1) = t.leave a0 (t.maybeexpr a1)
expr_of (Expr_.GoOn a0) = t.go_on a0

abbrev pub stmt_of : StmtNode → t.Stmt
stmt_of (Stmt_.Run a0 a1) = t.run a0 a1
stmt_of (Stmt_.Bind a0 a1 a2 a3) = t.bind a0 a1 (types.maybewritten a2) (t.maybeexpr a3)

abbrev pub block_of : BlockNode → t.Block
block_of (Block_.Block a0 a1 a2) = t.block a0 (t.stmts a1) (t.maybeexpr a2)

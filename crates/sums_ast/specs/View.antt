-- What contracts see of a node: the tree with what its lists and boxes hold.
use Rattle.sums_ast.specs.Tree as t
use Rattle.sums_ast.specs.declared.tree.ExprNode.{ExprNode}
use Rattle.sums_ast.specs.declared.tree.ExprNode.TheVariants as E
use Rattle.sums_ast.specs.declared.tree.StmtNode.{StmtNode}
use Rattle.sums_ast.specs.declared.tree.StmtNode.TheVariants as S
use Rattle.sums_ast.specs.declared.tree.BlockNode.{BlockNode}

abbrev pub expr_of : ExprNode → t.Expr
expr_of (E.Number s n) = t.number s n
expr_of (E.Variable s v) = t.variable s v.0
expr_of (E.Binary s op a b) = t.binary s op a b
expr_of (E.Call s f args) = t.call s f.0 (t.exprs args)

abbrev pub stmt_of : StmtNode → t.Stmt
stmt_of (S.Bind s v e) = t.bind s v.0 e

abbrev pub block_of : BlockNode → t.Block
block_of b = t.block b.span (t.stmts b.statements) (t.maybeexpr b.last)

-- A node's parts are smaller than the node.
-- Made by tools/code.py from tools/rust_ast.desc.py.
use Rattle.std.specs.Prelude.{ℕ, ◌+◌, ◌*◌, ◌≤◌, List, [], ◌∷◌, Some, None}
use Rattle.std.proofs.Common.{arith}
use denote.Param.Weighed.{most, w_this}
use Rattle.rust_ast.specs.Resolved as t
use Rattle.rust_ast.specs.ResolvedView.{block_of, expr_of, stmt_of}
use Rattle.rust_ast.specs.Patterns.{Pat}
use Rattle.rust_ast.specs.Patterns.{Name}
use Rattle.aen_base.specs.declared.span.Span.{Span}
use Rattle.rust_ast.specs.declared.resolved.Block.TheDeep.{deep-BlockNode, deep-ExprNode, deep-StmtNode, size-Expr, size-Stmt}
use Rattle.rust_ast.specs.declared.resolved.Block.TheShapes as shapes
use Rattle.rust_ast.specs.declared.resolved.BlockNode.{BlockNode}
use Rattle.rust_ast.specs.declared.resolved.BlockNode.TheVariants as Block_
use Rattle.rust_ast.specs.declared.resolved.ExprNode.{ExprNode}
use Rattle.rust_ast.specs.declared.resolved.ExprNode.TheVariants as Expr_
use Rattle.rust_ast.specs.declared.resolved.StmtNode.{StmtNode}
use Rattle.rust_ast.specs.declared.resolved.StmtNode.TheVariants as Stmt_

most_exprs : (xs : List t.Expr) → most (λ x. t.nodes_expr x + 1) xs ≤ t.nodes_exprs (t.exprs xs) + 1
most_exprs [] = omega arith
most_exprs (x ∷ xs) = omega (arith, most_exprs xs)

abbrev size_exprs : t.Expr → ℕ
size_exprs = w_this.weight t.Expr size-Expr

pub drop_exprs : (xs : List t.Expr) → most size_exprs xs ≤ 2 * t.nodes_exprs (t.exprs xs)
drop_exprs [] = omega arith
drop_exprs (x ∷ xs) = omega (arith, drop_exprs xs)

abbrev weight_arms : Pat × t.Expr → ℕ
weight_arms = shapes.weighed-ExprNode-Select-2-at-2.weight t.Expr (λ y. t.nodes_expr y + 1)

most_arms : (xs : List (Pat × t.Expr)) → most weight_arms xs ≤ t.nodes_arms (t.arms xs) + 1
most_arms [] = omega arith
most_arms (x ∷ xs) = omega (arith, most_arms xs)

abbrev size_arms : (Pat × t.Expr) → ℕ
size_arms = shapes.weighed-ExprNode-Select-2-at-2.weight t.Expr size-Expr

pub drop_arms : (xs : List (Pat × t.Expr)) → most size_arms xs ≤ 2 * t.nodes_arms (t.arms xs)
drop_arms [] = omega arith
drop_arms (x ∷ xs) = omega (arith, drop_arms xs)

abbrev weight_inits : Span × Name × t.Expr → ℕ
weight_inits = shapes.weighed-ExprNode-Literal-4-at-3.weight t.Expr (λ y. t.nodes_expr y + 1)

most_inits : (xs : List (Span × Name × t.Expr)) → most weight_inits xs ≤ t.nodes_inits (t.inits xs) + 1
most_inits [] = omega arith
most_inits (x ∷ xs) = omega (arith, most_inits xs)

abbrev size_inits : (Span × Name × t.Expr) → ℕ
size_inits = shapes.weighed-ExprNode-Literal-4-at-3.weight t.Expr size-Expr

pub drop_inits : (xs : List (Span × Name × t.Expr)) → most size_inits xs ≤ 2 * t.nodes_inits (t.inits xs)
drop_inits [] = omega arith
drop_inits (x ∷ xs) = omega (arith, drop_inits xs)

most_stmts : (xs : List t.Stmt) → most (λ x. t.nodes_stmt x + 1) xs ≤ t.nodes_stmts (t.stmts xs) + 1
most_stmts [] = omega arith
most_stmts (x ∷ xs) = omega (arith, most_stmts xs)

abbrev size_stmts : t.Stmt → ℕ
size_stmts = w_this.weight t.Stmt size-Stmt

pub drop_stmts : (xs : List t.Stmt) → most size_stmts xs ≤ 2 * t.nodes_stmts (t.stmts xs)
drop_stmts [] = omega arith
drop_stmts (x ∷ xs) = omega (arith, drop_stmts xs)

pub block_falls : (e : BlockNode) → deep-BlockNode e ≤ t.nodes_block (block_of e)
block_falls (Block_.Block a0 a1 (Some x)) = omega (arith, most_stmts a1)
block_falls (Block_.Block a0 a1 None) = omega (arith, most_stmts a1)

pub expr_falls : (e : ExprNode) → deep-ExprNode e ≤ t.nodes_expr (expr_of e)
expr_falls (Expr_.Tuple a0 a1) = omega (arith, most_exprs a1)
expr_falls (Expr_.Select a0 a1 a2) = omega (arith, most_arms a2)
expr_falls (Expr_.Call a0 a1 a2 a3) = omega (arith, most_exprs a3)
expr_falls (Expr_.Literal a0 a1 a2 a3 a4) = omega (arith, most_inits a4)
expr_falls (Expr_.Give a0 (Some x)) = omega arith
expr_falls (Expr_.Give a0 None) = omega arith
expr_falls (Expr_.Leave a0 (Some x)) = omega arith
expr_falls (Expr_.Leave a0 None) = omega arith
expr_falls _ = omega arith

pub stmt_falls : (e : StmtNode) → deep-StmtNode e ≤ t.nodes_stmt (stmt_of e)
stmt_falls (Stmt_.Bind a0 a1 a2 (Some x)) = omega arith
stmt_falls (Stmt_.Bind a0 a1 a2 None) = omega arith
stmt_falls _ = omega arith

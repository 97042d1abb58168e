-- A node's parts are smaller than the node.
use Rattle.std.specs.Prelude.{◌+◌, ◌*◌, ◌≤◌, List, [], ◌∷◌}
use Rattle.std.proofs.Common.{arith}
use denote.Param.Weighed.{most}
use Rattle.sums_ast.specs.Tree as t
use Rattle.sums_ast.specs.View.{expr_of}
use Rattle.sums_ast.specs.declared.tree.ExprNode.{ExprNode}
use Rattle.sums_ast.specs.declared.tree.ExprNode.TheVariants as E
use Rattle.sums_ast.specs.declared.tree.Expr.TheDeep.{deep-ExprNode}

most_exprs : (xs : List t.Expr) → most (λ x. t.nodes_expr x + 1) xs ≤ t.nodes_exprs (t.exprs xs) + 1
most_exprs [] = omega arith
most_exprs (x ∷ xs) = omega (arith, most_exprs xs)

pub expr_falls : (e : ExprNode) → deep-ExprNode e ≤ t.nodes_expr (expr_of e)
expr_falls (E.Call s f args) = omega (arith, most_exprs args)
expr_falls _ = omega arith

-- the arguments of a call are smaller than the call
pub most_arguments : (xs : List t.Expr) → most (λ x. 2 * (t.nodes_expr x + 1) + 0) xs ≤ 2 * t.nodes_exprs (t.exprs xs)
most_arguments [] = omega arith
most_arguments (x ∷ xs) = omega (arith, most_arguments xs)

-- What is dropped beside the left side is smaller than the whole.
use Rattle.std.proofs.Common.{◌≡◌, ◌+◌, ◌*◌, ◌≤◌, ap, arith, rules}
use Rattle.sums_ast.specs.Tree.{nodes_expr}
use Rattle.sums_ast.specs.View.{expr_of}
use Rattle.sums_ast.specs.Falls.{most_arguments}
use Rattle.sums_ast.proofs.tree.Expr.+drop.Goals as goal

pub drop-arguments-requires : goal.drop-arguments-requires
drop-arguments-requires t c κs =
    let same = ap nodes_expr c.self.view_is in
    let node = ap (λ n. nodes_expr (expr_of n)) c.in-Call.is in
    let d : 2 * (nodes_expr c.args.self + 1) + 0 ≡ t = c.decreases in
    let small : nodes_expr c.loop-arguments.self ≤ nodes_expr c.args.self = c.loop-arguments.invariant in
    let parts = most_arguments c.in-Call._arguments in
    ((omega (arith, same, node), tt), search rules)

pub drop-right-requires : goal.drop-right-requires
drop-right-requires t c κs =
    let same = ap nodes_expr c.self.view_is in
    let node = ap (λ n. nodes_expr (expr_of n)) c.in-Binary.is in
    let d : 2 * (nodes_expr c.args.self + 1) + 0 ≡ t = c.decreases in
    let small : nodes_expr c.loop-arguments.self ≤ nodes_expr c.args.self = c.loop-arguments.invariant in
    ((omega (arith, same, node), tt), search rules)

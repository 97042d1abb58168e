-- A list that is dropped is smaller than the whole.
-- Made by tools/code.py from tools/rust_ast.desc.py.
use Rattle.std.proofs.Common.{◌≡◌, ap, arith, rules}
use Rattle.rust_ast.specs.Source.{nodes_block, nodes_expr}
use Rattle.rust_ast.specs.SourceView.{block_of, expr_of}
use Rattle.rust_ast.specs.SourceFalls.{drop_arms, drop_exprs, drop_inits, drop_stmts}
use Rattle.rust_ast.specs.declared.source.Block.TheDeep.{size-Block, size-Expr}
use Rattle.rust_ast.proofs.source.+dropping_source.Goals as goal

pub Block::drop-drop-block-requires : goal.Block::drop-drop-block-requires
Block::drop-drop-block-requires t c κs =
    let same = ap nodes_block c.self.view_is in
    let node = ap (λ n. nodes_block (block_of n)) c.node-1.given.1 in
    let whole : size-Block c.args.self ≡ t = c.decreases in
    let parts = drop_stmts c.node-1.given.0.1.0 in
    ((omega (arith, same, node, whole, parts), tt), search rules)

pub Expr::drop-drop-tuple-requires : goal.Expr::drop-drop-tuple-requires
Expr::drop-drop-tuple-requires t c κs =
    let same = ap nodes_expr c.self.view_is in
    let node = ap (λ n. nodes_expr (expr_of n)) c.in-Tuple.is in
    let whole : size-Expr c.args.self ≡ t = c.decreases in
    let parts = drop_exprs c.in-Tuple._tuple in
    ((omega (arith, same, node, whole, parts), tt), search rules)

pub Expr::drop-drop-select-requires : goal.Expr::drop-drop-select-requires
Expr::drop-drop-select-requires t c κs =
    let same = ap nodes_expr c.self.view_is in
    let node = ap (λ n. nodes_expr (expr_of n)) c.in-Select.is in
    let whole : size-Expr c.args.self ≡ t = c.decreases in
    let parts = drop_arms c.in-Select._select in
    ((omega (arith, same, node, whole, parts), tt), search rules)

pub Expr::drop-drop-call-requires : goal.Expr::drop-drop-call-requires
Expr::drop-drop-call-requires t c κs =
    let same = ap nodes_expr c.self.view_is in
    let node = ap (λ n. nodes_expr (expr_of n)) c.in-Call.is in
    let whole : size-Expr c.args.self ≡ t = c.decreases in
    let parts = drop_exprs c.in-Call._call in
    ((omega (arith, same, node, whole, parts), tt), search rules)

pub Expr::drop-drop-literal-requires : goal.Expr::drop-drop-literal-requires
Expr::drop-drop-literal-requires t c κs =
    let same = ap nodes_expr c.self.view_is in
    let node = ap (λ n. nodes_expr (expr_of n)) c.in-Literal.is in
    let whole : size-Expr c.args.self ≡ t = c.decreases in
    let parts = drop_inits c.in-Literal._literal in
    ((omega (arith, same, node, whole, parts), tt), search rules)

-- A list that is dropped is smaller than the whole.
-- Made by tools/code.py from tools/rust_ast.desc.py.
use Rattle.std.proofs.Common.{◌≡◌, ap, arith, rules}
use Rattle.rust_ast.specs.Spelled.{nodes_block, nodes_form}
use Rattle.rust_ast.specs.SpelledView.{block_of, form_of}
use Rattle.rust_ast.specs.SpelledFalls.{drop_arms, drop_parts, drop_stmts, drop_values}
use Rattle.rust_ast.specs.declared.spelled.Block.TheDeep.{size-Block, size-Form}
use Rattle.rust_ast.proofs.spelled.+dropping_spelled.Goals as goal

pub Block::drop-drop-block-requires : goal.Block::drop-drop-block-requires
Block::drop-drop-block-requires t c κs =
    let same = ap nodes_block c.self.view_is in
    let node = ap (λ n. nodes_block (block_of n)) c.node-1.given.1 in
    let whole : size-Block c.args.self ≡ t = c.decreases in
    let parts = drop_stmts c.node-1.given.0.1.1.1.0 in
    ((omega (arith, same, node, whole, parts), tt), search rules)

pub Form::drop-drop-tuple-requires : goal.Form::drop-drop-tuple-requires
Form::drop-drop-tuple-requires t c κs =
    let same = ap nodes_form c.self.view_is in
    let node = ap (λ n. nodes_form (form_of n)) c.in-Tuple.is in
    let whole : size-Form c.args.self ≡ t = c.decreases in
    let parts = drop_values c.in-Tuple._tuple in
    ((omega (arith, same, node, whole, parts), tt), search rules)

pub Form::drop-drop-construct-requires : goal.Form::drop-drop-construct-requires
Form::drop-drop-construct-requires t c κs =
    let same = ap nodes_form c.self.view_is in
    let node = ap (λ n. nodes_form (form_of n)) c.in-Construct.is in
    let whole : size-Form c.args.self ≡ t = c.decreases in
    let parts = drop_parts c.in-Construct._construct in
    ((omega (arith, same, node, whole, parts), tt), search rules)

pub Form::drop-drop-call-requires : goal.Form::drop-drop-call-requires
Form::drop-drop-call-requires t c κs =
    let same = ap nodes_form c.self.view_is in
    let node = ap (λ n. nodes_form (form_of n)) c.in-Call.is in
    let whole : size-Form c.args.self ≡ t = c.decreases in
    let parts = drop_values c.in-Call._call in
    ((omega (arith, same, node, whole, parts), tt), search rules)

pub Form::drop-drop-select-requires : goal.Form::drop-drop-select-requires
Form::drop-drop-select-requires t c κs =
    let same = ap nodes_form c.self.view_is in
    let node = ap (λ n. nodes_form (form_of n)) c.in-Select.is in
    let whole : size-Form c.args.self ≡ t = c.decreases in
    let parts = drop_arms c.in-Select._select in
    ((omega (arith, same, node, whole, parts), tt), search rules)

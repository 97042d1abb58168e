-- A list that is dropped is smaller than the whole.
-- Made by tools/code.py from tools/rust_ast.desc.py.
use Rattle.std.proofs.Common.{◌≡◌, ap, arith, rules}
use Rattle.rust_ast.specs.SourcePatterns.{nodes_pat}
use Rattle.rust_ast.specs.SourcePatternsView.{pat_of}
use Rattle.rust_ast.specs.SourcePatternsFalls.{drop_fieldpats, drop_pats}
use Rattle.rust_ast.specs.declared.source_patterns.FieldPat.TheDeep.{size-Pat}
use Rattle.rust_ast.proofs.source_patterns.+dropping_source_patterns.Goals as goal

pub Pat::drop-drop-tuple-requires : goal.Pat::drop-drop-tuple-requires
Pat::drop-drop-tuple-requires t c κs =
    let same = ap nodes_pat c.self.view_is in
    let node = ap (λ n. nodes_pat (pat_of n)) c.in-Tuple.is in
    let whole : size-Pat c.args.self ≡ t = c.decreases in
    let parts = drop_pats c.in-Tuple._tuple in
    ((omega (arith, same, node, whole, parts), tt), search rules)

pub Pat::drop-drop-construct-requires : goal.Pat::drop-drop-construct-requires
Pat::drop-drop-construct-requires t c κs =
    let same = ap nodes_pat c.self.view_is in
    let node = ap (λ n. nodes_pat (pat_of n)) c.in-Construct.is in
    let whole : size-Pat c.args.self ≡ t = c.decreases in
    let parts = drop_pats c.in-Construct._construct in
    ((omega (arith, same, node, whole, parts), tt), search rules)

pub Pat::drop-drop-literal-requires : goal.Pat::drop-drop-literal-requires
Pat::drop-drop-literal-requires t c κs =
    let same = ap nodes_pat c.self.view_is in
    let node = ap (λ n. nodes_pat (pat_of n)) c.in-Literal.is in
    let whole : size-Pat c.args.self ≡ t = c.decreases in
    let parts = drop_fieldpats c.in-Literal._literal in
    ((omega (arith, same, node, whole, parts), tt), search rules)

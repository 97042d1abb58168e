-- A list that is dropped is smaller than the whole.
-- Made by tools/code.py from tools/rust_ast.desc.py.
use Rattle.std.proofs.Common.{◌≡◌, ap, arith, rules}
use Rattle.rust_ast.specs.Patterns.{nodes_pat}
use Rattle.rust_ast.specs.PatternsView.{pat_of}
use Rattle.rust_ast.specs.PatternsFalls.{drop_fieldpats, drop_pats}
use Rattle.rust_ast.specs.declared.patterns.Pat.TheDeep.{size-Pat}
use Rattle.rust_ast.proofs.patterns.Pat.+drop.Goals as goal

pub drop-tuple-requires : goal.drop-tuple-requires
drop-tuple-requires t c κs =
    let same = ap nodes_pat c.self.view_is in
    let node = ap (λ n. nodes_pat (pat_of n)) c.in-Tuple.is in
    let whole : size-Pat c.args.self ≡ t = c.decreases in
    let parts = drop_pats c.in-Tuple._tuple in
    ((omega (arith, same, node, whole, parts), tt), search rules)

pub drop-construct-requires : goal.drop-construct-requires
drop-construct-requires t c κs =
    let same = ap nodes_pat c.self.view_is in
    let node = ap (λ n. nodes_pat (pat_of n)) c.in-Construct.is in
    let whole : size-Pat c.args.self ≡ t = c.decreases in
    let parts = drop_pats c.in-Construct._construct in
    ((omega (arith, same, node, whole, parts), tt), search rules)

pub drop-literal-requires : goal.drop-literal-requires
drop-literal-requires t c κs =
    let same = ap nodes_pat c.self.view_is in
    let node = ap (λ n. nodes_pat (pat_of n)) c.in-Literal.is in
    let whole : size-Pat c.args.self ≡ t = c.decreases in
    let parts = drop_fieldpats c.in-Literal._literal in
    ((omega (arith, same, node, whole, parts), tt), search rules)

-- A list that is dropped is smaller than the whole.
-- Made by tools/code.py from tools/rust_ast.desc.py.
use Rattle.std.proofs.Common.{◌≡◌, ap, arith, rules}
use Rattle.rust_ast.specs.SourceTypes.{nodes_written}
use Rattle.rust_ast.specs.SourceTypesView.{written_of}
use Rattle.rust_ast.specs.SourceTypesFalls.{drop_writtens}
use Rattle.rust_ast.specs.declared.source_types.Written.TheDeep.{size-Written}
use Rattle.rust_ast.proofs.source_types.Written.+drop.Goals as goal

pub drop-tuple-requires : goal.drop-tuple-requires
drop-tuple-requires t c κs =
    let same = ap nodes_written c.self.view_is in
    let node = ap (λ n. nodes_written (written_of n)) c.in-Tuple.is in
    let whole : size-Written c.args.self ≡ t = c.decreases in
    let parts = drop_writtens c.in-Tuple._tuple in
    ((omega (arith, same, node, whole, parts), tt), search rules)

pub drop-named-requires : goal.drop-named-requires
drop-named-requires t c κs =
    let same = ap nodes_written c.self.view_is in
    let node = ap (λ n. nodes_written (written_of n)) c.in-Named.is in
    let whole : size-Written c.args.self ≡ t = c.decreases in
    let parts = drop_writtens c.in-Named._named in
    ((omega (arith, same, node, whole, parts), tt), search rules)

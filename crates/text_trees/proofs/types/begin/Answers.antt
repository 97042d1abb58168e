-- A name has as many arguments as its list has items.
use Rattle.std.proofs.Common.{◌≡◌, ap, sym, ◌∙◌, subst}
use Rattle.raw_ast.specs.Types.{named, rawtypes}
use Rattle.raw_ast.specs.TypeView.{type_of}
use Rattle.text_trees.specs.Told.{Leads}
use Rattle.text_trees.specs.Types.{type_told, step_told}
use Rattle.text_trees.proofs.Counting.{named_is}
use Rattle.text_trees.proofs.types.begin.Goals as goal

pub returns-in-Named-clause-meaning : goal.returns-in-Named-clause-meaning
returns-in-Named-clause-meaning c =
    let h = c.args.tables.now in
    let ps = c.args.parameters.now in
    let a = c.in-Named in
    let view = c.raw.view_is in
    let node = ap type_of a.is in
    let raw : c.args.raw.now ≡ named a.name (rawtypes a.arguments) = cc in
    let same = ap (type_told h ps) raw ∙ named_is h ps a.name a.arguments in
    subst (λ o. Leads o (step_told h ps) c.begin_named.result) (sym same) (rw c.as_slice-in-Named.ensures at c.begin_named.ensures.meaning)

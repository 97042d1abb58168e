-- What is told of a type is what the definitions give.
use Rattle.raw_meaning.specs.Faults.{type_faults}
use Rattle.raw_meaning.specs.Trees.{type_tree}
use Rattle.text_trees.specs.Types.{type_told}
use Rattle.text_trees.proofs.Agreeing.{settled}
use Rattle.text_trees.proofs.AgreeingTrees.{type_settles}
use Rattle.text_trees.proofs.types.type_of.Goals as goal

pub returns : goal.returns
returns c =
    let h = c.args.tables.now in
    let ps = c.args.parameters.now in
    let x = c.args.raw.now in
    settled (type_faults h ps x) (type_tree h ps x) (type_told h ps x) c.settle_type.result (type_settles h ps x) c.settle_type.ensures

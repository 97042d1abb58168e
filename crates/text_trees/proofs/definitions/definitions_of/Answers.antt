-- What is told of a text is what the definitions give.
use Rattle.raw_meaning.specs.Faults.{faults}
use Rattle.raw_meaning.specs.Trees.{definitions}
use Rattle.text_trees.specs.Definitions.{text_told}
use Rattle.text_trees.proofs.Agreeing.{settled}
use Rattle.text_trees.proofs.AgreeingTexts.{text_settles}
use Rattle.text_trees.proofs.definitions.definitions_of.Goals as goal

pub returns : goal.returns
returns c =
    let text = c.args.raw.now in
    settled (faults text) (definitions text) (text_told text) c.settle_text.result (text_settles text) c.settle_text.ensures

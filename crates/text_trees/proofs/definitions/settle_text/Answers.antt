-- The tables are those of the text.
use Rattle.text_trees.proofs.Declaring.{all_declared}
use Rattle.text_trees.proofs.definitions.settle_text.Goals as goal

pub settle_parts-requires : goal.settle_parts-requires
settle_parts-requires c = all_declared c.args.raw.now c.in_ok-tables.tables c.in_ok-outline.outline c.in_ok-tables.ensures c.in_ok-outline.ensures

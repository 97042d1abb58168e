use Rattle.rust_reader.proofs.CallNames.{empty_is_nothing, all_types}
use Rattle.rust_reader.proofs.call_name.types_after_name.Goals as goal

pub returns-in-empty : goal.returns-in-empty
returns-in-empty c = empty_is_nothing c.args.lexemes.now c.new.result c.in-empty.len_below c.new.ensures

pub returns-in-len1-up : goal.returns-in-len1-up
returns-in-len1-up c = all_types c.args.lexemes.now c.first-item.result c.types_after_colons.result c.in-len1-up.len_at_least c.first-item.is c.types_after_colons.ensures

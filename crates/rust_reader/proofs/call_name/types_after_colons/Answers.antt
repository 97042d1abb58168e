use Rattle.rust_reader.proofs.CallNames.{one_is_no_types, all_after}
use Rattle.rust_reader.proofs.call_name.types_after_colons.Goals as goal

pub returns-in-empty : goal.returns-in-empty
returns-in-empty c = one_is_no_types c.args.colons.now c.args.lexemes.now c.in-empty.len_below

pub returns-in-len1-up : goal.returns-in-len1-up
returns-in-len1-up c = all_after c.args.colons.now c.args.lexemes.now c.first-item.result c.types_in_angles.result c.in-len1-up.len_at_least c.first-item.is c.types_in_angles.ensures

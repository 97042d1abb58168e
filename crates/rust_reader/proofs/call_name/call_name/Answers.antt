use Rattle.rust_reader.proofs.CallNames.{empty_is_no_name, all_named}
use Rattle.rust_reader.proofs.call_name.call_name.Goals as goal

pub returns-in-empty : goal.returns-in-empty
returns-in-empty c = λ none. empty_is_no_name c.args.lexemes.now c.in-empty.len_below

pub returns-in-len1-up : goal.returns-in-len1-up
returns-in-len1-up c = all_named c.args.lexemes.now c.first-item.result c.named.result c.in-len1-up.len_at_least c.first-item.is c.named.ensures

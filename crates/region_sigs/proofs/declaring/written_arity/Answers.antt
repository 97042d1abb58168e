use Rattle.std.proofs.Common.{sym, ◌∙◌}
use Rattle.region_sigs.proofs.Lists.{none_there, one_there}
use Rattle.region_sigs.proofs.declaring.written_arity.Goals as goal

pub returns-in-None : goal.returns-in-None
returns-in-None c = sym (none_there c.args.types.now _ (sym c.in-None.ensures))

pub returns-in-Some : goal.returns-in-Some
returns-in-Some c = c.len.ensures ∙ sym (one_there c.args.types.now _ _ (sym c.in-Some.ensures))

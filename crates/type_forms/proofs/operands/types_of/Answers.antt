use Rattle.type_forms.proofs.Types.{all_types}
use Rattle.type_forms.proofs.operands.types_of.Goals as goal

pub returns : goal.returns
returns c = all_types c.loop-value.types c.args.values.now c.loop-value.value-index c.loop-value.invariant c.loop-value-test.false

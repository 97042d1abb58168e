use Rattle.region_sigs.proofs.Lists.{parameters_give}
use Rattle.type_rules.specs.Declarations.{parameter_numbers}
use Rattle.region_sigs.proofs.signatures.parameters_of.Goals as goal

pub returns : goal.returns
returns c = parameters_give (parameter_numbers c.args.types.now) c.args.params.now c.args.next c.types_of.result c.types_of.ensures

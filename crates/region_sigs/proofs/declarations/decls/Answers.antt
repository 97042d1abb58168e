use Rattle.region_sigs.proofs.NoRegions.{never}
use Rattle.type_rules.specs.Declarations.{parameter_numbers}
use Rattle.region_sigs.proofs.declarations.decls.Goals as goal

pub returns-clause-never_no_region : goal.returns-clause-never_no_region
returns-clause-never_no_region c = never (parameter_numbers c.args.program.now.types) c.as_slice-types.result.now c.declarations.result c.declarations.ensures

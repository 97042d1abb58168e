-- What lifetimes mean where a type stands, as code says it.
use Rattle.region_sigs.specs.declared.standing.Standing as code
use Rattle.region_sigs.specs.declared.standing.Standing.TheVariants.{Plain, Input, Output}
use Rattle.type_rules.specs.WrittenTypes.{Standing, plain, input, output}

abbrev pub as_standing : code.Standing → Standing
as_standing Plain = plain
as_standing Input = input
as_standing (Output one) = output one

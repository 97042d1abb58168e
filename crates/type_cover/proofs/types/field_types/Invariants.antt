use Rattle.std.proofs.Common.{◌≡◌, take}
use Rattle.type_rules.specs.Skeletons.{field_types}
use Rattle.type_cover.proofs.types.field_types.Given as goal

abbrev pub invariant-loop-field : goal.invariant-loop-field
invariant-loop-field l = l.types ≡ field_types l.args (take l.field-index l.fields)

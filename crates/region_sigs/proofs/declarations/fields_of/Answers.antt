use Rattle.std.proofs.Common.{ap, ◌∙◌}
use Rattle.region_sigs.specs.Walks.{each_onto, field_written}
use Rattle.region_sigs.proofs.Lists.{fields_onto}
use Rattle.type_rules.specs.Declarations.{parameter_numbers}
use Rattle.region_sigs.proofs.declarations.fields_of.Goals as goal

pub loop-i-init : goal.loop-i-init
loop-i-init c =
    let ns = parameter_numbers c.args.types.now in
    ap (λ d. each_onto (field_written ns) d c.args.fields.now) c.new-done.ensures ∙ fields_onto ns c.args.fields.now

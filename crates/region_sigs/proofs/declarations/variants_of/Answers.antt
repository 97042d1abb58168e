use Rattle.std.proofs.Common.{ap, ◌∙◌}
use Rattle.region_sigs.specs.Walks.{each_onto, variant_written}
use Rattle.region_sigs.proofs.Lists.{variants_onto}
use Rattle.type_rules.specs.Declarations.{parameter_numbers}
use Rattle.region_sigs.proofs.declarations.variants_of.Goals as goal

pub loop-i-init : goal.loop-i-init
loop-i-init c =
    let ns = parameter_numbers c.args.types.now in
    ap (λ d. each_onto (variant_written ns) d c.args.variants.now) c.new-done.ensures ∙ variants_onto ns c.args.variants.now

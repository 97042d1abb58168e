use Rattle.std.proofs.Common.{ap, ◌∙◌}
use Rattle.region_sigs.specs.Walks.{each_onto, declaration}
use Rattle.region_sigs.proofs.Lists.{declarations_onto}
use Rattle.type_rules.specs.Declarations.{parameter_numbers}
use Rattle.region_sigs.proofs.declarations.declarations.Goals as goal

pub loop-i-init : goal.loop-i-init
loop-i-init c =
    let ns = parameter_numbers c.args.types.now in
    ap (λ d. each_onto (declaration ns) d c.args.these.now) c.new-done.ensures ∙ declarations_onto ns c.args.these.now

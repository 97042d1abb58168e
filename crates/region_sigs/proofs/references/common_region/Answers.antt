use Rattle.std.proofs.Common.{ap, sym, ◌∙◌}
use Rattle.std.specs.Prelude.{if◌then◌else◌, Some, None}
use Rattle.region_sigs.proofs.OneRegion.{one_of, none_of}
use Rattle.region_sigs.proofs.references.common_region.Goals as goal

pub returns-in-None : goal.returns-in-None
returns-in-None c = sym (none_of c.args.found.now (sym c.in-None.ensures))

pub returns-then-all_have : goal.returns-then-all_have
returns-then-all_have c =
    sym (one_of c.args.found.now c.in-Some.first.now (sym c.in-Some.ensures)
    ∙ ap (λ b. if b then Some c.in-Some.first.now.region.0 else None) (sym c.all_have.ensures ∙ c.if-all_have.true))

pub returns-else-all_have : goal.returns-else-all_have
returns-else-all_have c =
    sym (one_of c.args.found.now c.in-Some.first.now (sym c.in-Some.ensures)
    ∙ ap (λ b. if b then Some c.in-Some.first.now.region.0 else None) (sym c.all_have.ensures ∙ c.if-all_have.false))

-- What `build_applied` calls builds the part. Written by tools/source_build.py.
use Rattle.source_grammar.specs.declared.part.Context.{Context}
use Rattle.std.proofs.Common.{ap, reverse}
use Rattle.source_grammar.specs.declared.part.Part.TheVariants as N
use Rattle.source_grammar.specs.declared.part.Context.TheVariants as At
use Rattle.source_builder.proofs.Places.{of_part, built_of_part}
use Rattle.source_builder.proofs.building.paths.build_applied.Goals as goal

pub build_applied_free-requires : goal.build_applied_free-requires
build_applied_free-requires c =
    of_part (N.Applied c.args.context) (N.Applied At.Free) c.args.index (reverse c.args.values.now) (ap (λ (x : Context). (N.Applied x)) c.in-Free.is) c.requires

pub returns-in-Free : goal.returns-in-Free
returns-in-Free c =
    built_of_part (N.Applied c.args.context) (N.Applied At.Free) c.args.index (reverse c.args.values.now) (reverse c.build_applied_free.new.values) c.build_applied_free.result (ap (λ (x : Context). (N.Applied x)) c.in-Free.is) c.build_applied_free.ensures

pub build_applied_condition-requires : goal.build_applied_condition-requires
build_applied_condition-requires c =
    of_part (N.Applied c.args.context) (N.Applied At.Condition) c.args.index (reverse c.args.values.now) (ap (λ (x : Context). (N.Applied x)) c.in-Condition.is) c.requires

pub returns-in-Condition : goal.returns-in-Condition
returns-in-Condition c =
    built_of_part (N.Applied c.args.context) (N.Applied At.Condition) c.args.index (reverse c.args.values.now) (reverse c.build_applied_condition.new.values) c.build_applied_condition.result (ap (λ (x : Context). (N.Applied x)) c.in-Condition.is) c.build_applied_condition.ensures

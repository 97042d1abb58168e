-- What `build_more` calls builds the part. Written by tools/source_build.py.
use Rattle.std.proofs.Common.{reverse, arith, Ok, ◌≡◌}
use Rattle.source_grammar.specs.declared.part.Part.TheVariants as N
use Rattle.source_builder.proofs.Levels as levels
use Rattle.source_builder.proofs.Places.{at_place, built_at_place}
use Rattle.source_builder.proofs.building.expressions.build_more.Goals as goal

pub more_assign_free_0-requires : goal.more_assign_free_0-requires
more_assign_free_0-requires c =
    levels.no_more c.args.level c.args.context (reverse c.args.values.now) (at_place (N.More c.args.level c.args.context) c.args.index 0 (reverse c.args.values.now) c.in-0.is c.requires)

pub returns-in-0 : goal.returns-in-0
returns-in-0 c =
    built_at_place (N.More c.args.level c.args.context) c.args.index 0 (reverse c.args.values.now) (reverse c.more_assign_free_0.new.values) (Ok c.more_assign_free_0.result) c.in-0.is (levels.no_more_built c.args.level c.args.context (reverse c.args.values.now) (reverse c.more_assign_free_0.new.values) (Ok c.more_assign_free_0.result) c.more_assign_free_0.ensures)

pub returns-in-1 : goal.returns-in-1
returns-in-1 c =
    built_at_place (N.More c.args.level c.args.context) c.args.index 1 (reverse c.args.values.now) (reverse c.build_operation.new.values) c.build_operation.result c.in-1.is c.build_operation.ensures

pub unreachable-requires : goal.unreachable-requires
unreachable-requires c =
    levels.no_third c.args.level c.args.context c.args.index (reverse c.args.values.now) (λ (e : c.args.index ≡ 0). omega arith) (λ (e : c.args.index ≡ 1). omega arith) c.requires

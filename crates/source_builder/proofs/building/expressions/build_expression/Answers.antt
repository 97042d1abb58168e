-- What `build_expression` calls builds the part. Written by tools/source_build.py.
use Rattle.source_grammar.specs.declared.part.Context.{Context}
use Rattle.std.proofs.Common.{ap, reverse}
use Rattle.source_grammar.specs.declared.part.Part.TheVariants as N
use Rattle.source_grammar.specs.declared.part.Context.TheVariants as At
use Rattle.source_builder.proofs.Places.{of_part, built_of_part}
use Rattle.source_builder.proofs.building.expressions.build_expression.Goals as goal

pub build_expression_free-requires : goal.build_expression_free-requires
build_expression_free-requires c =
    of_part (N.Expression c.args.context) (N.Expression At.Free) c.args.index (reverse c.args.values.now) (ap (λ (x : Context). (N.Expression x)) c.in-Free.is) c.requires

pub returns-in-Free : goal.returns-in-Free
returns-in-Free c =
    built_of_part (N.Expression c.args.context) (N.Expression At.Free) c.args.index (reverse c.args.values.now) (reverse c.build_expression_free.new.values) c.build_expression_free.result (ap (λ (x : Context). (N.Expression x)) c.in-Free.is) c.build_expression_free.ensures

pub build_expression_condition-requires : goal.build_expression_condition-requires
build_expression_condition-requires c =
    of_part (N.Expression c.args.context) (N.Expression At.Condition) c.args.index (reverse c.args.values.now) (ap (λ (x : Context). (N.Expression x)) c.in-Condition.is) c.requires

pub returns-in-Condition : goal.returns-in-Condition
returns-in-Condition c =
    built_of_part (N.Expression c.args.context) (N.Expression At.Condition) c.args.index (reverse c.args.values.now) (reverse c.build_expression_condition.new.values) c.build_expression_condition.result (ap (λ (x : Context). (N.Expression x)) c.in-Condition.is) c.build_expression_condition.ensures

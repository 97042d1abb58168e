use Rattle.std.proofs.Common.{ap, ◌∙◌, arith}
use Rattle.std.specs.Prelude.{◌||◌}
use Rattle.rust_names.specs.Resolution.{has_many}
use Rattle.rust_names.proofs.Counting.{many_more}
use Rattle.rust_names.proofs.resolving.has_many.Goals as goal

pub loop-i-preserved : goal.loop-i-preserved
loop-i-preserved c =
    many_more c.args.functions.now c.loop-i.i c.index-functions-i.result c.loop-i.many c.either-more.result (has_many c.args.functions.now) (omega arith) c.index-functions-i.is (c.either-more.ensures ∙ ap (λ b. c.loop-i.many || b) c.is_over-over.ensures) c.loop-i.invariant

use Rattle.std.proofs.Common.{arith}
use Rattle.rust_names.specs.Resolution.{count_functions}
use Rattle.rust_names.proofs.Counting.{counted}
use Rattle.rust_names.proofs.resolving.count_functions.Goals as goal

pub loop-i-preserved : goal.loop-i-preserved
loop-i-preserved c = record {
  counted = counted c.args.items.now c.loop-i.i c.index-items-i.result c.loop-i.count c.functions_of-more.result (count_functions c.args.items.now) (omega arith) c.index-items-i.is c.functions_of-more.ensures.count c.loop-i.invariant.counted;
  within = omega arith;
}

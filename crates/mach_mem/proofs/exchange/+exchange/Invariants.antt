use Rattle.std.proofs.Common.{◌+◌, ◌*◌, length}
use Rattle.mach_mem.proofs.exchange.+exchange.Given as goal

abbrev pub decreases-exchange : goal.decreases-exchange
decreases-exchange l = 2 * length l.steps.now

abbrev pub decreases-exchange_in : goal.decreases-exchange_in
decreases-exchange_in l = 2 * length l.rest.now + 1

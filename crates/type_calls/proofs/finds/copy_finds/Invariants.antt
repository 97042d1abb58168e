use Rattle.std.proofs.Common.{◌≡◌, take}
use Rattle.type_calls.proofs.finds.copy_finds.Given as goal

abbrev pub invariant-loop-found : goal.invariant-loop-found
invariant-loop-found l = l.all ≡ take l.found-index l.finds

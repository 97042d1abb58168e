-- Each turn adds a variable.
use Rattle.std.proofs.Common.{string_bytes}
use Rattle.lean_printer.proofs.Joins.{variables_turn}
use Rattle.lean_printer.proofs.lemmas.put_variables.Goals as goal

pub loop-place-preserved : goal.loop-place-preserved
loop-place-preserved c =
    variables_turn (string_bytes c.args.out.now) (string_bytes c.loop-place.out) (string_bytes c.put.new.out) (string_bytes c.put_variable.new.out)
    c.loop-place.place c.args.count c.loop-place-test.true c.in_ok-put.ensures c.in_ok-put_variable.ensures c.loop-place.invariant

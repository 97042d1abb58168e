-- What is in hand, put into all that waits, comes to the whole, and less is left each turn.
use Rattle.std.proofs.Common.{◌≡◌, ◌+◌}
use Rattle.text_trees.specs.Told.{unwind, weigh}
use Rattle.text_trees.specs.Atoms.{atom_told, frame_told, step_told, frame_cost, step_cost}
use Rattle.text_trees.proofs.atoms.settle_atom.Given as goal

abbrev pub invariant-loop-step : goal.invariant-loop-step
invariant-loop-step l = unwind (frame_told l.tables) l.stack (step_told l.tables l.step) ≡ atom_told l.tables l.raw

abbrev pub decreases-loop-step : goal.decreases-loop-step
decreases-loop-step l = weigh frame_cost l.stack + step_cost l.step

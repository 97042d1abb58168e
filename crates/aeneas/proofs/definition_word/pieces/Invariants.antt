-- The pieces so far are those that were cut off.
use Rattle.std.proofs.Common.{◌≡◌, map, take}
use Rattle.std.specs.String.{string_bytes}
use Rattle.aeneas.proofs.definition_word.pieces.Given as goal

abbrev pub invariant-loop-piece : goal.invariant-loop-piece
invariant-loop-piece l = map string_bytes l.pieces.items ≡ map (λ x. x.now) (take l.piece-index l.piece-items)

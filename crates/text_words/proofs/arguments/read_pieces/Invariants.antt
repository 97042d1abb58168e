-- The pieces before this place are the types so far.
use Rattle.std.proofs.Common.{take, map}
use Rattle.std.specs.String.{string_bytes}
use Rattle.text_words.specs.ValueWords.{ArePieces}
use Rattle.text_words.proofs.arguments.read_pieces.Given as goal

abbrev pub invariant-loop-piece : goal.invariant-loop-piece
invariant-loop-piece l = ArePieces l.defs (take l.piece-index (map string_bytes l.pieces)) l.args

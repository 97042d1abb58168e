-- What is left to drop is no larger than the whole, and each turn it is less, or its next part is.
use Rattle.std.proofs.Common.{◌+◌, ◌*◌, ◌≤◌}
use Rattle.raw_ast.specs.Atoms.{nodes_rawatom, nodes_rawatoms, rawatoms}
use Rattle.raw_ast.proofs.atom.RawAtom.+drop.Given as goal

abbrev pub invariant-loop-parts : goal.invariant-loop-parts
invariant-loop-parts l = nodes_rawatom l.self + nodes_rawatoms (rawatoms l.left) ≤ nodes_rawatom l.fn.self

abbrev pub decreases-loop-parts : goal.decreases-loop-parts
decreases-loop-parts l = (nodes_rawatom l.self + nodes_rawatoms (rawatoms l.left)) * (nodes_rawatom l.fn.self + 1) + nodes_rawatom l.self

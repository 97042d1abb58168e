-- The types copied so far, and the size of what is copied.
use Rattle.std.proofs.Common.{◌≡◌, ◌*◌, take}
use Rattle.pure_ast.specs.Types.{ptys, nodes_pty, nodes_ptys}
use Rattle.text_words.proofs.putting_in.+copying.Given as goal

abbrev pub decreases-copy_type : goal.decreases-copy_type
decreases-copy_type l = 2 * nodes_pty l.ty.now

abbrev pub decreases-copy_types : goal.decreases-copy_types
decreases-copy_types l = 2 * nodes_ptys (ptys l.types.now)

abbrev pub invariant-copy_types-loop-ty : goal.invariant-copy_types-loop-ty
invariant-copy_types-loop-ty l = l.all ≡ take l.ty-index l.types

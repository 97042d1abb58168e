-- The types made so far, and the size of what is copied.
use Rattle.std.proofs.Common.{◌≡◌, ◌*◌, take, map}
use Rattle.pure_ast.specs.Types.{ptys, nodes_pty, nodes_ptys}
use Rattle.text_meaning.specs.HasType.{put_in}
use Rattle.text_words.proofs.putting_in.+putting.Given as goal

abbrev pub decreases-put_in : goal.decreases-put_in
decreases-put_in l = 2 * nodes_pty l.ty.now

abbrev pub decreases-put_in_all : goal.decreases-put_in_all
decreases-put_in_all l = 2 * nodes_ptys (ptys l.types.now)

abbrev pub invariant-put_in_all-loop-ty : goal.invariant-put_in_all-loop-ty
invariant-put_in_all-loop-ty l = l.all ≡ map (put_in l.args) (take l.ty-index l.types)

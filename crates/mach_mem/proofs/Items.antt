-- Trees in a list have fewer nodes than the list.
use Rattle.std.proofs.Common.{◌≡◌, ℕ, zero, suc, ◌<◌, List, [], ◌∷◌, length, get_or, arith}
use Rattle.mach_mem.specs.Trees.{MTree, mtrees, nodes_mtree, nodes_mtrees}

pub item : (xs : List MTree) (i : ℕ) (x : MTree) → i < length xs → x ≡ get_or xs i x → nodes_mtree x < nodes_mtrees (mtrees xs)
item [] i x h e = absurd (omega arith)
item (y ∷ ys) zero x h e = rw e (omega arith)
item (y ∷ ys) (suc i) x h e = omega (arith, item ys i x (omega arith) e)

-- The parts of a pattern have fewer nodes than all together.
use Rattle.std.proofs.Common.{◌≡◌, ℕ, zero, suc, ◌<◌, List, [], ◌∷◌, length, get_or, arith}
use Rattle.rust_ast.specs.SpelledPatterns as q

pub pat_item : (xs : List q.Pat) (i : ℕ) (x : q.Pat) → i < length xs → x ≡ get_or xs i x → q.nodes_pat x < q.nodes_pats (q.pats xs)
pat_item [] i x h e = absurd (omega arith)
pat_item (y ∷ ys) zero x h e = rw e (omega arith)
pat_item (y ∷ ys) (suc i) x h e = omega (arith, pat_item ys i x (omega arith) e)

pub field_item : (xs : List (ℕ × q.Pat)) (i : ℕ) (x : ℕ × q.Pat) → i < length xs → x ≡ get_or xs i x → q.nodes_pat x.1 < q.nodes_fieldpats (q.fieldpats xs)
field_item [] i x h e = absurd (omega arith)
field_item (y ∷ ys) zero x h e = rw e (omega arith)
field_item (y ∷ ys) (suc i) x h e = omega (arith, field_item ys i x (omega arith) e)

-- The arguments of a call are smaller than all of them.
use Rattle.std.proofs.Common.{◌≡◌, ℕ, zero, suc, ◌<◌, List, [], ◌∷◌, length, get_or, ap, arith}
use Rattle.rust_ast.specs.Resolved.{Expr, exprs, nodes_expr, nodes_exprs}

pub exprs_item : (xs : List Expr) (i : ℕ) (x : Expr) → i < length xs → x ≡ get_or xs i x → nodes_expr x < nodes_exprs (exprs xs)
exprs_item [] i x h e = absurd (omega arith)
exprs_item (y ∷ xs) zero x h e = let same = ap nodes_expr e in omega arith
exprs_item (y ∷ xs) (suc i) x h e = let less = exprs_item xs i x (omega arith) e in omega arith

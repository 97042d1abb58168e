-- A part of a term is smaller than the term.
use Rattle.std.proofs.Common.{◌≡◌, ℕ, zero, suc, ◌<◌, List, [], ◌∷◌, length, get_or, subst, sym, arith}
use Rattle.pure_ast.specs.Terms.{Term, terms, nodes_term, nodes_terms}

pub term_part : (xs : List Term) (i : ℕ) (x : Term) → i < length xs → x ≡ get_or xs i x → nodes_term x < nodes_terms (terms xs)
term_part [] i x l p = omega arith
term_part (y ∷ ys) zero x l p =
    let q : nodes_term y < nodes_terms (terms (y ∷ ys)) = omega arith in
    subst (λ (z : Term). nodes_term z < nodes_terms (terms (y ∷ ys))) (sym p) q
term_part (y ∷ ys) (suc i) x l p =
    let q = term_part ys i x (omega arith) p in
    omega arith

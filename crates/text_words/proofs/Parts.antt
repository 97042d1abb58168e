-- The parts of a value, a term or a type are smaller than the whole.
use Rattle.std.proofs.Common.{◌≡◌, ap, ℕ, zero, suc, ◌<◌, List, [], ◌∷◌, length, get_or, arith}
use Rattle.pure_ast.specs.Values.{PValue, pvalues, nodes_pvalue, nodes_pvalues}
use Rattle.pure_ast.specs.Terms.{Term, terms, nodes_term, nodes_terms}
use Rattle.pure_ast.specs.Types.{PTy, ptys, nodes_pty, nodes_ptys}

pub value_part : (xs : List PValue) (i : ℕ) (x : PValue) → i < length xs → x ≡ get_or xs i x → nodes_pvalue x < nodes_pvalues (pvalues xs)
value_part [] i x h e = absurd (omega (arith, h))
value_part (y ∷ ys) zero x h e = let same : nodes_pvalue x ≡ nodes_pvalue y = ap nodes_pvalue e in omega (arith, same)
value_part (y ∷ ys) (suc i) x h e = let less = value_part ys i x (omega (arith, h)) e in omega (arith, less)

pub term_part : (xs : List Term) (i : ℕ) (x : Term) → i < length xs → x ≡ get_or xs i x → nodes_term x < nodes_terms (terms xs)
term_part [] i x h e = absurd (omega (arith, h))
term_part (y ∷ ys) zero x h e = let same : nodes_term x ≡ nodes_term y = ap nodes_term e in omega (arith, same)
term_part (y ∷ ys) (suc i) x h e = let less = term_part ys i x (omega (arith, h)) e in omega (arith, less)

pub type_part : (xs : List PTy) (i : ℕ) (x : PTy) → i < length xs → x ≡ get_or xs i x → nodes_pty x < nodes_ptys (ptys xs)
type_part [] i x h e = absurd (omega (arith, h))
type_part (y ∷ ys) zero x h e = let same : nodes_pty x ≡ nodes_pty y = ap nodes_pty e in omega (arith, same)
type_part (y ∷ ys) (suc i) x h e = let less = type_part ys i x (omega (arith, h)) e in omega (arith, less)

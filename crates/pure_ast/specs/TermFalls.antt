-- A term is larger than its parts.
use Rattle.std.specs.Prelude.{◌≤◌, ◌+◌, ◌*◌, List, [], ◌∷◌}
use Rattle.std.proofs.Common.{arith}
use denote.Param.Weighed.{most}
use Rattle.pure_ast.specs.declared.term.TermNode.{TermNode}
use Rattle.pure_ast.specs.declared.term.TermNode.TheVariants as N
use Rattle.pure_ast.specs.declared.term.Term.TheDeep.{deep-TermNode}
use Rattle.pure_ast.specs.Terms.{Term, terms, nodes_term, nodes_terms}
use Rattle.pure_ast.specs.TermView.{term_of}

most_terms : (ts : List Term) → most (λ t. nodes_term t + 1) ts ≤ nodes_terms (terms ts) + 1
most_terms [] = omega arith
most_terms (t ∷ ts) = omega (arith, most_terms ts)

pub term_falls : (n : TermNode) → deep-TermNode n ≤ nodes_term (term_of n)
term_falls (N.Tuple ts) = omega (arith, most_terms ts)
term_falls (N.Ctor c ts) = omega (arith, most_terms ts)
term_falls _ = omega arith

-- the parts of a term are smaller than the term
pub most_dropped : (ts : List Term) → most (λ t. 2 * (nodes_term t + 1) + 0) ts ≤ 2 * nodes_terms (terms ts)
most_dropped [] = omega arith
most_dropped (t ∷ ts) = omega (arith, most_dropped ts)

-- The term that a node of the tree stands for (TEXT.md, "Terms").
use Rattle.pure_ast.specs.declared.term.TermNode.{TermNode}
use Rattle.pure_ast.specs.declared.term.TermNode.TheVariants as N
use Rattle.pure_ast.specs.Terms.{Term, var, literal, truth, tuple, built, terms}

abbrev pub term_of : TermNode → Term
term_of (N.Var v) = var v
term_of (N.Lit n) = literal n
term_of (N.Bool b) = truth b
term_of (N.Tuple ts) = tuple (terms ts)
term_of (N.Ctor c ts) = built c (terms ts)

-- What is printed so far and what is left are the whole; each call is on a smaller tree.
use Rattle.std.proofs.Common.{◌≡◌, ◌+◌, ◌*◌, ◌++◌, drop, string_bytes}
use Rattle.pure_ast.specs.Terms.{nodes_term, nodes_terms, terms}
use Rattle.text_meaning.specs.ShownTerms.{spaced_terms, comma_terms}
use Rattle.lean_printer.proofs.terms.+term.Given as goal

abbrev pub decreases-put_term : goal.decreases-put_term
decreases-put_term l = 2 * nodes_term l.term.now

abbrev pub decreases-put_tuple : goal.decreases-put_tuple
decreases-put_tuple l = 2 * nodes_terms (terms l.parts.now) + 1

abbrev pub decreases-put_built : goal.decreases-put_built
decreases-put_built l = 2 * nodes_terms (terms l.parts.now) + 1

abbrev pub decreases-put_spaced_terms : goal.decreases-put_spaced_terms
decreases-put_spaced_terms l = 2 * nodes_terms (terms l.parts.now)

abbrev pub decreases-put_comma_terms : goal.decreases-put_comma_terms
decreases-put_comma_terms l = 2 * nodes_terms (terms l.parts.now)

abbrev pub invariant-put_spaced_terms-loop-part : goal.invariant-put_spaced_terms-loop-part
invariant-put_spaced_terms-loop-part l =
    string_bytes l.out ++ spaced_terms l.defs (terms (drop l.part-index l.parts)) ≡ string_bytes l.fn.out ++ spaced_terms l.defs (terms l.parts)

abbrev pub invariant-put_comma_terms-loop-part : goal.invariant-put_comma_terms-loop-part
invariant-put_comma_terms-loop-part l =
    string_bytes l.out ++ comma_terms l.defs (terms (drop l.part-index l.parts)) ≡ string_bytes l.fn.out ++ comma_terms l.defs (terms l.parts)

-- The types and values that are left decide; each call is on a smaller value.
use Rattle.std.proofs.Common.{◌≡◌, ◌*◌, drop}
use Rattle.std.specs.Prelude.{Some}
use Rattle.pure_ast.specs.Values.{pvalues, nodes_pvalue, nodes_pvalues}
use Rattle.text_words.specs.Typing as spec
use Rattle.text_words.proofs.typing.+typing.Given as goal

abbrev pub decreases-has_type : goal.decreases-has_type
decreases-has_type l = 2 * nodes_pvalue l.value.now

abbrev pub decreases-have_types : goal.decreases-have_types
decreases-have_types l = 2 * nodes_pvalues (pvalues l.values.now)

abbrev pub invariant-have_types-loop-value : goal.invariant-have_types-loop-value
invariant-have_types-loop-value l =
    spec.have_types l.defs (Some l.left) (pvalues (drop l.value-index l.values)) ≡ spec.have_types l.defs (Some l.types) (pvalues l.values)

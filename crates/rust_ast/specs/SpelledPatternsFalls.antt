-- A node's parts are smaller than the node.
-- Made by tools/code.py from tools/rust_ast.desc.py.
use Rattle.std.specs.Prelude.{ℕ, ◌+◌, ◌*◌, ◌≤◌, List, [], ◌∷◌}
use Rattle.std.proofs.Common.{arith}
use denote.Param.Weighed.{most, w_this}
use Rattle.rust_ast.specs.SpelledPatterns as t
use Rattle.rust_ast.specs.SpelledPatternsView.{pat_of}
use Rattle.rust_ast.specs.declared.spelled_patterns.Pat.TheDeep.{deep-PatNode, size-Pat}
use Rattle.rust_ast.specs.declared.spelled_patterns.Pat.TheShapes as shapes
use Rattle.rust_ast.specs.declared.spelled_patterns.PatNode.{PatNode}
use Rattle.rust_ast.specs.declared.spelled_patterns.PatNode.TheVariants as Pat_

most_pats : (xs : List t.Pat) → most (λ x. t.nodes_pat x + 1) xs ≤ t.nodes_pats (t.pats xs) + 1
most_pats [] = omega arith
most_pats (x ∷ xs) = omega (arith, most_pats xs)

abbrev size_pats : t.Pat → ℕ
size_pats = w_this.weight t.Pat size-Pat

pub drop_pats : (xs : List t.Pat) → most size_pats xs ≤ 2 * t.nodes_pats (t.pats xs)
drop_pats [] = omega arith
drop_pats (x ∷ xs) = omega (arith, drop_pats xs)

abbrev weight_fieldpats : ℕ × t.Pat → ℕ
weight_fieldpats = shapes.weighed-PatNode-Construct-2-at-2.weight t.Pat (λ y. t.nodes_pat y + 1)

most_fieldpats : (xs : List (ℕ × t.Pat)) → most weight_fieldpats xs ≤ t.nodes_fieldpats (t.fieldpats xs) + 1
most_fieldpats [] = omega arith
most_fieldpats (x ∷ xs) = omega (arith, most_fieldpats xs)

abbrev size_fieldpats : (ℕ × t.Pat) → ℕ
size_fieldpats = shapes.weighed-PatNode-Construct-2-at-2.weight t.Pat size-Pat

pub drop_fieldpats : (xs : List (ℕ × t.Pat)) → most size_fieldpats xs ≤ 2 * t.nodes_fieldpats (t.fieldpats xs)
drop_fieldpats [] = omega arith
drop_fieldpats (x ∷ xs) = omega (arith, drop_fieldpats xs)

pub pat_falls : (e : PatNode) → deep-PatNode e ≤ t.nodes_pat (pat_of e)
pat_falls (Pat_.Tuple a0) = omega (arith, most_pats a0)
pat_falls (Pat_.Construct a0 a1 a2) = omega (arith, most_fieldpats a2)
pat_falls _ = omega arith

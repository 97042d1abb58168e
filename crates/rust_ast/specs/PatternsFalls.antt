-- A node's parts are smaller than the node.
-- Made by tools/code.py from tools/rust_ast.desc.py.
use Rattle.std.specs.Prelude.{ℕ, ◌+◌, ◌*◌, ◌≤◌, List, [], ◌∷◌}
use Rattle.std.proofs.Common.{arith}
use denote.Param.Weighed.{most, w_this}
use Rattle.rust_ast.specs.Patterns as t
use Rattle.rust_ast.specs.PatternsView.{pat_of}
use Rattle.rust_ast.specs.Patterns.{Name}
use Rattle.aen_base.specs.declared.span.Span.{Span}
use Rattle.rust_ast.specs.declared.patterns.Pat.TheDeep.{deep-PatNode, size-Pat}
use Rattle.rust_ast.specs.declared.patterns.Pat.TheShapes as shapes
use Rattle.rust_ast.specs.declared.patterns.PatNode.{PatNode}
use Rattle.rust_ast.specs.declared.patterns.PatNode.TheVariants as Pat_

most_pats : (xs : List t.Pat) → most (λ x. t.nodes_pat x + 1) xs ≤ t.nodes_pats (t.pats xs) + 1
most_pats [] = omega arith
most_pats (x ∷ xs) = omega (arith, most_pats xs)

abbrev size_pats : t.Pat → ℕ
size_pats = w_this.weight t.Pat size-Pat

pub drop_pats : (xs : List t.Pat) → most size_pats xs ≤ 2 * t.nodes_pats (t.pats xs)
drop_pats [] = omega arith
drop_pats (x ∷ xs) = omega (arith, drop_pats xs)

abbrev weight_fieldpats : Span × Name × t.Pat → ℕ
weight_fieldpats = shapes.weighed-PatNode-Literal-4-at-3.weight t.Pat (λ y. t.nodes_pat y + 1)

most_fieldpats : (xs : List (Span × Name × t.Pat)) → most weight_fieldpats xs ≤ t.nodes_fieldpats (t.fieldpats xs) + 1
most_fieldpats [] = omega arith
most_fieldpats (x ∷ xs) = omega (arith, most_fieldpats xs)

abbrev size_fieldpats : (Span × Name × t.Pat) → ℕ
size_fieldpats = shapes.weighed-PatNode-Literal-4-at-3.weight t.Pat size-Pat

pub drop_fieldpats : (xs : List (Span × Name × t.Pat)) → most size_fieldpats xs ≤ 2 * t.nodes_fieldpats (t.fieldpats xs)
drop_fieldpats [] = omega arith
drop_fieldpats (x ∷ xs) = omega (arith, drop_fieldpats xs)

pub pat_falls : (e : PatNode) → deep-PatNode e ≤ t.nodes_pat (pat_of e)
pat_falls (Pat_.Tuple a0 a1) = omega (arith, most_pats a1)
pat_falls (Pat_.Construct a0 a1 a2 a3 a4) = omega (arith, most_pats a4)
pat_falls (Pat_.Literal a0 a1 a2 a3 a4) = omega (arith, most_fieldpats a4)
pat_falls _ = omega arith

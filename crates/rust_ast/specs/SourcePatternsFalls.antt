-- A node's parts are smaller than the node.
-- Made by tools/code.py from tools/rust_ast.desc.py.
use Rattle.std.specs.Prelude.{ℕ, ◌+◌, ◌*◌, ◌≤◌, List, [], ◌∷◌}
use Rattle.std.proofs.Common.{arith}
use denote.Param.Weighed.{most, w_this}
use Rattle.rust_ast.specs.SourcePatterns as t
use Rattle.rust_ast.specs.SourcePatternsView.{fieldpat_of, pat_of}
use Rattle.rust_ast.specs.declared.source_patterns.FieldPat.TheDeep.{deep-FieldPatNode, deep-PatNode, size-FieldPat, size-Pat}
use Rattle.rust_ast.specs.declared.source_patterns.FieldPatNode.{FieldPatNode}
use Rattle.rust_ast.specs.declared.source_patterns.FieldPatNode.TheVariants as FieldPat_
use Rattle.rust_ast.specs.declared.source_patterns.PatNode.{PatNode}
use Rattle.rust_ast.specs.declared.source_patterns.PatNode.TheVariants as Pat_

most_pats : (xs : List t.Pat) → most (λ x. t.nodes_pat x + 1) xs ≤ t.nodes_pats (t.pats xs) + 1
most_pats [] = omega arith
most_pats (x ∷ xs) = omega (arith, most_pats xs)

abbrev size_pats : t.Pat → ℕ
size_pats = w_this.weight t.Pat size-Pat

pub drop_pats : (xs : List t.Pat) → most size_pats xs ≤ 2 * t.nodes_pats (t.pats xs)
drop_pats [] = omega arith
drop_pats (x ∷ xs) = omega (arith, drop_pats xs)

most_fieldpats : (xs : List t.FieldPat) → most (λ x. t.nodes_fieldpat x + 1) xs ≤ t.nodes_fieldpats (t.fieldpats xs) + 1
most_fieldpats [] = omega arith
most_fieldpats (x ∷ xs) = omega (arith, most_fieldpats xs)

abbrev size_fieldpats : t.FieldPat → ℕ
size_fieldpats = w_this.weight t.FieldPat size-FieldPat

pub drop_fieldpats : (xs : List t.FieldPat) → most size_fieldpats xs ≤ 2 * t.nodes_fieldpats (t.fieldpats xs)
drop_fieldpats [] = omega arith
drop_fieldpats (x ∷ xs) = omega (arith, drop_fieldpats xs)

pub fieldpat_falls : (e : FieldPatNode) → deep-FieldPatNode e ≤ t.nodes_fieldpat (fieldpat_of e)
fieldpat_falls (FieldPat_.Short a0) = omega arith
fieldpat_falls _ = omega arith

pub pat_falls : (e : PatNode) → deep-PatNode e ≤ t.nodes_pat (pat_of e)
pat_falls (Pat_.Tuple a0 a1) = omega (arith, most_pats a1)
pat_falls (Pat_.Construct a0 a1 a2) = omega (arith, most_pats a2)
pat_falls (Pat_.Literal a0 a1 a2) = omega (arith, most_fieldpats a2)
pat_falls _ = omega arith

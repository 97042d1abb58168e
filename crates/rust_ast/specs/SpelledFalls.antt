-- A node's parts are smaller than the node.
-- Made by tools/code.py from tools/rust_ast.desc.py.
use Rattle.std.specs.Prelude.{ℕ, ◌+◌, ◌*◌, ◌≤◌, List, [], ◌∷◌, Some, None}
use Rattle.std.proofs.Common.{arith}
use denote.Param.Weighed.{most, w_this}
use Rattle.rust_ast.specs.Spelled as t
use Rattle.rust_ast.specs.SpelledView.{block_of, form_of, place_of, scrutinee_of, stmt_of, val_of}
use Rattle.rust_ast.specs.SpelledPatterns.{Pat}
use Rattle.rust_ast.specs.declared.spelled.Block.TheDeep.{deep-BlockNode, deep-FormNode, deep-PlaceNode, deep-ScrutineeNode, deep-StmtNode, deep-ValNode, size-Stmt, size-Val}
use Rattle.rust_ast.specs.declared.spelled.Block.TheShapes as shapes
use Rattle.rust_ast.specs.declared.spelled.BlockNode.{BlockNode}
use Rattle.rust_ast.specs.declared.spelled.BlockNode.TheVariants as Block_
use Rattle.rust_ast.specs.declared.spelled.FormNode.{FormNode}
use Rattle.rust_ast.specs.declared.spelled.FormNode.TheVariants as Form_
use Rattle.rust_ast.specs.declared.spelled.PlaceNode.{PlaceNode}
use Rattle.rust_ast.specs.declared.spelled.PlaceNode.TheVariants as Place_
use Rattle.rust_ast.specs.declared.spelled.ScrutineeNode.{ScrutineeNode}
use Rattle.rust_ast.specs.declared.spelled.ScrutineeNode.TheVariants as Scrutinee_
use Rattle.rust_ast.specs.declared.spelled.StmtNode.{StmtNode}
use Rattle.rust_ast.specs.declared.spelled.StmtNode.TheVariants as Stmt_
use Rattle.rust_ast.specs.declared.spelled.ValNode.{ValNode}
use Rattle.rust_ast.specs.declared.spelled.ValNode.TheVariants as Val_

most_values : (xs : List t.Val) → most (λ x. t.nodes_val x + 1) xs ≤ t.nodes_values (t.values xs) + 1
most_values [] = omega arith
most_values (x ∷ xs) = omega (arith, most_values xs)

abbrev size_values : t.Val → ℕ
size_values = w_this.weight t.Val size-Val

pub drop_values : (xs : List t.Val) → most size_values xs ≤ 2 * t.nodes_values (t.values xs)
drop_values [] = omega arith
drop_values (x ∷ xs) = omega (arith, drop_values xs)

abbrev weight_parts : ℕ × t.Val → ℕ
weight_parts = shapes.weighed-FormNode-Construct-2-at-2.weight t.Val (λ y. t.nodes_val y + 1)

most_parts : (xs : List (ℕ × t.Val)) → most weight_parts xs ≤ t.nodes_parts (t.parts xs) + 1
most_parts [] = omega arith
most_parts (x ∷ xs) = omega (arith, most_parts xs)

abbrev size_parts : (ℕ × t.Val) → ℕ
size_parts = shapes.weighed-FormNode-Construct-2-at-2.weight t.Val size-Val

pub drop_parts : (xs : List (ℕ × t.Val)) → most size_parts xs ≤ 2 * t.nodes_parts (t.parts xs)
drop_parts [] = omega arith
drop_parts (x ∷ xs) = omega (arith, drop_parts xs)

abbrev weight_arms : Pat × t.Val → ℕ
weight_arms = shapes.weighed-FormNode-Select-1-at-2.weight t.Val (λ y. t.nodes_val y + 1)

most_arms : (xs : List (Pat × t.Val)) → most weight_arms xs ≤ t.nodes_arms (t.arms xs) + 1
most_arms [] = omega arith
most_arms (x ∷ xs) = omega (arith, most_arms xs)

abbrev size_arms : (Pat × t.Val) → ℕ
size_arms = shapes.weighed-FormNode-Select-1-at-2.weight t.Val size-Val

pub drop_arms : (xs : List (Pat × t.Val)) → most size_arms xs ≤ 2 * t.nodes_arms (t.arms xs)
drop_arms [] = omega arith
drop_arms (x ∷ xs) = omega (arith, drop_arms xs)

most_stmts : (xs : List t.Stmt) → most (λ x. t.nodes_stmt x + 1) xs ≤ t.nodes_stmts (t.stmts xs) + 1
most_stmts [] = omega arith
most_stmts (x ∷ xs) = omega (arith, most_stmts xs)

abbrev size_stmts : t.Stmt → ℕ
size_stmts = w_this.weight t.Stmt size-Stmt

pub drop_stmts : (xs : List t.Stmt) → most size_stmts xs ≤ 2 * t.nodes_stmts (t.stmts xs)
drop_stmts [] = omega arith
drop_stmts (x ∷ xs) = omega (arith, drop_stmts xs)

pub block_falls : (e : BlockNode) → deep-BlockNode e ≤ t.nodes_block (block_of e)
block_falls (Block_.Block a0 a1 a2 a3 (Some x)) = omega (arith, most_stmts a3)
block_falls (Block_.Block a0 a1 a2 a3 None) = omega (arith, most_stmts a3)

pub form_falls : (e : FormNode) → deep-FormNode e ≤ t.nodes_form (form_of e)
form_falls (Form_.Tuple a0) = omega (arith, most_values a0)
form_falls (Form_.Construct a0 a1 a2) = omega (arith, most_parts a2)
form_falls (Form_.Call a0 a1 a2) = omega (arith, most_values a2)
form_falls (Form_.Select a0 a1) = omega (arith, most_arms a1)
form_falls (Form_.Leave a0 (Some x)) = omega arith
form_falls (Form_.Leave a0 None) = omega arith
form_falls (Form_.Give (Some x)) = omega arith
form_falls (Form_.Give None) = omega arith
form_falls _ = omega arith

pub place_falls : (e : PlaceNode) → deep-PlaceNode e ≤ t.nodes_place (place_of e)
place_falls (Place_.Variable a0) = omega arith
place_falls _ = omega arith

pub scrutinee_falls : (e : ScrutineeNode) → deep-ScrutineeNode e ≤ t.nodes_scrutinee (scrutinee_of e)
scrutinee_falls (Scrutinee_.Stands a0 a1 a2) = omega arith
scrutinee_falls _ = omega arith

pub stmt_falls : (e : StmtNode) → deep-StmtNode e ≤ t.nodes_stmt (stmt_of e)
stmt_falls (Stmt_.Run a0) = omega arith
stmt_falls _ = omega arith

pub val_falls : (e : ValNode) → deep-ValNode e ≤ t.nodes_val (val_of e)
val_falls (Val_.Value a0 a1 a2 a3) = omega arith

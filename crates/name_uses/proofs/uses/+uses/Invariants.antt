use Rattle.std.proofs.Common.{◌≡◌, ◌+◌, ◌*◌, drop}
use Rattle.rust_ast.specs.Source as s
use Rattle.rust_ast.specs.Resolved as r
use Rattle.name_uses.specs.Uses.{read, read_all, read_inits, read_arms, read_stmts, read_stmt}
use Rattle.name_uses.specs.Walks.{on_ok, walk, onward, in_form}
use Rattle.name_uses.proofs.UseLists.{init, arm}
use Rattle.name_uses.proofs.uses.+uses.Given as goal

abbrev pub decreases-resolve_expr : goal.decreases-resolve_expr
decreases-resolve_expr l = 4 * s.nodes_expr l.e.now

abbrev pub decreases-one : goal.decreases-one
decreases-one l = 4 * s.nodes_expr l.e.now + 1

abbrev pub decreases-two : goal.decreases-two
decreases-two l = 4 * (s.nodes_expr l.a.now + s.nodes_expr l.b.now) + 2

abbrev pub decreases-boxed_block : goal.decreases-boxed_block
decreases-boxed_block l = 4 * s.nodes_block l.block.now + 1

abbrev pub decreases-let_branch : goal.decreases-let_branch
decreases-let_branch l = 4 * (s.nodes_expr l.parts.now.value.now + s.nodes_expr l.parts.now.matched.now + s.nodes_expr l.parts.now.other.now) + 3

abbrev pub decreases-choice : goal.decreases-choice
decreases-choice l = 4 * (s.nodes_expr l.parts.now.matched.now + s.nodes_expr l.parts.now.other.now) + 2

abbrev pub decreases-within : goal.decreases-within
decreases-within l = 4 * s.nodes_expr l.body.now + 1

abbrev pub decreases-in_block : goal.decreases-in_block
decreases-in_block l = 4 * (s.nodes_stmts (s.stmts l.statements.now) + s.nodes_maybeexpr (s.maybeexpr l.last.now)) + 1

abbrev pub decreases-resolve_let : goal.decreases-resolve_let
decreases-resolve_let l = 4 * s.nodes_maybeexpr (s.maybeexpr l.parts.now.value.now) + 1

abbrev pub decreases-resolve_maybe : goal.decreases-resolve_maybe
decreases-resolve_maybe l = 4 * s.nodes_maybeexpr (s.maybeexpr l.e.now)

abbrev pub decreases-resolve_all : goal.decreases-resolve_all
decreases-resolve_all l = 4 * s.nodes_exprs (s.exprs l.items.now)

abbrev pub decreases-resolve_init : goal.decreases-resolve_init
decreases-resolve_init l = 4 * s.nodes_expr l.item.now.2 + 1

abbrev pub decreases-resolve_inits : goal.decreases-resolve_inits
decreases-resolve_inits l = 4 * s.nodes_inits (s.inits l.items.now)

abbrev pub decreases-resolve_arm : goal.decreases-resolve_arm
decreases-resolve_arm l = 4 * s.nodes_expr l.arm.now.1 + 2

abbrev pub decreases-resolve_arms : goal.decreases-resolve_arms
decreases-resolve_arms l = 4 * s.nodes_arms (s.arms l.items.now)

abbrev pub decreases-resolve_block : goal.decreases-resolve_block
decreases-resolve_block l = 4 * s.nodes_block l.block.now

abbrev pub decreases-resolve_stmts : goal.decreases-resolve_stmts
decreases-resolve_stmts l = 4 * s.nodes_stmts (s.stmts l.items.now)

abbrev pub decreases-resolve_stmt : goal.decreases-resolve_stmt
decreases-resolve_stmt l = 4 * s.nodes_stmt l.stmt.now

abbrev pub invariant-resolve_all-loop-i : goal.invariant-resolve_all-loop-i
invariant-resolve_all-loop-i l =
    read_all l.tables l.generics (s.exprs l.items) l.fn.state ≡ on_ok (in_form r.exprs) (onward l.done (walk (read l.tables l.generics) (drop l.i l.items) l.state))

abbrev pub invariant-resolve_inits-loop-i : goal.invariant-resolve_inits-loop-i
invariant-resolve_inits-loop-i l =
    read_inits l.tables l.generics (s.inits l.items) l.fn.state ≡ on_ok (in_form r.inits) (onward l.done (walk (init l.tables l.generics) (drop l.i l.items) l.state))

abbrev pub invariant-resolve_arms-loop-i : goal.invariant-resolve_arms-loop-i
invariant-resolve_arms-loop-i l =
    read_arms l.tables l.generics (s.arms l.items) l.fn.state ≡ on_ok (in_form r.arms) (onward l.done (walk (arm l.tables l.generics) (drop l.i l.items) l.state))

abbrev pub invariant-resolve_stmts-loop-i : goal.invariant-resolve_stmts-loop-i
invariant-resolve_stmts-loop-i l =
    read_stmts l.tables l.generics (s.stmts l.items) l.fn.state ≡ on_ok (in_form r.stmts) (onward l.done (walk (read_stmt l.tables l.generics) (drop l.i l.items) l.state))

use Rattle.std.proofs.Common.{◌≡◌, ◌+◌, ◌*◌, drop}
use Rattle.rust_ast.specs.Source as s
use Rattle.name_tables.specs.Finding.{or_else}
use Rattle.name_clashes.specs.Twice.{twice_in_all, twice_in_inits, twice_in_arms, twice_in_stmts}
use Rattle.name_clashes.proofs.twice_bodies.+bodies.Given as goal

abbrev pub decreases-twice_in : goal.decreases-twice_in
decreases-twice_in l = 3 * s.nodes_expr l.e.now

abbrev pub decreases-twice_in_two : goal.decreases-twice_in_two
decreases-twice_in_two l = 3 * (s.nodes_expr l.a.now + s.nodes_expr l.b.now) + 1

abbrev pub decreases-twice_in_maybe : goal.decreases-twice_in_maybe
decreases-twice_in_maybe l = 3 * s.nodes_maybeexpr (s.maybeexpr l.e.now)

abbrev pub decreases-twice_in_all : goal.decreases-twice_in_all
decreases-twice_in_all l = 3 * s.nodes_exprs (s.exprs l.items.now)

abbrev pub decreases-twice_in_init : goal.decreases-twice_in_init
decreases-twice_in_init l = 3 * s.nodes_expr l.item.now.2 + 1

abbrev pub decreases-twice_in_inits : goal.decreases-twice_in_inits
decreases-twice_in_inits l = 3 * s.nodes_inits (s.inits l.items.now)

abbrev pub decreases-twice_in_arm : goal.decreases-twice_in_arm
decreases-twice_in_arm l = 3 * s.nodes_expr l.arm.now.1 + 1

abbrev pub decreases-twice_in_arms : goal.decreases-twice_in_arms
decreases-twice_in_arms l = 3 * s.nodes_arms (s.arms l.items.now)

abbrev pub decreases-twice_in_block : goal.decreases-twice_in_block
decreases-twice_in_block l = 3 * s.nodes_block l.block.now

abbrev pub decreases-twice_in_stmts : goal.decreases-twice_in_stmts
decreases-twice_in_stmts l = 3 * s.nodes_stmts (s.stmts l.items.now)

abbrev pub decreases-twice_in_stmt : goal.decreases-twice_in_stmt
decreases-twice_in_stmt l = 3 * s.nodes_stmt l.stmt.now

abbrev pub invariant-twice_in_all-loop-i : goal.invariant-twice_in_all-loop-i
invariant-twice_in_all-loop-i l = or_else l.found (twice_in_all l.tables.values (s.exprs (drop l.i l.items))) ≡ twice_in_all l.tables.values (s.exprs l.items)

abbrev pub invariant-twice_in_inits-loop-i : goal.invariant-twice_in_inits-loop-i
invariant-twice_in_inits-loop-i l = or_else l.found (twice_in_inits l.tables.values (s.inits (drop l.i l.items))) ≡ twice_in_inits l.tables.values (s.inits l.items)

abbrev pub invariant-twice_in_arms-loop-i : goal.invariant-twice_in_arms-loop-i
invariant-twice_in_arms-loop-i l = or_else l.found (twice_in_arms l.tables.values (s.arms (drop l.i l.items))) ≡ twice_in_arms l.tables.values (s.arms l.items)

abbrev pub invariant-twice_in_stmts-loop-i : goal.invariant-twice_in_stmts-loop-i
invariant-twice_in_stmts-loop-i l = or_else l.found (twice_in_stmts l.tables.values (s.stmts (drop l.i l.items))) ≡ twice_in_stmts l.tables.values (s.stmts l.items)

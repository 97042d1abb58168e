use Rattle.std.proofs.Common.{arith, refl}
use Rattle.rust_ast.specs.Source as s
use Rattle.name_tables.specs.Finding.{or_else}
use Rattle.name_tables.specs.NodeLemmas.{expr_item, init_item, arm_item, stmt_item}
use Rattle.name_clashes.specs.Twice.{twice_in, twice_in_stmt, twice_in_pattern, twice_in_all, twice_in_inits, twice_in_arms, twice_in_stmts}
use Rattle.name_clashes.proofs.Repeating.{or_both, found_turn, found_all}
use Rattle.name_clashes.proofs.twice_bodies.+bodies.Goals as goal

pub twice_in_all-twice_in-requires : goal.twice_in_all-twice_in-requires
twice_in_all-twice_in-requires t c =
    let h = expr_item c.args.items.now c.loop-i.i c.index-items-i.result (omega arith) c.index-items-i.is in
    (omega (arith, h), tt)

pub twice_in_all-loop-i-preserved : goal.twice_in_all-loop-i-preserved
twice_in_all-loop-i-preserved t c =
    found_turn (twice_in c.args.tables.now.values) (λ xs. twice_in_all c.args.tables.now.values (s.exprs xs)) (λ x xs. refl) refl c.args.items.now c.loop-i.i c.index-items-i.result c.loop-i.found c.in_ok-next.next c.first-more.result
    (twice_in_all c.args.tables.now.values (s.exprs c.args.items.now)) (omega arith) c.index-items-i.is c.in_ok-next.ensures c.first-more.ensures c.loop-i.invariant

pub twice_in_all-returns : goal.twice_in_all-returns
twice_in_all-returns t c =
    found_all (twice_in c.args.tables.now.values) (λ xs. twice_in_all c.args.tables.now.values (s.exprs xs)) (λ x xs. refl) refl c.args.items.now c.loop-i.i c.loop-i.found (twice_in_all c.args.tables.now.values (s.exprs c.args.items.now)) (omega arith) c.loop-i.invariant

pub twice_in_inits-twice_in_init-requires : goal.twice_in_inits-twice_in_init-requires
twice_in_inits-twice_in_init-requires t c =
    let h = init_item c.args.items.now c.loop-i.i c.index-items-i.result (omega arith) c.index-items-i.is in
    (omega (arith, h), tt)

pub twice_in_inits-loop-i-preserved : goal.twice_in_inits-loop-i-preserved
twice_in_inits-loop-i-preserved t c =
    found_turn (λ x. twice_in c.args.tables.now.values x.2) (λ xs. twice_in_inits c.args.tables.now.values (s.inits xs)) (λ x xs. refl) refl c.args.items.now c.loop-i.i c.index-items-i.result c.loop-i.found c.in_ok-next.next c.first-more.result
    (twice_in_inits c.args.tables.now.values (s.inits c.args.items.now)) (omega arith) c.index-items-i.is c.in_ok-next.ensures c.first-more.ensures c.loop-i.invariant

pub twice_in_inits-returns : goal.twice_in_inits-returns
twice_in_inits-returns t c =
    found_all (λ x. twice_in c.args.tables.now.values x.2) (λ xs. twice_in_inits c.args.tables.now.values (s.inits xs)) (λ x xs. refl) refl c.args.items.now c.loop-i.i c.loop-i.found (twice_in_inits c.args.tables.now.values (s.inits c.args.items.now)) (omega arith) c.loop-i.invariant

pub twice_in_arms-twice_in_arm-requires : goal.twice_in_arms-twice_in_arm-requires
twice_in_arms-twice_in_arm-requires t c =
    let h = arm_item c.args.items.now c.loop-i.i c.index-items-i.result (omega arith) c.index-items-i.is in
    (omega (arith, h), tt)

pub twice_in_arms-loop-i-preserved : goal.twice_in_arms-loop-i-preserved
twice_in_arms-loop-i-preserved t c =
    found_turn (λ x. or_else (twice_in_pattern c.args.tables.now.values x.0) (twice_in c.args.tables.now.values x.1)) (λ xs. twice_in_arms c.args.tables.now.values (s.arms xs)) (λ x xs. or_both (twice_in_pattern c.args.tables.now.values x.0) (twice_in c.args.tables.now.values x.1) (twice_in_arms c.args.tables.now.values (s.arms xs))) refl c.args.items.now c.loop-i.i c.index-items-i.result c.loop-i.found c.in_ok-next.next c.first-more.result
    (twice_in_arms c.args.tables.now.values (s.arms c.args.items.now)) (omega arith) c.index-items-i.is c.in_ok-next.ensures c.first-more.ensures c.loop-i.invariant

pub twice_in_arms-returns : goal.twice_in_arms-returns
twice_in_arms-returns t c =
    found_all (λ x. or_else (twice_in_pattern c.args.tables.now.values x.0) (twice_in c.args.tables.now.values x.1)) (λ xs. twice_in_arms c.args.tables.now.values (s.arms xs)) (λ x xs. or_both (twice_in_pattern c.args.tables.now.values x.0) (twice_in c.args.tables.now.values x.1) (twice_in_arms c.args.tables.now.values (s.arms xs))) refl c.args.items.now c.loop-i.i c.loop-i.found (twice_in_arms c.args.tables.now.values (s.arms c.args.items.now)) (omega arith) c.loop-i.invariant

pub twice_in_stmts-twice_in_stmt-requires : goal.twice_in_stmts-twice_in_stmt-requires
twice_in_stmts-twice_in_stmt-requires t c =
    let h = stmt_item c.args.items.now c.loop-i.i c.index-items-i.result (omega arith) c.index-items-i.is in
    (omega (arith, h), tt)

pub twice_in_stmts-loop-i-preserved : goal.twice_in_stmts-loop-i-preserved
twice_in_stmts-loop-i-preserved t c =
    found_turn (twice_in_stmt c.args.tables.now.values) (λ xs. twice_in_stmts c.args.tables.now.values (s.stmts xs)) (λ x xs. refl) refl c.args.items.now c.loop-i.i c.index-items-i.result c.loop-i.found c.in_ok-next.next c.first-more.result
    (twice_in_stmts c.args.tables.now.values (s.stmts c.args.items.now)) (omega arith) c.index-items-i.is c.in_ok-next.ensures c.first-more.ensures c.loop-i.invariant

pub twice_in_stmts-returns : goal.twice_in_stmts-returns
twice_in_stmts-returns t c =
    found_all (twice_in_stmt c.args.tables.now.values) (λ xs. twice_in_stmts c.args.tables.now.values (s.stmts xs)) (λ x xs. refl) refl c.args.items.now c.loop-i.i c.loop-i.found (twice_in_stmts c.args.tables.now.values (s.stmts c.args.items.now)) (omega arith) c.loop-i.invariant

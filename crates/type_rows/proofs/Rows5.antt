-- Small sources and what typing answers for them, by computing.
-- Made by tools/type_rows.py from the sources in tools/type_rows.txt.
use Rattle.std.specs.Prelude.{◌≡◌, refl, true, false, [], ◌∷◌, Some, None, Err}
use Rattle.aen_base.specs.declared.int_ty.IntTy.TheVariants.{U8}
use Rattle.aen_base.specs.declared.operators.BinOp.TheVariants as B
use Rattle.aen_base.specs.Numbers.{limit, depth}
use Rattle.rust_ast.specs.Written as w
use Rattle.rust_ast.specs.Patterns as p
use Rattle.rust_ast.specs.Resolved as e
use Rattle.type_rules.specs.Faults.{at}
use Rattle.type_rules.specs.declared.fault.KindOfFault.TheVariants.{NotPlace, NotMutable, MoveOut, Uncovered}
use Rattle.type_rules.specs.Arguments.{argument}
use Rattle.type_rules.specs.Binding.{bound}
use Rattle.type_rules.specs.Branches.{scrutinee, branch_rule, select_rule}
use Rattle.type_rules.specs.Calls.{call_rule}
use Rattle.type_rules.specs.Coverage.{is_covered}
use Rattle.type_rules.specs.Declarations.{declared_types}
use Rattle.type_rules.specs.Literals.{literal}
use Rattle.type_rules.specs.Loops.{loop_rule, give_rule, give_nothing, leave_rule, leave_nothing, go_on_rule}
use Rattle.type_rules.specs.Operands.{number_rule, variable_rule, tuple_rule}
use Rattle.type_rules.specs.Operators.{minus_rule, negation_rule, operands, binary_rule, compare_rule, lazy_rule, cast_rule}
use Rattle.type_rules.specs.PlaceRules.{deref_rule, borrow_rule, field_rule, assign_rule, update_rule}
use Rattle.type_rules.specs.Programs.{typed_bodies, typed_program}
use Rattle.type_rules.specs.Signatures.{signature_of}
use Rattle.type_rules.specs.Statements.{run_rule, let_rule, let_nothing, block_with, block_without}
use Rattle.type_rules.specs.TypeFacts.{is_large}
use Rattle.type_rows.proofs.Terms.{sp, ty}

-- fn f(x: u8) { let p = &(x + 1); }
row_50 : typed_program (record { types = []; functions = ((record { name = (102 ∷ []); span = (sp 3 4); lifetimes = []; type_params = []; params = ((w.int (sp 8 10) U8) ∷ []); result = None; variables = ((record { name = (120 ∷ []); span = (sp 5 6); mutable = false; late = false }) ∷ ((record { name = (112 ∷ []); span = (sp 18 19); mutable = false; late = false }) ∷ [])); body = (e.block (sp 12 33) (e.more_stmts (e.bind (sp 14 30) (p.bind (sp 18 19) (sp 18 19) false 1) w.no_maybewritten (e.some_maybeexpr (e.borrow (sp 22 30) false (e.binary (sp 24 29) B.Add (e.variable (sp 24 25) 0) (e.number (sp 28 29) false 1 p.no_suffix))))) e.no_stmts) e.no_maybeexpr) }) ∷ []) }) ≡ Err (at (sp 24 29) NotPlace)
unfolding argument bound scrutinee branch_rule select_rule call_rule is_covered declared_types literal loop_rule give_rule give_nothing leave_rule leave_nothing go_on_rule number_rule variable_rule tuple_rule minus_rule negation_rule operands binary_rule compare_rule lazy_rule cast_rule deref_rule borrow_rule field_rule assign_rule update_rule typed_bodies typed_program signature_of run_rule let_rule let_nothing block_with block_without is_large limit depth
row_50 = refl

-- fn f(x: u8) { x = 2; }
row_51 : typed_program (record { types = []; functions = ((record { name = (102 ∷ []); span = (sp 3 4); lifetimes = []; type_params = []; params = ((w.int (sp 8 10) U8) ∷ []); result = None; variables = ((record { name = (120 ∷ []); span = (sp 5 6); mutable = false; late = false }) ∷ []); body = (e.block (sp 12 22) (e.more_stmts (e.run (e.assign (sp 14 19) (e.variable (sp 14 15) 0) (e.number (sp 18 19) false 2 p.no_suffix)) true) e.no_stmts) e.no_maybeexpr) }) ∷ []) }) ≡ Err (at (sp 14 15) NotMutable)
unfolding argument bound scrutinee branch_rule select_rule call_rule is_covered declared_types literal loop_rule give_rule give_nothing leave_rule leave_nothing go_on_rule number_rule variable_rule tuple_rule minus_rule negation_rule operands binary_rule compare_rule lazy_rule cast_rule deref_rule borrow_rule field_rule assign_rule update_rule typed_bodies typed_program signature_of run_rule let_rule let_nothing block_with block_without is_large limit depth
row_51 = refl

-- fn f(p: &u8) { *p = 2; }
row_52 : typed_program (record { types = []; functions = ((record { name = (102 ∷ []); span = (sp 3 4); lifetimes = []; type_params = []; params = ((w.ref (sp 8 11) w.elided false (w.int (sp 9 11) U8)) ∷ []); result = None; variables = ((record { name = (112 ∷ []); span = (sp 5 6); mutable = false; late = false }) ∷ []); body = (e.block (sp 13 24) (e.more_stmts (e.run (e.assign (sp 15 21) (e.deref (sp 15 17) (e.variable (sp 16 17) 0)) (e.number (sp 20 21) false 2 p.no_suffix)) true) e.no_stmts) e.no_maybeexpr) }) ∷ []) }) ≡ Err (at (sp 15 17) NotMutable)
unfolding argument bound scrutinee branch_rule select_rule call_rule is_covered declared_types literal loop_rule give_rule give_nothing leave_rule leave_nothing go_on_rule number_rule variable_rule tuple_rule minus_rule negation_rule operands binary_rule compare_rule lazy_rule cast_rule deref_rule borrow_rule field_rule assign_rule update_rule typed_bodies typed_program signature_of run_rule let_rule let_nothing block_with block_without is_large limit depth
row_52 = refl

-- fn f(p: &(u8, u8)) { let q = &mut p.1; }
row_53 : typed_program (record { types = []; functions = ((record { name = (102 ∷ []); span = (sp 3 4); lifetimes = []; type_params = []; params = ((w.ref (sp 8 17) w.elided false (w.tuple (sp 9 17) (w.more_writtens (w.int (sp 10 12) U8) (w.more_writtens (w.int (sp 14 16) U8) w.no_writtens)))) ∷ []); result = None; variables = ((record { name = (112 ∷ []); span = (sp 5 6); mutable = false; late = false }) ∷ ((record { name = (113 ∷ []); span = (sp 25 26); mutable = false; late = false }) ∷ [])); body = (e.block (sp 19 40) (e.more_stmts (e.bind (sp 21 37) (p.bind (sp 25 26) (sp 25 26) false 1) w.no_maybewritten (e.some_maybeexpr (e.borrow (sp 29 37) true (e.field (sp 34 37) (e.variable (sp 34 35) 0) (sp 36 37) (49 ∷ []))))) e.no_stmts) e.no_maybeexpr) }) ∷ []) }) ≡ Err (at (sp 34 37) NotMutable)
unfolding argument bound scrutinee branch_rule select_rule call_rule is_covered declared_types literal loop_rule give_rule give_nothing leave_rule leave_nothing go_on_rule number_rule variable_rule tuple_rule minus_rule negation_rule operands binary_rule compare_rule lazy_rule cast_rule deref_rule borrow_rule field_rule assign_rule update_rule typed_bodies typed_program signature_of run_rule let_rule let_nothing block_with block_without is_large limit depth
row_53 = refl

-- struct S; fn f(p: &mut S) -> S { *p }
row_54 : typed_program (record { types = ((record { name = (83 ∷ []); span = (sp 7 8); params = []; is_struct = true; variants = (((83 ∷ []), []) ∷ []) }) ∷ []); functions = ((record { name = (102 ∷ []); span = (sp 13 14); lifetimes = []; type_params = []; params = ((w.ref (sp 18 24) w.elided true (w.named (sp 23 24) (ty 0) w.no_writtens)) ∷ []); result = (Some (w.named (sp 29 30) (ty 0) w.no_writtens)); variables = ((record { name = (112 ∷ []); span = (sp 15 16); mutable = false; late = false }) ∷ []); body = (e.block (sp 31 37) e.no_stmts (e.some_maybeexpr (e.deref (sp 33 35) (e.variable (sp 34 35) 0)))) }) ∷ []) }) ≡ Err (at (sp 33 35) MoveOut)
unfolding argument bound scrutinee branch_rule select_rule call_rule is_covered declared_types literal loop_rule give_rule give_nothing leave_rule leave_nothing go_on_rule number_rule variable_rule tuple_rule minus_rule negation_rule operands binary_rule compare_rule lazy_rule cast_rule deref_rule borrow_rule field_rule assign_rule update_rule typed_bodies typed_program signature_of run_rule let_rule let_nothing block_with block_without is_large limit depth
row_54 = refl

-- struct S; enum O { N, S(S) } fn f(p: &mut O) { match *p { O::S(s) => {}, O::N => {} } }
row_55 : typed_program (record { types = ((record { name = (83 ∷ []); span = (sp 7 8); params = []; is_struct = true; variants = (((83 ∷ []), []) ∷ []) }) ∷ ((record { name = (79 ∷ []); span = (sp 15 16); params = []; is_struct = false; variants = (((78 ∷ []), []) ∷ (((83 ∷ []), (((48 ∷ []), (w.named (sp 24 25) (ty 0) w.no_writtens)) ∷ [])) ∷ [])) }) ∷ [])); functions = ((record { name = (102 ∷ []); span = (sp 32 33); lifetimes = []; type_params = []; params = ((w.ref (sp 37 43) w.elided true (w.named (sp 42 43) (ty 1) w.no_writtens)) ∷ []); result = None; variables = ((record { name = (112 ∷ []); span = (sp 34 35); mutable = false; late = false }) ∷ ((record { name = (115 ∷ []); span = (sp 63 64); mutable = false; late = false }) ∷ [])); body = (e.block (sp 45 87) e.no_stmts (e.some_maybeexpr (e.select (sp 47 85) (e.deref (sp 53 55) (e.variable (sp 54 55) 0)) (e.more_arms (p.construct (sp 58 65) (ty 1) 1 w.no_turbo (p.more_pats (p.bind (sp 63 64) (sp 63 64) false 1) p.no_pats)) (e.inner (e.block (sp 69 71) e.no_stmts e.no_maybeexpr)) (e.more_arms (p.construct (sp 73 77) (ty 1) 0 w.no_turbo p.no_pats) (e.inner (e.block (sp 81 83) e.no_stmts e.no_maybeexpr)) e.no_arms))))) }) ∷ []) }) ≡ Err (at (sp 63 64) MoveOut)
unfolding argument bound scrutinee branch_rule select_rule call_rule is_covered declared_types literal loop_rule give_rule give_nothing leave_rule leave_nothing go_on_rule number_rule variable_rule tuple_rule minus_rule negation_rule operands binary_rule compare_rule lazy_rule cast_rule deref_rule borrow_rule field_rule assign_rule update_rule typed_bodies typed_program signature_of run_rule let_rule let_nothing block_with block_without is_large limit depth
row_55 = refl

-- struct S; enum O { N, S(S) } fn f(p: &mut O) { match p { O::S(mut s) => {}, O::N => {} } }
row_56 : typed_program (record { types = ((record { name = (83 ∷ []); span = (sp 7 8); params = []; is_struct = true; variants = (((83 ∷ []), []) ∷ []) }) ∷ ((record { name = (79 ∷ []); span = (sp 15 16); params = []; is_struct = false; variants = (((78 ∷ []), []) ∷ (((83 ∷ []), (((48 ∷ []), (w.named (sp 24 25) (ty 0) w.no_writtens)) ∷ [])) ∷ [])) }) ∷ [])); functions = ((record { name = (102 ∷ []); span = (sp 32 33); lifetimes = []; type_params = []; params = ((w.ref (sp 37 43) w.elided true (w.named (sp 42 43) (ty 1) w.no_writtens)) ∷ []); result = None; variables = ((record { name = (112 ∷ []); span = (sp 34 35); mutable = false; late = false }) ∷ ((record { name = (115 ∷ []); span = (sp 66 67); mutable = true; late = false }) ∷ [])); body = (e.block (sp 45 90) e.no_stmts (e.some_maybeexpr (e.select (sp 47 88) (e.variable (sp 53 54) 0) (e.more_arms (p.construct (sp 57 68) (ty 1) 1 w.no_turbo (p.more_pats (p.bind (sp 62 67) (sp 66 67) true 1) p.no_pats)) (e.inner (e.block (sp 72 74) e.no_stmts e.no_maybeexpr)) (e.more_arms (p.construct (sp 76 80) (ty 1) 0 w.no_turbo p.no_pats) (e.inner (e.block (sp 84 86) e.no_stmts e.no_maybeexpr)) e.no_arms))))) }) ∷ []) }) ≡ Err (at (sp 66 67) MoveOut)
unfolding argument bound scrutinee branch_rule select_rule call_rule is_covered declared_types literal loop_rule give_rule give_nothing leave_rule leave_nothing go_on_rule number_rule variable_rule tuple_rule minus_rule negation_rule operands binary_rule compare_rule lazy_rule cast_rule deref_rule borrow_rule field_rule assign_rule update_rule typed_bodies typed_program signature_of run_rule let_rule let_nothing block_with block_without is_large limit depth
row_56 = refl

-- fn f(p: &mut Box<u8>) { let _ = *p; }
row_57 : typed_program (record { types = []; functions = ((record { name = (102 ∷ []); span = (sp 3 4); lifetimes = []; type_params = []; params = ((w.ref (sp 8 20) w.elided true (w.boxed (sp 13 20) (w.int (sp 17 19) U8))) ∷ []); result = None; variables = ((record { name = (112 ∷ []); span = (sp 5 6); mutable = false; late = false }) ∷ []); body = (e.block (sp 22 37) (e.more_stmts (e.bind (sp 24 34) (p.wild (sp 28 29)) w.no_maybewritten (e.some_maybeexpr (e.deref (sp 32 34) (e.variable (sp 33 34) 0)))) e.no_stmts) e.no_maybeexpr) }) ∷ []) }) ≡ Err (at (sp 32 34) MoveOut)
unfolding argument bound scrutinee branch_rule select_rule call_rule is_covered declared_types literal loop_rule give_rule give_nothing leave_rule leave_nothing go_on_rule number_rule variable_rule tuple_rule minus_rule negation_rule operands binary_rule compare_rule lazy_rule cast_rule deref_rule borrow_rule field_rule assign_rule update_rule typed_bodies typed_program signature_of run_rule let_rule let_nothing block_with block_without is_large limit depth
row_57 = refl

-- enum O { A, B(bool, u8) } fn f(o: O) { match o { O::A => {}, O::B(true, _) => {}, O::B(_, 3) => {} } }
row_58 : typed_program (record { types = ((record { name = (79 ∷ []); span = (sp 5 6); params = []; is_struct = false; variants = (((65 ∷ []), []) ∷ (((66 ∷ []), (((48 ∷ []), (w.bool (sp 14 18))) ∷ (((49 ∷ []), (w.int (sp 20 22) U8)) ∷ []))) ∷ [])) }) ∷ []); functions = ((record { name = (102 ∷ []); span = (sp 29 30); lifetimes = []; type_params = []; params = ((w.named (sp 34 35) (ty 0) w.no_writtens) ∷ []); result = None; variables = ((record { name = (111 ∷ []); span = (sp 31 32); mutable = false; late = false }) ∷ []); body = (e.block (sp 37 102) e.no_stmts (e.some_maybeexpr (e.select (sp 39 100) (e.variable (sp 45 46) 0) (e.more_arms (p.construct (sp 49 53) (ty 0) 0 w.no_turbo p.no_pats) (e.inner (e.block (sp 57 59) e.no_stmts e.no_maybeexpr)) (e.more_arms (p.construct (sp 61 74) (ty 0) 1 w.no_turbo (p.more_pats (p.truth (sp 66 70) true) (p.more_pats (p.wild (sp 72 73)) p.no_pats))) (e.inner (e.block (sp 78 80) e.no_stmts e.no_maybeexpr)) (e.more_arms (p.construct (sp 82 92) (ty 0) 1 w.no_turbo (p.more_pats (p.wild (sp 87 88)) (p.more_pats (p.number (sp 90 91) false 3 p.no_suffix) p.no_pats))) (e.inner (e.block (sp 96 98) e.no_stmts e.no_maybeexpr)) e.no_arms)))))) }) ∷ []) }) ≡ Err (at (sp 39 100) Uncovered)
unfolding argument bound scrutinee branch_rule select_rule call_rule is_covered declared_types literal loop_rule give_rule give_nothing leave_rule leave_nothing go_on_rule number_rule variable_rule tuple_rule minus_rule negation_rule operands binary_rule compare_rule lazy_rule cast_rule deref_rule borrow_rule field_rule assign_rule update_rule typed_bodies typed_program signature_of run_rule let_rule let_nothing block_with block_without is_large limit depth
row_58 = refl

-- fn f(t: (u8, bool)) { let (1, b) = t; }
row_59 : typed_program (record { types = []; functions = ((record { name = (102 ∷ []); span = (sp 3 4); lifetimes = []; type_params = []; params = ((w.tuple (sp 8 18) (w.more_writtens (w.int (sp 9 11) U8) (w.more_writtens (w.bool (sp 13 17)) w.no_writtens))) ∷ []); result = None; variables = ((record { name = (116 ∷ []); span = (sp 5 6); mutable = false; late = false }) ∷ ((record { name = (98 ∷ []); span = (sp 30 31); mutable = false; late = false }) ∷ [])); body = (e.block (sp 20 39) (e.more_stmts (e.bind (sp 22 36) (p.tuple (sp 26 32) (p.more_pats (p.number (sp 27 28) false 1 p.no_suffix) (p.more_pats (p.bind (sp 30 31) (sp 30 31) false 1) p.no_pats))) w.no_maybewritten (e.some_maybeexpr (e.variable (sp 35 36) 0))) e.no_stmts) e.no_maybeexpr) }) ∷ []) }) ≡ Err (at (sp 22 36) Uncovered)
unfolding argument bound scrutinee branch_rule select_rule call_rule is_covered declared_types literal loop_rule give_rule give_nothing leave_rule leave_nothing go_on_rule number_rule variable_rule tuple_rule minus_rule negation_rule operands binary_rule compare_rule lazy_rule cast_rule deref_rule borrow_rule field_rule assign_rule update_rule typed_bodies typed_program signature_of run_rule let_rule let_nothing block_with block_without is_large limit depth
row_59 = refl

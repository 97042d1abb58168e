-- Small sources and what typing answers for them, by computing.
-- Made by tools/type_rows.py from the sources in tools/type_rows.txt.
use Rattle.std.specs.Prelude.{◌≡◌, refl, true, false, [], ◌∷◌, Some, None, Err}
use Rattle.aen_base.specs.declared.int_ty.IntTy.TheVariants.{U8}
use Rattle.aen_base.specs.Numbers.{limit, depth}
use Rattle.rust_ast.specs.Written as w
use Rattle.rust_ast.specs.Patterns as p
use Rattle.rust_ast.specs.Resolved as e
use Rattle.type_rules.specs.Faults.{at}
use Rattle.type_rules.specs.declared.fault.KindOfFault.TheVariants.{Mismatch, NoType, Arity, Field, NotPlace}
use Rattle.type_rules.specs.Arguments.{argument}
use Rattle.type_rules.specs.Binding.{bound}
use Rattle.type_rules.specs.Branches.{scrutinee, branch_rule, select_rule}
use Rattle.type_rules.specs.Calls.{call_rule}
use Rattle.type_rules.specs.Coverage.{is_covered}
use Rattle.type_rules.specs.Declarations.{declared_types}
use Rattle.type_rules.specs.Literals.{literal}
use Rattle.type_rules.specs.Loops.{loop_rule, give_rule, give_nothing, leave_rule, leave_nothing, go_on_rule}
use Rattle.type_rules.specs.Operands.{number_rule, variable_rule, tuple_rule}
use Rattle.type_rules.specs.Operators.{minus_rule, negation_rule, operands, binary_rule, compare_rule, lazy_rule, cast_rule}
use Rattle.type_rules.specs.PlaceRules.{deref_rule, borrow_rule, field_rule, assign_rule, update_rule}
use Rattle.type_rules.specs.Programs.{typed_bodies, typed_program}
use Rattle.type_rules.specs.Signatures.{signature_of}
use Rattle.type_rules.specs.Statements.{run_rule, let_rule, let_nothing, block_with, block_without}
use Rattle.type_rules.specs.TypeFacts.{is_large}
use Rattle.type_rows.proofs.Terms.{sp, ty}

-- fn f(x: u8) { match x { true => {}, _ => {} } }
row_40 : typed_program (record { types = []; functions = ((record { name = (102 ∷ []); span = (sp 3 4); lifetimes = []; type_params = []; params = ((w.int (sp 8 10) U8) ∷ []); result = None; variables = ((record { name = (120 ∷ []); span = (sp 5 6); mutable = false; late = false }) ∷ []); body = (e.block (sp 12 47) e.no_stmts (e.some_maybeexpr (e.select (sp 14 45) (e.variable (sp 20 21) 0) (e.more_arms (p.truth (sp 24 28) true) (e.inner (e.block (sp 32 34) e.no_stmts e.no_maybeexpr)) (e.more_arms (p.wild (sp 36 37)) (e.inner (e.block (sp 41 43) e.no_stmts e.no_maybeexpr)) e.no_arms))))) }) ∷ []) }) ≡ Err (at (sp 24 28) Mismatch)
unfolding argument bound scrutinee branch_rule select_rule call_rule is_covered declared_types literal loop_rule give_rule give_nothing leave_rule leave_nothing go_on_rule number_rule variable_rule tuple_rule minus_rule negation_rule operands binary_rule compare_rule lazy_rule cast_rule deref_rule borrow_rule field_rule assign_rule update_rule typed_bodies typed_program signature_of run_rule let_rule let_nothing block_with block_without is_large limit depth
row_40 = refl

-- fn f() { let x; x = 1u8; }
row_41 : typed_program (record { types = []; functions = ((record { name = (102 ∷ []); span = (sp 3 4); lifetimes = []; type_params = []; params = []; result = None; variables = ((record { name = (120 ∷ []); span = (sp 13 14); mutable = false; late = true }) ∷ []); body = (e.block (sp 7 26) (e.more_stmts (e.bind (sp 9 14) (p.bind (sp 13 14) (sp 13 14) false 0) w.no_maybewritten e.no_maybeexpr) (e.more_stmts (e.run (e.assign (sp 16 23) (e.variable (sp 16 17) 0) (e.number (sp 20 23) false 1 (p.some_suffix U8))) true) e.no_stmts)) e.no_maybeexpr) }) ∷ []) }) ≡ Err (at (sp 13 14) NoType)
unfolding argument bound scrutinee branch_rule select_rule call_rule is_covered declared_types literal loop_rule give_rule give_nothing leave_rule leave_nothing go_on_rule number_rule variable_rule tuple_rule minus_rule negation_rule operands binary_rule compare_rule lazy_rule cast_rule deref_rule borrow_rule field_rule assign_rule update_rule typed_bodies typed_program signature_of run_rule let_rule let_nothing block_with block_without is_large limit depth
row_41 = refl

-- enum O<T> { N, S(T) } fn f() { O::N; }
row_42 : typed_program (record { types = ((record { name = (79 ∷ []); span = (sp 5 6); params = ((84 ∷ []) ∷ []); is_struct = false; variants = (((78 ∷ []), []) ∷ (((83 ∷ []), (((48 ∷ []), (w.param (sp 17 18) 0 w.no_writtens)) ∷ [])) ∷ [])) }) ∷ []); functions = ((record { name = (102 ∷ []); span = (sp 25 26); lifetimes = []; type_params = []; params = []; result = None; variables = []; body = (e.block (sp 29 38) (e.more_stmts (e.run (e.call (sp 31 35) (e.constructor (ty 0) 0) w.no_turbo e.no_exprs) true) e.no_stmts) e.no_maybeexpr) }) ∷ []) }) ≡ Err (at (sp 31 35) NoType)
unfolding argument bound scrutinee branch_rule select_rule call_rule is_covered declared_types literal loop_rule give_rule give_nothing leave_rule leave_nothing go_on_rule number_rule variable_rule tuple_rule minus_rule negation_rule operands binary_rule compare_rule lazy_rule cast_rule deref_rule borrow_rule field_rule assign_rule update_rule typed_bodies typed_program signature_of run_rule let_rule let_nothing block_with block_without is_large limit depth
row_42 = refl

-- fn f(x: u8) { f(x, x) }
row_43 : typed_program (record { types = []; functions = ((record { name = (102 ∷ []); span = (sp 3 4); lifetimes = []; type_params = []; params = ((w.int (sp 8 10) U8) ∷ []); result = None; variables = ((record { name = (120 ∷ []); span = (sp 5 6); mutable = false; late = false }) ∷ []); body = (e.block (sp 12 23) e.no_stmts (e.some_maybeexpr (e.call (sp 14 21) (e.function 0) w.no_turbo (e.more_exprs (e.variable (sp 16 17) 0) (e.more_exprs (e.variable (sp 19 20) 0) e.no_exprs))))) }) ∷ []) }) ≡ Err (at (sp 14 21) Arity)
unfolding argument bound scrutinee branch_rule select_rule call_rule is_covered declared_types literal loop_rule give_rule give_nothing leave_rule leave_nothing go_on_rule number_rule variable_rule tuple_rule minus_rule negation_rule operands binary_rule compare_rule lazy_rule cast_rule deref_rule borrow_rule field_rule assign_rule update_rule typed_bodies typed_program signature_of run_rule let_rule let_nothing block_with block_without is_large limit depth
row_43 = refl

-- enum O<T> { N, S(T) } fn f(o: O<u8>) { match o { O::N(a) => {}, _ => {} } }
row_44 : typed_program (record { types = ((record { name = (79 ∷ []); span = (sp 5 6); params = ((84 ∷ []) ∷ []); is_struct = false; variants = (((78 ∷ []), []) ∷ (((83 ∷ []), (((48 ∷ []), (w.param (sp 17 18) 0 w.no_writtens)) ∷ [])) ∷ [])) }) ∷ []); functions = ((record { name = (102 ∷ []); span = (sp 25 26); lifetimes = []; type_params = []; params = ((w.named (sp 30 35) (ty 0) (w.more_writtens (w.int (sp 32 34) U8) w.no_writtens)) ∷ []); result = None; variables = ((record { name = (111 ∷ []); span = (sp 27 28); mutable = false; late = false }) ∷ ((record { name = (97 ∷ []); span = (sp 54 55); mutable = false; late = false }) ∷ [])); body = (e.block (sp 37 75) e.no_stmts (e.some_maybeexpr (e.select (sp 39 73) (e.variable (sp 45 46) 0) (e.more_arms (p.construct (sp 49 56) (ty 0) 0 w.no_turbo (p.more_pats (p.bind (sp 54 55) (sp 54 55) false 1) p.no_pats)) (e.inner (e.block (sp 60 62) e.no_stmts e.no_maybeexpr)) (e.more_arms (p.wild (sp 64 65)) (e.inner (e.block (sp 69 71) e.no_stmts e.no_maybeexpr)) e.no_arms))))) }) ∷ []) }) ≡ Err (at (sp 49 56) Arity)
unfolding argument bound scrutinee branch_rule select_rule call_rule is_covered declared_types literal loop_rule give_rule give_nothing leave_rule leave_nothing go_on_rule number_rule variable_rule tuple_rule minus_rule negation_rule operands binary_rule compare_rule lazy_rule cast_rule deref_rule borrow_rule field_rule assign_rule update_rule typed_bodies typed_program signature_of run_rule let_rule let_nothing block_with block_without is_large limit depth
row_44 = refl

-- struct S<T>(T); fn f(x: S) {}
row_45 : typed_program (record { types = ((record { name = (83 ∷ []); span = (sp 7 8); params = ((84 ∷ []) ∷ []); is_struct = true; variants = (((83 ∷ []), (((48 ∷ []), (w.param (sp 12 13) 0 w.no_writtens)) ∷ [])) ∷ []) }) ∷ []); functions = ((record { name = (102 ∷ []); span = (sp 19 20); lifetimes = []; type_params = []; params = ((w.named (sp 24 25) (ty 0) w.no_writtens) ∷ []); result = None; variables = ((record { name = (120 ∷ []); span = (sp 21 22); mutable = false; late = false }) ∷ []); body = (e.block (sp 27 29) e.no_stmts e.no_maybeexpr) }) ∷ []) }) ≡ Err (at (sp 24 25) Arity)
unfolding argument bound scrutinee branch_rule select_rule call_rule is_covered declared_types literal loop_rule give_rule give_nothing leave_rule leave_nothing go_on_rule number_rule variable_rule tuple_rule minus_rule negation_rule operands binary_rule compare_rule lazy_rule cast_rule deref_rule borrow_rule field_rule assign_rule update_rule typed_bodies typed_program signature_of run_rule let_rule let_nothing block_with block_without is_large limit depth
row_45 = refl

-- struct S { a: u8 } fn f(s: S) -> u8 { s.b }
row_46 : typed_program (record { types = ((record { name = (83 ∷ []); span = (sp 7 8); params = []; is_struct = true; variants = (((83 ∷ []), (((97 ∷ []), (w.int (sp 14 16) U8)) ∷ [])) ∷ []) }) ∷ []); functions = ((record { name = (102 ∷ []); span = (sp 22 23); lifetimes = []; type_params = []; params = ((w.named (sp 27 28) (ty 0) w.no_writtens) ∷ []); result = (Some (w.int (sp 33 35) U8)); variables = ((record { name = (115 ∷ []); span = (sp 24 25); mutable = false; late = false }) ∷ []); body = (e.block (sp 36 43) e.no_stmts (e.some_maybeexpr (e.field (sp 38 41) (e.variable (sp 38 39) 0) (sp 40 41) (98 ∷ [])))) }) ∷ []) }) ≡ Err (at (sp 40 41) Field)
unfolding argument bound scrutinee branch_rule select_rule call_rule is_covered declared_types literal loop_rule give_rule give_nothing leave_rule leave_nothing go_on_rule number_rule variable_rule tuple_rule minus_rule negation_rule operands binary_rule compare_rule lazy_rule cast_rule deref_rule borrow_rule field_rule assign_rule update_rule typed_bodies typed_program signature_of run_rule let_rule let_nothing block_with block_without is_large limit depth
row_46 = refl

-- struct S { a: u8, b: u8 } fn f() -> S { S { a: 1 } }
row_47 : typed_program (record { types = ((record { name = (83 ∷ []); span = (sp 7 8); params = []; is_struct = true; variants = (((83 ∷ []), (((97 ∷ []), (w.int (sp 14 16) U8)) ∷ (((98 ∷ []), (w.int (sp 21 23) U8)) ∷ []))) ∷ []) }) ∷ []); functions = ((record { name = (102 ∷ []); span = (sp 29 30); lifetimes = []; type_params = []; params = []; result = (Some (w.named (sp 36 37) (ty 0) w.no_writtens)); variables = []; body = (e.block (sp 38 52) e.no_stmts (e.some_maybeexpr (e.literal (sp 40 50) (ty 0) 0 w.no_turbo (e.more_inits (sp 44 45) (97 ∷ []) (e.number (sp 47 48) false 1 p.no_suffix) e.no_inits)))) }) ∷ []) }) ≡ Err (at (sp 40 50) Field)
unfolding argument bound scrutinee branch_rule select_rule call_rule is_covered declared_types literal loop_rule give_rule give_nothing leave_rule leave_nothing go_on_rule number_rule variable_rule tuple_rule minus_rule negation_rule operands binary_rule compare_rule lazy_rule cast_rule deref_rule borrow_rule field_rule assign_rule update_rule typed_bodies typed_program signature_of run_rule let_rule let_nothing block_with block_without is_large limit depth
row_47 = refl

-- struct S { a: u8, b: u8 } fn f() -> S { S { a: 1, a: 2, b: 1 } }
row_48 : typed_program (record { types = ((record { name = (83 ∷ []); span = (sp 7 8); params = []; is_struct = true; variants = (((83 ∷ []), (((97 ∷ []), (w.int (sp 14 16) U8)) ∷ (((98 ∷ []), (w.int (sp 21 23) U8)) ∷ []))) ∷ []) }) ∷ []); functions = ((record { name = (102 ∷ []); span = (sp 29 30); lifetimes = []; type_params = []; params = []; result = (Some (w.named (sp 36 37) (ty 0) w.no_writtens)); variables = []; body = (e.block (sp 38 64) e.no_stmts (e.some_maybeexpr (e.literal (sp 40 62) (ty 0) 0 w.no_turbo (e.more_inits (sp 44 45) (97 ∷ []) (e.number (sp 47 48) false 1 p.no_suffix) (e.more_inits (sp 50 51) (97 ∷ []) (e.number (sp 53 54) false 2 p.no_suffix) (e.more_inits (sp 56 57) (98 ∷ []) (e.number (sp 59 60) false 1 p.no_suffix) e.no_inits)))))) }) ∷ []) }) ≡ Err (at (sp 50 51) Field)
unfolding argument bound scrutinee branch_rule select_rule call_rule is_covered declared_types literal loop_rule give_rule give_nothing leave_rule leave_nothing go_on_rule number_rule variable_rule tuple_rule minus_rule negation_rule operands binary_rule compare_rule lazy_rule cast_rule deref_rule borrow_rule field_rule assign_rule update_rule typed_bodies typed_program signature_of run_rule let_rule let_nothing block_with block_without is_large limit depth
row_48 = refl

-- fn f() { 1 = 2; }
row_49 : typed_program (record { types = []; functions = ((record { name = (102 ∷ []); span = (sp 3 4); lifetimes = []; type_params = []; params = []; result = None; variables = []; body = (e.block (sp 7 17) (e.more_stmts (e.run (e.assign (sp 9 14) (e.number (sp 9 10) false 1 p.no_suffix) (e.number (sp 13 14) false 2 p.no_suffix)) true) e.no_stmts) e.no_maybeexpr) }) ∷ []) }) ≡ Err (at (sp 9 10) NotPlace)
unfolding argument bound scrutinee branch_rule select_rule call_rule is_covered declared_types literal loop_rule give_rule give_nothing leave_rule leave_nothing go_on_rule number_rule variable_rule tuple_rule minus_rule negation_rule operands binary_rule compare_rule lazy_rule cast_rule deref_rule borrow_rule field_rule assign_rule update_rule typed_bodies typed_program signature_of run_rule let_rule let_nothing block_with block_without is_large limit depth
row_49 = refl

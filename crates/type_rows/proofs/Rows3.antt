-- Small sources and what typing answers for them, by computing.
-- Made by tools/type_rows.py from the sources in tools/type_rows.txt.
use Rattle.std.specs.Prelude.{◌≡◌, refl, true, false, [], ◌∷◌, Some, None, Err}
use Rattle.aen_base.specs.declared.int_ty.IntTy.TheVariants.{U8, U32}
use Rattle.aen_base.specs.declared.operators.BinOp.TheVariants as B
use Rattle.aen_base.specs.declared.operators.CmpOp.TheVariants as C
use Rattle.aen_base.specs.Numbers.{limit, depth}
use Rattle.rust_ast.specs.Written as w
use Rattle.rust_ast.specs.Patterns as p
use Rattle.rust_ast.specs.Resolved as e
use Rattle.type_rules.specs.Faults.{at}
use Rattle.type_rules.specs.declared.fault.KindOfFault.TheVariants.{NestedBorrow, NoRegion, Mismatch}
use Rattle.type_rules.specs.Arguments.{argument}
use Rattle.type_rules.specs.Binding.{bound}
use Rattle.type_rules.specs.Branches.{scrutinee, branch_rule, select_rule}
use Rattle.type_rules.specs.Calls.{call_rule}
use Rattle.type_rules.specs.Coverage.{is_covered}
use Rattle.type_rules.specs.Declarations.{declared_types}
use Rattle.type_rules.specs.Literals.{literal}
use Rattle.type_rules.specs.Loops.{loop_rule, give_rule, give_nothing, leave_rule, leave_nothing, go_on_rule}
use Rattle.type_rules.specs.Operands.{number_rule, variable_rule, tuple_rule}
use Rattle.type_rules.specs.Operators.{minus_rule, negation_rule, operands, binary_rule, compare_rule, lazy_rule, cast_rule}
use Rattle.type_rules.specs.PlaceRules.{deref_rule, borrow_rule, field_rule, assign_rule, update_rule}
use Rattle.type_rules.specs.Programs.{typed_bodies, typed_program}
use Rattle.type_rules.specs.Signatures.{signature_of}
use Rattle.type_rules.specs.Statements.{run_rule, let_rule, let_nothing, block_with, block_without}
use Rattle.type_rules.specs.TypeFacts.{is_large}
use Rattle.type_rows.proofs.Terms.{sp, ty}

-- enum O<T> { N, S(T) } fn f(x: &u8) { O::S(x); }
row_30 : typed_program (record { types = ((record { name = (79 ∷ []); span = (sp 5 6); params = ((84 ∷ []) ∷ []); is_struct = false; variants = (((78 ∷ []), []) ∷ (((83 ∷ []), (((48 ∷ []), (w.param (sp 17 18) 0 w.no_writtens)) ∷ [])) ∷ [])) }) ∷ []); functions = ((record { name = (102 ∷ []); span = (sp 25 26); lifetimes = []; type_params = []; params = ((w.ref (sp 30 33) w.elided false (w.int (sp 31 33) U8)) ∷ []); result = None; variables = ((record { name = (120 ∷ []); span = (sp 27 28); mutable = false; late = false }) ∷ []); body = (e.block (sp 35 47) (e.more_stmts (e.run (e.call (sp 37 44) (e.constructor (ty 0) 1) w.no_turbo (e.more_exprs (e.variable (sp 42 43) 0) e.no_exprs)) true) e.no_stmts) e.no_maybeexpr) }) ∷ []) }) ≡ Err (at (sp 42 43) NestedBorrow)
unfolding argument bound scrutinee branch_rule select_rule call_rule is_covered declared_types literal loop_rule give_rule give_nothing leave_rule leave_nothing go_on_rule number_rule variable_rule tuple_rule minus_rule negation_rule operands binary_rule compare_rule lazy_rule cast_rule deref_rule borrow_rule field_rule assign_rule update_rule typed_bodies typed_program signature_of run_rule let_rule let_nothing block_with block_without is_large limit depth
row_30 = refl

-- enum O<T> { N, S(T) } fn f<T>(x: T) {} fn g(x: &u8) { f(x) }
row_31 : typed_program (record { types = ((record { name = (79 ∷ []); span = (sp 5 6); params = ((84 ∷ []) ∷ []); is_struct = false; variants = (((78 ∷ []), []) ∷ (((83 ∷ []), (((48 ∷ []), (w.param (sp 17 18) 0 w.no_writtens)) ∷ [])) ∷ [])) }) ∷ []); functions = ((record { name = (102 ∷ []); span = (sp 25 26); lifetimes = []; type_params = ((84 ∷ []) ∷ []); params = ((w.param (sp 33 34) 0 w.no_writtens) ∷ []); result = None; variables = ((record { name = (120 ∷ []); span = (sp 30 31); mutable = false; late = false }) ∷ []); body = (e.block (sp 36 38) e.no_stmts e.no_maybeexpr) }) ∷ ((record { name = (103 ∷ []); span = (sp 42 43); lifetimes = []; type_params = []; params = ((w.ref (sp 47 50) w.elided false (w.int (sp 48 50) U8)) ∷ []); result = None; variables = ((record { name = (120 ∷ []); span = (sp 44 45); mutable = false; late = false }) ∷ []); body = (e.block (sp 52 60) e.no_stmts (e.some_maybeexpr (e.call (sp 54 58) (e.function 0) w.no_turbo (e.more_exprs (e.variable (sp 56 57) 0) e.no_exprs)))) }) ∷ [])) }) ≡ Err (at (sp 56 57) NestedBorrow)
unfolding argument bound scrutinee branch_rule select_rule call_rule is_covered declared_types literal loop_rule give_rule give_nothing leave_rule leave_nothing go_on_rule number_rule variable_rule tuple_rule minus_rule negation_rule operands binary_rule compare_rule lazy_rule cast_rule deref_rule borrow_rule field_rule assign_rule update_rule typed_bodies typed_program signature_of run_rule let_rule let_nothing block_with block_without is_large limit depth
row_31 = refl

-- fn f() -> &u8 { panic!() }
row_32 : typed_program (record { types = []; functions = ((record { name = (102 ∷ []); span = (sp 3 4); lifetimes = []; type_params = []; params = []; result = (Some (w.ref (sp 10 13) w.elided false (w.int (sp 11 13) U8))); variables = []; body = (e.block (sp 14 26) e.no_stmts (e.some_maybeexpr (e.panic (sp 16 24)))) }) ∷ []) }) ≡ Err (at (sp 10 13) NoRegion)
unfolding argument bound scrutinee branch_rule select_rule call_rule is_covered declared_types literal loop_rule give_rule give_nothing leave_rule leave_nothing go_on_rule number_rule variable_rule tuple_rule minus_rule negation_rule operands binary_rule compare_rule lazy_rule cast_rule deref_rule borrow_rule field_rule assign_rule update_rule typed_bodies typed_program signature_of run_rule let_rule let_nothing block_with block_without is_large limit depth
row_32 = refl

-- fn f(x: &'a u8) {}
row_33 : typed_program (record { types = []; functions = ((record { name = (102 ∷ []); span = (sp 3 4); lifetimes = []; type_params = []; params = ((w.ref (sp 8 14) w.undeclared false (w.int (sp 12 14) U8)) ∷ []); result = None; variables = ((record { name = (120 ∷ []); span = (sp 5 6); mutable = false; late = false }) ∷ []); body = (e.block (sp 16 18) e.no_stmts e.no_maybeexpr) }) ∷ []) }) ≡ Err (at (sp 8 14) NoRegion)
unfolding argument bound scrutinee branch_rule select_rule call_rule is_covered declared_types literal loop_rule give_rule give_nothing leave_rule leave_nothing go_on_rule number_rule variable_rule tuple_rule minus_rule negation_rule operands binary_rule compare_rule lazy_rule cast_rule deref_rule borrow_rule field_rule assign_rule update_rule typed_bodies typed_program signature_of run_rule let_rule let_nothing block_with block_without is_large limit depth
row_33 = refl

-- fn f(x: u32) -> u8 { x }
row_34 : typed_program (record { types = []; functions = ((record { name = (102 ∷ []); span = (sp 3 4); lifetimes = []; type_params = []; params = ((w.int (sp 8 11) U32) ∷ []); result = (Some (w.int (sp 16 18) U8)); variables = ((record { name = (120 ∷ []); span = (sp 5 6); mutable = false; late = false }) ∷ []); body = (e.block (sp 19 24) e.no_stmts (e.some_maybeexpr (e.variable (sp 21 22) 0))) }) ∷ []) }) ≡ Err (at (sp 21 22) Mismatch)
unfolding argument bound scrutinee branch_rule select_rule call_rule is_covered declared_types literal loop_rule give_rule give_nothing leave_rule leave_nothing go_on_rule number_rule variable_rule tuple_rule minus_rule negation_rule operands binary_rule compare_rule lazy_rule cast_rule deref_rule borrow_rule field_rule assign_rule update_rule typed_bodies typed_program signature_of run_rule let_rule let_nothing block_with block_without is_large limit depth
row_34 = refl

-- fn f(x: u32) -> u8 { x + 1 }
row_35 : typed_program (record { types = []; functions = ((record { name = (102 ∷ []); span = (sp 3 4); lifetimes = []; type_params = []; params = ((w.int (sp 8 11) U32) ∷ []); result = (Some (w.int (sp 16 18) U8)); variables = ((record { name = (120 ∷ []); span = (sp 5 6); mutable = false; late = false }) ∷ []); body = (e.block (sp 19 28) e.no_stmts (e.some_maybeexpr (e.binary (sp 21 26) B.Add (e.variable (sp 21 22) 0) (e.number (sp 25 26) false 1 p.no_suffix)))) }) ∷ []) }) ≡ Err (at (sp 21 22) Mismatch)
unfolding argument bound scrutinee branch_rule select_rule call_rule is_covered declared_types literal loop_rule give_rule give_nothing leave_rule leave_nothing go_on_rule number_rule variable_rule tuple_rule minus_rule negation_rule operands binary_rule compare_rule lazy_rule cast_rule deref_rule borrow_rule field_rule assign_rule update_rule typed_bodies typed_program signature_of run_rule let_rule let_nothing block_with block_without is_large limit depth
row_35 = refl

-- fn f(x: u32) -> u8 { if x > 1 { 5 } else { x } }
row_36 : typed_program (record { types = []; functions = ((record { name = (102 ∷ []); span = (sp 3 4); lifetimes = []; type_params = []; params = ((w.int (sp 8 11) U32) ∷ []); result = (Some (w.int (sp 16 18) U8)); variables = ((record { name = (120 ∷ []); span = (sp 5 6); mutable = false; late = false }) ∷ []); body = (e.block (sp 19 48) e.no_stmts (e.some_maybeexpr (e.branch (sp 21 46) (e.compare (sp 24 29) C.Gt (e.variable (sp 24 25) 0) (e.number (sp 28 29) false 1 p.no_suffix)) (e.block (sp 30 35) e.no_stmts (e.some_maybeexpr (e.number (sp 32 33) false 5 p.no_suffix))) (e.inner (e.block (sp 41 46) e.no_stmts (e.some_maybeexpr (e.variable (sp 43 44) 0))))))) }) ∷ []) }) ≡ Err (at (sp 43 44) Mismatch)
unfolding argument bound scrutinee branch_rule select_rule call_rule is_covered declared_types literal loop_rule give_rule give_nothing leave_rule leave_nothing go_on_rule number_rule variable_rule tuple_rule minus_rule negation_rule operands binary_rule compare_rule lazy_rule cast_rule deref_rule borrow_rule field_rule assign_rule update_rule typed_bodies typed_program signature_of run_rule let_rule let_nothing block_with block_without is_large limit depth
row_36 = refl

-- fn f(b: bool) -> u8 { if b { 5 } }
row_37 : typed_program (record { types = []; functions = ((record { name = (102 ∷ []); span = (sp 3 4); lifetimes = []; type_params = []; params = ((w.bool (sp 8 12)) ∷ []); result = (Some (w.int (sp 17 19) U8)); variables = ((record { name = (98 ∷ []); span = (sp 5 6); mutable = false; late = false }) ∷ []); body = (e.block (sp 20 34) e.no_stmts (e.some_maybeexpr (e.branch (sp 22 32) (e.variable (sp 25 26) 0) (e.block (sp 27 32) e.no_stmts (e.some_maybeexpr (e.number (sp 29 30) false 5 p.no_suffix))) (e.inner (e.block (sp 22 32) e.no_stmts e.no_maybeexpr))))) }) ∷ []) }) ≡ Err (at (sp 22 32) Mismatch)
unfolding argument bound scrutinee branch_rule select_rule call_rule is_covered declared_types literal loop_rule give_rule give_nothing leave_rule leave_nothing go_on_rule number_rule variable_rule tuple_rule minus_rule negation_rule operands binary_rule compare_rule lazy_rule cast_rule deref_rule borrow_rule field_rule assign_rule update_rule typed_bodies typed_program signature_of run_rule let_rule let_nothing block_with block_without is_large limit depth
row_37 = refl

-- fn f() -> u8 { 1; }
row_38 : typed_program (record { types = []; functions = ((record { name = (102 ∷ []); span = (sp 3 4); lifetimes = []; type_params = []; params = []; result = (Some (w.int (sp 10 12) U8)); variables = []; body = (e.block (sp 13 19) (e.more_stmts (e.run (e.number (sp 15 16) false 1 p.no_suffix) true) e.no_stmts) e.no_maybeexpr) }) ∷ []) }) ≡ Err (at (sp 13 19) Mismatch)
unfolding argument bound scrutinee branch_rule select_rule call_rule is_covered declared_types literal loop_rule give_rule give_nothing leave_rule leave_nothing go_on_rule number_rule variable_rule tuple_rule minus_rule negation_rule operands binary_rule compare_rule lazy_rule cast_rule deref_rule borrow_rule field_rule assign_rule update_rule typed_bodies typed_program signature_of run_rule let_rule let_nothing block_with block_without is_large limit depth
row_38 = refl

-- fn f() -> u8 { while true { break; } }
row_39 : typed_program (record { types = []; functions = ((record { name = (102 ∷ []); span = (sp 3 4); lifetimes = []; type_params = []; params = []; result = (Some (w.int (sp 10 12) U8)); variables = []; body = (e.block (sp 13 38) e.no_stmts (e.some_maybeexpr (e.forever (sp 15 36) 0 true (e.block (sp 15 36) e.no_stmts (e.some_maybeexpr (e.branch (sp 15 36) (e.truth (sp 21 25) true) (e.block (sp 26 36) (e.more_stmts (e.run (e.leave (sp 28 33) e.no_maybeexpr) true) e.no_stmts) e.no_maybeexpr) (e.inner (e.block (sp 15 36) e.no_stmts (e.some_maybeexpr (e.leave (sp 15 36) e.no_maybeexpr)))))))))) }) ∷ []) }) ≡ Err (at (sp 15 36) Mismatch)
unfolding argument bound scrutinee branch_rule select_rule call_rule is_covered declared_types literal loop_rule give_rule give_nothing leave_rule leave_nothing go_on_rule number_rule variable_rule tuple_rule minus_rule negation_rule operands binary_rule compare_rule lazy_rule cast_rule deref_rule borrow_rule field_rule assign_rule update_rule typed_bodies typed_program signature_of run_rule let_rule let_nothing block_with block_without is_large limit depth
row_39 = refl

-- Small sources and what typing answers for them, by computing.
-- Made by tools/type_rows.py from the sources in tools/type_rows.txt.
use Rattle.std.specs.Prelude.{◌≡◌, refl, true, false, [], ◌∷◌, Some, None, Err}
use Rattle.aen_base.specs.declared.int_ty.IntTy.TheVariants.{U8, I8}
use Rattle.aen_base.specs.declared.operators.BinOp.TheVariants as B
use Rattle.aen_base.specs.declared.operators.CmpOp.TheVariants as C
use Rattle.aen_base.specs.Numbers.{limit, depth}
use Rattle.rust_ast.specs.Written as w
use Rattle.rust_ast.specs.Patterns as p
use Rattle.rust_ast.specs.Resolved as e
use Rattle.type_rules.specs.Faults.{at}
use Rattle.type_rules.specs.declared.fault.KindOfFault.TheVariants.{LiteralRange, NotInteger, Outside}
use Rattle.type_rules.specs.Arguments.{argument}
use Rattle.type_rules.specs.Binding.{bound}
use Rattle.type_rules.specs.Branches.{scrutinee, branch_rule, select_rule}
use Rattle.type_rules.specs.Calls.{call_rule}
use Rattle.type_rules.specs.Coverage.{is_covered}
use Rattle.type_rules.specs.Declarations.{declared_types}
use Rattle.type_rules.specs.Literals.{literal}
use Rattle.type_rules.specs.Loops.{loop_rule, give_rule, give_nothing, leave_rule, leave_nothing, go_on_rule}
use Rattle.type_rules.specs.Operands.{number_rule, variable_rule, tuple_rule}
use Rattle.type_rules.specs.Operators.{minus_rule, negation_rule, operands, binary_rule, compare_rule, lazy_rule, cast_rule}
use Rattle.type_rules.specs.PlaceRules.{deref_rule, borrow_rule, field_rule, assign_rule, update_rule}
use Rattle.type_rules.specs.Programs.{typed_bodies, typed_program}
use Rattle.type_rules.specs.Signatures.{signature_of}
use Rattle.type_rules.specs.Statements.{run_rule, let_rule, let_nothing, block_with, block_without}
use Rattle.type_rules.specs.TypeFacts.{is_large}
use Rattle.type_rows.proofs.Terms.{sp}

-- fn f() -> u8 { 256 }
row_60 : typed_program (record { types = []; functions = ((record { name = (102 ∷ []); span = (sp 3 4); lifetimes = []; type_params = []; params = []; result = (Some (w.int (sp 10 12) U8)); variables = []; body = (e.block (sp 13 20) e.no_stmts (e.some_maybeexpr (e.number (sp 15 18) false 256 p.no_suffix))) }) ∷ []) }) ≡ Err (at (sp 15 18) LiteralRange)
unfolding argument bound scrutinee branch_rule select_rule call_rule is_covered declared_types literal loop_rule give_rule give_nothing leave_rule leave_nothing go_on_rule number_rule variable_rule tuple_rule minus_rule negation_rule operands binary_rule compare_rule lazy_rule cast_rule deref_rule borrow_rule field_rule assign_rule update_rule typed_bodies typed_program signature_of run_rule let_rule let_nothing block_with block_without is_large limit depth
row_60 = refl

-- fn f() -> i8 { -129 }
row_61 : typed_program (record { types = []; functions = ((record { name = (102 ∷ []); span = (sp 3 4); lifetimes = []; type_params = []; params = []; result = (Some (w.int (sp 10 12) I8)); variables = []; body = (e.block (sp 13 21) e.no_stmts (e.some_maybeexpr (e.number (sp 15 19) true 129 p.no_suffix))) }) ∷ []) }) ≡ Err (at (sp 15 19) LiteralRange)
unfolding argument bound scrutinee branch_rule select_rule call_rule is_covered declared_types literal loop_rule give_rule give_nothing leave_rule leave_nothing go_on_rule number_rule variable_rule tuple_rule minus_rule negation_rule operands binary_rule compare_rule lazy_rule cast_rule deref_rule borrow_rule field_rule assign_rule update_rule typed_bodies typed_program signature_of run_rule let_rule let_nothing block_with block_without is_large limit depth
row_61 = refl

-- fn f(x: i8) { match x { 128 => {}, _ => {} } }
row_62 : typed_program (record { types = []; functions = ((record { name = (102 ∷ []); span = (sp 3 4); lifetimes = []; type_params = []; params = ((w.int (sp 8 10) I8) ∷ []); result = None; variables = ((record { name = (120 ∷ []); span = (sp 5 6); mutable = false; late = false }) ∷ []); body = (e.block (sp 12 46) e.no_stmts (e.some_maybeexpr (e.select (sp 14 44) (e.variable (sp 20 21) 0) (e.more_arms (p.number (sp 24 27) false 128 p.no_suffix) (e.inner (e.block (sp 31 33) e.no_stmts e.no_maybeexpr)) (e.more_arms (p.wild (sp 35 36)) (e.inner (e.block (sp 40 42) e.no_stmts e.no_maybeexpr)) e.no_arms))))) }) ∷ []) }) ≡ Err (at (sp 24 27) LiteralRange)
unfolding argument bound scrutinee branch_rule select_rule call_rule is_covered declared_types literal loop_rule give_rule give_nothing leave_rule leave_nothing go_on_rule number_rule variable_rule tuple_rule minus_rule negation_rule operands binary_rule compare_rule lazy_rule cast_rule deref_rule borrow_rule field_rule assign_rule update_rule typed_bodies typed_program signature_of run_rule let_rule let_nothing block_with block_without is_large limit depth
row_62 = refl

-- fn f(x: u8) -> u8 { -x }
row_63 : typed_program (record { types = []; functions = ((record { name = (102 ∷ []); span = (sp 3 4); lifetimes = []; type_params = []; params = ((w.int (sp 8 10) U8) ∷ []); result = (Some (w.int (sp 15 17) U8)); variables = ((record { name = (120 ∷ []); span = (sp 5 6); mutable = false; late = false }) ∷ []); body = (e.block (sp 18 24) e.no_stmts (e.some_maybeexpr (e.minus (sp 20 22) (e.variable (sp 21 22) 0)))) }) ∷ []) }) ≡ Err (at (sp 21 22) NotInteger)
unfolding argument bound scrutinee branch_rule select_rule call_rule is_covered declared_types literal loop_rule give_rule give_nothing leave_rule leave_nothing go_on_rule number_rule variable_rule tuple_rule minus_rule negation_rule operands binary_rule compare_rule lazy_rule cast_rule deref_rule borrow_rule field_rule assign_rule update_rule typed_bodies typed_program signature_of run_rule let_rule let_nothing block_with block_without is_large limit depth
row_63 = refl

-- fn f(x: bool) -> bool { x + x }
row_64 : typed_program (record { types = []; functions = ((record { name = (102 ∷ []); span = (sp 3 4); lifetimes = []; type_params = []; params = ((w.bool (sp 8 12)) ∷ []); result = (Some (w.bool (sp 17 21))); variables = ((record { name = (120 ∷ []); span = (sp 5 6); mutable = false; late = false }) ∷ []); body = (e.block (sp 22 31) e.no_stmts (e.some_maybeexpr (e.binary (sp 24 29) B.Add (e.variable (sp 24 25) 0) (e.variable (sp 28 29) 0)))) }) ∷ []) }) ≡ Err (at (sp 24 25) NotInteger)
unfolding argument bound scrutinee branch_rule select_rule call_rule is_covered declared_types literal loop_rule give_rule give_nothing leave_rule leave_nothing go_on_rule number_rule variable_rule tuple_rule minus_rule negation_rule operands binary_rule compare_rule lazy_rule cast_rule deref_rule borrow_rule field_rule assign_rule update_rule typed_bodies typed_program signature_of run_rule let_rule let_nothing block_with block_without is_large limit depth
row_64 = refl

-- fn f(x: bool) -> bool { x < true }
row_65 : typed_program (record { types = []; functions = ((record { name = (102 ∷ []); span = (sp 3 4); lifetimes = []; type_params = []; params = ((w.bool (sp 8 12)) ∷ []); result = (Some (w.bool (sp 17 21))); variables = ((record { name = (120 ∷ []); span = (sp 5 6); mutable = false; late = false }) ∷ []); body = (e.block (sp 22 34) e.no_stmts (e.some_maybeexpr (e.compare (sp 24 32) C.Lt (e.variable (sp 24 25) 0) (e.truth (sp 28 32) true)))) }) ∷ []) }) ≡ Err (at (sp 24 25) NotInteger)
unfolding argument bound scrutinee branch_rule select_rule call_rule is_covered declared_types literal loop_rule give_rule give_nothing leave_rule leave_nothing go_on_rule number_rule variable_rule tuple_rule minus_rule negation_rule operands binary_rule compare_rule lazy_rule cast_rule deref_rule borrow_rule field_rule assign_rule update_rule typed_bodies typed_program signature_of run_rule let_rule let_nothing block_with block_without is_large limit depth
row_65 = refl

-- fn f(x: u8) -> u8 { *x }
row_66 : typed_program (record { types = []; functions = ((record { name = (102 ∷ []); span = (sp 3 4); lifetimes = []; type_params = []; params = ((w.int (sp 8 10) U8) ∷ []); result = (Some (w.int (sp 15 17) U8)); variables = ((record { name = (120 ∷ []); span = (sp 5 6); mutable = false; late = false }) ∷ []); body = (e.block (sp 18 24) e.no_stmts (e.some_maybeexpr (e.deref (sp 20 22) (e.variable (sp 21 22) 0)))) }) ∷ []) }) ≡ Err (at (sp 21 22) NotInteger)
unfolding argument bound scrutinee branch_rule select_rule call_rule is_covered declared_types literal loop_rule give_rule give_nothing leave_rule leave_nothing go_on_rule number_rule variable_rule tuple_rule minus_rule negation_rule operands binary_rule compare_rule lazy_rule cast_rule deref_rule borrow_rule field_rule assign_rule update_rule typed_bodies typed_program signature_of run_rule let_rule let_nothing block_with block_without is_large limit depth
row_66 = refl

-- fn f() { break; }
row_67 : typed_program (record { types = []; functions = ((record { name = (102 ∷ []); span = (sp 3 4); lifetimes = []; type_params = []; params = []; result = None; variables = []; body = (e.block (sp 7 17) (e.more_stmts (e.run (e.leave (sp 9 14) e.no_maybeexpr) true) e.no_stmts) e.no_maybeexpr) }) ∷ []) }) ≡ Err (at (sp 9 14) Outside)
unfolding argument bound scrutinee branch_rule select_rule call_rule is_covered declared_types literal loop_rule give_rule give_nothing leave_rule leave_nothing go_on_rule number_rule variable_rule tuple_rule minus_rule negation_rule operands binary_rule compare_rule lazy_rule cast_rule deref_rule borrow_rule field_rule assign_rule update_rule typed_bodies typed_program signature_of run_rule let_rule let_nothing block_with block_without is_large limit depth
row_67 = refl

-- fn f() { while true { break 1; } }
row_68 : typed_program (record { types = []; functions = ((record { name = (102 ∷ []); span = (sp 3 4); lifetimes = []; type_params = []; params = []; result = None; variables = []; body = (e.block (sp 7 34) e.no_stmts (e.some_maybeexpr (e.forever (sp 9 32) 0 true (e.block (sp 9 32) e.no_stmts (e.some_maybeexpr (e.branch (sp 9 32) (e.truth (sp 15 19) true) (e.block (sp 20 32) (e.more_stmts (e.run (e.leave (sp 22 29) (e.some_maybeexpr (e.number (sp 28 29) false 1 p.no_suffix))) true) e.no_stmts) e.no_maybeexpr) (e.inner (e.block (sp 9 32) e.no_stmts (e.some_maybeexpr (e.leave (sp 9 32) e.no_maybeexpr)))))))))) }) ∷ []) }) ≡ Err (at (sp 22 27) Outside)
unfolding argument bound scrutinee branch_rule select_rule call_rule is_covered declared_types literal loop_rule give_rule give_nothing leave_rule leave_nothing go_on_rule number_rule variable_rule tuple_rule minus_rule negation_rule operands binary_rule compare_rule lazy_rule cast_rule deref_rule borrow_rule field_rule assign_rule update_rule typed_bodies typed_program signature_of run_rule let_rule let_nothing block_with block_without is_large limit depth
row_68 = refl

-- fn f() { loop { { continue } } continue }
row_69 : typed_program (record { types = []; functions = ((record { name = (102 ∷ []); span = (sp 3 4); lifetimes = []; type_params = []; params = []; result = None; variables = []; body = (e.block (sp 7 41) (e.more_stmts (e.run (e.forever (sp 9 30) 0 false (e.block (sp 14 30) e.no_stmts (e.some_maybeexpr (e.inner (e.block (sp 16 28) e.no_stmts (e.some_maybeexpr (e.go_on (sp 18 26)))))))) false) e.no_stmts) (e.some_maybeexpr (e.go_on (sp 31 39)))) }) ∷ []) }) ≡ Err (at (sp 31 39) Outside)
unfolding argument bound scrutinee branch_rule select_rule call_rule is_covered declared_types literal loop_rule give_rule give_nothing leave_rule leave_nothing go_on_rule number_rule variable_rule tuple_rule minus_rule negation_rule operands binary_rule compare_rule lazy_rule cast_rule deref_rule borrow_rule field_rule assign_rule update_rule typed_bodies typed_program signature_of run_rule let_rule let_nothing block_with block_without is_large limit depth
row_69 = refl

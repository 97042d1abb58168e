-- Small sources and what typing answers for them, by computing.
-- Made by tools/type_rows.py from the sources in tools/type_rows.txt.
use Rattle.std.specs.Prelude.{◌≡◌, refl, true, false, [], ◌∷◌, Some, None, Err}
use Rattle.aen_base.specs.declared.int_ty.IntTy.TheVariants.{U8, U16, U32}
use Rattle.aen_base.specs.declared.operators.BinOp.TheVariants as B
use Rattle.aen_base.specs.Numbers.{limit, depth}
use Rattle.rust_ast.specs.Written as w
use Rattle.rust_ast.specs.Patterns as p
use Rattle.rust_ast.specs.Resolved as e
use Rattle.type_rules.specs.Faults.{at}
use Rattle.type_rules.specs.declared.fault.KindOfFault.TheVariants.{Mismatch}
use Rattle.type_rules.specs.Arguments.{argument}
use Rattle.type_rules.specs.Binding.{bound}
use Rattle.type_rules.specs.Branches.{scrutinee, branch_rule, select_rule}
use Rattle.type_rules.specs.Calls.{call_rule}
use Rattle.type_rules.specs.Coverage.{is_covered}
use Rattle.type_rules.specs.Declarations.{declared_types}
use Rattle.type_rules.specs.Literals.{literal}
use Rattle.type_rules.specs.Loops.{loop_rule, give_rule, give_nothing, leave_rule, leave_nothing, go_on_rule}
use Rattle.type_rules.specs.Operands.{number_rule, variable_rule, tuple_rule}
use Rattle.type_rules.specs.Operators.{minus_rule, negation_rule, operands, binary_rule, compare_rule, lazy_rule, cast_rule}
use Rattle.type_rules.specs.PlaceRules.{deref_rule, borrow_rule, field_rule, assign_rule, update_rule}
use Rattle.type_rules.specs.Programs.{typed_bodies, typed_program}
use Rattle.type_rules.specs.Signatures.{signature_of}
use Rattle.type_rules.specs.Statements.{run_rule, let_rule, let_nothing, block_with, block_without}
use Rattle.type_rules.specs.TypeFacts.{is_large}
use Rattle.type_rows.proofs.Terms.{sp}

-- fn f(x: u32) -> u8 { g(x); x } fn g(b: bool) -> u8 { 1 + true }
row_70 : typed_program (record { types = []; functions = ((record { name = (102 ∷ []); span = (sp 3 4); lifetimes = []; type_params = []; params = ((w.int (sp 8 11) U32) ∷ []); result = (Some (w.int (sp 16 18) U8)); variables = ((record { name = (120 ∷ []); span = (sp 5 6); mutable = false; late = false }) ∷ []); body = (e.block (sp 19 30) (e.more_stmts (e.run (e.call (sp 21 25) (e.function 1) w.no_turbo (e.more_exprs (e.variable (sp 23 24) 0) e.no_exprs)) true) e.no_stmts) (e.some_maybeexpr (e.variable (sp 27 28) 0))) }) ∷ ((record { name = (103 ∷ []); span = (sp 34 35); lifetimes = []; type_params = []; params = ((w.bool (sp 39 43)) ∷ []); result = (Some (w.int (sp 48 50) U8)); variables = ((record { name = (98 ∷ []); span = (sp 36 37); mutable = false; late = false }) ∷ []); body = (e.block (sp 51 63) e.no_stmts (e.some_maybeexpr (e.binary (sp 53 61) B.Add (e.number (sp 53 54) false 1 p.no_suffix) (e.truth (sp 57 61) true)))) }) ∷ [])) }) ≡ Err (at (sp 23 24) Mismatch)
unfolding argument bound scrutinee branch_rule select_rule call_rule is_covered declared_types literal loop_rule give_rule give_nothing leave_rule leave_nothing go_on_rule number_rule variable_rule tuple_rule minus_rule negation_rule operands binary_rule compare_rule lazy_rule cast_rule deref_rule borrow_rule field_rule assign_rule update_rule typed_bodies typed_program signature_of run_rule let_rule let_nothing block_with block_without is_large limit depth
row_70 = refl

-- fn f() { let x: u8 = 300u16; }
row_71 : typed_program (record { types = []; functions = ((record { name = (102 ∷ []); span = (sp 3 4); lifetimes = []; type_params = []; params = []; result = None; variables = ((record { name = (120 ∷ []); span = (sp 13 14); mutable = false; late = false }) ∷ []); body = (e.block (sp 7 30) (e.more_stmts (e.bind (sp 9 27) (p.bind (sp 13 14) (sp 13 14) false 0) (w.some_maybewritten (w.int (sp 16 18) U8)) (e.some_maybeexpr (e.number (sp 21 27) false 300 (p.some_suffix U16)))) e.no_stmts) e.no_maybeexpr) }) ∷ []) }) ≡ Err (at (sp 21 27) Mismatch)
unfolding argument bound scrutinee branch_rule select_rule call_rule is_covered declared_types literal loop_rule give_rule give_nothing leave_rule leave_nothing go_on_rule number_rule variable_rule tuple_rule minus_rule negation_rule operands binary_rule compare_rule lazy_rule cast_rule deref_rule borrow_rule field_rule assign_rule update_rule typed_bodies typed_program signature_of run_rule let_rule let_nothing block_with block_without is_large limit depth
row_71 = refl

-- fn f(a: u8) -> u8 { (true + 1) / (1 + true) }
row_72 : typed_program (record { types = []; functions = ((record { name = (102 ∷ []); span = (sp 3 4); lifetimes = []; type_params = []; params = ((w.int (sp 8 10) U8) ∷ []); result = (Some (w.int (sp 15 17) U8)); variables = ((record { name = (97 ∷ []); span = (sp 5 6); mutable = false; late = false }) ∷ []); body = (e.block (sp 18 45) e.no_stmts (e.some_maybeexpr (e.binary (sp 20 43) B.Div (e.binary (sp 21 29) B.Add (e.truth (sp 21 25) true) (e.number (sp 28 29) false 1 p.no_suffix)) (e.binary (sp 34 42) B.Add (e.number (sp 34 35) false 1 p.no_suffix) (e.truth (sp 38 42) true))))) }) ∷ []) }) ≡ Err (at (sp 21 25) Mismatch)
unfolding argument bound scrutinee branch_rule select_rule call_rule is_covered declared_types literal loop_rule give_rule give_nothing leave_rule leave_nothing go_on_rule number_rule variable_rule tuple_rule minus_rule negation_rule operands binary_rule compare_rule lazy_rule cast_rule deref_rule borrow_rule field_rule assign_rule update_rule typed_bodies typed_program signature_of run_rule let_rule let_nothing block_with block_without is_large limit depth
row_72 = refl

-- fn f() -> u8 { 1 + 256u16 }
row_73 : typed_program (record { types = []; functions = ((record { name = (102 ∷ []); span = (sp 3 4); lifetimes = []; type_params = []; params = []; result = (Some (w.int (sp 10 12) U8)); variables = []; body = (e.block (sp 13 27) e.no_stmts (e.some_maybeexpr (e.binary (sp 15 25) B.Add (e.number (sp 15 16) false 1 p.no_suffix) (e.number (sp 19 25) false 256 (p.some_suffix U16))))) }) ∷ []) }) ≡ Err (at (sp 19 25) Mismatch)
unfolding argument bound scrutinee branch_rule select_rule call_rule is_covered declared_types literal loop_rule give_rule give_nothing leave_rule leave_nothing go_on_rule number_rule variable_rule tuple_rule minus_rule negation_rule operands binary_rule compare_rule lazy_rule cast_rule deref_rule borrow_rule field_rule assign_rule update_rule typed_bodies typed_program signature_of run_rule let_rule let_nothing block_with block_without is_large limit depth
row_73 = refl

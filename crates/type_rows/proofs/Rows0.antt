-- Small sources and what typing answers for them, by computing.
-- Made by tools/type_rows.py from the sources in tools/type_rows.txt.
use Rattle.std.specs.Prelude.{◌≡◌, refl, true, false, [], ◌∷◌, Some, None, Ok, pos}
use Rattle.aen_base.specs.declared.int_ty.IntTy.TheVariants.{U8, U32, I32}
use Rattle.aen_base.specs.declared.operators.BinOp.TheVariants as B
use Rattle.aen_base.specs.declared.operators.CmpOp.TheVariants as C
use Rattle.aen_base.specs.Numbers.{limit, depth}
use Rattle.core_ty.specs.Types as t
use Rattle.rust_ast.specs.Written as w
use Rattle.rust_ast.specs.Patterns as p
use Rattle.rust_ast.specs.Resolved as e
use Rattle.rust_ast.specs.SpelledPatterns as q
use Rattle.rust_ast.specs.Spelled as s
use Rattle.type_rules.specs.Arguments.{argument}
use Rattle.type_rules.specs.Binding.{bound}
use Rattle.type_rules.specs.Branches.{scrutinee, branch_rule, select_rule}
use Rattle.type_rules.specs.Calls.{call_rule}
use Rattle.type_rules.specs.Coverage.{is_covered}
use Rattle.type_rules.specs.Declarations.{declared_types}
use Rattle.type_rules.specs.Literals.{literal}
use Rattle.type_rules.specs.Loops.{loop_rule, give_rule, give_nothing, leave_rule, leave_nothing, go_on_rule}
use Rattle.type_rules.specs.Operands.{number_rule, variable_rule, tuple_rule}
use Rattle.type_rules.specs.Operators.{minus_rule, negation_rule, operands, binary_rule, compare_rule, lazy_rule, cast_rule}
use Rattle.type_rules.specs.PlaceRules.{deref_rule, borrow_rule, field_rule, assign_rule, update_rule}
use Rattle.type_rules.specs.Programs.{typed_bodies, typed_program}
use Rattle.type_rules.specs.Signatures.{signature_of}
use Rattle.type_rules.specs.Statements.{run_rule, let_rule, let_nothing, block_with, block_without}
use Rattle.type_rules.specs.TypeFacts.{is_large}
use Rattle.type_rows.proofs.Terms.{sp, rg, nu}

-- fn f(x: u32) -> u32 { x + 1 }
row_0 : typed_program (record { types = []; functions = ((record { name = (102 ∷ []); span = (sp 3 4); lifetimes = []; type_params = []; params = ((w.int (sp 8 11) U32) ∷ []); result = (Some (w.int (sp 16 19) U32)); variables = ((record { name = (120 ∷ []); span = (sp 5 6); mutable = false; late = false }) ∷ []); body = (e.block (sp 20 29) e.no_stmts (e.some_maybeexpr (e.binary (sp 22 27) B.Add (e.variable (sp 22 23) 0) (e.number (sp 26 27) false 1 p.no_suffix)))) }) ∷ []) }) ≡ Ok (record { decls = []; functions = ((record { name = (102 ∷ []); span = (sp 3 4); lifetimes = []; type_params = []; sig = (record { type_params = 0; regions = 0; params = ((t.int U32) ∷ []); result = (t.int U32) }); variables = ((120 ∷ []) ∷ []); types = ((t.int U32) ∷ []); body = (s.block (t.int U32) false (sp 20 29) s.no_stmts (s.some_maybevalue (s.value (t.int U32) false (sp 22 27) (s.binary B.Add (s.value (t.int U32) false (sp 22 23) (s.use_of (s.variable 0) true)) (s.value (t.int U32) false (sp 26 27) (s.number (nu U32 (pos 1)))))))) }) ∷ []) })
unfolding argument bound scrutinee branch_rule select_rule call_rule is_covered declared_types literal loop_rule give_rule give_nothing leave_rule leave_nothing go_on_rule number_rule variable_rule tuple_rule minus_rule negation_rule operands binary_rule compare_rule lazy_rule cast_rule deref_rule borrow_rule field_rule assign_rule update_rule typed_bodies typed_program signature_of run_rule let_rule let_nothing block_with block_without is_large limit depth
row_0 = refl

-- fn f(x: u8) -> bool { 1 < x }
row_1 : typed_program (record { types = []; functions = ((record { name = (102 ∷ []); span = (sp 3 4); lifetimes = []; type_params = []; params = ((w.int (sp 8 10) U8) ∷ []); result = (Some (w.bool (sp 15 19))); variables = ((record { name = (120 ∷ []); span = (sp 5 6); mutable = false; late = false }) ∷ []); body = (e.block (sp 20 29) e.no_stmts (e.some_maybeexpr (e.compare (sp 22 27) C.Lt (e.number (sp 22 23) false 1 p.no_suffix) (e.variable (sp 26 27) 0)))) }) ∷ []) }) ≡ Ok (record { decls = []; functions = ((record { name = (102 ∷ []); span = (sp 3 4); lifetimes = []; type_params = []; sig = (record { type_params = 0; regions = 0; params = ((t.int U8) ∷ []); result = t.bool }); variables = ((120 ∷ []) ∷ []); types = ((t.int U8) ∷ []); body = (s.block t.bool false (sp 20 29) s.no_stmts (s.some_maybevalue (s.value t.bool false (sp 22 27) (s.compare C.Lt (s.value (t.int U8) false (sp 22 23) (s.number (nu U8 (pos 1)))) (s.value (t.int U8) false (sp 26 27) (s.use_of (s.variable 0) true)))))) }) ∷ []) })
unfolding argument bound scrutinee branch_rule select_rule call_rule is_covered declared_types literal loop_rule give_rule give_nothing leave_rule leave_nothing go_on_rule number_rule variable_rule tuple_rule minus_rule negation_rule operands binary_rule compare_rule lazy_rule cast_rule deref_rule borrow_rule field_rule assign_rule update_rule typed_bodies typed_program signature_of run_rule let_rule let_nothing block_with block_without is_large limit depth
row_1 = refl

-- fn f() -> i32 { let x = 5; x }
row_2 : typed_program (record { types = []; functions = ((record { name = (102 ∷ []); span = (sp 3 4); lifetimes = []; type_params = []; params = []; result = (Some (w.int (sp 10 13) I32)); variables = ((record { name = (120 ∷ []); span = (sp 20 21); mutable = false; late = false }) ∷ []); body = (e.block (sp 14 30) (e.more_stmts (e.bind (sp 16 25) (p.bind (sp 20 21) (sp 20 21) false 0) w.no_maybewritten (e.some_maybeexpr (e.number (sp 24 25) false 5 p.no_suffix))) e.no_stmts) (e.some_maybeexpr (e.variable (sp 27 28) 0))) }) ∷ []) }) ≡ Ok (record { decls = []; functions = ((record { name = (102 ∷ []); span = (sp 3 4); lifetimes = []; type_params = []; sig = (record { type_params = 0; regions = 0; params = []; result = (t.int I32) }); variables = ((120 ∷ []) ∷ []); types = ((t.int I32) ∷ []); body = (s.block (t.int I32) false (sp 14 30) (s.more_stmts (s.put (sp 16 25) 0 (s.value (t.int I32) false (sp 24 25) (s.number (nu I32 (pos 5))))) s.no_stmts) (s.some_maybevalue (s.value (t.int I32) false (sp 27 28) (s.use_of (s.variable 0) true)))) }) ∷ []) })
unfolding argument bound scrutinee branch_rule select_rule call_rule is_covered declared_types literal loop_rule give_rule give_nothing leave_rule leave_nothing go_on_rule number_rule variable_rule tuple_rule minus_rule negation_rule operands binary_rule compare_rule lazy_rule cast_rule deref_rule borrow_rule field_rule assign_rule update_rule typed_bodies typed_program signature_of run_rule let_rule let_nothing block_with block_without is_large limit depth
row_2 = refl

-- fn g(p: &mut u8) {} fn f(p: &mut u8) { g(p); g(p) }
row_3 : typed_program (record { types = []; functions = ((record { name = (103 ∷ []); span = (sp 3 4); lifetimes = []; type_params = []; params = ((w.ref (sp 8 15) w.elided true (w.int (sp 13 15) U8)) ∷ []); result = None; variables = ((record { name = (112 ∷ []); span = (sp 5 6); mutable = false; late = false }) ∷ []); body = (e.block (sp 17 19) e.no_stmts e.no_maybeexpr) }) ∷ ((record { name = (102 ∷ []); span = (sp 23 24); lifetimes = []; type_params = []; params = ((w.ref (sp 28 35) w.elided true (w.int (sp 33 35) U8)) ∷ []); result = None; variables = ((record { name = (112 ∷ []); span = (sp 25 26); mutable = false; late = false }) ∷ []); body = (e.block (sp 37 51) (e.more_stmts (e.run (e.call (sp 39 43) (e.function 0) w.no_turbo (e.more_exprs (e.variable (sp 41 42) 0) e.no_exprs)) true) e.no_stmts) (e.some_maybeexpr (e.call (sp 45 49) (e.function 0) w.no_turbo (e.more_exprs (e.variable (sp 47 48) 0) e.no_exprs)))) }) ∷ [])) }) ≡ Ok (record { decls = []; functions = ((record { name = (103 ∷ []); span = (sp 3 4); lifetimes = []; type_params = []; sig = (record { type_params = 0; regions = 1; params = ((t.ref (rg 0) true (t.int U8)) ∷ []); result = t.unit }); variables = ((112 ∷ []) ∷ []); types = ((t.ref (rg 0) true (t.int U8)) ∷ []); body = (s.block t.unit false (sp 17 19) s.no_stmts s.no_maybevalue) }) ∷ ((record { name = (102 ∷ []); span = (sp 23 24); lifetimes = []; type_params = []; sig = (record { type_params = 0; regions = 1; params = ((t.ref (rg 0) true (t.int U8)) ∷ []); result = t.unit }); variables = ((112 ∷ []) ∷ []); types = ((t.ref (rg 0) true (t.int U8)) ∷ []); body = (s.block t.unit false (sp 37 51) (s.more_stmts (s.run (s.value t.unit false (sp 39 43) (s.call (s.function 0) t.no_tys (s.more_values (s.value (t.ref (rg 0) true (t.int U8)) false (sp 41 42) (s.borrow true (s.through (s.variable 0)))) s.no_values)))) s.no_stmts) (s.some_maybevalue (s.value t.unit false (sp 45 49) (s.call (s.function 0) t.no_tys (s.more_values (s.value (t.ref (rg 0) true (t.int U8)) false (sp 47 48) (s.borrow true (s.through (s.variable 0)))) s.no_values))))) }) ∷ [])) })
unfolding argument bound scrutinee branch_rule select_rule call_rule is_covered declared_types literal loop_rule give_rule give_nothing leave_rule leave_nothing go_on_rule number_rule variable_rule tuple_rule minus_rule negation_rule operands binary_rule compare_rule lazy_rule cast_rule deref_rule borrow_rule field_rule assign_rule update_rule typed_bodies typed_program signature_of run_rule let_rule let_nothing block_with block_without is_large limit depth
row_3 = refl

-- fn g(p: &u8) {} fn f(p: &mut u8) { g(p); g(p) }
row_4 : typed_program (record { types = []; functions = ((record { name = (103 ∷ []); span = (sp 3 4); lifetimes = []; type_params = []; params = ((w.ref (sp 8 11) w.elided false (w.int (sp 9 11) U8)) ∷ []); result = None; variables = ((record { name = (112 ∷ []); span = (sp 5 6); mutable = false; late = false }) ∷ []); body = (e.block (sp 13 15) e.no_stmts e.no_maybeexpr) }) ∷ ((record { name = (102 ∷ []); span = (sp 19 20); lifetimes = []; type_params = []; params = ((w.ref (sp 24 31) w.elided true (w.int (sp 29 31) U8)) ∷ []); result = None; variables = ((record { name = (112 ∷ []); span = (sp 21 22); mutable = false; late = false }) ∷ []); body = (e.block (sp 33 47) (e.more_stmts (e.run (e.call (sp 35 39) (e.function 0) w.no_turbo (e.more_exprs (e.variable (sp 37 38) 0) e.no_exprs)) true) e.no_stmts) (e.some_maybeexpr (e.call (sp 41 45) (e.function 0) w.no_turbo (e.more_exprs (e.variable (sp 43 44) 0) e.no_exprs)))) }) ∷ [])) }) ≡ Ok (record { decls = []; functions = ((record { name = (103 ∷ []); span = (sp 3 4); lifetimes = []; type_params = []; sig = (record { type_params = 0; regions = 1; params = ((t.ref (rg 0) false (t.int U8)) ∷ []); result = t.unit }); variables = ((112 ∷ []) ∷ []); types = ((t.ref (rg 0) false (t.int U8)) ∷ []); body = (s.block t.unit false (sp 13 15) s.no_stmts s.no_maybevalue) }) ∷ ((record { name = (102 ∷ []); span = (sp 19 20); lifetimes = []; type_params = []; sig = (record { type_params = 0; regions = 1; params = ((t.ref (rg 0) true (t.int U8)) ∷ []); result = t.unit }); variables = ((112 ∷ []) ∷ []); types = ((t.ref (rg 0) true (t.int U8)) ∷ []); body = (s.block t.unit false (sp 33 47) (s.more_stmts (s.run (s.value t.unit false (sp 35 39) (s.call (s.function 0) t.no_tys (s.more_values (s.value (t.ref (rg 0) false (t.int U8)) false (sp 37 38) (s.borrow false (s.through (s.variable 0)))) s.no_values)))) s.no_stmts) (s.some_maybevalue (s.value t.unit false (sp 41 45) (s.call (s.function 0) t.no_tys (s.more_values (s.value (t.ref (rg 0) false (t.int U8)) false (sp 43 44) (s.borrow false (s.through (s.variable 0)))) s.no_values))))) }) ∷ [])) })
unfolding argument bound scrutinee branch_rule select_rule call_rule is_covered declared_types literal loop_rule give_rule give_nothing leave_rule leave_nothing go_on_rule number_rule variable_rule tuple_rule minus_rule negation_rule operands binary_rule compare_rule lazy_rule cast_rule deref_rule borrow_rule field_rule assign_rule update_rule typed_bodies typed_program signature_of run_rule let_rule let_nothing block_with block_without is_large limit depth
row_4 = refl

-- fn g(p: &u8) {} fn f(p: &mut Box<u8>) { g(p) }
row_5 : typed_program (record { types = []; functions = ((record { name = (103 ∷ []); span = (sp 3 4); lifetimes = []; type_params = []; params = ((w.ref (sp 8 11) w.elided false (w.int (sp 9 11) U8)) ∷ []); result = None; variables = ((record { name = (112 ∷ []); span = (sp 5 6); mutable = false; late = false }) ∷ []); body = (e.block (sp 13 15) e.no_stmts e.no_maybeexpr) }) ∷ ((record { name = (102 ∷ []); span = (sp 19 20); lifetimes = []; type_params = []; params = ((w.ref (sp 24 36) w.elided true (w.boxed (sp 29 36) (w.int (sp 33 35) U8))) ∷ []); result = None; variables = ((record { name = (112 ∷ []); span = (sp 21 22); mutable = false; late = false }) ∷ []); body = (e.block (sp 38 46) e.no_stmts (e.some_maybeexpr (e.call (sp 40 44) (e.function 0) w.no_turbo (e.more_exprs (e.variable (sp 42 43) 0) e.no_exprs)))) }) ∷ [])) }) ≡ Ok (record { decls = []; functions = ((record { name = (103 ∷ []); span = (sp 3 4); lifetimes = []; type_params = []; sig = (record { type_params = 0; regions = 1; params = ((t.ref (rg 0) false (t.int U8)) ∷ []); result = t.unit }); variables = ((112 ∷ []) ∷ []); types = ((t.ref (rg 0) false (t.int U8)) ∷ []); body = (s.block t.unit false (sp 13 15) s.no_stmts s.no_maybevalue) }) ∷ ((record { name = (102 ∷ []); span = (sp 19 20); lifetimes = []; type_params = []; sig = (record { type_params = 0; regions = 1; params = ((t.ref (rg 0) true (t.boxed (t.int U8))) ∷ []); result = t.unit }); variables = ((112 ∷ []) ∷ []); types = ((t.ref (rg 0) true (t.boxed (t.int U8))) ∷ []); body = (s.block t.unit false (sp 38 46) s.no_stmts (s.some_maybevalue (s.value t.unit false (sp 40 44) (s.call (s.function 0) t.no_tys (s.more_values (s.value (t.ref (rg 0) false (t.int U8)) false (sp 42 43) (s.borrow false (s.unbox (s.through (s.variable 0))))) s.no_values))))) }) ∷ [])) })
unfolding argument bound scrutinee branch_rule select_rule call_rule is_covered declared_types literal loop_rule give_rule give_nothing leave_rule leave_nothing go_on_rule number_rule variable_rule tuple_rule minus_rule negation_rule operands binary_rule compare_rule lazy_rule cast_rule deref_rule borrow_rule field_rule assign_rule update_rule typed_bodies typed_program signature_of run_rule let_rule let_nothing block_with block_without is_large limit depth
row_5 = refl

-- fn g(p: &u8) {} fn f(b: Box<u8>) { let mut c = b; g(&mut c); g(&c) }
row_6 : typed_program (record { types = []; functions = ((record { name = (103 ∷ []); span = (sp 3 4); lifetimes = []; type_params = []; params = ((w.ref (sp 8 11) w.elided false (w.int (sp 9 11) U8)) ∷ []); result = None; variables = ((record { name = (112 ∷ []); span = (sp 5 6); mutable = false; late = false }) ∷ []); body = (e.block (sp 13 15) e.no_stmts e.no_maybeexpr) }) ∷ ((record { name = (102 ∷ []); span = (sp 19 20); lifetimes = []; type_params = []; params = ((w.boxed (sp 24 31) (w.int (sp 28 30) U8)) ∷ []); result = None; variables = ((record { name = (98 ∷ []); span = (sp 21 22); mutable = false; late = false }) ∷ ((record { name = (99 ∷ []); span = (sp 43 44); mutable = true; late = false }) ∷ [])); body = (e.block (sp 33 68) (e.more_stmts (e.bind (sp 35 48) (p.bind (sp 39 44) (sp 43 44) true 1) w.no_maybewritten (e.some_maybeexpr (e.variable (sp 47 48) 0))) (e.more_stmts (e.run (e.call (sp 50 59) (e.function 0) w.no_turbo (e.more_exprs (e.borrow (sp 52 58) true (e.variable (sp 57 58) 1)) e.no_exprs)) true) e.no_stmts)) (e.some_maybeexpr (e.call (sp 61 66) (e.function 0) w.no_turbo (e.more_exprs (e.borrow (sp 63 65) false (e.variable (sp 64 65) 1)) e.no_exprs)))) }) ∷ [])) }) ≡ Ok (record { decls = []; functions = ((record { name = (103 ∷ []); span = (sp 3 4); lifetimes = []; type_params = []; sig = (record { type_params = 0; regions = 1; params = ((t.ref (rg 0) false (t.int U8)) ∷ []); result = t.unit }); variables = ((112 ∷ []) ∷ []); types = ((t.ref (rg 0) false (t.int U8)) ∷ []); body = (s.block t.unit false (sp 13 15) s.no_stmts s.no_maybevalue) }) ∷ ((record { name = (102 ∷ []); span = (sp 19 20); lifetimes = []; type_params = []; sig = (record { type_params = 0; regions = 0; params = ((t.boxed (t.int U8)) ∷ []); result = t.unit }); variables = ((98 ∷ []) ∷ ((99 ∷ []) ∷ [])); types = ((t.boxed (t.int U8)) ∷ ((t.boxed (t.int U8)) ∷ [])); body = (s.block t.unit false (sp 33 68) (s.more_stmts (s.put (sp 35 48) 1 (s.value (t.boxed (t.int U8)) false (sp 47 48) (s.use_of (s.variable 0) false))) (s.more_stmts (s.run (s.value t.unit false (sp 50 59) (s.call (s.function 0) t.no_tys (s.more_values (s.value (t.ref (rg 0) false (t.int U8)) false (sp 52 58) (s.borrow false (s.unbox (s.through_value (s.value (t.ref (rg 0) true (t.boxed (t.int U8))) false (sp 52 58) (s.borrow true (s.variable 1))))))) s.no_values)))) s.no_stmts)) (s.some_maybevalue (s.value t.unit false (sp 61 66) (s.call (s.function 0) t.no_tys (s.more_values (s.value (t.ref (rg 0) false (t.int U8)) false (sp 63 65) (s.borrow false (s.unbox (s.variable 1)))) s.no_values))))) }) ∷ [])) })
unfolding argument bound scrutinee branch_rule select_rule call_rule is_covered declared_types literal loop_rule give_rule give_nothing leave_rule leave_nothing go_on_rule number_rule variable_rule tuple_rule minus_rule negation_rule operands binary_rule compare_rule lazy_rule cast_rule deref_rule borrow_rule field_rule assign_rule update_rule typed_bodies typed_program signature_of run_rule let_rule let_nothing block_with block_without is_large limit depth
row_6 = refl

-- fn g<T>(p: &mut T) {} fn f(p: &mut Box<u8>) { g(p); g::<u8>(p) }
row_7 : typed_program (record { types = []; functions = ((record { name = (103 ∷ []); span = (sp 3 4); lifetimes = []; type_params = ((84 ∷ []) ∷ []); params = ((w.ref (sp 11 17) w.elided true (w.param (sp 16 17) 0 w.no_writtens)) ∷ []); result = None; variables = ((record { name = (112 ∷ []); span = (sp 8 9); mutable = false; late = false }) ∷ []); body = (e.block (sp 19 21) e.no_stmts e.no_maybeexpr) }) ∷ ((record { name = (102 ∷ []); span = (sp 25 26); lifetimes = []; type_params = []; params = ((w.ref (sp 30 42) w.elided true (w.boxed (sp 35 42) (w.int (sp 39 41) U8))) ∷ []); result = None; variables = ((record { name = (112 ∷ []); span = (sp 27 28); mutable = false; late = false }) ∷ []); body = (e.block (sp 44 64) (e.more_stmts (e.run (e.call (sp 46 50) (e.function 0) w.no_turbo (e.more_exprs (e.variable (sp 48 49) 0) e.no_exprs)) true) e.no_stmts) (e.some_maybeexpr (e.call (sp 52 62) (e.function 0) (w.one_turbo (w.more_writtens (w.int (sp 56 58) U8) w.no_writtens)) (e.more_exprs (e.variable (sp 60 61) 0) e.no_exprs)))) }) ∷ [])) }) ≡ Ok (record { decls = []; functions = ((record { name = (103 ∷ []); span = (sp 3 4); lifetimes = []; type_params = ((84 ∷ []) ∷ []); sig = (record { type_params = 1; regions = 1; params = ((t.ref (rg 0) true (t.param 0)) ∷ []); result = t.unit }); variables = ((112 ∷ []) ∷ []); types = ((t.ref (rg 0) true (t.param 0)) ∷ []); body = (s.block t.unit false (sp 19 21) s.no_stmts s.no_maybevalue) }) ∷ ((record { name = (102 ∷ []); span = (sp 25 26); lifetimes = []; type_params = []; sig = (record { type_params = 0; regions = 1; params = ((t.ref (rg 0) true (t.boxed (t.int U8))) ∷ []); result = t.unit }); variables = ((112 ∷ []) ∷ []); types = ((t.ref (rg 0) true (t.boxed (t.int U8))) ∷ []); body = (s.block t.unit false (sp 44 64) (s.more_stmts (s.run (s.value t.unit false (sp 46 50) (s.call (s.function 0) (t.more_tys (t.boxed (t.int U8)) t.no_tys) (s.more_values (s.value (t.ref (rg 0) true (t.boxed (t.int U8))) false (sp 48 49) (s.borrow true (s.through (s.variable 0)))) s.no_values)))) s.no_stmts) (s.some_maybevalue (s.value t.unit false (sp 52 62) (s.call (s.function 0) (t.more_tys (t.int U8) t.no_tys) (s.more_values (s.value (t.ref (rg 0) true (t.int U8)) false (sp 60 61) (s.borrow true (s.unbox (s.through (s.variable 0))))) s.no_values))))) }) ∷ [])) })
unfolding argument bound scrutinee branch_rule select_rule call_rule is_covered declared_types literal loop_rule give_rule give_nothing leave_rule leave_nothing go_on_rule number_rule variable_rule tuple_rule minus_rule negation_rule operands binary_rule compare_rule lazy_rule cast_rule deref_rule borrow_rule field_rule assign_rule update_rule typed_bodies typed_program signature_of run_rule let_rule let_nothing block_with block_without is_large limit depth
row_7 = refl

-- fn f(p: &mut u8) { let q: &u8 = p; let r = p; *r = 1; }
row_8 : typed_program (record { types = []; functions = ((record { name = (102 ∷ []); span = (sp 3 4); lifetimes = []; type_params = []; params = ((w.ref (sp 8 15) w.elided true (w.int (sp 13 15) U8)) ∷ []); result = None; variables = ((record { name = (112 ∷ []); span = (sp 5 6); mutable = false; late = false }) ∷ ((record { name = (113 ∷ []); span = (sp 23 24); mutable = false; late = false }) ∷ ((record { name = (114 ∷ []); span = (sp 39 40); mutable = false; late = false }) ∷ []))); body = (e.block (sp 17 55) (e.more_stmts (e.bind (sp 19 33) (p.bind (sp 23 24) (sp 23 24) false 1) (w.some_maybewritten (w.ref (sp 26 29) w.elided false (w.int (sp 27 29) U8))) (e.some_maybeexpr (e.variable (sp 32 33) 0))) (e.more_stmts (e.bind (sp 35 44) (p.bind (sp 39 40) (sp 39 40) false 2) w.no_maybewritten (e.some_maybeexpr (e.variable (sp 43 44) 0))) (e.more_stmts (e.run (e.assign (sp 46 52) (e.deref (sp 46 48) (e.variable (sp 47 48) 2)) (e.number (sp 51 52) false 1 p.no_suffix)) true) e.no_stmts))) e.no_maybeexpr) }) ∷ []) }) ≡ Ok (record { decls = []; functions = ((record { name = (102 ∷ []); span = (sp 3 4); lifetimes = []; type_params = []; sig = (record { type_params = 0; regions = 1; params = ((t.ref (rg 0) true (t.int U8)) ∷ []); result = t.unit }); variables = ((112 ∷ []) ∷ ((113 ∷ []) ∷ ((114 ∷ []) ∷ []))); types = ((t.ref (rg 0) true (t.int U8)) ∷ ((t.ref (rg 0) false (t.int U8)) ∷ ((t.ref (rg 0) true (t.int U8)) ∷ []))); body = (s.block t.unit false (sp 17 55) (s.more_stmts (s.put (sp 19 33) 1 (s.value (t.ref (rg 0) false (t.int U8)) false (sp 32 33) (s.borrow false (s.through (s.variable 0))))) (s.more_stmts (s.put (sp 35 44) 2 (s.value (t.ref (rg 0) true (t.int U8)) false (sp 43 44) (s.use_of (s.variable 0) false))) (s.more_stmts (s.run (s.value t.unit false (sp 46 52) (s.assign (s.through (s.variable 2)) (s.value (t.int U8) false (sp 51 52) (s.number (nu U8 (pos 1))))))) s.no_stmts))) s.no_maybevalue) }) ∷ []) })
unfolding argument bound scrutinee branch_rule select_rule call_rule is_covered declared_types literal loop_rule give_rule give_nothing leave_rule leave_nothing go_on_rule number_rule variable_rule tuple_rule minus_rule negation_rule operands binary_rule compare_rule lazy_rule cast_rule deref_rule borrow_rule field_rule assign_rule update_rule typed_bodies typed_program signature_of run_rule let_rule let_nothing block_with block_without is_large limit depth
row_8 = refl

-- fn f(b: bool, x: &mut u8, y: &mut u8) { let p = if b { x } else { y }; *p = 2 }
row_9 : typed_program (record { types = []; functions = ((record { name = (102 ∷ []); span = (sp 3 4); lifetimes = []; type_params = []; params = ((w.bool (sp 8 12)) ∷ ((w.ref (sp 17 24) w.elided true (w.int (sp 22 24) U8)) ∷ ((w.ref (sp 29 36) w.elided true (w.int (sp 34 36) U8)) ∷ []))); result = None; variables = ((record { name = (98 ∷ []); span = (sp 5 6); mutable = false; late = false }) ∷ ((record { name = (120 ∷ []); span = (sp 14 15); mutable = false; late = false }) ∷ ((record { name = (121 ∷ []); span = (sp 26 27); mutable = false; late = false }) ∷ ((record { name = (112 ∷ []); span = (sp 44 45); mutable = false; late = false }) ∷ [])))); body = (e.block (sp 38 79) (e.more_stmts (e.bind (sp 40 69) (p.bind (sp 44 45) (sp 44 45) false 3) w.no_maybewritten (e.some_maybeexpr (e.branch (sp 48 69) (e.variable (sp 51 52) 0) (e.block (sp 53 58) e.no_stmts (e.some_maybeexpr (e.variable (sp 55 56) 1))) (e.inner (e.block (sp 64 69) e.no_stmts (e.some_maybeexpr (e.variable (sp 66 67) 2))))))) e.no_stmts) (e.some_maybeexpr (e.assign (sp 71 77) (e.deref (sp 71 73) (e.variable (sp 72 73) 3)) (e.number (sp 76 77) false 2 p.no_suffix)))) }) ∷ []) }) ≡ Ok (record { decls = []; functions = ((record { name = (102 ∷ []); span = (sp 3 4); lifetimes = []; type_params = []; sig = (record { type_params = 0; regions = 2; params = (t.bool ∷ ((t.ref (rg 0) true (t.int U8)) ∷ ((t.ref (rg 1) true (t.int U8)) ∷ []))); result = t.unit }); variables = ((98 ∷ []) ∷ ((120 ∷ []) ∷ ((121 ∷ []) ∷ ((112 ∷ []) ∷ [])))); types = (t.bool ∷ ((t.ref (rg 0) true (t.int U8)) ∷ ((t.ref (rg 1) true (t.int U8)) ∷ ((t.ref (rg 0) true (t.int U8)) ∷ [])))); body = (s.block t.unit false (sp 38 79) (s.more_stmts (s.put (sp 40 69) 3 (s.value (t.ref (rg 0) true (t.int U8)) false (sp 48 69) (s.select (s.stands t.bool (sp 51 52) (s.variable 0)) (s.more_arms (q.truth true) (s.value (t.ref (rg 0) true (t.int U8)) false (sp 53 58) (s.inner (s.block (t.ref (rg 0) true (t.int U8)) false (sp 53 58) s.no_stmts (s.some_maybevalue (s.value (t.ref (rg 0) true (t.int U8)) false (sp 55 56) (s.use_of (s.variable 1) false)))))) (s.more_arms (q.truth false) (s.value (t.ref (rg 1) true (t.int U8)) false (sp 64 69) (s.inner (s.block (t.ref (rg 1) true (t.int U8)) false (sp 64 69) s.no_stmts (s.some_maybevalue (s.value (t.ref (rg 1) true (t.int U8)) false (sp 66 67) (s.use_of (s.variable 2) false)))))) s.no_arms))))) s.no_stmts) (s.some_maybevalue (s.value t.unit false (sp 71 77) (s.assign (s.through (s.variable 3)) (s.value (t.int U8) false (sp 76 77) (s.number (nu U8 (pos 2)))))))) }) ∷ []) })
unfolding argument bound scrutinee branch_rule select_rule call_rule is_covered declared_types literal loop_rule give_rule give_nothing leave_rule leave_nothing go_on_rule number_rule variable_rule tuple_rule minus_rule negation_rule operands binary_rule compare_rule lazy_rule cast_rule deref_rule borrow_rule field_rule assign_rule update_rule typed_bodies typed_program signature_of run_rule let_rule let_nothing block_with block_without is_large limit depth
row_9 = refl

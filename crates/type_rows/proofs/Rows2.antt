-- Small sources and what typing answers for them, by computing.
-- Made by tools/type_rows.py from the sources in tools/type_rows.txt.
use Rattle.std.specs.Prelude.{◌≡◌, refl, true, false, [], ◌∷◌, Some, None, Ok, Err, pos, negsuc}
use Rattle.aen_base.specs.declared.int_ty.IntTy.TheVariants.{U8, I8, I32}
use Rattle.aen_base.specs.declared.operators.BinOp.TheVariants as B
use Rattle.aen_base.specs.declared.operators.Builtin.TheVariants.{BoxNew, Replace}
use Rattle.aen_base.specs.Numbers.{limit, depth}
use Rattle.core_ty.specs.Types as t
use Rattle.rust_ast.specs.Written as w
use Rattle.rust_ast.specs.Patterns as p
use Rattle.rust_ast.specs.Resolved as e
use Rattle.rust_ast.specs.SpelledPatterns as q
use Rattle.rust_ast.specs.Spelled as s
use Rattle.type_rules.specs.Faults.{at}
use Rattle.type_rules.specs.declared.fault.KindOfFault.TheVariants.{NestedBorrow, NoType}
use Rattle.type_rules.specs.Arguments.{argument}
use Rattle.type_rules.specs.Binding.{bound}
use Rattle.type_rules.specs.Branches.{scrutinee, branch_rule, select_rule}
use Rattle.type_rules.specs.Calls.{call_rule}
use Rattle.type_rules.specs.Coverage.{is_covered}
use Rattle.type_rules.specs.Declarations.{declared_types}
use Rattle.type_rules.specs.Literals.{literal}
use Rattle.type_rules.specs.Loops.{loop_rule, give_rule, give_nothing, leave_rule, leave_nothing, go_on_rule}
use Rattle.type_rules.specs.Operands.{number_rule, variable_rule, tuple_rule}
use Rattle.type_rules.specs.Operators.{minus_rule, negation_rule, operands, binary_rule, compare_rule, lazy_rule, cast_rule}
use Rattle.type_rules.specs.PlaceRules.{deref_rule, borrow_rule, field_rule, assign_rule, update_rule}
use Rattle.type_rules.specs.Programs.{typed_bodies, typed_program}
use Rattle.type_rules.specs.Signatures.{signature_of}
use Rattle.type_rules.specs.Statements.{run_rule, let_rule, let_nothing, block_with, block_without}
use Rattle.type_rules.specs.TypeFacts.{is_large}
use Rattle.type_rows.proofs.Terms.{sp, ty, rg, nu}

-- struct P<T> { x: T, y: T } fn f() -> P<u8> { P { y: 1, x: 2 } }
row_20 : typed_program (record { types = ((record { name = (80 ∷ []); span = (sp 7 8); params = ((84 ∷ []) ∷ []); is_struct = true; variants = (((80 ∷ []), (((120 ∷ []), (w.param (sp 17 18) 0 w.no_writtens)) ∷ (((121 ∷ []), (w.param (sp 23 24) 0 w.no_writtens)) ∷ []))) ∷ []) }) ∷ []); functions = ((record { name = (102 ∷ []); span = (sp 30 31); lifetimes = []; type_params = []; params = []; result = (Some (w.named (sp 37 42) (ty 0) (w.more_writtens (w.int (sp 39 41) U8) w.no_writtens))); variables = []; body = (e.block (sp 43 63) e.no_stmts (e.some_maybeexpr (e.literal (sp 45 61) (ty 0) 0 w.no_turbo (e.more_inits (sp 49 50) (121 ∷ []) (e.number (sp 52 53) false 1 p.no_suffix) (e.more_inits (sp 55 56) (120 ∷ []) (e.number (sp 58 59) false 2 p.no_suffix) e.no_inits))))) }) ∷ []) }) ≡ Ok (record { decls = ((record { name = (80 ∷ []); span = (sp 7 8); params = ((84 ∷ []) ∷ []); is_struct = true; variants = ((record { name = (80 ∷ []); fields = (((120 ∷ []), (t.param 0)) ∷ (((121 ∷ []), (t.param 0)) ∷ [])) }) ∷ []) }) ∷ []); functions = ((record { name = (102 ∷ []); span = (sp 30 31); lifetimes = []; type_params = []; sig = (record { type_params = 0; regions = 0; params = []; result = (t.named (ty 0) (t.more_tys (t.int U8) t.no_tys)) }); variables = []; types = []; body = (s.block (t.named (ty 0) (t.more_tys (t.int U8) t.no_tys)) false (sp 43 63) s.no_stmts (s.some_maybevalue (s.value (t.named (ty 0) (t.more_tys (t.int U8) t.no_tys)) false (sp 45 61) (s.construct (ty 0) 0 (s.more_parts 1 (s.value (t.int U8) false (sp 52 53) (s.number (nu U8 (pos 1)))) (s.more_parts 0 (s.value (t.int U8) false (sp 58 59) (s.number (nu U8 (pos 2)))) s.no_parts)))))) }) ∷ []) })
unfolding argument bound scrutinee branch_rule select_rule call_rule is_covered declared_types literal loop_rule give_rule give_nothing leave_rule leave_nothing go_on_rule number_rule variable_rule tuple_rule minus_rule negation_rule operands binary_rule compare_rule lazy_rule cast_rule deref_rule borrow_rule field_rule assign_rule update_rule typed_bodies typed_program signature_of run_rule let_rule let_nothing block_with block_without is_large limit depth
row_20 = refl

-- use std::mem; fn f(p: &mut u8) -> u8 { mem::replace(p, 4) }
row_21 : typed_program (record { types = []; functions = ((record { name = (102 ∷ []); span = (sp 17 18); lifetimes = []; type_params = []; params = ((w.ref (sp 22 29) w.elided true (w.int (sp 27 29) U8)) ∷ []); result = (Some (w.int (sp 34 36) U8)); variables = ((record { name = (112 ∷ []); span = (sp 19 20); mutable = false; late = false }) ∷ []); body = (e.block (sp 37 59) e.no_stmts (e.some_maybeexpr (e.call (sp 39 57) (e.builtin_of Replace) w.no_turbo (e.more_exprs (e.variable (sp 52 53) 0) (e.more_exprs (e.number (sp 55 56) false 4 p.no_suffix) e.no_exprs))))) }) ∷ []) }) ≡ Ok (record { decls = []; functions = ((record { name = (102 ∷ []); span = (sp 17 18); lifetimes = []; type_params = []; sig = (record { type_params = 0; regions = 1; params = ((t.ref (rg 0) true (t.int U8)) ∷ []); result = (t.int U8) }); variables = ((112 ∷ []) ∷ []); types = ((t.ref (rg 0) true (t.int U8)) ∷ []); body = (s.block (t.int U8) false (sp 37 59) s.no_stmts (s.some_maybevalue (s.value (t.int U8) false (sp 39 57) (s.call (s.builtin_of Replace) (t.more_tys (t.int U8) t.no_tys) (s.more_values (s.value (t.ref (rg 0) true (t.int U8)) false (sp 52 53) (s.borrow true (s.through (s.variable 0)))) (s.more_values (s.value (t.int U8) false (sp 55 56) (s.number (nu U8 (pos 4)))) s.no_values)))))) }) ∷ []) })
unfolding argument bound scrutinee branch_rule select_rule call_rule is_covered declared_types literal loop_rule give_rule give_nothing leave_rule leave_nothing go_on_rule number_rule variable_rule tuple_rule minus_rule negation_rule operands binary_rule compare_rule lazy_rule cast_rule deref_rule borrow_rule field_rule assign_rule update_rule typed_bodies typed_program signature_of run_rule let_rule let_nothing block_with block_without is_large limit depth
row_21 = refl

-- fn f(p: &mut (u8, bool)) { let (a, mut b) = p; b = !b; *a = -0 as u8; }
row_22 : typed_program (record { types = []; functions = ((record { name = (102 ∷ []); span = (sp 3 4); lifetimes = []; type_params = []; params = ((w.ref (sp 8 23) w.elided true (w.tuple (sp 13 23) (w.more_writtens (w.int (sp 14 16) U8) (w.more_writtens (w.bool (sp 18 22)) w.no_writtens)))) ∷ []); result = None; variables = ((record { name = (112 ∷ []); span = (sp 5 6); mutable = false; late = false }) ∷ ((record { name = (97 ∷ []); span = (sp 32 33); mutable = false; late = false }) ∷ ((record { name = (98 ∷ []); span = (sp 39 40); mutable = true; late = false }) ∷ []))); body = (e.block (sp 25 71) (e.more_stmts (e.bind (sp 27 45) (p.tuple (sp 31 41) (p.more_pats (p.bind (sp 32 33) (sp 32 33) false 1) (p.more_pats (p.bind (sp 35 40) (sp 39 40) true 2) p.no_pats))) w.no_maybewritten (e.some_maybeexpr (e.variable (sp 44 45) 0))) (e.more_stmts (e.run (e.assign (sp 47 53) (e.variable (sp 47 48) 2) (e.negation (sp 51 53) (e.variable (sp 52 53) 2))) true) (e.more_stmts (e.run (e.assign (sp 55 68) (e.deref (sp 55 57) (e.variable (sp 56 57) 1)) (e.cast (sp 60 68) (e.number (sp 60 62) true 0 p.no_suffix) U8)) true) e.no_stmts))) e.no_maybeexpr) }) ∷ []) }) ≡ Ok (record { decls = []; functions = ((record { name = (102 ∷ []); span = (sp 3 4); lifetimes = []; type_params = []; sig = (record { type_params = 0; regions = 1; params = ((t.ref (rg 0) true (t.tuple (t.more_tys (t.int U8) (t.more_tys t.bool t.no_tys)))) ∷ []); result = t.unit }); variables = ((112 ∷ []) ∷ ((97 ∷ []) ∷ ((98 ∷ []) ∷ []))); types = ((t.ref (rg 0) true (t.tuple (t.more_tys (t.int U8) (t.more_tys t.bool t.no_tys)))) ∷ ((t.ref (rg 0) true (t.int U8)) ∷ (t.bool ∷ []))); body = (s.block t.unit false (sp 25 71) (s.more_stmts (s.open_up (sp 27 45) (s.stands (t.ref (rg 0) true (t.tuple (t.more_tys (t.int U8) (t.more_tys t.bool t.no_tys)))) (sp 44 45) (s.variable 0)) (q.through true (q.tuple (q.more_pats (q.bind (sp 32 33) 1 (q.refer true)) (q.more_pats (q.bind (sp 35 40) 2 q.copy) q.no_pats))))) (s.more_stmts (s.run (s.value t.unit false (sp 47 53) (s.assign (s.variable 2) (s.value t.bool false (sp 51 53) (s.negation (s.value t.bool false (sp 52 53) (s.use_of (s.variable 2) true))))))) (s.more_stmts (s.run (s.value t.unit false (sp 55 68) (s.assign (s.through (s.variable 1)) (s.value (t.int U8) false (sp 60 68) (s.cast (s.value (t.int I32) false (sp 60 62) (s.number (nu I32 (pos 0)))) U8))))) s.no_stmts))) s.no_maybevalue) }) ∷ []) })
unfolding argument bound scrutinee branch_rule select_rule call_rule is_covered declared_types literal loop_rule give_rule give_nothing leave_rule leave_nothing go_on_rule number_rule variable_rule tuple_rule minus_rule negation_rule operands binary_rule compare_rule lazy_rule cast_rule deref_rule borrow_rule field_rule assign_rule update_rule typed_bodies typed_program signature_of run_rule let_rule let_nothing block_with block_without is_large limit depth
row_22 = refl

-- fn f(x: u8) -> u8 { let y; y = 1; x }
row_23 : typed_program (record { types = []; functions = ((record { name = (102 ∷ []); span = (sp 3 4); lifetimes = []; type_params = []; params = ((w.int (sp 8 10) U8) ∷ []); result = (Some (w.int (sp 15 17) U8)); variables = ((record { name = (120 ∷ []); span = (sp 5 6); mutable = false; late = false }) ∷ ((record { name = (121 ∷ []); span = (sp 24 25); mutable = false; late = true }) ∷ [])); body = (e.block (sp 18 37) (e.more_stmts (e.bind (sp 20 25) (p.bind (sp 24 25) (sp 24 25) false 1) w.no_maybewritten e.no_maybeexpr) (e.more_stmts (e.run (e.assign (sp 27 32) (e.variable (sp 27 28) 1) (e.number (sp 31 32) false 1 p.no_suffix)) true) e.no_stmts)) (e.some_maybeexpr (e.variable (sp 34 35) 0))) }) ∷ []) }) ≡ Err (at (sp 24 25) NoType)
unfolding argument bound scrutinee branch_rule select_rule call_rule is_covered declared_types literal loop_rule give_rule give_nothing leave_rule leave_nothing go_on_rule number_rule variable_rule tuple_rule minus_rule negation_rule operands binary_rule compare_rule lazy_rule cast_rule deref_rule borrow_rule field_rule assign_rule update_rule typed_bodies typed_program signature_of run_rule let_rule let_nothing block_with block_without is_large limit depth
row_23 = refl

-- fn f() { let x: Box<u8>; x = Box::new(1); let y = &mut x; **y = 2; }
row_24 : typed_program (record { types = []; functions = ((record { name = (102 ∷ []); span = (sp 3 4); lifetimes = []; type_params = []; params = []; result = None; variables = ((record { name = (120 ∷ []); span = (sp 13 14); mutable = false; late = true }) ∷ ((record { name = (121 ∷ []); span = (sp 46 47); mutable = false; late = false }) ∷ [])); body = (e.block (sp 7 68) (e.more_stmts (e.bind (sp 9 23) (p.bind (sp 13 14) (sp 13 14) false 0) (w.some_maybewritten (w.boxed (sp 16 23) (w.int (sp 20 22) U8))) e.no_maybeexpr) (e.more_stmts (e.run (e.assign (sp 25 40) (e.variable (sp 25 26) 0) (e.call (sp 29 40) (e.builtin_of BoxNew) w.no_turbo (e.more_exprs (e.number (sp 38 39) false 1 p.no_suffix) e.no_exprs))) true) (e.more_stmts (e.bind (sp 42 56) (p.bind (sp 46 47) (sp 46 47) false 1) w.no_maybewritten (e.some_maybeexpr (e.borrow (sp 50 56) true (e.variable (sp 55 56) 0)))) (e.more_stmts (e.run (e.assign (sp 58 65) (e.deref (sp 58 61) (e.deref (sp 59 61) (e.variable (sp 60 61) 1))) (e.number (sp 64 65) false 2 p.no_suffix)) true) e.no_stmts)))) e.no_maybeexpr) }) ∷ []) }) ≡ Ok (record { decls = []; functions = ((record { name = (102 ∷ []); span = (sp 3 4); lifetimes = []; type_params = []; sig = (record { type_params = 0; regions = 0; params = []; result = t.unit }); variables = ((120 ∷ []) ∷ ((121 ∷ []) ∷ [])); types = ((t.boxed (t.int U8)) ∷ ((t.ref (rg 0) true (t.boxed (t.int U8))) ∷ [])); body = (s.block t.unit false (sp 7 68) (s.more_stmts (s.later (sp 9 23) (s.more_variables 0 s.no_variables)) (s.more_stmts (s.run (s.value t.unit false (sp 25 40) (s.assign (s.variable 0) (s.value (t.boxed (t.int U8)) false (sp 29 40) (s.call (s.builtin_of BoxNew) (t.more_tys (t.int U8) t.no_tys) (s.more_values (s.value (t.int U8) false (sp 38 39) (s.number (nu U8 (pos 1)))) s.no_values)))))) (s.more_stmts (s.put (sp 42 56) 1 (s.value (t.ref (rg 0) true (t.boxed (t.int U8))) false (sp 50 56) (s.borrow true (s.variable 0)))) (s.more_stmts (s.run (s.value t.unit false (sp 58 65) (s.assign (s.unbox (s.through (s.variable 1))) (s.value (t.int U8) false (sp 64 65) (s.number (nu U8 (pos 2))))))) s.no_stmts)))) s.no_maybevalue) }) ∷ []) })
unfolding argument bound scrutinee branch_rule select_rule call_rule is_covered declared_types literal loop_rule give_rule give_nothing leave_rule leave_nothing go_on_rule number_rule variable_rule tuple_rule minus_rule negation_rule operands binary_rule compare_rule lazy_rule cast_rule deref_rule borrow_rule field_rule assign_rule update_rule typed_bodies typed_program signature_of run_rule let_rule let_nothing block_with block_without is_large limit depth
row_24 = refl

-- fn f(x: i8) -> i8 { match x { -1 => 0, 5 => 1, _ => 1 << x } }
row_25 : typed_program (record { types = []; functions = ((record { name = (102 ∷ []); span = (sp 3 4); lifetimes = []; type_params = []; params = ((w.int (sp 8 10) I8) ∷ []); result = (Some (w.int (sp 15 17) I8)); variables = ((record { name = (120 ∷ []); span = (sp 5 6); mutable = false; late = false }) ∷ []); body = (e.block (sp 18 62) e.no_stmts (e.some_maybeexpr (e.select (sp 20 60) (e.variable (sp 26 27) 0) (e.more_arms (p.number (sp 30 32) true 1 p.no_suffix) (e.number (sp 36 37) false 0 p.no_suffix) (e.more_arms (p.number (sp 39 40) false 5 p.no_suffix) (e.number (sp 44 45) false 1 p.no_suffix) (e.more_arms (p.wild (sp 47 48)) (e.binary (sp 52 58) B.Shl (e.number (sp 52 53) false 1 p.no_suffix) (e.variable (sp 57 58) 0)) e.no_arms)))))) }) ∷ []) }) ≡ Ok (record { decls = []; functions = ((record { name = (102 ∷ []); span = (sp 3 4); lifetimes = []; type_params = []; sig = (record { type_params = 0; regions = 0; params = ((t.int I8) ∷ []); result = (t.int I8) }); variables = ((120 ∷ []) ∷ []); types = ((t.int I8) ∷ []); body = (s.block (t.int I8) false (sp 18 62) s.no_stmts (s.some_maybevalue (s.value (t.int I8) false (sp 20 60) (s.select (s.stands (t.int I8) (sp 26 27) (s.variable 0)) (s.more_arms (q.number (nu I8 (negsuc 0))) (s.value (t.int I8) false (sp 36 37) (s.number (nu I8 (pos 0)))) (s.more_arms (q.number (nu I8 (pos 5))) (s.value (t.int I8) false (sp 44 45) (s.number (nu I8 (pos 1)))) (s.more_arms q.wild (s.value (t.int I8) false (sp 52 58) (s.binary B.Shl (s.value (t.int I8) false (sp 52 53) (s.number (nu I8 (pos 1)))) (s.value (t.int I8) false (sp 57 58) (s.use_of (s.variable 0) true)))) s.no_arms))))))) }) ∷ []) })
unfolding argument bound scrutinee branch_rule select_rule call_rule is_covered declared_types literal loop_rule give_rule give_nothing leave_rule leave_nothing go_on_rule number_rule variable_rule tuple_rule minus_rule negation_rule operands binary_rule compare_rule lazy_rule cast_rule deref_rule borrow_rule field_rule assign_rule update_rule typed_bodies typed_program signature_of run_rule let_rule let_nothing block_with block_without is_large limit depth
row_25 = refl

-- fn f(p: &mut u8) -> &u8 { loop { break p } }
row_26 : typed_program (record { types = []; functions = ((record { name = (102 ∷ []); span = (sp 3 4); lifetimes = []; type_params = []; params = ((w.ref (sp 8 15) w.elided true (w.int (sp 13 15) U8)) ∷ []); result = (Some (w.ref (sp 20 23) w.elided false (w.int (sp 21 23) U8))); variables = ((record { name = (112 ∷ []); span = (sp 5 6); mutable = false; late = false }) ∷ []); body = (e.block (sp 24 44) e.no_stmts (e.some_maybeexpr (e.forever (sp 26 42) 0 false (e.block (sp 31 42) e.no_stmts (e.some_maybeexpr (e.leave (sp 33 40) (e.some_maybeexpr (e.variable (sp 39 40) 0)))))))) }) ∷ []) }) ≡ Ok (record { decls = []; functions = ((record { name = (102 ∷ []); span = (sp 3 4); lifetimes = []; type_params = []; sig = (record { type_params = 0; regions = 1; params = ((t.ref (rg 0) true (t.int U8)) ∷ []); result = (t.ref (rg 0) false (t.int U8)) }); variables = ((112 ∷ []) ∷ []); types = ((t.ref (rg 0) true (t.int U8)) ∷ []); body = (s.block (t.ref (rg 0) false (t.int U8)) false (sp 24 44) s.no_stmts (s.some_maybevalue (s.value (t.ref (rg 0) false (t.int U8)) false (sp 26 42) (s.forever 0 false true (s.block t.unit true (sp 31 42) s.no_stmts (s.some_maybevalue (s.value t.unit true (sp 33 40) (s.leave 0 (s.some_maybevalue (s.value (t.ref (rg 0) false (t.int U8)) false (sp 39 40) (s.borrow false (s.through (s.variable 0))))))))))))) }) ∷ []) })
unfolding argument bound scrutinee branch_rule select_rule call_rule is_covered declared_types literal loop_rule give_rule give_nothing leave_rule leave_nothing go_on_rule number_rule variable_rule tuple_rule minus_rule negation_rule operands binary_rule compare_rule lazy_rule cast_rule deref_rule borrow_rule field_rule assign_rule update_rule typed_bodies typed_program signature_of run_rule let_rule let_nothing block_with block_without is_large limit depth
row_26 = refl

-- struct E; fn f(e: E) -> E { let E = e; E }
row_27 : typed_program (record { types = ((record { name = (69 ∷ []); span = (sp 7 8); params = []; is_struct = true; variants = (((69 ∷ []), []) ∷ []) }) ∷ []); functions = ((record { name = (102 ∷ []); span = (sp 13 14); lifetimes = []; type_params = []; params = ((w.named (sp 18 19) (ty 0) w.no_writtens) ∷ []); result = (Some (w.named (sp 24 25) (ty 0) w.no_writtens)); variables = ((record { name = (101 ∷ []); span = (sp 15 16); mutable = false; late = false }) ∷ []); body = (e.block (sp 26 42) (e.more_stmts (e.bind (sp 28 37) (p.construct (sp 32 33) (ty 0) 0 w.no_turbo p.no_pats) w.no_maybewritten (e.some_maybeexpr (e.variable (sp 36 37) 0))) e.no_stmts) (e.some_maybeexpr (e.call (sp 39 40) (e.constructor (ty 0) 0) w.no_turbo e.no_exprs))) }) ∷ []) }) ≡ Ok (record { decls = ((record { name = (69 ∷ []); span = (sp 7 8); params = []; is_struct = true; variants = ((record { name = (69 ∷ []); fields = [] }) ∷ []) }) ∷ []); functions = ((record { name = (102 ∷ []); span = (sp 13 14); lifetimes = []; type_params = []; sig = (record { type_params = 0; regions = 0; params = ((t.named (ty 0) t.no_tys) ∷ []); result = (t.named (ty 0) t.no_tys) }); variables = ((101 ∷ []) ∷ []); types = ((t.named (ty 0) t.no_tys) ∷ []); body = (s.block (t.named (ty 0) t.no_tys) false (sp 26 42) (s.more_stmts (s.open_up (sp 28 37) (s.stands (t.named (ty 0) t.no_tys) (sp 36 37) (s.variable 0)) (q.construct (ty 0) 0 q.no_fieldpats)) s.no_stmts) (s.some_maybevalue (s.value (t.named (ty 0) t.no_tys) false (sp 39 40) (s.construct (ty 0) 0 s.no_parts)))) }) ∷ []) })
unfolding argument bound scrutinee branch_rule select_rule call_rule is_covered declared_types literal loop_rule give_rule give_nothing leave_rule leave_nothing go_on_rule number_rule variable_rule tuple_rule minus_rule negation_rule operands binary_rule compare_rule lazy_rule cast_rule deref_rule borrow_rule field_rule assign_rule update_rule typed_bodies typed_program signature_of run_rule let_rule let_nothing block_with block_without is_large limit depth
row_27 = refl

-- struct S { s: Box<&u8> }
row_28 : typed_program (record { types = ((record { name = (83 ∷ []); span = (sp 7 8); params = []; is_struct = true; variants = (((83 ∷ []), (((115 ∷ []), (w.boxed (sp 14 22) (w.ref (sp 18 21) w.elided false (w.int (sp 19 21) U8)))) ∷ [])) ∷ []) }) ∷ []); functions = [] }) ≡ Err (at (sp 18 21) NestedBorrow)
unfolding argument bound scrutinee branch_rule select_rule call_rule is_covered declared_types literal loop_rule give_rule give_nothing leave_rule leave_nothing go_on_rule number_rule variable_rule tuple_rule minus_rule negation_rule operands binary_rule compare_rule lazy_rule cast_rule deref_rule borrow_rule field_rule assign_rule update_rule typed_bodies typed_program signature_of run_rule let_rule let_nothing block_with block_without is_large limit depth
row_28 = refl

-- fn f(x: &mut u8) { let y = &x; }
row_29 : typed_program (record { types = []; functions = ((record { name = (102 ∷ []); span = (sp 3 4); lifetimes = []; type_params = []; params = ((w.ref (sp 8 15) w.elided true (w.int (sp 13 15) U8)) ∷ []); result = None; variables = ((record { name = (120 ∷ []); span = (sp 5 6); mutable = false; late = false }) ∷ ((record { name = (121 ∷ []); span = (sp 23 24); mutable = false; late = false }) ∷ [])); body = (e.block (sp 17 32) (e.more_stmts (e.bind (sp 19 29) (p.bind (sp 23 24) (sp 23 24) false 1) w.no_maybewritten (e.some_maybeexpr (e.borrow (sp 27 29) false (e.variable (sp 28 29) 0)))) e.no_stmts) e.no_maybeexpr) }) ∷ []) }) ≡ Err (at (sp 27 29) NestedBorrow)
unfolding argument bound scrutinee branch_rule select_rule call_rule is_covered declared_types literal loop_rule give_rule give_nothing leave_rule leave_nothing go_on_rule number_rule variable_rule tuple_rule minus_rule negation_rule operands binary_rule compare_rule lazy_rule cast_rule deref_rule borrow_rule field_rule assign_rule update_rule typed_bodies typed_program signature_of run_rule let_rule let_nothing block_with block_without is_large limit depth
row_29 = refl

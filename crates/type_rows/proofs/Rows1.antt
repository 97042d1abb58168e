-- Small sources and what typing answers for them, by computing.
-- Made by tools/type_rows.py from the sources in tools/type_rows.txt.
use Rattle.std.specs.Prelude.{◌≡◌, refl, true, false, [], ◌∷◌, Some, Ok, Err, pos}
use Rattle.aen_base.specs.declared.int_ty.IntTy.TheVariants.{U8, U16, U32, I16}
use Rattle.aen_base.specs.declared.operators.BinOp.TheVariants as B
use Rattle.aen_base.specs.declared.operators.CmpOp.TheVariants as C
use Rattle.aen_base.specs.declared.operators.Builtin.TheVariants.{BoxNew}
use Rattle.aen_base.specs.Numbers.{limit, depth}
use Rattle.core_ty.specs.Types as t
use Rattle.rust_ast.specs.Written as w
use Rattle.rust_ast.specs.Patterns as p
use Rattle.rust_ast.specs.Resolved as e
use Rattle.rust_ast.specs.SpelledPatterns as q
use Rattle.rust_ast.specs.Spelled as s
use Rattle.type_rules.specs.Faults.{at}
use Rattle.type_rules.specs.declared.fault.KindOfFault.TheVariants.{NoRegion, Field}
use Rattle.type_rules.specs.Arguments.{argument}
use Rattle.type_rules.specs.Binding.{bound}
use Rattle.type_rules.specs.Branches.{scrutinee, branch_rule, select_rule}
use Rattle.type_rules.specs.Calls.{call_rule}
use Rattle.type_rules.specs.Coverage.{is_covered}
use Rattle.type_rules.specs.Declarations.{declared_types}
use Rattle.type_rules.specs.Literals.{literal}
use Rattle.type_rules.specs.Loops.{loop_rule, give_rule, give_nothing, leave_rule, leave_nothing, go_on_rule}
use Rattle.type_rules.specs.Operands.{number_rule, variable_rule, tuple_rule}
use Rattle.type_rules.specs.Operators.{minus_rule, negation_rule, operands, binary_rule, compare_rule, lazy_rule, cast_rule}
use Rattle.type_rules.specs.PlaceRules.{deref_rule, borrow_rule, field_rule, assign_rule, update_rule}
use Rattle.type_rules.specs.Programs.{typed_bodies, typed_program}
use Rattle.type_rules.specs.Signatures.{signature_of}
use Rattle.type_rules.specs.Statements.{run_rule, let_rule, let_nothing, block_with, block_without}
use Rattle.type_rules.specs.TypeFacts.{is_large}
use Rattle.type_rows.proofs.Terms.{sp, ty, rg, nu}

-- fn f(x: &mut u8, y: &mut u8) -> (&mut u8, &u8) { (x, y) }
row_10 : typed_program (record { types = []; functions = ((record { name = (102 ∷ []); span = (sp 3 4); lifetimes = []; type_params = []; params = ((w.ref (sp 8 15) w.elided true (w.int (sp 13 15) U8)) ∷ ((w.ref (sp 20 27) w.elided true (w.int (sp 25 27) U8)) ∷ [])); result = (Some (w.tuple (sp 32 46) (w.more_writtens (w.ref (sp 33 40) w.elided true (w.int (sp 38 40) U8)) (w.more_writtens (w.ref (sp 42 45) w.elided false (w.int (sp 43 45) U8)) w.no_writtens)))); variables = ((record { name = (120 ∷ []); span = (sp 5 6); mutable = false; late = false }) ∷ ((record { name = (121 ∷ []); span = (sp 17 18); mutable = false; late = false }) ∷ [])); body = (e.block (sp 47 57) e.no_stmts (e.some_maybeexpr (e.tuple (sp 49 55) (e.more_exprs (e.variable (sp 50 51) 0) (e.more_exprs (e.variable (sp 53 54) 1) e.no_exprs))))) }) ∷ []) }) ≡ Err (at (sp 33 40) NoRegion)
unfolding argument bound scrutinee branch_rule select_rule call_rule is_covered declared_types literal loop_rule give_rule give_nothing leave_rule leave_nothing go_on_rule number_rule variable_rule tuple_rule minus_rule negation_rule operands binary_rule compare_rule lazy_rule cast_rule deref_rule borrow_rule field_rule assign_rule update_rule typed_bodies typed_program signature_of run_rule let_rule let_nothing block_with block_without is_large limit depth
row_10 = refl

-- struct S { a: u8, b: Box<(bool, u16)> } fn f(s: &mut S) -> u16 { s.b.1 += 1; s.b.1 }
row_11 : typed_program (record { types = ((record { name = (83 ∷ []); span = (sp 7 8); params = []; is_struct = true; variants = (((83 ∷ []), (((97 ∷ []), (w.int (sp 14 16) U8)) ∷ (((98 ∷ []), (w.boxed (sp 21 37) (w.tuple (sp 25 36) (w.more_writtens (w.bool (sp 26 30)) (w.more_writtens (w.int (sp 32 35) U16) w.no_writtens))))) ∷ []))) ∷ []) }) ∷ []); functions = ((record { name = (102 ∷ []); span = (sp 43 44); lifetimes = []; type_params = []; params = ((w.ref (sp 48 54) w.elided true (w.named (sp 53 54) (ty 0) w.no_writtens)) ∷ []); result = (Some (w.int (sp 59 62) U16)); variables = ((record { name = (115 ∷ []); span = (sp 45 46); mutable = false; late = false }) ∷ []); body = (e.block (sp 63 84) (e.more_stmts (e.run (e.update (sp 65 75) B.Add (e.field (sp 65 70) (e.field (sp 65 68) (e.variable (sp 65 66) 0) (sp 67 68) (98 ∷ [])) (sp 69 70) (49 ∷ [])) (e.number (sp 74 75) false 1 p.no_suffix)) true) e.no_stmts) (e.some_maybeexpr (e.field (sp 77 82) (e.field (sp 77 80) (e.variable (sp 77 78) 0) (sp 79 80) (98 ∷ [])) (sp 81 82) (49 ∷ [])))) }) ∷ []) }) ≡ Ok (record { decls = ((record { name = (83 ∷ []); span = (sp 7 8); params = []; is_struct = true; variants = ((record { name = (83 ∷ []); fields = (((97 ∷ []), (t.int U8)) ∷ (((98 ∷ []), (t.boxed (t.tuple (t.more_tys t.bool (t.more_tys (t.int U16) t.no_tys))))) ∷ [])) }) ∷ []) }) ∷ []); functions = ((record { name = (102 ∷ []); span = (sp 43 44); lifetimes = []; type_params = []; sig = (record { type_params = 0; regions = 1; params = ((t.ref (rg 0) true (t.named (ty 0) t.no_tys)) ∷ []); result = (t.int U16) }); variables = ((115 ∷ []) ∷ []); types = ((t.ref (rg 0) true (t.named (ty 0) t.no_tys)) ∷ []); body = (s.block (t.int U16) false (sp 63 84) (s.more_stmts (s.run (s.value t.unit false (sp 65 75) (s.update (t.int U16) B.Add (s.field (s.unbox (s.field (s.through (s.variable 0)) 1)) 1) (s.value (t.int U16) false (sp 74 75) (s.number (nu U16 (pos 1))))))) s.no_stmts) (s.some_maybevalue (s.value (t.int U16) false (sp 77 82) (s.use_of (s.field (s.unbox (s.field (s.through (s.variable 0)) 1)) 1) true)))) }) ∷ []) })
unfolding argument bound scrutinee branch_rule select_rule call_rule is_covered declared_types literal loop_rule give_rule give_nothing leave_rule leave_nothing go_on_rule number_rule variable_rule tuple_rule minus_rule negation_rule operands binary_rule compare_rule lazy_rule cast_rule deref_rule borrow_rule field_rule assign_rule update_rule typed_bodies typed_program signature_of run_rule let_rule let_nothing block_with block_without is_large limit depth
row_11 = refl

-- enum L { N, C(u8, Box<L>) } fn f(l: &mut L) -> u8 { match l { L::C(x, t) => { *x += 1; f(t) } L::N => 0 } }
row_12 : typed_program (record { types = ((record { name = (76 ∷ []); span = (sp 5 6); params = []; is_struct = false; variants = (((78 ∷ []), []) ∷ (((67 ∷ []), (((48 ∷ []), (w.int (sp 14 16) U8)) ∷ (((49 ∷ []), (w.boxed (sp 18 24) (w.named (sp 22 23) (ty 0) w.no_writtens))) ∷ []))) ∷ [])) }) ∷ []); functions = ((record { name = (102 ∷ []); span = (sp 31 32); lifetimes = []; type_params = []; params = ((w.ref (sp 36 42) w.elided true (w.named (sp 41 42) (ty 0) w.no_writtens)) ∷ []); result = (Some (w.int (sp 47 49) U8)); variables = ((record { name = (108 ∷ []); span = (sp 33 34); mutable = false; late = false }) ∷ ((record { name = (120 ∷ []); span = (sp 67 68); mutable = false; late = false }) ∷ ((record { name = (116 ∷ []); span = (sp 70 71); mutable = false; late = false }) ∷ []))); body = (e.block (sp 50 107) e.no_stmts (e.some_maybeexpr (e.select (sp 52 105) (e.variable (sp 58 59) 0) (e.more_arms (p.construct (sp 62 72) (ty 0) 1 w.no_turbo (p.more_pats (p.bind (sp 67 68) (sp 67 68) false 1) (p.more_pats (p.bind (sp 70 71) (sp 70 71) false 2) p.no_pats))) (e.inner (e.block (sp 76 93) (e.more_stmts (e.run (e.update (sp 78 85) B.Add (e.deref (sp 78 80) (e.variable (sp 79 80) 1)) (e.number (sp 84 85) false 1 p.no_suffix)) true) e.no_stmts) (e.some_maybeexpr (e.call (sp 87 91) (e.function 0) w.no_turbo (e.more_exprs (e.variable (sp 89 90) 2) e.no_exprs))))) (e.more_arms (p.construct (sp 94 98) (ty 0) 0 w.no_turbo p.no_pats) (e.number (sp 102 103) false 0 p.no_suffix) e.no_arms))))) }) ∷ []) }) ≡ Ok (record { decls = ((record { name = (76 ∷ []); span = (sp 5 6); params = []; is_struct = false; variants = ((record { name = (78 ∷ []); fields = [] }) ∷ ((record { name = (67 ∷ []); fields = (((48 ∷ []), (t.int U8)) ∷ (((49 ∷ []), (t.boxed (t.named (ty 0) t.no_tys))) ∷ [])) }) ∷ [])) }) ∷ []); functions = ((record { name = (102 ∷ []); span = (sp 31 32); lifetimes = []; type_params = []; sig = (record { type_params = 0; regions = 1; params = ((t.ref (rg 0) true (t.named (ty 0) t.no_tys)) ∷ []); result = (t.int U8) }); variables = ((108 ∷ []) ∷ ((120 ∷ []) ∷ ((116 ∷ []) ∷ []))); types = ((t.ref (rg 0) true (t.named (ty 0) t.no_tys)) ∷ ((t.ref (rg 0) true (t.int U8)) ∷ ((t.ref (rg 0) true (t.boxed (t.named (ty 0) t.no_tys))) ∷ []))); body = (s.block (t.int U8) false (sp 50 107) s.no_stmts (s.some_maybevalue (s.value (t.int U8) false (sp 52 105) (s.select (s.stands (t.ref (rg 0) true (t.named (ty 0) t.no_tys)) (sp 58 59) (s.variable 0)) (s.more_arms (q.through true (q.construct (ty 0) 1 (q.more_fieldpats 0 (q.bind (sp 67 68) 1 (q.refer true)) (q.more_fieldpats 1 (q.bind (sp 70 71) 2 (q.refer true)) q.no_fieldpats)))) (s.value (t.int U8) false (sp 76 93) (s.inner (s.block (t.int U8) false (sp 76 93) (s.more_stmts (s.run (s.value t.unit false (sp 78 85) (s.update (t.int U8) B.Add (s.through (s.variable 1)) (s.value (t.int U8) false (sp 84 85) (s.number (nu U8 (pos 1))))))) s.no_stmts) (s.some_maybevalue (s.value (t.int U8) false (sp 87 91) (s.call (s.function 0) t.no_tys (s.more_values (s.value (t.ref (rg 0) true (t.named (ty 0) t.no_tys)) false (sp 89 90) (s.borrow true (s.unbox (s.through (s.variable 2))))) s.no_values))))))) (s.more_arms (q.through true (q.construct (ty 0) 0 q.no_fieldpats)) (s.value (t.int U8) false (sp 102 103) (s.number (nu U8 (pos 0)))) s.no_arms)))))) }) ∷ []) })
unfolding argument bound scrutinee branch_rule select_rule call_rule is_covered declared_types literal loop_rule give_rule give_nothing leave_rule leave_nothing go_on_rule number_rule variable_rule tuple_rule minus_rule negation_rule operands binary_rule compare_rule lazy_rule cast_rule deref_rule borrow_rule field_rule assign_rule update_rule typed_bodies typed_program signature_of run_rule let_rule let_nothing block_with block_without is_large limit depth
row_12 = refl

-- enum O<T> { N, S(T) } fn f(b: bool) -> O<u16> { let x = if b { O::S(1u16) } else { O::N }; x }
row_13 : typed_program (record { types = ((record { name = (79 ∷ []); span = (sp 5 6); params = ((84 ∷ []) ∷ []); is_struct = false; variants = (((78 ∷ []), []) ∷ (((83 ∷ []), (((48 ∷ []), (w.param (sp 17 18) 0 w.no_writtens)) ∷ [])) ∷ [])) }) ∷ []); functions = ((record { name = (102 ∷ []); span = (sp 25 26); lifetimes = []; type_params = []; params = ((w.bool (sp 30 34)) ∷ []); result = (Some (w.named (sp 39 45) (ty 0) (w.more_writtens (w.int (sp 41 44) U16) w.no_writtens))); variables = ((record { name = (98 ∷ []); span = (sp 27 28); mutable = false; late = false }) ∷ ((record { name = (120 ∷ []); span = (sp 52 53); mutable = false; late = false }) ∷ [])); body = (e.block (sp 46 94) (e.more_stmts (e.bind (sp 48 89) (p.bind (sp 52 53) (sp 52 53) false 1) w.no_maybewritten (e.some_maybeexpr (e.branch (sp 56 89) (e.variable (sp 59 60) 0) (e.block (sp 61 75) e.no_stmts (e.some_maybeexpr (e.call (sp 63 73) (e.constructor (ty 0) 1) w.no_turbo (e.more_exprs (e.number (sp 68 72) false 1 (p.some_suffix U16)) e.no_exprs)))) (e.inner (e.block (sp 81 89) e.no_stmts (e.some_maybeexpr (e.call (sp 83 87) (e.constructor (ty 0) 0) w.no_turbo e.no_exprs))))))) e.no_stmts) (e.some_maybeexpr (e.variable (sp 91 92) 1))) }) ∷ []) }) ≡ Ok (record { decls = ((record { name = (79 ∷ []); span = (sp 5 6); params = ((84 ∷ []) ∷ []); is_struct = false; variants = ((record { name = (78 ∷ []); fields = [] }) ∷ ((record { name = (83 ∷ []); fields = (((48 ∷ []), (t.param 0)) ∷ []) }) ∷ [])) }) ∷ []); functions = ((record { name = (102 ∷ []); span = (sp 25 26); lifetimes = []; type_params = []; sig = (record { type_params = 0; regions = 0; params = (t.bool ∷ []); result = (t.named (ty 0) (t.more_tys (t.int U16) t.no_tys)) }); variables = ((98 ∷ []) ∷ ((120 ∷ []) ∷ [])); types = (t.bool ∷ ((t.named (ty 0) (t.more_tys (t.int U16) t.no_tys)) ∷ [])); body = (s.block (t.named (ty 0) (t.more_tys (t.int U16) t.no_tys)) false (sp 46 94) (s.more_stmts (s.put (sp 48 89) 1 (s.value (t.named (ty 0) (t.more_tys (t.int U16) t.no_tys)) false (sp 56 89) (s.select (s.stands t.bool (sp 59 60) (s.variable 0)) (s.more_arms (q.truth true) (s.value (t.named (ty 0) (t.more_tys (t.int U16) t.no_tys)) false (sp 61 75) (s.inner (s.block (t.named (ty 0) (t.more_tys (t.int U16) t.no_tys)) false (sp 61 75) s.no_stmts (s.some_maybevalue (s.value (t.named (ty 0) (t.more_tys (t.int U16) t.no_tys)) false (sp 63 73) (s.construct (ty 0) 1 (s.more_parts 0 (s.value (t.int U16) false (sp 68 72) (s.number (nu U16 (pos 1)))) s.no_parts))))))) (s.more_arms (q.truth false) (s.value (t.named (ty 0) (t.more_tys (t.int U16) t.no_tys)) false (sp 81 89) (s.inner (s.block (t.named (ty 0) (t.more_tys (t.int U16) t.no_tys)) false (sp 81 89) s.no_stmts (s.some_maybevalue (s.value (t.named (ty 0) (t.more_tys (t.int U16) t.no_tys)) false (sp 83 87) (s.construct (ty 0) 0 s.no_parts)))))) s.no_arms))))) s.no_stmts) (s.some_maybevalue (s.value (t.named (ty 0) (t.more_tys (t.int U16) t.no_tys)) false (sp 91 92) (s.use_of (s.variable 1) false)))) }) ∷ []) })
unfolding argument bound scrutinee branch_rule select_rule call_rule is_covered declared_types literal loop_rule give_rule give_nothing leave_rule leave_nothing go_on_rule number_rule variable_rule tuple_rule minus_rule negation_rule operands binary_rule compare_rule lazy_rule cast_rule deref_rule borrow_rule field_rule assign_rule update_rule typed_bodies typed_program signature_of run_rule let_rule let_nothing block_with block_without is_large limit depth
row_13 = refl

-- fn f(n: u32) -> u32 { let mut i = 0u32; let mut s = 0u32; while i < n { s = s + i; i += 1; } s }
row_14 : typed_program (record { types = []; functions = ((record { name = (102 ∷ []); span = (sp 3 4); lifetimes = []; type_params = []; params = ((w.int (sp 8 11) U32) ∷ []); result = (Some (w.int (sp 16 19) U32)); variables = ((record { name = (110 ∷ []); span = (sp 5 6); mutable = false; late = false }) ∷ ((record { name = (105 ∷ []); span = (sp 30 31); mutable = true; late = false }) ∷ ((record { name = (115 ∷ []); span = (sp 48 49); mutable = true; late = false }) ∷ []))); body = (e.block (sp 20 96) (e.more_stmts (e.bind (sp 22 38) (p.bind (sp 26 31) (sp 30 31) true 1) w.no_maybewritten (e.some_maybeexpr (e.number (sp 34 38) false 0 (p.some_suffix U32)))) (e.more_stmts (e.bind (sp 40 56) (p.bind (sp 44 49) (sp 48 49) true 2) w.no_maybewritten (e.some_maybeexpr (e.number (sp 52 56) false 0 (p.some_suffix U32)))) (e.more_stmts (e.run (e.forever (sp 58 92) 0 true (e.block (sp 58 92) e.no_stmts (e.some_maybeexpr (e.branch (sp 58 92) (e.compare (sp 64 69) C.Lt (e.variable (sp 64 65) 1) (e.variable (sp 68 69) 0)) (e.block (sp 70 92) (e.more_stmts (e.run (e.assign (sp 72 81) (e.variable (sp 72 73) 2) (e.binary (sp 76 81) B.Add (e.variable (sp 76 77) 2) (e.variable (sp 80 81) 1))) true) (e.more_stmts (e.run (e.update (sp 83 89) B.Add (e.variable (sp 83 84) 1) (e.number (sp 88 89) false 1 p.no_suffix)) true) e.no_stmts)) e.no_maybeexpr) (e.inner (e.block (sp 58 92) e.no_stmts (e.some_maybeexpr (e.leave (sp 58 92) e.no_maybeexpr)))))))) false) e.no_stmts))) (e.some_maybeexpr (e.variable (sp 93 94) 2))) }) ∷ []) }) ≡ Ok (record { decls = []; functions = ((record { name = (102 ∷ []); span = (sp 3 4); lifetimes = []; type_params = []; sig = (record { type_params = 0; regions = 0; params = ((t.int U32) ∷ []); result = (t.int U32) }); variables = ((110 ∷ []) ∷ ((105 ∷ []) ∷ ((115 ∷ []) ∷ []))); types = ((t.int U32) ∷ ((t.int U32) ∷ ((t.int U32) ∷ []))); body = (s.block (t.int U32) false (sp 20 96) (s.more_stmts (s.put (sp 22 38) 1 (s.value (t.int U32) false (sp 34 38) (s.number (nu U32 (pos 0))))) (s.more_stmts (s.put (sp 40 56) 2 (s.value (t.int U32) false (sp 52 56) (s.number (nu U32 (pos 0))))) (s.more_stmts (s.run (s.value t.unit false (sp 58 92) (s.forever 0 true true (s.block t.unit false (sp 58 92) s.no_stmts (s.some_maybevalue (s.value t.unit false (sp 58 92) (s.select (s.held (s.value t.bool false (sp 64 69) (s.compare C.Lt (s.value (t.int U32) false (sp 64 65) (s.use_of (s.variable 1) true)) (s.value (t.int U32) false (sp 68 69) (s.use_of (s.variable 0) true))))) (s.more_arms (q.truth true) (s.value t.unit false (sp 70 92) (s.inner (s.block t.unit false (sp 70 92) (s.more_stmts (s.run (s.value t.unit false (sp 72 81) (s.assign (s.variable 2) (s.value (t.int U32) false (sp 76 81) (s.binary B.Add (s.value (t.int U32) false (sp 76 77) (s.use_of (s.variable 2) true)) (s.value (t.int U32) false (sp 80 81) (s.use_of (s.variable 1) true))))))) (s.more_stmts (s.run (s.value t.unit false (sp 83 89) (s.update (t.int U32) B.Add (s.variable 1) (s.value (t.int U32) false (sp 88 89) (s.number (nu U32 (pos 1))))))) s.no_stmts)) s.no_maybevalue))) (s.more_arms (q.truth false) (s.value t.unit true (sp 58 92) (s.inner (s.block t.unit true (sp 58 92) s.no_stmts (s.some_maybevalue (s.value t.unit true (sp 58 92) (s.leave 0 s.no_maybevalue)))))) s.no_arms))))))))) s.no_stmts))) (s.some_maybevalue (s.value (t.int U32) false (sp 93 94) (s.use_of (s.variable 2) true)))) }) ∷ []) })
unfolding argument bound scrutinee branch_rule select_rule call_rule is_covered declared_types literal loop_rule give_rule give_nothing leave_rule leave_nothing go_on_rule number_rule variable_rule tuple_rule minus_rule negation_rule operands binary_rule compare_rule lazy_rule cast_rule deref_rule borrow_rule field_rule assign_rule update_rule typed_bodies typed_program signature_of run_rule let_rule let_nothing block_with block_without is_large limit depth
row_14 = refl

-- fn f(n: u8) -> u8 { let r = loop { if n > 3 { break 1u8; } else { break n } }; r }
row_15 : typed_program (record { types = []; functions = ((record { name = (102 ∷ []); span = (sp 3 4); lifetimes = []; type_params = []; params = ((w.int (sp 8 10) U8) ∷ []); result = (Some (w.int (sp 15 17) U8)); variables = ((record { name = (110 ∷ []); span = (sp 5 6); mutable = false; late = false }) ∷ ((record { name = (114 ∷ []); span = (sp 24 25); mutable = false; late = false }) ∷ [])); body = (e.block (sp 18 82) (e.more_stmts (e.bind (sp 20 77) (p.bind (sp 24 25) (sp 24 25) false 1) w.no_maybewritten (e.some_maybeexpr (e.forever (sp 28 77) 0 false (e.block (sp 33 77) e.no_stmts (e.some_maybeexpr (e.branch (sp 35 75) (e.compare (sp 38 43) C.Gt (e.variable (sp 38 39) 0) (e.number (sp 42 43) false 3 p.no_suffix)) (e.block (sp 44 58) (e.more_stmts (e.run (e.leave (sp 46 55) (e.some_maybeexpr (e.number (sp 52 55) false 1 (p.some_suffix U8)))) true) e.no_stmts) e.no_maybeexpr) (e.inner (e.block (sp 64 75) e.no_stmts (e.some_maybeexpr (e.leave (sp 66 73) (e.some_maybeexpr (e.variable (sp 72 73) 0)))))))))))) e.no_stmts) (e.some_maybeexpr (e.variable (sp 79 80) 1))) }) ∷ []) }) ≡ Ok (record { decls = []; functions = ((record { name = (102 ∷ []); span = (sp 3 4); lifetimes = []; type_params = []; sig = (record { type_params = 0; regions = 0; params = ((t.int U8) ∷ []); result = (t.int U8) }); variables = ((110 ∷ []) ∷ ((114 ∷ []) ∷ [])); types = ((t.int U8) ∷ ((t.int U8) ∷ [])); body = (s.block (t.int U8) false (sp 18 82) (s.more_stmts (s.put (sp 20 77) 1 (s.value (t.int U8) false (sp 28 77) (s.forever 0 false true (s.block t.unit true (sp 33 77) s.no_stmts (s.some_maybevalue (s.value t.unit true (sp 35 75) (s.select (s.held (s.value t.bool false (sp 38 43) (s.compare C.Gt (s.value (t.int U8) false (sp 38 39) (s.use_of (s.variable 0) true)) (s.value (t.int U8) false (sp 42 43) (s.number (nu U8 (pos 3))))))) (s.more_arms (q.truth true) (s.value t.unit true (sp 44 58) (s.inner (s.block t.unit true (sp 44 58) (s.more_stmts (s.run (s.value t.unit true (sp 46 55) (s.leave 0 (s.some_maybevalue (s.value (t.int U8) false (sp 52 55) (s.number (nu U8 (pos 1)))))))) s.no_stmts) s.no_maybevalue))) (s.more_arms (q.truth false) (s.value t.unit true (sp 64 75) (s.inner (s.block t.unit true (sp 64 75) s.no_stmts (s.some_maybevalue (s.value t.unit true (sp 66 73) (s.leave 0 (s.some_maybevalue (s.value (t.int U8) false (sp 72 73) (s.use_of (s.variable 0) true))))))))) s.no_arms))))))))) s.no_stmts) (s.some_maybevalue (s.value (t.int U8) false (sp 79 80) (s.use_of (s.variable 1) true)))) }) ∷ []) })
unfolding argument bound scrutinee branch_rule select_rule call_rule is_covered declared_types literal loop_rule give_rule give_nothing leave_rule leave_nothing go_on_rule number_rule variable_rule tuple_rule minus_rule negation_rule operands binary_rule compare_rule lazy_rule cast_rule deref_rule borrow_rule field_rule assign_rule update_rule typed_bodies typed_program signature_of run_rule let_rule let_nothing block_with block_without is_large limit depth
row_15 = refl

-- fn f(b: bool) -> u8 { let x: u8 = if b { return 1 } else { return 2 }; }
row_16 : typed_program (record { types = []; functions = ((record { name = (102 ∷ []); span = (sp 3 4); lifetimes = []; type_params = []; params = ((w.bool (sp 8 12)) ∷ []); result = (Some (w.int (sp 17 19) U8)); variables = ((record { name = (98 ∷ []); span = (sp 5 6); mutable = false; late = false }) ∷ ((record { name = (120 ∷ []); span = (sp 26 27); mutable = false; late = false }) ∷ [])); body = (e.block (sp 20 72) (e.more_stmts (e.bind (sp 22 69) (p.bind (sp 26 27) (sp 26 27) false 1) (w.some_maybewritten (w.int (sp 29 31) U8)) (e.some_maybeexpr (e.branch (sp 34 69) (e.variable (sp 37 38) 0) (e.block (sp 39 51) e.no_stmts (e.some_maybeexpr (e.give (sp 41 49) (e.some_maybeexpr (e.number (sp 48 49) false 1 p.no_suffix))))) (e.inner (e.block (sp 57 69) e.no_stmts (e.some_maybeexpr (e.give (sp 59 67) (e.some_maybeexpr (e.number (sp 66 67) false 2 p.no_suffix))))))))) e.no_stmts) e.no_maybeexpr) }) ∷ []) }) ≡ Ok (record { decls = []; functions = ((record { name = (102 ∷ []); span = (sp 3 4); lifetimes = []; type_params = []; sig = (record { type_params = 0; regions = 0; params = (t.bool ∷ []); result = (t.int U8) }); variables = ((98 ∷ []) ∷ ((120 ∷ []) ∷ [])); types = (t.bool ∷ ((t.int U8) ∷ [])); body = (s.block (t.int U8) true (sp 20 72) (s.more_stmts (s.put (sp 22 69) 1 (s.value (t.int U8) true (sp 34 69) (s.select (s.stands t.bool (sp 37 38) (s.variable 0)) (s.more_arms (q.truth true) (s.value (t.int U8) true (sp 39 51) (s.inner (s.block (t.int U8) true (sp 39 51) s.no_stmts (s.some_maybevalue (s.value (t.int U8) true (sp 41 49) (s.give (s.some_maybevalue (s.value (t.int U8) false (sp 48 49) (s.number (nu U8 (pos 1))))))))))) (s.more_arms (q.truth false) (s.value (t.int U8) true (sp 57 69) (s.inner (s.block (t.int U8) true (sp 57 69) s.no_stmts (s.some_maybevalue (s.value (t.int U8) true (sp 59 67) (s.give (s.some_maybevalue (s.value (t.int U8) false (sp 66 67) (s.number (nu U8 (pos 2))))))))))) s.no_arms))))) s.no_stmts) s.no_maybevalue) }) ∷ []) })
unfolding argument bound scrutinee branch_rule select_rule call_rule is_covered declared_types literal loop_rule give_rule give_nothing leave_rule leave_nothing go_on_rule number_rule variable_rule tuple_rule minus_rule negation_rule operands binary_rule compare_rule lazy_rule cast_rule deref_rule borrow_rule field_rule assign_rule update_rule typed_bodies typed_program signature_of run_rule let_rule let_nothing block_with block_without is_large limit depth
row_16 = refl

-- fn f(t: (u8, (bool, i16))) -> i16 { let (a, (b, c)) = t; if b { c } else { a as i16 } }
row_17 : typed_program (record { types = []; functions = ((record { name = (102 ∷ []); span = (sp 3 4); lifetimes = []; type_params = []; params = ((w.tuple (sp 8 25) (w.more_writtens (w.int (sp 9 11) U8) (w.more_writtens (w.tuple (sp 13 24) (w.more_writtens (w.bool (sp 14 18)) (w.more_writtens (w.int (sp 20 23) I16) w.no_writtens))) w.no_writtens))) ∷ []); result = (Some (w.int (sp 30 33) I16)); variables = ((record { name = (116 ∷ []); span = (sp 5 6); mutable = false; late = false }) ∷ ((record { name = (97 ∷ []); span = (sp 41 42); mutable = false; late = false }) ∷ ((record { name = (98 ∷ []); span = (sp 45 46); mutable = false; late = false }) ∷ ((record { name = (99 ∷ []); span = (sp 48 49); mutable = false; late = false }) ∷ [])))); body = (e.block (sp 34 87) (e.more_stmts (e.bind (sp 36 55) (p.tuple (sp 40 51) (p.more_pats (p.bind (sp 41 42) (sp 41 42) false 1) (p.more_pats (p.tuple (sp 44 50) (p.more_pats (p.bind (sp 45 46) (sp 45 46) false 2) (p.more_pats (p.bind (sp 48 49) (sp 48 49) false 3) p.no_pats))) p.no_pats))) w.no_maybewritten (e.some_maybeexpr (e.variable (sp 54 55) 0))) e.no_stmts) (e.some_maybeexpr (e.branch (sp 57 85) (e.variable (sp 60 61) 2) (e.block (sp 62 67) e.no_stmts (e.some_maybeexpr (e.variable (sp 64 65) 3))) (e.inner (e.block (sp 73 85) e.no_stmts (e.some_maybeexpr (e.cast (sp 75 83) (e.variable (sp 75 76) 1) I16))))))) }) ∷ []) }) ≡ Ok (record { decls = []; functions = ((record { name = (102 ∷ []); span = (sp 3 4); lifetimes = []; type_params = []; sig = (record { type_params = 0; regions = 0; params = ((t.tuple (t.more_tys (t.int U8) (t.more_tys (t.tuple (t.more_tys t.bool (t.more_tys (t.int I16) t.no_tys))) t.no_tys))) ∷ []); result = (t.int I16) }); variables = ((116 ∷ []) ∷ ((97 ∷ []) ∷ ((98 ∷ []) ∷ ((99 ∷ []) ∷ [])))); types = ((t.tuple (t.more_tys (t.int U8) (t.more_tys (t.tuple (t.more_tys t.bool (t.more_tys (t.int I16) t.no_tys))) t.no_tys))) ∷ ((t.int U8) ∷ (t.bool ∷ ((t.int I16) ∷ [])))); body = (s.block (t.int I16) false (sp 34 87) (s.more_stmts (s.open_up (sp 36 55) (s.stands (t.tuple (t.more_tys (t.int U8) (t.more_tys (t.tuple (t.more_tys t.bool (t.more_tys (t.int I16) t.no_tys))) t.no_tys))) (sp 54 55) (s.variable 0)) (q.tuple (q.more_pats (q.bind (sp 41 42) 1 q.copy) (q.more_pats (q.tuple (q.more_pats (q.bind (sp 45 46) 2 q.copy) (q.more_pats (q.bind (sp 48 49) 3 q.copy) q.no_pats))) q.no_pats)))) s.no_stmts) (s.some_maybevalue (s.value (t.int I16) false (sp 57 85) (s.select (s.stands t.bool (sp 60 61) (s.variable 2)) (s.more_arms (q.truth true) (s.value (t.int I16) false (sp 62 67) (s.inner (s.block (t.int I16) false (sp 62 67) s.no_stmts (s.some_maybevalue (s.value (t.int I16) false (sp 64 65) (s.use_of (s.variable 3) true)))))) (s.more_arms (q.truth false) (s.value (t.int I16) false (sp 73 85) (s.inner (s.block (t.int I16) false (sp 73 85) s.no_stmts (s.some_maybevalue (s.value (t.int I16) false (sp 75 83) (s.cast (s.value (t.int U8) false (sp 75 76) (s.use_of (s.variable 1) true)) I16)))))) s.no_arms)))))) }) ∷ []) })
unfolding argument bound scrutinee branch_rule select_rule call_rule is_covered declared_types literal loop_rule give_rule give_nothing leave_rule leave_nothing go_on_rule number_rule variable_rule tuple_rule minus_rule negation_rule operands binary_rule compare_rule lazy_rule cast_rule deref_rule borrow_rule field_rule assign_rule update_rule typed_bodies typed_program signature_of run_rule let_rule let_nothing block_with block_without is_large limit depth
row_17 = refl

-- fn f(x: Box<(u8, u8)>) -> u8 { (*x).0 + Box::new(3u8).0 }
row_18 : typed_program (record { types = []; functions = ((record { name = (102 ∷ []); span = (sp 3 4); lifetimes = []; type_params = []; params = ((w.boxed (sp 8 21) (w.tuple (sp 12 20) (w.more_writtens (w.int (sp 13 15) U8) (w.more_writtens (w.int (sp 17 19) U8) w.no_writtens)))) ∷ []); result = (Some (w.int (sp 26 28) U8)); variables = ((record { name = (120 ∷ []); span = (sp 5 6); mutable = false; late = false }) ∷ []); body = (e.block (sp 29 57) e.no_stmts (e.some_maybeexpr (e.binary (sp 31 55) B.Add (e.field (sp 31 37) (e.deref (sp 32 34) (e.variable (sp 33 34) 0)) (sp 36 37) (48 ∷ [])) (e.field (sp 40 55) (e.call (sp 40 53) (e.builtin_of BoxNew) w.no_turbo (e.more_exprs (e.number (sp 49 52) false 3 (p.some_suffix U8)) e.no_exprs)) (sp 54 55) (48 ∷ []))))) }) ∷ []) }) ≡ Err (at (sp 54 55) Field)
unfolding argument bound scrutinee branch_rule select_rule call_rule is_covered declared_types literal loop_rule give_rule give_nothing leave_rule leave_nothing go_on_rule number_rule variable_rule tuple_rule minus_rule negation_rule operands binary_rule compare_rule lazy_rule cast_rule deref_rule borrow_rule field_rule assign_rule update_rule typed_bodies typed_program signature_of run_rule let_rule let_nothing block_with block_without is_large limit depth
row_18 = refl

-- fn f(x: Box<u8>) -> u8 { *x + *Box::new(3u8) }
row_19 : typed_program (record { types = []; functions = ((record { name = (102 ∷ []); span = (sp 3 4); lifetimes = []; type_params = []; params = ((w.boxed (sp 8 15) (w.int (sp 12 14) U8)) ∷ []); result = (Some (w.int (sp 20 22) U8)); variables = ((record { name = (120 ∷ []); span = (sp 5 6); mutable = false; late = false }) ∷ []); body = (e.block (sp 23 46) e.no_stmts (e.some_maybeexpr (e.binary (sp 25 44) B.Add (e.deref (sp 25 27) (e.variable (sp 26 27) 0)) (e.deref (sp 30 44) (e.call (sp 31 44) (e.builtin_of BoxNew) w.no_turbo (e.more_exprs (e.number (sp 40 43) false 3 (p.some_suffix U8)) e.no_exprs)))))) }) ∷ []) }) ≡ Ok (record { decls = []; functions = ((record { name = (102 ∷ []); span = (sp 3 4); lifetimes = []; type_params = []; sig = (record { type_params = 0; regions = 0; params = ((t.boxed (t.int U8)) ∷ []); result = (t.int U8) }); variables = ((120 ∷ []) ∷ []); types = ((t.boxed (t.int U8)) ∷ []); body = (s.block (t.int U8) false (sp 23 46) s.no_stmts (s.some_maybevalue (s.value (t.int U8) false (sp 25 44) (s.binary B.Add (s.value (t.int U8) false (sp 25 27) (s.use_of (s.unbox (s.variable 0)) true)) (s.value (t.int U8) false (sp 30 44) (s.unbox_of (s.value (t.boxed (t.int U8)) false (sp 31 44) (s.call (s.builtin_of BoxNew) (t.more_tys (t.int U8) t.no_tys) (s.more_values (s.value (t.int U8) false (sp 40 43) (s.number (nu U8 (pos 3)))) s.no_values))) true)))))) }) ∷ []) })
unfolding argument bound scrutinee branch_rule select_rule call_rule is_covered declared_types literal loop_rule give_rule give_nothing leave_rule leave_nothing go_on_rule number_rule variable_rule tuple_rule minus_rule negation_rule operands binary_rule compare_rule lazy_rule cast_rule deref_rule borrow_rule field_rule assign_rule update_rule typed_bodies typed_program signature_of run_rule let_rule let_nothing block_with block_without is_large limit depth
row_19 = refl

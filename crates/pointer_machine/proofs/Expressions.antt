-- An expression on the machine comes to what it means without memory.
use Rattle.std.proofs.Common.{◌≡◌, ℕ, ◌+◌, ◌≤◌, List, [], ◌∷◌, ◌++◌, length, map, refl, sym, subst, subst₂, ◌∙◌, arith, length-append}
use Rattle.std.proofs.lemmas.List.{map_push}
use Rattle.std.specs.Prelude.{slice_get, Option, Some}
use Rattle.aen_base.specs.declared.span.Span.{Span}
use Rattle.aen_base.specs.declared.operators.BinOp.{BinOp}
use Rattle.aen_base.specs.declared.operators.BinOp.TheVariants.{Add}
use Rattle.aen_base.specs.Numbers.{Number}
use Rattle.sums_ast.specs.Tree.{Expr, number, variable, binary, call, Exprs, no_exprs, more_exprs, exprs_list}
use Rattle.sums_ast.specs.declared.function.Function.{Function}
use Rattle.source_meaning.specs.Memory.{MTree, num, Memory}
use Rattle.source_meaning.specs.Machine as m
use Rattle.source_meaning.specs.Machine.{Ran, run, run_all, found}
use Rattle.source_meaning.specs.Typing.{IsTypedExpr, AreTypedExprs}
use Rattle.source_meaning.specs.FrameLemmas.{frame, frame_more}
use Rattle.pointer_machine.specs.Values as v
use Rattle.pointer_machine.specs.Values.{Valued, value, values, known, and_then, operate}
use Rattle.pointer_machine.proofs.Places.{get_within}
use Rattle.pointer_machine.proofs.Frames.{whole_memory, variable_read, cells}
use Rattle.pointer_machine.proofs.Ends.{Ends, ends_then, ends_as, sum_ends, AreU32, u32_at, u32_push}

-- all calls of these functions with their number of arguments come to the same
pub record SameCalls (functions : List Function) (c : m.Call) (d : v.Call) : Type 0 where
  pub each : (s : Span) (k : ℕ) (f : Function) (ns : List Number) (m0 : Memory) → slice_get functions k ≡ Some f → AreU32 ns → length ns ≡ f.parameters →
      Ends (λ new. m0 ++ new) (c s k (map num ns) m0) (d s k ns)

module _ (functions : List Function) (c : m.Call) (d : v.Call) (same : SameCalls functions c d)
    (earlier : List Function) (known_ : (j : ℕ) (g : Function) → slice_get earlier j ≡ Some g → slice_get functions j ≡ Some g)
    (old : Memory) (variables : List (List ℕ)) (vars : List Number) (typed : AreU32 vars) (within : length vars ≤ length variables) where
  abbrev here : Memory → Memory
  here = whole_memory old variables vars

  mutual
    pub ends : (e : Expr) (above : Memory) → IsTypedExpr earlier (length vars) e →
        Ends (whole_memory old variables vars) (run c (frame old variables) e (whole_memory old variables vars above)) (value d vars e)
    ends (number s n) above u = (n, (above, (refl, refl, refl, u)))
    ends (variable s k) above lt =
        let (n, is) = get_within vars k lt in
        subst₂ (λ (o : Option MTree) (q : Option Number). Ends here (found s (here above) o) (known s q))
        (sym (variable_read old variables vars above k n within is)) (sym is)
        (n, (above, (refl, refl, refl, u32_at vars k n typed is)))
    ends (binary s op a b) above (is, ta, tb) =
        subst (λ (o : BinOp). Ends here (run c (frame old variables) (binary s o a b) (here above)) (value d vars (binary s o a b))) (sym is)
        (ends_then here here (run c (frame old variables) a (here above)) (value d vars a) _ (λ x. and_then (value d vars b) (λ y. operate s Add x y)) (ends a above ta)
        (λ x above1 ux. ends_then here here (run c (frame old variables) b (here above1)) (value d vars b) _ (λ y. operate s Add x y) (ends b above1 tb)
        (λ y above2 uy. sum_ends here above2 s x y ux uy)))
    ends (call s f args) above (callee, ts) =
        all_end args above ts [] tt (c s f) (d s f)
        (λ ns above1 us count.
        let total : length ns ≡ length (exprs_list args) = omega arith in
        ends_as (λ (new : Memory). here above1 ++ new) here (c s f (map num ns) (here above1)) (d s f ns)
        (λ new. (above1 ++ new, frame_more old variables (cells variables vars) above1 new))
        (same.each s f callee.callee ns (here above1) (known_ f callee.callee callee.found) us (total ∙ sym callee.arity)))

    pub all_end : (es : Exprs) (above : Memory) → AreTypedExprs earlier (length vars) es → (ns : List Number) → AreU32 ns →
        (f : List MTree → Memory → Ran) (g : List Number → Valued) →
        ((ms : List Number) (above1 : Memory) → AreU32 ms → length ms ≡ length ns + length (exprs_list es) →
        Ends (whole_memory old variables vars) (f (map num ms) (whole_memory old variables vars above1)) (g ms)) →
        Ends (whole_memory old variables vars) (run_all c (frame old variables) es (map num ns) (whole_memory old variables vars above) f) (values d vars es ns g)
    all_end no_exprs above ts ns us f g h = h ns above us (omega arith)
    all_end (more_exprs e es) above (t, ts) ns us f g h =
        ends_then here here (run c (frame old variables) e (here above)) (value d vars e) _ (λ n. values d vars es (ns ++ n ∷ []) g) (ends e above t)
        (λ n above1 u.
        subst (λ (l : List MTree). Ends here (run_all c (frame old variables) es l (here above1) f) (values d vars es (ns ++ n ∷ []) g)) (map_push num ns n)
        (all_end es above1 ts (ns ++ n ∷ []) (u32_push ns n us u) f g
        (λ ms above2 us2 count.
        let len = length-append ns (n ∷ []) in
        h ms above2 us2 (omega arith))))

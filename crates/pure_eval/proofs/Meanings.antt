-- Pending binds with one more, and those that get a failing answer.
use Rattle.std.proofs.Common.{◌≡◌, ℕ, zero, suc, ◌+◌, ◌-◌, arith, List, [], ◌∷◌, ◌++◌, reverse, append_assoc, add-one, refl, sym, ap}
use Rattle.std.specs.Prelude.{Some, None, slice_get}
use Rattle.std.proofs.lemmas.List.{reverse-append, reverse-reverse}
use Rattle.aen_base.specs.declared.operators.PanicKind.{PanicKind}
use Rattle.pure_ast.specs.Values.{PValue}
use Rattle.pure_ast.specs.declared.def.Def.{Def}
use Rattle.pure_ast.specs.declared.def.Defs.{Defs}
use Rattle.text_meaning.specs.declared.Answer.{Answer}
use Rattle.text_meaning.specs.declared.Answer.TheVariants as A
use Rattle.text_meaning.specs.Environment.{Environment, with_value, numbered}
use Rattle.text_meaning.specs.Evaluate.{then_do, evaluate, evaluate_empty, evaluate_more, code_answer}
use Rattle.pure_eval.specs.declared.frames.Frame.{Frame}
use Rattle.pure_eval.specs.Unwinding.{unwind, state_answer, with_taken, calls_at, arguments}

pub unwind_more : (defs : Defs) (frames : List Frame) (f : Frame) (a : Answer) →
    unwind defs (frames ++ f ∷ []) a ≡ unwind defs frames (then_do a (λ b. state_answer defs (with_taken f b)))
unwind_more defs [] f a = refl
unwind_more defs (x ∷ frames) f a = ap (λ (r : Answer). then_do r (λ b. state_answer defs (with_taken x b))) (unwind_more defs frames f a)

pub unwind_fail : (defs : Defs) (frames : List Frame) (kind : PanicKind) → unwind defs frames (A.Fail kind) ≡ A.Fail kind
unwind_fail defs [] kind = refl
unwind_fail defs (x ∷ frames) kind = ap (λ (r : Answer). then_do r (λ b. state_answer defs (with_taken x b))) (unwind_fail defs frames kind)

pub unwind_fuel : (defs : Defs) (frames : List Frame) → unwind defs frames A.OutOfFuel ≡ A.OutOfFuel
unwind_fuel defs [] = refl
unwind_fuel defs (x ∷ frames) = ap (λ (r : Answer). then_do r (λ b. state_answer defs (with_taken x b))) (unwind_fuel defs frames)

pub unwind_stuck : (defs : Defs) (frames : List Frame) → unwind defs frames A.Stuck ≡ A.Stuck
unwind_stuck defs [] = refl
unwind_stuck defs (x ∷ frames) = ap (λ (r : Answer). then_do r (λ b. state_answer defs (with_taken x b))) (unwind_stuck defs frames)

-- an answer that is not Ok is that of all
pub unwind_failed : (defs : Defs) (frames : List Frame) (a : Answer) → ((x : PValue) → a ≡ A.Ok x → ⊥) → unwind defs frames a ≡ a
unwind_failed defs frames (A.Ok x) n = absurd (n x refl)
unwind_failed defs frames (A.Fail kind) n = unwind_fail defs frames kind
unwind_failed defs frames A.OutOfFuel n = unwind_fuel defs frames
unwind_failed defs frames A.Stuck n = unwind_stuck defs frames

-- the next argument, where the values are left the other way round
pub numbered_next : (env : Environment) (k : ℕ) (left later : List PValue) (value : PValue) → left ≡ later ++ value ∷ [] →
    env ++ numbered k (reverse left) ≡ with_value env k value ++ numbered (k + 1) (reverse later)
numbered_next env k left later value e =
    rw (e, reverse-append later (value ∷ []), add-one) (sym (append_assoc env ((k, value) ∷ []) (numbered (suc k) (reverse later))))

pub numbered_all : (env : Environment) (k : ℕ) (left values : List PValue) → left ≡ reverse values → env ++ numbered k (reverse left) ≡ env ++ numbered k values
numbered_all env k left values e = rw (e, reverse-reverse values) refl

-- a call of no definition, without fuel, and with fuel
pub call_of_none : (defs : Defs) (d : ℕ) (values : List PValue) (n : ℕ) → slice_get defs.defs d ≡ None → evaluate defs d values n ≡ A.Stuck
call_of_none defs d values zero p = rw (evaluate_empty defs d values, p) refl
call_of_none defs d values (suc n) p = rw (evaluate_more defs d values n, p) refl

pub call_empty : (defs : Defs) (d : ℕ) (values : List PValue) (n : ℕ) (def : Def) → slice_get defs.defs d ≡ Some def → n ≡ 0 →
    evaluate defs d values n ≡ A.OutOfFuel
call_empty defs d values n def p z = rw (z, evaluate_empty defs d values, p) refl

pub call_enters : (defs : Defs) (d : ℕ) (values : List PValue) (n : ℕ) (def : Def) → slice_get defs.defs d ≡ Some def → (n ≡ 0 → ⊥) →
    evaluate defs d values n ≡ code_answer (calls_at defs (n - 1)) (arguments values) def.code
call_enters defs d values zero def p h = absurd (h refl)
call_enters defs d values (suc n) def p h =
    let one : suc n - 1 ≡ n = omega arith in
    rw (one, evaluate_more defs d values n, p) refl

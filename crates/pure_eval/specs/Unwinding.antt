-- What the pending work of the evaluator comes to (TEXT.md, "Meaning").
use Rattle.std.specs.Prelude.{ℕ, List, [], ◌∷◌, ◌++◌, Option, Some, None}
use Rattle.pure_ast.specs.Code.{Code}
use Rattle.pure_ast.specs.Values.{PValue}
use Rattle.pure_ast.specs.declared.def.Defs.{Defs}
use Rattle.pure_ast.specs.declared.pat.Pat.{Pat}
use Rattle.text_meaning.specs.declared.Answer.{Answer}
use Rattle.text_meaning.specs.declared.Answer.TheVariants as A
use Rattle.text_meaning.specs.Environment.{Environment, with_value}
use Rattle.text_meaning.specs.Evaluate.{Calls, or_stuck, then_do, code_answer, evaluate}
use Rattle.text_meaning.specs.Patterns.{fits}
use Rattle.pure_eval.specs.declared.computation.Ran.{Ran}
use Rattle.pure_eval.specs.declared.computation.Ran.TheVariants as R
use Rattle.pure_eval.specs.declared.frames.State.{State}
use Rattle.pure_eval.specs.declared.frames.Frame.{Frame}
use Rattle.pure_eval.specs.declared.frames.Turn.{Turn}
use Rattle.pure_eval.specs.declared.frames.Turn.TheVariants as T
pub use Rattle.text_meaning.specs.Environment.{arguments}

-- an arm's answer, or Stuck without one
abbrev pub chosen : Calls → Environment → PValue → Option (Pat × Code) → Answer
chosen calls env a None = A.Stuck
chosen calls env a (Some arm) = or_stuck (fits arm.0 a) (λ variables. code_answer calls (env ++ variables) arm.1)

-- the answer of a computation that ran up to its call
abbrev pub ran_answer : Calls → Ran → Answer
ran_answer calls (R.Answered a) = a
ran_answer calls (R.Calls d values) = calls d.0 values

-- the meaning of calls with some fuel
abbrev pub calls_at : Defs → ℕ → Calls
calls_at defs n = λ d values. evaluate defs d values n

-- the answer of code with its variables
abbrev pub state_answer : Defs → State → Answer
state_answer defs s = code_answer (calls_at defs s.fuel) s.variables s.code.now

-- the answer of what a turn leaves, without the pending binds
abbrev pub turn_answer : Defs → Turn → Answer
turn_answer defs (T.Go s) = state_answer defs s
turn_answer defs (T.Done a) = a

-- what a pending bind runs once it has its value
abbrev pub with_taken : Frame → PValue → State
with_taken f a = record { code = f.rest.code; variables = with_value f.rest.variables f.variable a; fuel = f.rest.fuel }

-- the answer of all pending binds, the newest last, where the newest one gets an answer
abbrev pub unwind : Defs → List Frame → Answer → Answer
unwind defs [] a = a
unwind defs (f ∷ frames) a = then_do (unwind defs frames a) (λ b. state_answer defs (with_taken f b))

-- the answer of all after a turn
abbrev pub goes : Defs → List Frame → Turn → Answer
goes defs frames (T.Go s) = unwind defs frames (state_answer defs s)
goes defs frames (T.Done a) = a

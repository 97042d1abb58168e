-- The meaning of a text's definitions (TEXT.md, "Meaning").
use Rattle.std.specs.Prelude.{◌≡◌, refl, ℕ, zero, suc, List, ◌++◌, Option, Some, None, slice_get}
use Rattle.aen_base.specs.declared.operators.PanicKind.TheVariants.{Explicit}
use Rattle.pure_ast.specs.declared.comp.Comp.{Comp}
use Rattle.pure_ast.specs.declared.comp.Comp.TheVariants as C
use Rattle.pure_ast.specs.declared.def.Def.{Def}
use Rattle.pure_ast.specs.declared.def.Defs.{Defs}
use Rattle.pure_ast.specs.Terms.{terms}
use Rattle.pure_ast.specs.Values.{PValue}
use Rattle.pure_ast.specs.Code.{Code, bind, put, select, last, bind_select, Arms, no_arms, more_arms}
use Rattle.text_meaning.specs.declared.Answer.{Answer}
use Rattle.text_meaning.specs.declared.Answer.TheVariants as A
use Rattle.text_meaning.specs.Environment.{Environment, with_value, arguments}
use Rattle.text_meaning.specs.Terms.{term_value, term_values}
use Rattle.text_meaning.specs.Patterns.{fits}
use Rattle.text_meaning.specs.Primitives.{primitive}

-- what the definitions give on arguments, by number: the meaning of calls
abbrev pub Calls : Type 0
Calls = ℕ → List PValue → Answer

-- an answer from what a term or terms give; Stuck where they give nothing
abbrev pub or_stuck : {A : Type 0} → Option A → (A → Answer) → Answer
or_stuck None f = A.Stuck
or_stuck (Some a) f = f a

-- a bind: an answer that is not Ok is the answer of the whole
abbrev pub then_do : Answer → (PValue → Answer) → Answer
then_do (A.Ok a) f = f a
then_do (A.Fail kind) f = A.Fail kind
then_do A.OutOfFuel f = A.OutOfFuel
then_do A.Stuck f = A.Stuck

-- parts are looked at before the call or primitive
abbrev pub comp_answer : Calls → Environment → Comp → Answer
comp_answer calls env (C.Ok t) = or_stuck (term_value env t) A.Ok
comp_answer calls env C.Fail = A.Fail Explicit
comp_answer calls env (C.Call d parts) = or_stuck (term_values env (terms parts)) (calls d.0)
comp_answer calls env (C.Prim p parts) = or_stuck (term_values env (terms parts)) (primitive p)

-- the first arm whose pattern fits: its own code where it does, else what the other arms give
abbrev pub arm_taken : Option Environment → (Environment → Answer) → Answer → Answer
arm_taken None code others = others
arm_taken (Some variables) code others = code variables

abbrev mutual
  pub code_answer : Calls → Environment → Code → Answer
  code_answer calls env (bind v c rest) =
      then_do (comp_answer calls env c) (λ a. code_answer calls (with_value env v a) rest)
  code_answer calls env (put v t rest) =
      or_stuck (term_value env t) (λ a. code_answer calls (with_value env v a) rest)
  code_answer calls env (select t arms) = or_stuck (term_value env t) (λ a. arms_answer calls env arms a)
  code_answer calls env (last c) = comp_answer calls env c
  code_answer calls env (bind_select v t arms rest) =
      then_do (or_stuck (term_value env t) (λ a. arms_answer calls env arms a))
      (λ b. code_answer calls (with_value env v b) rest)

  pub arms_answer : Calls → Environment → Arms → PValue → Answer
  arms_answer calls env no_arms a = A.Stuck
  arms_answer calls env (more_arms p c rest) a =
      arm_taken (fits p a) (λ variables. code_answer calls (env ++ variables) c) (arms_answer calls env rest a)

-- a definition's code on its arguments; Stuck where there is no definition
abbrev pub entered : Calls → Option Def → List PValue → Answer
entered calls None values = A.Stuck
entered calls (Some d) values = code_answer calls (arguments values) d.code

-- a definition without fuel
abbrev pub without_fuel : Option Def → Answer
without_fuel None = A.Stuck
without_fuel (Some d) = A.OutOfFuel

-- the definition of this number on arguments with fuel n
unfoldable pub evaluate : Defs → ℕ → List PValue → ℕ → Answer
evaluate defs d values zero = without_fuel (slice_get defs.defs d)
evaluate defs d values (suc n) = entered (λ e parts. evaluate defs e parts n) (slice_get defs.defs d) values

-- the two cases of fuel, for proofs above
pub evaluate_empty : (defs : Defs) (d : ℕ) (values : List PValue) →
    evaluate defs d values zero ≡ without_fuel (slice_get defs.defs d)
unfolding evaluate
evaluate_empty defs d values = refl

pub evaluate_more : (defs : Defs) (d : ℕ) (values : List PValue) (n : ℕ) →
    evaluate defs d values (suc n) ≡ entered (λ e parts. evaluate defs e parts n) (slice_get defs.defs d) values
unfolding evaluate
evaluate_more defs d values n = refl

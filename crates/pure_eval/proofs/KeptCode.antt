-- The answer of well-formed code is an atom, where calls give atoms and the variables' values are.
use Rattle.std.proofs.Common.{ℕ, List, ◌++◌, Option, Some, None, IfSome}
use Rattle.pure_ast.specs.declared.comp.Comp.{Comp}
use Rattle.pure_ast.specs.declared.comp.Comp.TheVariants as C
use Rattle.pure_ast.specs.declared.def.Defs.{Defs}
use Rattle.pure_ast.specs.Code.{Code, bind, put, select, last, bind_select, Arms, no_arms, more_arms}
use Rattle.pure_ast.specs.Terms.{terms}
use Rattle.pure_ast.specs.Values.{PValue}
use Rattle.text_meaning.specs.declared.Answer.{Answer}
use Rattle.text_meaning.specs.declared.Answer.TheVariants as A
use Rattle.text_meaning.specs.Atoms.{IsAtom}
use Rattle.text_meaning.specs.Environment.{Environment, with_value}
use Rattle.text_meaning.specs.Evaluate.{Calls, comp_answer, arm_taken, code_answer, arms_answer}
use Rattle.text_meaning.specs.Lists.{Each}
use Rattle.text_meaning.specs.Patterns.{fits}
use Rattle.text_meaning.specs.Primitives.{primitive}
use Rattle.text_meaning.specs.Terms.{term_value, term_values}
use Rattle.text_meaning.specs.WellFormedCode.{IsCode, AreArms}
use Rattle.text_meaning.specs.WellFormedTerms.{IsComp}
use Rattle.pure_eval.proofs.Kept.{GivesAtom, HoldsAtoms, each_append, or_stuck_gives, then_do_gives, with_atom}
use Rattle.pure_eval.proofs.KeptPatterns.{fits_atoms}
use Rattle.pure_eval.proofs.KeptPrimitives.{primitive_atom}
use Rattle.pure_eval.proofs.KeptTerms.{term_atom, values_atoms}

-- calls on atoms give atoms
abbrev pub KeepAtoms : Defs → Calls → Type 0
KeepAtoms d calls = (k : ℕ) (values : List PValue) → Each (IsAtom d) values → GivesAtom d (calls k values)

taken_atom : (d : Defs) (o : Option Environment) (f : Environment → Answer) (others : Answer) → IfSome o (HoldsAtoms d) →
    ((more : Environment) → HoldsAtoms d more → GivesAtom d (f more)) → GivesAtom d others → GivesAtom d (arm_taken o f others)
taken_atom d None f others h g e = e
taken_atom d (Some more) f others h g e = g more h

module _ (d : Defs) (calls : Calls) (keep : KeepAtoms d calls) where
  comp_atom : (c : Comp) (env : Environment) → HoldsAtoms d env → IsComp d c → GivesAtom d (comp_answer calls env c)
  comp_atom (C.Ok t) env e h = or_stuck_gives d (IsAtom d) (term_value env t) A.Ok (term_atom d env t e h) (λ a g. g)
  comp_atom C.Fail env e h = tt
  comp_atom (C.Call k parts) env e h =
      or_stuck_gives d (Each (IsAtom d)) (term_values env (terms parts)) (calls k.0) (values_atoms d env (terms parts) e h.1) (keep k.0)
  comp_atom (C.Prim p parts) env e h =
      or_stuck_gives d (Each (IsAtom d)) (term_values env (terms parts)) (primitive p) (values_atoms d env (terms parts) e h.2) (primitive_atom d p)

  mutual
    pub code_atom : (code : Code) (env : Environment) → HoldsAtoms d env → IsCode d code → GivesAtom d (code_answer calls env code)
    code_atom (bind v c rest) env e h =
        then_do_gives d (comp_answer calls env c) (λ a. code_answer calls (with_value env v a) rest) (comp_atom c env e h.1)
        (λ a g. code_atom rest (with_value env v a) (with_atom d env v a e g) h.2)
    code_atom (put v t rest) env e h =
        or_stuck_gives d (IsAtom d) (term_value env t) (λ a. code_answer calls (with_value env v a) rest) (term_atom d env t e h.1)
        (λ a g. code_atom rest (with_value env v a) (with_atom d env v a e g) h.2)
    code_atom (select t arms) env e h =
        or_stuck_gives d (IsAtom d) (term_value env t) (λ a. arms_answer calls env arms a) (term_atom d env t e h.0)
        (λ a g. arms_atom arms env a e g h.1)
    code_atom (last c) env e h = comp_atom c env e h
    code_atom (bind_select v t arms rest) env e h = absurd h

    arms_atom : (arms : Arms) (env : Environment) (a : PValue) → HoldsAtoms d env → IsAtom d a → AreArms d arms → GivesAtom d (arms_answer calls env arms a)
    arms_atom no_arms env a e g h = tt
    arms_atom (more_arms p c rest) env a e g h =
        taken_atom d (fits p a) (λ more. code_answer calls (env ++ more) c) (arms_answer calls env rest a) (fits_atoms d p a g)
        (λ more i. code_atom c (env ++ more) (each_append (λ x. IsAtom d x.1) env more e i) h.1)
        (arms_atom rest env a e g h.2)

-- Answers and environments whose values are atoms.
use Rattle.std.proofs.Common.{◌≡◌, ℕ, zero, suc, List, [], ◌∷◌, ◌++◌, Option, Some, None, IfSome, length, subst, refl, ap}
use Rattle.std.specs.Prelude.{slice_get}
use Rattle.std.specs.Option.{option_map}
use Rattle.pure_ast.specs.declared.def.Defs.{Defs}
use Rattle.pure_ast.specs.Terms.{terms_list}
use Rattle.pure_ast.specs.Values.{PValue, PValues, no_pvalues, more_pvalues, pvalues, pvalues_list}
use Rattle.text_meaning.specs.declared.Answer.{Answer}
use Rattle.text_meaning.specs.declared.Answer.TheVariants as A
use Rattle.text_meaning.specs.Atoms.{IsAtom}
use Rattle.text_meaning.specs.Environment.{Environment, numbered, with_value}
use Rattle.text_meaning.specs.Evaluate.{or_stuck, then_do}
use Rattle.text_meaning.specs.Lists.{Each}
use Rattle.text_meaning.specs.ValueTerms.{value_terms}
use Rattle.text_meaning.specs.WellFormedTerms.{AreTerms}

-- an answer that, where it is a value, is an atom
abbrev pub GivesAtom : Defs → Answer → Type 0
GivesAtom d (A.Ok a) = IsAtom d a
GivesAtom d (A.Fail kind) = Unit {0}
GivesAtom d A.OutOfFuel = Unit {0}
GivesAtom d A.Stuck = Unit {0}

-- variables whose values are atoms
abbrev pub HoldsAtoms : Defs → Environment → Type 0
HoldsAtoms d env = Each (λ e. IsAtom d e.1) env

-- what holds of each item holds of one of them
pub each_at : {A : Type 0} (P : A → Type 0) (xs : List A) (k : ℕ) (x : A) → Each P xs → slice_get xs k ≡ Some x → P x
each_at P [] k x h e = absurd cc
each_at P (y ∷ ys) zero x h e = let q : y ≡ x = cc in subst P q h.0
each_at P (y ∷ ys) (suc k) x h e = each_at P ys k x h.1 e

pub each_append : {A : Type 0} (P : A → Type 0) (xs ys : List A) → Each P xs → Each P ys → Each P (xs ++ ys)
each_append P [] ys h g = g
each_append P (x ∷ xs) ys h g = (h.0, each_append P xs ys h.1 g)

-- what holds of the value there may be
pub some_map : {A B : Type 0} (P : A → Type 0) (Q : B → Type 0) (f : A → B) (o : Option A) → IfSome o P →
    ((x : A) → P x → Q (f x)) → IfSome (option_map f o) Q
some_map P Q f None h g = tt
some_map P Q f (Some x) h g = g x h

pub or_stuck_gives : {A : Type 0} (d : Defs) (P : A → Type 0) (o : Option A) (f : A → Answer) → IfSome o P →
    ((x : A) → P x → GivesAtom d (f x)) → GivesAtom d (or_stuck o f)
or_stuck_gives d P None f h g = tt
or_stuck_gives d P (Some x) f h g = g x h

pub then_do_gives : (d : Defs) (a : Answer) (f : PValue → Answer) → GivesAtom d a →
    ((x : PValue) → IsAtom d x → GivesAtom d (f x)) → GivesAtom d (then_do a f)
then_do_gives d (A.Ok x) f h g = g x h
then_do_gives d (A.Fail kind) f h g = tt
then_do_gives d A.OutOfFuel f h g = tt
then_do_gives d A.Stuck f h g = tt

-- the terms of atoms are well-formed, and the parts of a well-formed term are atoms
pub atoms_are : (d : Defs) (values : List PValue) → Each (IsAtom d) values → AreTerms d (value_terms (pvalues values))
atoms_are d [] h = tt
atoms_are d (a ∷ values) h = (h.0, atoms_are d values h.1)

pub parts_are : (d : Defs) (parts : PValues) → AreTerms d (value_terms parts) → Each (IsAtom d) (pvalues_list parts)
parts_are d no_pvalues h = tt
parts_are d (more_pvalues a rest) h = (h.0, parts_are d rest h.1)

-- as many terms as values
pub terms_count : (values : List PValue) → length (terms_list (value_terms (pvalues values))) ≡ length values
terms_count [] = refl
terms_count (a ∷ values) = ap suc (terms_count values)

-- variables with one more, and those of arguments
pub with_atom : (d : Defs) (env : Environment) (v : ℕ) (a : PValue) → HoldsAtoms d env → IsAtom d a → HoldsAtoms d (with_value env v a)
with_atom d env v a h g = each_append (λ e. IsAtom d e.1) env ((v, a) ∷ []) h (g, tt)

pub numbered_atoms : (d : Defs) (k : ℕ) (values : List PValue) → Each (IsAtom d) values → HoldsAtoms d (numbered k values)
numbered_atoms d k [] h = tt
numbered_atoms d k (a ∷ values) h = (h.0, numbered_atoms d (suc k) values h.1)

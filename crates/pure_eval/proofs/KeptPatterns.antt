-- The variables of a pattern that fits an atom are atoms.
use Rattle.std.proofs.Common.{ℕ, Bool, true, false, List, [], ◌∷◌, Option, Some, None, IfSome}
use Rattle.std.specs.Prelude.{if◌then◌else◌}
use Rattle.pure_ast.specs.declared.def.Defs.{Defs}
use Rattle.pure_ast.specs.declared.pat.Pat.{Pat}
use Rattle.pure_ast.specs.declared.pat.Pat.TheVariants as P
use Rattle.pure_ast.specs.Values as v
use Rattle.pure_ast.specs.Values.{PValue, pvalues_list}
use Rattle.text_meaning.specs.Atoms.{IsAtom}
use Rattle.text_meaning.specs.Lists.{Each}
use Rattle.text_meaning.specs.Patterns.{bound, fits, same_ctor, same_truth}
use Rattle.pure_eval.proofs.Kept.{HoldsAtoms, some_map, parts_are}

bound_atoms : (d : Defs) (variables : List ℕ) (parts : List PValue) → Each (IsAtom d) parts → IfSome (bound variables parts) (HoldsAtoms d)
bound_atoms d [] [] h = tt
bound_atoms d [] (a ∷ parts) h = tt
bound_atoms d (x ∷ variables) [] h = tt
bound_atoms d (x ∷ variables) (a ∷ parts) h =
    some_map (HoldsAtoms d) (HoldsAtoms d) (λ env. (x, a) ∷ env) (bound variables parts) (bound_atoms d variables parts h.1) (λ env g. (h.0, g))

-- where a test was passed
by_test : {A : Type 0} (P : A → Type 0) (test : Bool) (o : Option A) → IfSome o P → IfSome (if test then o else None) P
by_test P true o h = h
by_test P false o h = tt

pub fits_atoms : (d : Defs) (p : Pat) (a : PValue) → IsAtom d a → IfSome (fits p a) (HoldsAtoms d)
fits_atoms d (P.Bool b) (v.truth c) h = by_test (HoldsAtoms d) (same_truth b c) (Some []) tt
fits_atoms d (P.Tuple variables) (v.tuple parts) h = bound_atoms d variables (pvalues_list parts) (parts_are d parts h.1)
fits_atoms d (P.Ctor c variables) (v.built e parts) h =
    by_test (HoldsAtoms d) (same_ctor c e) (bound variables (pvalues_list parts)) (bound_atoms d variables (pvalues_list parts) (parts_are d parts h.1))
fits_atoms d _ _ h = tt

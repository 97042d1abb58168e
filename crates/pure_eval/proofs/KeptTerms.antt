-- The value of a well-formed term is an atom, where the variables' values are.
use Rattle.std.proofs.Common.{◌≡◌, ℕ, suc, Bool, true, false, List, [], ◌∷◌, Option, Some, None, IfSome, length, refl, sym, ap, ◌∙◌}
use Rattle.std.specs.Prelude.{if◌then◌else◌, ◌==◌}
use Rattle.std.specs.Option.{option_map, option_and_then, option_or}
use Rattle.pure_ast.specs.declared.ctor.CtorId.{CtorId}
use Rattle.pure_ast.specs.declared.def.Defs.{Defs}
use Rattle.pure_ast.specs.Terms as t
use Rattle.pure_ast.specs.Terms.{Term, Terms, terms_list}
use Rattle.pure_ast.specs.Values as v
use Rattle.pure_ast.specs.Values.{PValue, pvalues}
use Rattle.text_meaning.specs.Atoms.{IsAtom}
use Rattle.text_meaning.specs.Environment.{Environment, lookup}
use Rattle.text_meaning.specs.Lists.{Each}
use Rattle.text_meaning.specs.Lookups.{parts_of}
use Rattle.text_meaning.specs.Terms.{term_value, term_values}
use Rattle.text_meaning.specs.WellFormedTerms.{IsTerm, AreTerms}
use Rattle.pure_eval.proofs.Kept.{HoldsAtoms, some_map, atoms_are, terms_count}

-- the newest value of a variable
newer_or : {A : Type 0} (P : A → Type 0) (o : Option A) (test : Bool) (a : A) → IfSome o P → P a →
    IfSome (option_or o (if test then Some a else None)) P
newer_or P (Some x) test a h g = h
newer_or P None true a h g = g
newer_or P None false a h g = tt

lookup_atom : (d : Defs) (env : Environment) (x : ℕ) → HoldsAtoms d env → IfSome (lookup env x) (IsAtom d)
lookup_atom d [] x h = tt
lookup_atom d (e ∷ env) x h = newer_or (IsAtom d) (lookup env x) (e.0 == x) e.1 (lookup_atom d env x h.1) h.0

-- the values of so many terms
abbrev AreValues : Defs → Terms → List PValue → Type 0
AreValues d parts values = Each (IsAtom d) values × (length values ≡ length (terms_list parts))

more_values : (d : Defs) (x : Term) (rest : Terms) (o : Option PValue) (os : Option (List PValue)) →
    IfSome o (IsAtom d) → IfSome os (AreValues d rest) →
    IfSome (option_and_then (λ value. option_map (λ values. value ∷ values) os) o) (AreValues d (t.more_terms x rest))
more_values d x rest None os h g = tt
more_values d x rest (Some a) None h g = tt
more_values d x rest (Some a) (Some values) h g = ((h, g.0), ap suc g.1)

tuple_atom : (d : Defs) (parts : Terms) (values : List PValue) → (length (terms_list parts) ≡ 1 → ⊥) → AreValues d parts values →
    IsAtom d (v.tuple (pvalues values))
tuple_atom d parts values h g = ((λ e. h (sym g.1 ∙ sym (terms_count values) ∙ e)), atoms_are d values g.0)

built_atom : (d : Defs) (c : CtorId) (parts : Terms) (values : List PValue) → parts_of d c ≡ Some (length (terms_list parts)) → AreValues d parts values →
    IsAtom d (v.built c (pvalues values))
built_atom d c parts values h g = (h ∙ ap Some (sym g.1 ∙ sym (terms_count values)), atoms_are d values g.0)

mutual
  pub term_atom : (d : Defs) (env : Environment) (x : Term) → HoldsAtoms d env → IsTerm d x → IfSome (term_value env x) (IsAtom d)
  term_atom d env (t.var w) e h = lookup_atom d env w e
  term_atom d env (t.literal n) e h = h
  term_atom d env (t.truth b) e h = tt
  term_atom d env (t.tuple parts) e h =
      some_map (AreValues d parts) (IsAtom d) (λ values. v.tuple (pvalues values)) (term_values env parts) (terms_atoms d env parts e h.1)
      (λ values g. tuple_atom d parts values h.0 g)
  term_atom d env (t.built c parts) e h =
      some_map (AreValues d parts) (IsAtom d) (λ values. v.built c (pvalues values)) (term_values env parts) (terms_atoms d env parts e h.1)
      (λ values g. built_atom d c parts values h.0 g)

  terms_atoms : (d : Defs) (env : Environment) (parts : Terms) → HoldsAtoms d env → AreTerms d parts → IfSome (term_values env parts) (AreValues d parts)
  terms_atoms d env t.no_terms e h = (tt, refl)
  terms_atoms d env (t.more_terms x rest) e h =
      more_values d x rest (term_value env x) (term_values env rest) (term_atom d env x e h.0) (terms_atoms d env rest e h.1)

-- the values of terms
only_atoms : (d : Defs) (parts : Terms) (o : Option (List PValue)) → IfSome o (AreValues d parts) → IfSome o (Each (IsAtom d))
only_atoms d parts None h = tt
only_atoms d parts (Some values) h = h.0

pub values_atoms : (d : Defs) (env : Environment) (parts : Terms) → HoldsAtoms d env → AreTerms d parts → IfSome (term_values env parts) (Each (IsAtom d))
values_atoms d env parts e h = only_atoms d parts (term_values env parts) (terms_atoms d env parts e h)

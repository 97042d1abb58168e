-- Scoped definitions: each variable stands where it is bound, and none is bound twice on the way to
-- any place (TEXT.md, "Scope").
use Rattle.std.specs.Prelude.{◌≡◌, ℕ, suc, Bool, true, false, ◌==◌, List, [], ◌∷◌, ◌++◌}
use Rattle.std.specs.List.{list_any}
use Rattle.pure_ast.specs.declared.comp.Comp.{Comp}
use Rattle.pure_ast.specs.declared.comp.Comp.TheVariants as C
use Rattle.pure_ast.specs.declared.def.Defs.{Defs}
use Rattle.pure_ast.specs.declared.pat.Pat.{Pat}
use Rattle.pure_ast.specs.declared.pat.Pat.TheVariants as P
use Rattle.pure_ast.specs.Code.{Code, Arms, bind, put, select, last, bind_select, no_arms, more_arms}
use Rattle.pure_ast.specs.Terms.{Term, Terms, var, literal, truth, tuple, built, no_terms, more_terms, terms}
use Rattle.pure_ast.specs.Types.{PTy}
use Rattle.text_meaning.specs.Lists.{Each, Differ}

-- whether a variable is one of those that are bound
abbrev pub is_bound : List ℕ → ℕ → Bool
is_bound bound v = list_any (λ w. v == w) bound

abbrev mutual
  pub IsTermScoped : List ℕ → Term → Type 0
  IsTermScoped bound (var v) = is_bound bound v ≡ true
  IsTermScoped bound (literal n) = Unit {0}
  IsTermScoped bound (truth b) = Unit {0}
  IsTermScoped bound (tuple parts) = AreTermsScoped bound parts
  IsTermScoped bound (built c parts) = AreTermsScoped bound parts

  pub AreTermsScoped : List ℕ → Terms → Type 0
  AreTermsScoped bound no_terms = Unit {0}
  AreTermsScoped bound (more_terms t rest) = IsTermScoped bound t × AreTermsScoped bound rest

abbrev pub IsCompScoped : List ℕ → Comp → Type 0
IsCompScoped bound (C.Ok t) = IsTermScoped bound t
IsCompScoped bound C.Fail = Unit {0}
IsCompScoped bound (C.Call d parts) = AreTermsScoped bound (terms parts)
IsCompScoped bound (C.Prim p parts) = AreTermsScoped bound (terms parts)

-- the variables that a pattern binds
abbrev pub pattern_variables : Pat → List ℕ
pattern_variables (P.Bool b) = []
pattern_variables (P.Tuple variables) = variables
pattern_variables (P.Ctor c variables) = variables

-- variables that are bound together: none is bound already, and they differ
abbrev pub AreNew : List ℕ → List ℕ → Type 0
AreNew bound variables = Each (λ v. is_bound bound v ≡ false) variables × Differ variables

abbrev mutual
  pub IsCodeScoped : List ℕ → Code → Type 0
  IsCodeScoped bound (bind v c rest) =
      IsCompScoped bound c × (is_bound bound v ≡ false) × IsCodeScoped (bound ++ v ∷ []) rest
  IsCodeScoped bound (put v t rest) =
      IsTermScoped bound t × (is_bound bound v ≡ false) × IsCodeScoped (bound ++ v ∷ []) rest
  IsCodeScoped bound (select t arms) = IsTermScoped bound t × AreArmsScoped bound arms
  IsCodeScoped bound (last c) = IsCompScoped bound c
  IsCodeScoped bound (bind_select v t arms rest) =
      IsTermScoped bound t × AreArmsScoped bound arms × (is_bound bound v ≡ false) × IsCodeScoped (bound ++ v ∷ []) rest

  pub AreArmsScoped : List ℕ → Arms → Type 0
  AreArmsScoped bound no_arms = Unit {0}
  AreArmsScoped bound (more_arms p c rest) =
      AreNew bound (pattern_variables p) × IsCodeScoped (bound ++ pattern_variables p) c × AreArmsScoped bound rest

-- the variables of parameters, numbered from k
abbrev pub parameter_variables : ℕ → List PTy → List ℕ
parameter_variables k [] = []
parameter_variables k (t ∷ rest) = k ∷ parameter_variables (suc k) rest

abbrev pub IsScoped : Defs → Type 0
IsScoped defs = Each (λ d. IsCodeScoped (parameter_variables 0 d.params) d.code) defs.defs

-- The tokens of terms, patterns and computations (TEXT.md, "Grammar"): `atom`, `pat`, `comp`.
use Rattle.std.specs.Prelude.{ℕ, Bool, true, false, List, [], ◌∷◌, ◌++◌, codes, map}
use Rattle.std.specs.List.{flat_map}
use Rattle.aen_base.specs.Numbers.{Number}
use Rattle.pure_ast.specs.declared.comp.Comp.{Comp}
use Rattle.pure_ast.specs.declared.comp.Comp.TheVariants as C
use Rattle.pure_ast.specs.declared.def.Defs.{Defs}
use Rattle.pure_ast.specs.declared.pat.Pat.{Pat}
use Rattle.pure_ast.specs.declared.pat.Pat.TheVariants as P
use Rattle.pure_ast.specs.Terms.{Term, Terms, var, literal, truth, tuple, built, no_terms, more_terms, terms}
use Rattle.text_meaning.specs.declared.mark.Mark.TheVariants.{Open, Close, Unit, Comma, Hash}
use Rattle.text_meaning.specs.SpelledNames.{var_token, ctor_tokens, callee_tokens, prim_tokens}
use Rattle.text_meaning.specs.Tokens.{Token, word, number, mark}
use Rattle.text_meaning.specs.Words.{int_word}

abbrev pub truth_tokens : Bool → List Token
truth_tokens true = word (codes "true") ∷ []
truth_tokens false = word (codes "false") ∷ []

abbrev pub number_tokens : Number → List Token
number_tokens n = number n.value ∷ mark Hash ∷ word (int_word n.ty) ∷ []

abbrev mutual
  pub term_tokens : Defs → Term → List Token
  term_tokens defs (var v) = var_token v ∷ []
  term_tokens defs (literal n) = number_tokens n
  term_tokens defs (truth b) = truth_tokens b
  term_tokens defs (tuple no_terms) = mark Unit ∷ []
  term_tokens defs (tuple (more_terms t rest)) =
      mark Open ∷ (term_tokens defs t ++ (comma_tokens defs rest ++ mark Close ∷ []))
  term_tokens defs (built c no_terms) = ctor_tokens defs c
  term_tokens defs (built c (more_terms t rest)) =
      mark Open ∷ (ctor_tokens defs c ++ (term_tokens defs t ++ (terms_tokens defs rest ++ mark Close ∷ [])))

  -- terms one after another
  pub terms_tokens : Defs → Terms → List Token
  terms_tokens defs no_terms = []
  terms_tokens defs (more_terms t rest) = term_tokens defs t ++ terms_tokens defs rest

  -- terms with a comma before each
  pub comma_tokens : Defs → Terms → List Token
  comma_tokens defs no_terms = []
  comma_tokens defs (more_terms t rest) = mark Comma ∷ (term_tokens defs t ++ comma_tokens defs rest)

-- variables with commas between them
abbrev pub comma_variables : List ℕ → List Token
comma_variables [] = []
comma_variables (v ∷ rest) = var_token v ∷ flat_map (λ w. mark Comma ∷ var_token w ∷ []) rest

abbrev pub pat_tokens : Defs → Pat → List Token
pat_tokens defs (P.Bool b) = truth_tokens b
pat_tokens defs (P.Tuple variables) = mark Open ∷ (comma_variables variables ++ mark Close ∷ [])
pat_tokens defs (P.Ctor c variables) = ctor_tokens defs c ++ map var_token variables

abbrev pub comp_tokens : Defs → Comp → List Token
comp_tokens defs (C.Ok t) = word (codes "ok") ∷ term_tokens defs t
comp_tokens defs C.Fail = word (codes "fail") ∷ []
comp_tokens defs (C.Call d parts) = callee_tokens defs d.0 ++ word (codes "n") ∷ terms_tokens defs (terms parts)
comp_tokens defs (C.Prim p parts) = prim_tokens p ++ terms_tokens defs (terms parts)

-- The tokens of types (TEXT.md, "Grammar"): `aty`.
use Rattle.std.specs.Prelude.{ℕ, List, [], ◌∷◌, ◌++◌, codes}
use Rattle.pure_ast.specs.declared.def.Defs.{Defs}
use Rattle.pure_ast.specs.Types.{PTy, PTys, integer, boolean, unit, product, named, parameter, exit, no_ptys, more_ptys}
use Rattle.text_meaning.specs.declared.mark.Mark.TheVariants.{Open, Close, Times}
use Rattle.text_meaning.specs.Lookups.{type_name, parameter_name}
use Rattle.text_meaning.specs.Tokens.{Token, word, id, mark}
use Rattle.text_meaning.specs.Words.{int_word}

-- the names are those of the type parameters
abbrev mutual
  pub type_tokens : Defs → List (List ℕ) → PTy → List Token
  type_tokens defs names (integer t) = word (int_word t) ∷ []
  type_tokens defs names boolean = word (codes "Bool") ∷ []
  type_tokens defs names unit = word (codes "Unit") ∷ []
  type_tokens defs names (named t no_ptys) = id (type_name defs t) ∷ []
  type_tokens defs names (named t (more_ptys a rest)) =
      mark Open ∷ id (type_name defs t) ∷ (type_tokens defs names a ++ (types_tokens defs names rest ++ mark Close ∷ []))
  type_tokens defs names (parameter k) = id (parameter_name names k) ∷ []
  type_tokens defs names (exit a b) =
      mark Open ∷ word (codes "Exit") ∷ (type_tokens defs names a ++ (type_tokens defs names b ++ mark Close ∷ []))
  type_tokens defs names (product no_ptys) = mark Open ∷ mark Close ∷ []
  type_tokens defs names (product (more_ptys a rest)) =
      mark Open ∷ (type_tokens defs names a ++ (times_tokens defs names rest ++ mark Close ∷ []))

  -- types one after another
  pub types_tokens : Defs → List (List ℕ) → PTys → List Token
  types_tokens defs names no_ptys = []
  types_tokens defs names (more_ptys a rest) = type_tokens defs names a ++ types_tokens defs names rest

  -- types with `×` before each
  pub times_tokens : Defs → List (List ℕ) → PTys → List Token
  times_tokens defs names no_ptys = []
  times_tokens defs names (more_ptys a rest) = mark Times ∷ (type_tokens defs names a ++ times_tokens defs names rest)

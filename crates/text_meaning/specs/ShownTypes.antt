-- How types are laid out (TEXT.md, "Layout").
use Rattle.std.specs.Prelude.{ℕ, List, [], ◌∷◌, ◌++◌, codes}
use Rattle.pure_ast.specs.declared.def.Defs.{Defs}
use Rattle.pure_ast.specs.Types.{PTy, PTys, integer, boolean, unit, product, named, parameter, exit, no_ptys, more_ptys}
use Rattle.text_meaning.specs.Lookups.{type_name, parameter_name}
use Rattle.text_meaning.specs.ShownNames.{name_text}
use Rattle.text_meaning.specs.Words.{int_word}

-- ` × `
abbrev pub times : List ℕ
times = 32 ∷ 195 ∷ 151 ∷ 32 ∷ []

-- the names are those of the type parameters
abbrev mutual
  pub type_text : Defs → List (List ℕ) → PTy → List ℕ
  type_text defs names (integer t) = int_word t
  type_text defs names boolean = codes "Bool"
  type_text defs names unit = codes "Unit"
  type_text defs names (named t no_ptys) = name_text (type_name defs t)
  type_text defs names (named t (more_ptys a rest)) =
      codes "(" ++ (name_text (type_name defs t) ++ (codes " " ++ (type_text defs names a ++ (spaced_types defs names rest ++ codes ")"))))
  type_text defs names (parameter k) = name_text (parameter_name names k)
  type_text defs names (exit a b) =
      codes "(Exit " ++ (type_text defs names a ++ (codes " " ++ (type_text defs names b ++ codes ")")))
  type_text defs names (product no_ptys) = codes "( )"
  type_text defs names (product (more_ptys a rest)) =
      codes "(" ++ (type_text defs names a ++ (times_types defs names rest ++ codes ")"))

  -- types with a space before each
  pub spaced_types : Defs → List (List ℕ) → PTys → List ℕ
  spaced_types defs names no_ptys = []
  spaced_types defs names (more_ptys a rest) = codes " " ++ (type_text defs names a ++ spaced_types defs names rest)

  -- types with ` × ` before each
  pub times_types : Defs → List (List ℕ) → PTys → List ℕ
  times_types defs names no_ptys = []
  times_types defs names (more_ptys a rest) = times ++ (type_text defs names a ++ times_types defs names rest)

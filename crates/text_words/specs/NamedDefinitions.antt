-- The definition that a printed name stands for (TEXT.md, "Names").
use Rattle.std.specs.Prelude.{◌≡◌, ℕ, ◌<◌, List, slice_get, Some}
use Rattle.pure_ast.specs.declared.def.Def.{Def}
use Rattle.pure_ast.specs.declared.def.Defs.{Defs}
use Rattle.text_meaning.specs.ShownNames.{kind_text}

-- no definition with a number below n has this printed name
abbrev pub NoneNamed : Defs → List ℕ → ℕ → Type 0
NoneNamed defs name n = (j : ℕ) (d : Def) → j < n → slice_get defs.defs j ≡ Some d → kind_text defs d.kind ≡ name → ⊥

-- definition k is the first that has this printed name
pub record IsNamed (defs : Defs) (name : List ℕ) (k : ℕ) : Type 0 where
  pub definition : Def
  pub found : slice_get defs.defs k ≡ Some definition
  pub named : kind_text defs definition.kind ≡ name
  pub first : NoneNamed defs name k

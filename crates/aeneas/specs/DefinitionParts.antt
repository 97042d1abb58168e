-- The parts of DEF, found one after another.
use Rattle.std.specs.Prelude.{◌≡◌, ℕ, List, ◌++◌, codes}
use Rattle.aeneas.specs.DefinitionWord.{IsDefinitionWord}

-- these parts, and no other name
pub record IsOnly (word name : List ℕ) (pieces : List (List ℕ)) : Type 0 where
  pub parts : IsDefinitionWord word name pieces
  pub only : (other : List ℕ) (more : List (List ℕ)) → IsDefinitionWord word other more → other ≡ name

-- what stands after the name and its first colon
abbrev pub IsAfterName : List ℕ → List ℕ → Type 0
IsAfterName rest inner = rest ≡ codes ":<" ++ (inner ++ codes ">")

-- DEF: a definition's name, and the printed types of its type arguments (README.md, "The commands").
use Rattle.std.specs.Prelude.{◌≡◌, ℕ, true, not, ◌==◌, ◌⊎◌, List, [], ◌++◌, codes}
use Rattle.std.specs.List.{list_all, slice_split}

-- the byte does not stand in the text
abbrev pub Lacks : ℕ → List ℕ → Type 0
Lacks byte text = list_all (λ c. not (c == byte)) text ≡ true

-- the name alone
pub record IsNameAlone (word name : List ℕ) (pieces : List (List ℕ)) : Type 0 where
  pub word_is : word ≡ name
  pub colons : Lacks 58 name
  pub none : pieces ≡ []

-- the name, `::<`, a text that the commas cut into the pieces, and a last `>`
pub record IsNameWithTypes (word name : List ℕ) (pieces : List (List ℕ)) : Type 0 where
  pub inner : List ℕ
  pub word_is : word ≡ name ++ (codes "::<" ++ (inner ++ codes ">"))
  pub colons : Lacks 58 name
  pub cut : pieces ≡ slice_split (λ c. c == 44) inner

abbrev pub IsDefinitionWord : List ℕ → List ℕ → List (List ℕ) → Type 0
IsDefinitionWord word name pieces = IsNameAlone word name pieces ⊎ IsNameWithTypes word name pieces

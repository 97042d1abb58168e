-- The words of a command (README.md, "The commands").
use Rattle.std.specs.Prelude.{◌≡◌, ℕ, ◌<◌, ◌≤◌, ◌^◌, true, List, [], ◌∷◌, All, length, codes}
use Rattle.aen_base.specs.Decimals.{is_number, digits_value}

-- a word of 2^32 bytes or more is in no form
abbrev pub IsShort : List ℕ → Type 0
IsShort word = length word < 2 ^ 32

-- the words are `check FILE`
pub record IsCheck (words : List (List ℕ)) (file : List ℕ) : Type 0 where
  pub words_are : words ≡ codes "check" ∷ file ∷ []
  pub short : IsShort file

-- the words are `translate FILE`
pub record IsTranslate (words : List (List ℕ)) (file : List ℕ) : Type 0 where
  pub words_are : words ≡ codes "translate" ∷ file ∷ []
  pub short : IsShort file

-- FUEL: 1 to 18 decimal digits
pub record IsFuel (word : List ℕ) : Type 0 where
  pub digits : is_number word ≡ true
  pub few : length word ≤ 18

-- the number that FUEL writes
abbrev pub fuel_of : List ℕ → ℕ
fuel_of word = digits_value 0 word

-- the words are `run FILE FN FUEL VALUE..`
pub record IsRun (words : List (List ℕ)) (file name fuel : List ℕ) (values : List (List ℕ)) : Type 0 where
  pub words_are : words ≡ codes "run" ∷ file ∷ name ∷ fuel ∷ values
  pub is_fuel : IsFuel fuel
  pub short : All IsShort words

-- the words are `eval FILE DEF FUEL VALUE..`
pub record IsEval (words : List (List ℕ)) (file name fuel : List ℕ) (values : List (List ℕ)) : Type 0 where
  pub words_are : words ≡ codes "eval" ∷ file ∷ name ∷ fuel ∷ values
  pub is_fuel : IsFuel fuel
  pub short : All IsShort words

-- the words have none of the forms
pub record HasNoForm (words : List (List ℕ)) : Type 0 where
  pub check : (file : List ℕ) → IsCheck words file → ⊥
  pub translate : (file : List ℕ) → IsTranslate words file → ⊥
  pub run : (file name fuel : List ℕ) (values : List (List ℕ)) → IsRun words file name fuel values → ⊥
  pub eval : (file name fuel : List ℕ) (values : List (List ℕ)) → IsEval words file name fuel values → ⊥

-- The arguments that words write, or what is wrong with the words (LANGUAGE.md, "A call").
use Rattle.std.specs.Prelude.{◌≡◌, ℕ, List, length, map, take, slice_get, Some, None, Result, Ok, Err}
use Rattle.pure_ast.specs.Values.{PValue}
use Rattle.call_frame.specs.declared.words.ArgFault.{ArgFault}
use Rattle.call_frame.specs.declared.words.ArgFault.TheVariants.{WrongCount, BadValue, Memory}
use Rattle.call_frame.specs.Written.{word_value}

-- word i is the first that writes no value: those before it write these
pub record IsFirstBad (words : List (List ℕ)) (i : ℕ) : Type 0 where
  pub word : List ℕ
  pub found : slice_get words i ≡ Some word
  pub bad : word_value word ≡ None
  pub values : List PValue
  pub before : map word_value (take i words) ≡ map Some values

-- what is read of words where so many values are expected
abbrev pub IsReading : ℕ → List (List ℕ) → Result (List PValue) ArgFault → Type 0
IsReading count words (Ok values) = (length words ≡ count) × (map word_value words ≡ map Some values)
IsReading count words (Err (WrongCount expected given)) = (length words ≡ count → ⊥) × (expected ≡ count) × (given ≡ length words)
IsReading count words (Err (BadValue i)) = (length words ≡ count) × IsFirstBad words i
IsReading count words (Err Memory) = Unit {0}

-- A command is the one that its words give.
use Rattle.std.specs.Prelude.{◌≡◌, ℕ, List, map, codes}
use Rattle.std.specs.String.{string_bytes}
use Rattle.aeneas.specs.declared.command.Command.{Command}
use Rattle.aeneas.specs.declared.command.Command.TheVariants.{Check, Translate, Run, Eval}
use Rattle.aeneas.specs.Words.{IsCheck, IsTranslate, IsRun, IsEval, IsFuel, fuel_of}

-- `run` with its parts, FUEL as a number
pub record IsRunCommand (words : List (List ℕ)) (file name : List ℕ) (fuel : ℕ) (values : List (List ℕ)) : Type 0 where
  pub word : List ℕ
  pub run : IsRun words file name word values
  pub number : fuel ≡ fuel_of word

-- `eval` with its parts, FUEL as a number
pub record IsEvalCommand (words : List (List ℕ)) (file name : List ℕ) (fuel : ℕ) (values : List (List ℕ)) : Type 0 where
  pub word : List ℕ
  pub eval : IsEval words file name word values
  pub number : fuel ≡ fuel_of word

abbrev pub IsCommand : List (List ℕ) → Command → Type 0
IsCommand words (Check file) = IsCheck words file.now
IsCommand words (Translate file) = IsTranslate words file.now
IsCommand words (Run file name fuel values) = IsRunCommand words file.now name.now fuel (map string_bytes values.now)
IsCommand words (Eval file name fuel values) = IsEvalCommand words file.now name.now fuel (map string_bytes values.now)

-- this word begins neither `check FILE` nor `translate FILE`
abbrev pub IsNoFileForm : List ℕ → Type 0
IsNoFileForm command = (command ≡ codes "check" → ⊥) × (command ≡ codes "translate" → ⊥)

-- the command of these two words
abbrev pub IsFileForm : List ℕ → List ℕ → Command → Type 0
IsFileForm command file (Check f) = (command ≡ codes "check") × (f.now ≡ file)
IsFileForm command file (Translate f) = (command ≡ codes "translate") × (f.now ≡ file)
IsFileForm command file (Run f n k vs) = ⊥
IsFileForm command file (Eval f n k vs) = ⊥

-- these words begin neither `run` nor `eval`
abbrev pub IsNoCall : List ℕ → List ℕ → Type 0
IsNoCall command fuel = (command ≡ codes "run" → IsFuel fuel → ⊥) × (command ≡ codes "eval" → IsFuel fuel → ⊥)

-- the parts of a call are these
abbrev pub AreParts : List ℕ → List ℕ → List ℕ → List (List ℕ) → List ℕ → List ℕ → ℕ → List (List ℕ) → Type 0
AreParts file name fuel values f n k vs = IsFuel fuel × (f ≡ file) × (n ≡ name) × (k ≡ fuel_of fuel) × (vs ≡ values)

-- the command of these words
abbrev pub IsCallOf : List ℕ → List ℕ → List ℕ → List ℕ → List (List ℕ) → Command → Type 0
IsCallOf command file name fuel values (Check other) = ⊥
IsCallOf command file name fuel values (Translate other) = ⊥
IsCallOf command file name fuel values (Run f n k vs) = (command ≡ codes "run") × AreParts file name fuel values f.now n.now k (map string_bytes vs.now)
IsCallOf command file name fuel values (Eval f n k vs) = (command ≡ codes "eval") × AreParts file name fuel values f.now n.now k (map string_bytes vs.now)

-- What `run` answers (PROMISES.md, "Safe and total" and "Each tool meets its meaning").
use Rattle.std.specs.Prelude.{◌≡◌, ℕ, ◌<◌, ◌≤◌, ◌^◌, ◌⊎◌, List, length, map, Some, slice_get}
use Rattle.aen_base.specs.declared.limits.Which.TheVariants as L
use Rattle.call_frame.specs.Arguments.{IsFirstBad}
use Rattle.call_frame.specs.declared.words.ArgFault.{ArgFault}
use Rattle.call_frame.specs.declared.words.ArgFault.TheVariants.{WrongCount, BadValue, Memory}
use Rattle.call_frame.specs.Named.{IsNamed, NoneNamed}
use Rattle.call_frame.specs.Written.{word_value}
use Rattle.pure_ast.specs.Values.{PValue}
use Rattle.sums_ast.specs.declared.function.Function.{Function}
use Rattle.sums_ast.specs.declared.function.Program.{Program}
use Rattle.source_meaning.specs.declared.outcome.Outcome.{Outcome}
use Rattle.source_meaning.specs.declared.outcome.Outcome.TheVariants as O
use Rattle.source_meaning.specs.Calling.{call_outcome}
use Rattle.aeneas.specs.declared.refusal.Refusal.TheVariants as R
use Rattle.aeneas.specs.Limits.{greatest}
use Rattle.aeneas.specs.Lines.{value_line, panic_line, more_line}
use Rattle.aeneas.specs.Refusals.{IsRefusal, IsRefusedBy}
use Rattle.aeneas.specs.Seen.{Seen, ReadsNothing}
use Rattle.aeneas.specs.Source.{SourceRefusal, IsSource}

-- 0, 20, 21: the outcome's line; a program that was read is never stuck
abbrev pub OutcomeReply : Outcome → ℕ → List ℕ → Type 0
OutcomeReply (O.Value v) status text = (status ≡ 0) × (text ≡ value_line v)
OutcomeReply (O.Panic kind) status text = (status ≡ 20) × (text ≡ panic_line)
OutcomeReply O.More status text = (status ≡ 21) × (text ≡ more_line)
OutcomeReply (O.Stuck s) status text = ⊥

-- 11: the words after FUEL are not as many as the function's parameters
pub record IsMiscounted (f : Function) (words : List (List ℕ)) (status : ℕ) (text : List ℕ) : Type 0 where
  pub refusal : IsRefusal (R.Count f.parameters (length words)) status text
  pub cause : length words ≡ f.parameters → ⊥

-- 11: they are as many, and this is the first that is no value
pub record HasBadValue (f : Function) (words : List (List ℕ)) (status : ℕ) (text : List ℕ) : Type 0 where
  pub place : ℕ
  pub refusal : IsRefusal (R.Argument place) status text
  pub count : length words ≡ f.parameters
  pub cause : IsFirstBad words place

-- the refusal of words that are no arguments
abbrev pub FaultReply : ArgFault → ℕ → List ℕ → Type 0
FaultReply (WrongCount expected given) status text = IsRefusal (R.Count expected given) status text
FaultReply (BadValue place) status text = IsRefusal (R.Argument place) status text
FaultReply Memory status text = ⊥

-- the machine's outcome on the values that the words write
pub record HasOutcome (p : Program) (k : ℕ) (f : Function) (words : List (List ℕ)) (n status : ℕ) (text : List ℕ) : Type 0 where
  pub count : length words ≡ f.parameters
  pub values : List PValue
  pub written : map word_value words ≡ map Some values
  pub outcome : OutcomeReply (call_outcome p k f values n) status text

-- a call of function k with these words
pub record CallReply (p : Program) (k : ℕ) (words : List (List ℕ)) (n status : ℕ) (text : List ℕ) : Type 0 where
  pub function : Function
  pub found : slice_get p.functions k ≡ Some function
  pub reply : IsMiscounted function words status text ⊎ (HasBadValue function words status text ⊎ HasOutcome p k function words n status text)

-- 13: no function has the name
pub record HasNoName (p : Program) (name : List ℕ) (status : ℕ) (text : List ℕ) : Type 0 where
  pub refusal : IsRefusal R.Name status text
  pub cause : NoneNamed p.functions name (2 ^ 32)

-- the call of the function with the name
pub record IsCalled (p : Program) (name : List ℕ) (words : List (List ℕ)) (n status : ℕ) (text : List ℕ) : Type 0 where
  pub number : ℕ
  pub named : IsNamed p.functions name number
  pub call : CallReply p number words n status text

abbrev pub ProgramReply : Program → List ℕ → List (List ℕ) → ℕ → ℕ → List ℕ → Type 0
ProgramReply p name words n status text = HasNoName p name status text ⊎ IsCalled p name words n status text

-- 10: FUEL is above its limit; nothing is read
pub record HasMuchFuel (s : Seen) (n status : ℕ) (text : List ℕ) : Type 0 where
  pub refusal : IsRefusal (R.Limit L.Fuel n) status text
  pub cause : greatest L.Fuel < n
  pub unread : ReadsNothing s

-- the file is a program, and this is what it answers
pub record IsRunOf (s : Seen) (file name : List ℕ) (words : List (List ℕ)) (n status : ℕ) (text : List ℕ) : Type 0 where
  pub program : Program
  pub source : IsSource s file program
  pub reply : ProgramReply program name words n status text

-- the file is read and is no source, or it is run
pub record IsWithinFuel (s : Seen) (file name : List ℕ) (words : List (List ℕ)) (n status : ℕ) (text : List ℕ) : Type 0 where
  pub few : n ≤ greatest L.Fuel
  pub reply : IsRefusedBy (SourceRefusal s file) status text ⊎ IsRunOf s file name words n status text

-- `run FILE FN FUEL VALUE..`
abbrev pub RunReply : Seen → List ℕ → List ℕ → List (List ℕ) → ℕ → ℕ → List ℕ → Type 0
RunReply s file name words n status text = HasMuchFuel s n status text ⊎ IsWithinFuel s file name words n status text

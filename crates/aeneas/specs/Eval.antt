-- What `eval` answers (PROMISES.md, "Safe and total" and "Each tool meets its meaning").
use Rattle.std.specs.Prelude.{◌≡◌, ℕ, ◌≤◌, ◌^◌, ◌⊎◌, List, length, Some, slice_get}
use Rattle.aen_base.specs.declared.limits.Which.TheVariants as L
use Rattle.text_words.specs.declared.arguments.ArgFault.{ArgFault}
use Rattle.text_words.specs.declared.arguments.ArgFault.TheVariants as W
use Rattle.text_words.specs.NamedDefinitions.{IsNamed, NoneNamed}
use Rattle.text_words.specs.ValueWords.{AreTypeArguments, AreWords, IsFirstBad, parameter_types}
use Rattle.pure_ast.specs.declared.def.Def.{Def}
use Rattle.pure_ast.specs.declared.def.Defs.{Defs}
use Rattle.pure_ast.specs.Types.{PTy}
use Rattle.pure_ast.specs.Values.{PValue}
use Rattle.text_meaning.specs.declared.Answer.{Answer}
use Rattle.text_meaning.specs.declared.Answer.TheVariants as A
use Rattle.text_meaning.specs.Evaluate.{evaluate}
use Rattle.text_meaning.specs.ShownTerms.{term_text}
use Rattle.text_meaning.specs.ValueTerms.{value_term}
use Rattle.aeneas.specs.DefinitionWord.{IsDefinitionWord}
use Rattle.aeneas.specs.declared.refusal.Refusal.TheVariants as R
use Rattle.aeneas.specs.Limits.{greatest}
use Rattle.aeneas.specs.Lines.{ok_line, fail_line, out_of_fuel_line, stuck_line}
use Rattle.aeneas.specs.Printed.{TextRefusal, IsPrinted}
use Rattle.aeneas.specs.Refusals.{IsRefusal, IsRefusedBy}
use Rattle.aeneas.specs.Run.{HasMuchFuel}
use Rattle.aeneas.specs.Seen.{Seen}

-- 0, 20, 21, 22: the answer's line
abbrev pub AnswerReply : Defs → Answer → ℕ → List ℕ → Type 0
AnswerReply defs (A.Ok v) status text = (status ≡ 0) × (text ≡ ok_line (term_text defs (value_term v)))
AnswerReply defs (A.Fail kind) status text = (status ≡ 20) × (text ≡ fail_line)
AnswerReply defs A.OutOfFuel status text = (status ≡ 21) × (text ≡ out_of_fuel_line)
AnswerReply defs A.Stuck status text = (status ≡ 22) × (text ≡ stuck_line)

-- the refusal of words that are no types or arguments
abbrev pub ArgFaultReply : ArgFault → ℕ → List ℕ → Type 0
ArgFaultReply W.Types status text = IsRefusal R.Types status text
ArgFaultReply (W.WrongCount expected given) status text = IsRefusal (R.Count expected given) status text
ArgFaultReply (W.BadValue place) status text = IsRefusal (R.Argument place) status text
ArgFaultReply W.Memory status text = ⊥

-- 11: the pieces are no type arguments of the definition
pub record HasBadTypes (defs : Defs) (d : Def) (pieces : List (List ℕ)) (status : ℕ) (text : List ℕ) : Type 0 where
  pub refusal : IsRefusal R.Types status text
  pub cause : (args : List PTy) → AreTypeArguments defs d pieces args → ⊥

-- 11: they are, and the words after FUEL are not as many as the parameters
pub record IsMiscalled (defs : Defs) (d : Def) (pieces words : List (List ℕ)) (status : ℕ) (text : List ℕ) : Type 0 where
  pub args : List PTy
  pub types : AreTypeArguments defs d pieces args
  pub refusal : IsRefusal (R.Count (length d.params) (length words)) status text
  pub cause : length d.params ≡ length words → ⊥

-- 11: they are as many, and this is the first that is no value of its type
pub record HasBadWord (defs : Defs) (d : Def) (pieces words : List (List ℕ)) (status : ℕ) (text : List ℕ) : Type 0 where
  pub args : List PTy
  pub types : AreTypeArguments defs d pieces args
  pub count : length d.params ≡ length words
  pub place : ℕ
  pub refusal : IsRefusal (R.Argument place) status text
  pub cause : IsFirstBad defs (parameter_types d args) words place

-- the definition's answer on the values that the words write
pub record HasAnswer (defs : Defs) (k : ℕ) (d : Def) (pieces words : List (List ℕ)) (n status : ℕ) (text : List ℕ) : Type 0 where
  pub args : List PTy
  pub types : AreTypeArguments defs d pieces args
  pub values : List PValue
  pub written : AreWords defs (parameter_types d args) words values
  pub answer : AnswerReply defs (evaluate defs k values n) status text

-- definition k with these types and words
pub record EvaluationReply (defs : Defs) (k : ℕ) (pieces words : List (List ℕ)) (n status : ℕ) (text : List ℕ) : Type 0 where
  pub definition : Def
  pub found : slice_get defs.defs k ≡ Some definition
  pub reply : HasBadTypes defs definition pieces status text ⊎ (IsMiscalled defs definition pieces words status text
      ⊎ (HasBadWord defs definition pieces words status text ⊎ HasAnswer defs k definition pieces words n status text))

-- 13: the word isn't of the form, or no definition has its name
pub record HasNoDefinition (defs : Defs) (word : List ℕ) (status : ℕ) (text : List ℕ) : Type 0 where
  pub refusal : IsRefusal R.Name status text
  pub cause : (name : List ℕ) (pieces : List (List ℕ)) → IsDefinitionWord word name pieces → NoneNamed defs name (2 ^ 32)

-- the definition with the word's name and types
pub record IsEvaluated (defs : Defs) (word : List ℕ) (words : List (List ℕ)) (n status : ℕ) (text : List ℕ) : Type 0 where
  pub name : List ℕ
  pub pieces : List (List ℕ)
  pub parts : IsDefinitionWord word name pieces
  pub number : ℕ
  pub named : IsNamed defs name number
  pub evaluation : EvaluationReply defs number pieces words n status text

abbrev pub DefsReply : Defs → List ℕ → List (List ℕ) → ℕ → ℕ → List ℕ → Type 0
DefsReply defs word words n status text = HasNoDefinition defs word status text ⊎ IsEvaluated defs word words n status text

-- the file is definitions, and this is what they answer
pub record IsEvalOf (s : Seen) (file word : List ℕ) (words : List (List ℕ)) (n status : ℕ) (text : List ℕ) : Type 0 where
  pub defs : Defs
  pub source : IsPrinted s file defs
  pub reply : DefsReply defs word words n status text

-- the file is read and is no printed text, or it is evaluated
pub record IsEvalWithinFuel (s : Seen) (file word : List ℕ) (words : List (List ℕ)) (n status : ℕ) (text : List ℕ) : Type 0 where
  pub few : n ≤ greatest L.Fuel
  pub reply : IsRefusedBy (TextRefusal s file) status text ⊎ IsEvalOf s file word words n status text

-- `eval FILE DEF FUEL VALUE..`
abbrev pub EvalReply : Seen → List ℕ → List ℕ → List (List ℕ) → ℕ → ℕ → List ℕ → Type 0
EvalReply s file word words n status text = HasMuchFuel s n status text ⊎ IsEvalWithinFuel s file word words n status text

-- What a command answers: its status and its bytes, each status with its cause
-- (PROMISES.md, "Safe and total").
use Rattle.std.specs.Prelude.{◌≡◌, ℕ, ◌⊎◌, List}
use Rattle.sums_ast.specs.declared.function.Program.{Program}
use Rattle.aeneas.specs.declared.refusal.Refusal.TheVariants as R
use Rattle.aeneas.specs.Eval.{EvalReply}
use Rattle.aeneas.specs.Lines.{accepted_line}
use Rattle.aeneas.specs.Refusals.{IsRefusal, IsRefusedBy}
use Rattle.aeneas.specs.Run.{RunReply}
use Rattle.aeneas.specs.Seen.{Seen, ReadsNothing}
use Rattle.aeneas.specs.Source.{SourceRefusal, IsSource}
use Rattle.aeneas.specs.Translation.{IsTextOf}
use Rattle.aeneas.specs.Words.{IsCheck, IsTranslate, IsRun, IsEval, HasNoForm, fuel_of}

-- 1: the words have no form; nothing is read
pub record IsMisused (s : Seen) (status : ℕ) (text : List ℕ) : Type 0 where
  pub refusal : IsRefusal R.Usage status text
  pub unread : ReadsNothing s

-- 0: the file is a program
pub record IsAccepted (s : Seen) (file : List ℕ) (status : ℕ) (text : List ℕ) : Type 0 where
  pub status_is : status ≡ 0
  pub text_is : text ≡ accepted_line
  pub program : Program
  pub source : IsSource s file program

-- `check FILE`
abbrev pub CheckReply : Seen → List ℕ → ℕ → List ℕ → Type 0
CheckReply s file status text = IsRefusedBy (SourceRefusal s file) status text ⊎ IsAccepted s file status text

-- 0: the text means the program that the file is
pub record IsTranslated (s : Seen) (file : List ℕ) (status : ℕ) (text : List ℕ) : Type 0 where
  pub status_is : status ≡ 0
  pub program : Program
  pub source : IsSource s file program
  pub is_text : IsTextOf program text

-- `translate FILE`
abbrev pub TranslateReply : Seen → List ℕ → ℕ → List ℕ → Type 0
TranslateReply s file status text = IsRefusedBy (SourceRefusal s file) status text ⊎ IsTranslated s file status text

-- 1 exactly where the words have no form; else the form's reply
pub record IsReply (words : List (List ℕ)) (s : Seen) (status : ℕ) (text : List ℕ) : Type 0 where
  pub usage : HasNoForm words → IsMisused s status text
  pub check : (file : List ℕ) → IsCheck words file → CheckReply s file status text
  pub translate : (file : List ℕ) → IsTranslate words file → TranslateReply s file status text
  pub run : (file name fuel : List ℕ) (values : List (List ℕ)) → IsRun words file name fuel values →
      RunReply s file name values (fuel_of fuel) status text
  pub eval : (file name fuel : List ℕ) (values : List (List ℕ)) → IsEval words file name fuel values →
      EvalReply s file name values (fuel_of fuel) status text

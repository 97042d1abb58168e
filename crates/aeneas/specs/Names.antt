-- The names of a source (PROMISES.md, "Safe and total"; LANGUAGE.md, "Names").
use Rattle.std.specs.Prelude.{◌≡◌, ℕ, List, Ok, Err}
use Rattle.rust_ast.specs.declared.program.Program.{Program}
use Rattle.rust_ast.specs.declared.resolution.Resolved.{Resolved}
use Rattle.rust_names.specs.declared.fault.NameFault.{NameFault}
use Rattle.rust_names.specs.declared.fault.NameFault.TheVariants.{Unknown, Twice, Limit, Memory}
use Rattle.rust_names.specs.Resolution.{resolution}
use Rattle.aeneas.specs.declared.refusal.Refusal.{Refusal}
use Rattle.aeneas.specs.declared.refusal.Refusal.TheVariants as R
use Rattle.aeneas.specs.Syntax.{IsWritten}

-- how a fault of names is told
abbrev pub IsNameRefusal : NameFault → Refusal → Type 0
IsNameRefusal (Unknown span) refusal = refusal ≡ R.Unknown span
IsNameRefusal (Twice first second) refusal = refusal ≡ R.Twice first second
IsNameRefusal (Limit which count) refusal = refusal ≡ R.Limit which count
IsNameRefusal Memory refusal = ⊥

-- the content is this program with names resolved
pub record IsResolved (content : List ℕ) (resolved : Resolved) : Type 0 where
  pub written : Program
  pub is_written : IsWritten content written
  pub names : resolution written ≡ Ok resolved

-- 7, 10: the content is a program as it is written, and its names are refused
pub record BreaksNames (content : List ℕ) (refusal : Refusal) : Type 0 where
  pub written : Program
  pub is_written : IsWritten content written
  pub fault : NameFault
  pub cause : resolution written ≡ Err fault
  pub is : IsNameRefusal fault refusal

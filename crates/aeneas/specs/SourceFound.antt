-- What is found of a source: its program, or its refusal.
use Rattle.std.specs.Prelude.{◌≡◌, ◌⊎◌, ℕ, List, Some, None, Ok, Err}
use Rattle.rust_ast.specs.declared.program.Program as written
use Rattle.rust_ast.specs.declared.resolution.Resolved.{Resolved}
use Rattle.rust_names.specs.declared.fault.NameFault.{NameFault}
use Rattle.rust_names.specs.Resolution.{resolution}
use Rattle.rust_reader.specs.declared.fault.ReadFault.{ReadFault}
use Rattle.rust_reader.specs.declared.fault.ReadFault.TheVariants as F
use Rattle.rust_sums.specs.Sums.{sums_of}
use Rattle.source_meaning.specs.Typing.{IsTyped}
use Rattle.sums_ast.specs.declared.function.Program.{Program}
use Rattle.text_meaning.specs.WellFormedTypes.{AreNames}
use Rattle.aeneas.specs.declared.refusal.Refusal.{Refusal}
use Rattle.aeneas.specs.declared.refusal.Refusal.TheVariants as R
use Rattle.aeneas.specs.declared.source.Source.{Source}
use Rattle.aeneas.specs.declared.source.Source.TheVariants.{Read, Refused}
use Rattle.aeneas.specs.Names.{IsNameRefusal}
use Rattle.aeneas.specs.Seen.{Seen}
use Rattle.aeneas.specs.Source.{SourceRefusal, SourceFault, IsSource, IsProgramOf, function_names}

-- of a file
abbrev pub IsFound : Seen → List ℕ → Source → Type 0
IsFound s file (Read program) = IsSource s file program
IsFound s file (Refused refusal) = SourceRefusal s file refusal

-- of a content
abbrev pub IsFoundIn : List ℕ → Source → Type 0
IsFoundIn content (Read program) = IsProgramOf content program
IsFoundIn content (Refused refusal) = SourceFault content refusal

-- of a program with names resolved
pub record IsSumsOf (resolved : Resolved) (program : Program) : Type 0 where
  pub sums : sums_of resolved ≡ Some program
  pub typed : IsTyped program
  pub names : AreNames (function_names program)

abbrev pub IsFoundResolved : Resolved → Source → Type 0
IsFoundResolved resolved (Read program) = IsSumsOf resolved program
IsFoundResolved resolved (Refused refusal) = (refusal ≡ R.Later) × (sums_of resolved ≡ None)

-- of a program as it is written: its names resolved, or refused
pub record ByNames (program : written.Program) (source : Source) : Type 0 where
  pub resolved : Resolved
  pub names : resolution program ≡ Ok resolved
  pub found : IsFoundResolved resolved source

abbrev pub IsRefusedAs : NameFault → Source → Type 0
IsRefusedAs fault (Read program) = ⊥
IsRefusedAs fault (Refused refusal) = IsNameRefusal fault refusal

pub record ByNameFault (program : written.Program) (source : Source) : Type 0 where
  pub fault : NameFault
  pub names : resolution program ≡ Err fault
  pub found : IsRefusedAs fault source

abbrev pub IsFoundWritten : written.Program → Source → Type 0
IsFoundWritten program source = ByNames program source ⊎ ByNameFault program source

-- of tokens that are no program
abbrev pub IsUnread : ReadFault → Source → Type 0
IsUnread fault (Read program) = ⊥
IsUnread (F.Unsupported span) (Refused refusal) = refusal ≡ R.Unsupported span
IsUnread (F.Limit which count) (Refused refusal) = refusal ≡ R.Limit which count
IsUnread (F.Syntax span) (Refused refusal) = refusal ≡ R.Syntax span
IsUnread F.Memory (Refused refusal) = ⊥

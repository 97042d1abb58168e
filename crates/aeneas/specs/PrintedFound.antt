-- What is found of a printed text: its definitions, or its refusal.
use Rattle.std.specs.Prelude.{ℕ, List}
use Rattle.lean_reader.specs.Reading.{IsRead}
use Rattle.aeneas.specs.declared.printed.Printed.{Printed}
use Rattle.aeneas.specs.declared.printed.Printed.TheVariants.{Read, Refused}
use Rattle.aeneas.specs.Printed.{TextRefusal, ContentRefusal, IsPrinted}
use Rattle.aeneas.specs.Seen.{Seen}

-- of a file
abbrev pub IsPrintedFound : Seen → List ℕ → Printed → Type 0
IsPrintedFound s file (Read defs) = IsPrinted s file defs
IsPrintedFound s file (Refused refusal) = TextRefusal s file refusal

-- of a content
abbrev pub IsPrintedFoundIn : List ℕ → Printed → Type 0
IsPrintedFoundIn content (Read defs) = IsRead content defs
IsPrintedFoundIn content (Refused refusal) = ContentRefusal content refusal

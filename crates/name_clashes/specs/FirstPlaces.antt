-- A table of the first places of names.
use Rattle.std.specs.Prelude.{◌≡◌, ℕ, List, Option}
use Rattle.aen_base.specs.declared.span.Span.{Span}
use Rattle.name_clashes.specs.declared.entry.Entry.{Entry}
use Rattle.name_clashes.specs.declared.entry.Kind.{Kind}
use Rattle.name_clashes.specs.Twice.{first_like}

-- of each name the first that a name of this kind must differ from
abbrev pub AreFirst : Kind → (List ℕ → Option Span) → List Entry → Type 0
AreFirst k table es = (w : List ℕ) → table w ≡ first_like k w es

-- Where values stand (LANGUAGE.md, "Grammar", "Spans").
use Rattle.std.specs.Prelude.{ℕ, Bool, ◌&&◌, ◌==◌, Option, Some, None}
use Rattle.aen_base.specs.declared.span.Span.{Span}

abbrev pub from_to : ℕ → ℕ → Span
from_to lo hi = record { lo = lo; hi = hi }

-- the extent of both, one after the other
abbrev pub join : Option Span → Option Span → Option Span
join None b = b
join (Some a) None = Some a
join (Some a) (Some b) = Some (from_to a.lo b.hi)

-- the span of an extent; of none, the empty one at the beginning
abbrev pub span_of : Option Span → Span
span_of None = from_to 0 0
span_of (Some span) = span

abbrev pub same_span : Span → Span → Bool
same_span a b = (a.lo == b.lo) && (a.hi == b.hi)

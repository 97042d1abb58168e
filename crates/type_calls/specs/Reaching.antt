-- What is reached, as code says it.
use Rattle.std.specs.Prelude.{Bool, if◌then◌else◌, List, Option, None}
use Rattle.type_rules.specs.Matching.{Finds, Reached, reached}
use Rattle.core_ty.specs.Types as t

abbrev pub as_reached : t.Ty × Finds → Reached
as_reached r = record { content = r.0; finds = r.1 }

-- what is reached in a box
abbrev pub reached_inside : Bool → t.Ty → Finds → t.Ty → Option Reached
reached_inside bare q f (t.boxed x) = if bare then None else reached bare q f x
reached_inside bare q f x = None

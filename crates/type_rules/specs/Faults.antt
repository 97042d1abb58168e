-- What typing answers: a thing, or the first fault (LANGUAGE.md, "Types").
use Rattle.std.specs.Prelude.{Bool, true, false, Result, Ok, Err}
use Rattle.aen_base.specs.declared.span.Span.{Span}
use Rattle.type_rules.specs.declared.fault.KindOfFault.{KindOfFault}

-- a row that holds at a place, or the limit `type_nodes`
pub data Fault : Type 0 where
  at : Span → KindOfFault → Fault
  too_large : Fault

-- what is visited next sees what was found before; the first fault is the answer
abbrev pub and_then : {A B : Type 0} → Result A Fault → (A → Result B Fault) → Result B Fault
and_then (Ok a) f = f a
and_then (Err x) f = Err x

-- where the row holds it is the answer, else what follows
abbrev pub refuse : {A : Type 0} → Bool → Span → KindOfFault → Result A Fault → Result A Fault
refuse true s k r = Err (at s k)
refuse false s k r = r

-- where the limit is passed it is the answer, else what follows
abbrev pub limited : {A : Type 0} → Bool → Result A Fault → Result A Fault
limited true r = Err too_large
limited false r = r

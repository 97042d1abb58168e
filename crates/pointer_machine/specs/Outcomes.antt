-- What a typed program comes to (LANGUAGE.md, "A call").
use Rattle.source_meaning.specs.Calling.{IsU32Value}
use Rattle.source_meaning.specs.declared.outcome.Outcome.{Outcome}
use Rattle.source_meaning.specs.declared.outcome.Outcome.TheVariants as O

-- a value of type u32, a panic, or a bound that was too small: never stuck
abbrev pub IsSettled : Outcome → Type 0
IsSettled (O.Value a) = IsU32Value a
IsSettled (O.Panic kind) = Unit {0}
IsSettled O.More = Unit {0}
IsSettled (O.Stuck s) = ⊥

-- What a function that resolves gives: the answer of the definition; want of memory is free.
use Rattle.std.specs.Prelude.{◌≡◌, Result, Ok, Err}
use Rattle.aen_base.specs.declared.span.Span.{Span}
use Rattle.name_tables.specs.declared.fault.Stop.{Stop}
use Rattle.name_tables.specs.declared.fault.Stop.TheVariants.{Unknown, Memory}

-- the answer, of which code has this form
abbrev pub GivesAs : {A B : Type 0} → (B → A) → Result A Span → Result B Stop → Type 0
GivesAs f o (Ok x) = o ≡ Ok (f x)
GivesAs f o (Err (Unknown p)) = o ≡ Err p
GivesAs f o (Err Memory) = Unit {0}

abbrev pub Gives : {A : Type 0} → Result A Span → Result A Stop → Type 0
Gives o (Ok x) = o ≡ Ok x
Gives o (Err (Unknown p)) = o ≡ Err p
Gives o (Err Memory) = Unit {0}

-- What a call that types something gives: the answer of a definition. Want of memory is free.
use Rattle.std.specs.Prelude.{◌≡◌, ℕ, Result, Ok, Err}
use Rattle.aen_base.specs.declared.limits.Which.TheVariants.{TypeNodes}
use Rattle.type_rules.specs.Faults.{Fault, at, too_large}
use Rattle.type_values.specs.declared.fault.TypeFault.{TypeFault}
use Rattle.type_values.specs.declared.fault.TypeFault.TheVariants.{At, Limit, Memory}

-- the fault that is told
abbrev pub told : Fault → TypeFault
told (at p k) = At p k
told too_large = Limit TypeNodes 1001

-- a fault is the definition's, or want of memory
abbrev pub IsFault : {A : Type 0} → Result A Fault → TypeFault → Type 0
IsFault o (At p k) = o ≡ Err (at p k)
IsFault o (Limit w n) = (o ≡ Err too_large) × (Limit w n ≡ told too_large)
IsFault o Memory = Unit {0}

-- an answer without a state
abbrev pub Answers : {A : Type 0} → Result A Fault → Result A TypeFault → Type 0
Answers o (Ok x) = o ≡ Ok x
Answers o (Err x) = IsFault o x

-- an answer and what is left after it
abbrev pub Gives : {A S : Type 0} → Result (A × S) Fault → Result A TypeFault → S → Type 0
Gives o (Ok x) st = o ≡ Ok (x, st)
Gives o (Err x) st = IsFault o x

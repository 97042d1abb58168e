-- What is found where it is there, and what a call answers that looks for it.
use Rattle.std.specs.Prelude.{◌≡◌, Bool, if◌then◌else◌, Option, Some, None, Result, Ok, Err}
use Rattle.rust_sums.specs.declared.fault.SumsFault.{SumsFault}
use Rattle.rust_sums.specs.declared.fault.SumsFault.TheVariants.{Outside, Memory}

abbrev pub and_then : {A B : Type 0} → Option A → (A → Option B) → Option B
and_then None f = None
and_then (Some x) f = f x

-- only where the test holds
abbrev pub where_ : {A : Type 0} → Bool → Option A → Option A
where_ b o = if b then o else None

-- an answer is what is to be found; want of memory is free
abbrev pub Gets : {A : Type 0} → Option A → Result A SumsFault → Type 0
Gets o (Ok x) = o ≡ Some x
Gets o (Err Outside) = o ≡ None
Gets o (Err Memory) = Unit {0}

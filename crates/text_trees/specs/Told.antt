-- What a part of a text comes to: its value, or the first place at which it breaks a rule.
use Rattle.std.specs.Prelude.{◌≡◌, ℕ, ◌+◌, List, [], ◌∷◌, ◌++◌, Option, Some, None, Result, Ok, Err}
use Rattle.aen_base.specs.declared.span.Span.{Span}
use Rattle.text_names.specs.Settled.{first}
use Rattle.text_trees.specs.declared.fault.SettleFault.{SettleFault}
use Rattle.text_trees.specs.declared.fault.SettleFault.TheVariants.{Broken, Memory}

-- a tree exactly where no rule is broken, else the first place where one is; want of memory is free
abbrev pub Settled : {A : Type 0} → List Span → Option A → Result A SettleFault → Type 0
Settled faults tree (Ok x) = (faults ≡ []) × (tree ≡ Some x)
Settled faults tree (Err (Broken place)) = first faults ≡ Some place
Settled faults tree (Err Memory) = Unit {0}

-- ---- step by step

abbrev nowhere : Span
nowhere = record { lo = 0; hi = 0 }

-- what is told of a node; one that breaks no rule has a value
abbrev pub told : {A : Type 0} → List Span → Option A → Result A Span
told [] (Some x) = Ok x
told [] None = Err nowhere
told (place ∷ places) value = Err place

-- what is told of a node without a value
abbrev pub kept : List Span → Result Unit Span
kept [] = Ok tt
kept (place ∷ places) = Err place

abbrev pub and_then : {A B : Type 0} → Result A Span → (A → Result B Span) → Result B Span
and_then (Ok x) f = f x
and_then (Err place) f = Err place

abbrev pub on_ok : {A B : Type 0} → (A → B) → Result A Span → Result B Span
on_ok f (Ok x) = Ok (f x)
on_ok f (Err place) = Err place

-- a list's items from left to right
abbrev pub each : {A B : Type 0} → (A → Result B Span) → List A → Result (List B) Span
each f [] = Ok []
each f (x ∷ xs) = and_then (f x) (λ y. on_ok (λ ys. y ∷ ys) (each f xs))

-- a list of which these items are told already
abbrev pub behind : {B : Type 0} → List B → Result (List B) Span → Result (List B) Span
behind done o = on_ok (λ ys. done ++ ys) o

-- ---- what a function gives; want of memory is free

abbrev pub Leads : {A B : Type 0} → Result A Span → (B → Result A Span) → Result B SettleFault → Type 0
Leads o f (Ok x) = o ≡ f x
Leads o f (Err (Broken place)) = o ≡ Err place
Leads o f (Err Memory) = Unit {0}

abbrev pub Gives : {A : Type 0} → Result A Span → Result A SettleFault → Type 0
Gives o (Ok x) = o ≡ Ok x
Gives o (Err (Broken place)) = o ≡ Err place
Gives o (Err Memory) = Unit {0}

-- ---- parts on a stack, the newest last: each waits for the value of the part in hand, and `gives` what it comes to

abbrev pub unwind : {F A : Type 0} → (F → A → Result A Span) → List F → Result A Span → Result A Span
unwind gives [] o = o
unwind gives (f ∷ frames) o = and_then (unwind gives frames o) (gives f)

abbrev pub weigh : {F : Type 0} → (F → ℕ) → List F → ℕ
weigh weight [] = 0
weigh weight (f ∷ frames) = weight f + weigh weight frames

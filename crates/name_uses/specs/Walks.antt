-- Going through a list: a step for each item, from left to right, until one fails.
use Rattle.std.proofs.Common.{◌≡◌, refl}
use Rattle.std.specs.Prelude.{ℕ, ◌+◌, List, [], ◌∷◌, ◌++◌, Result, Ok, Err}
use Rattle.aen_base.specs.declared.span.Span.{Span}
use Rattle.name_tables.specs.Lookups.{and_then}

-- an answer in another form
abbrev pub on_ok : {A B : Type 0} → (A → B) → Result A Span → Result B Span
on_ok f (Ok x) = Ok (f x)
on_ok f (Err p) = Err p

-- without a state
module _ {A B : Type 0} (step : A → Result B Span) where
  abbrev pub each : List A → Result (List B) Span
  each [] = Ok []
  each (x ∷ xs) = and_then (step x) (λ y. and_then (each xs) (λ ys. Ok (y ∷ ys)))

-- with a number for each item
module _ {A B : Type 0} (step : A → ℕ → Result B Span) where
  abbrev pub each_from : ℕ → List A → Result (List B) Span
  each_from k [] = Ok []
  each_from k (x ∷ xs) = and_then (step x k) (λ y. and_then (each_from (k + 1) xs) (λ ys. Ok (y ∷ ys)))

-- with what is known, which each step changes
module _ {A B S : Type 0} (step : A → S → Result (B × S) Span) where
  abbrev pub walk : List A → S → Result (List B × S) Span
  walk [] st = Ok ([], st)
  walk (x ∷ xs) st = and_then (step x st) (λ y. and_then (walk xs y.1) (λ ys. Ok (y.0 ∷ ys.0, ys.1)))

-- what was done before
abbrev pub behind : {B : Type 0} → List B → Result (List B) Span → Result (List B) Span
behind done o = on_ok (λ ys. done ++ ys) o

pub behind_nothing : {B : Type 0} (o : Result (List B) Span) → behind [] o ≡ o
behind_nothing (Ok ys) = refl
behind_nothing (Err p) = refl

abbrev pub onward : {B S : Type 0} → List B → Result (List B × S) Span → Result (List B × S) Span
onward done o = on_ok (λ r. (done ++ r.0, r.1)) o

-- a thing in another form, with what is known
abbrev pub in_form : {B L S : Type 0} → (B → L) → B × S → L × S
in_form f r = (f r.0, r.1)

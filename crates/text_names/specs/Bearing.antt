-- The functions of a text are those that its definitions are named after.
use Rattle.std.specs.Prelude.{if◌then◌else◌, is_some, bytes_eq}
use Rattle.std.specs.List.{list_all}
use Rattle.std.specs.Option.{option_map}
use Rattle.std.specs.Cmp.Lexicographic.{bytes_decides}
use Rattle.std.proofs.Common.{◌≡◌, refl, ℕ, suc, Bool, true, false, List, [], ◌∷◌, ◌++◌, Option, Some, None}
use Rattle.raw_ast.specs.declared.declarations.Definition.{Definition}
use Rattle.raw_meaning.specs.Outlines.{is_in, place_of, with_function, functions_after}

later : (o : Option ℕ) → is_some o ≡ true → is_some (option_map (λ k. suc k) o) ≡ true
later None h = absurd cc
later (Some k) h = refl

step : (b : Bool) (o p : Option ℕ) → (is_some o ≡ true → is_some p ≡ true) →
    is_some (if b then Some 0 else option_map (λ k. suc k) o) ≡ true → is_some (if b then Some 0 else option_map (λ k. suc k) p) ≡ true
step true o p g h = refl
step false None p g h = absurd cc
step false (Some k) p g h = later p (g refl)

still : (fs : List (List ℕ)) (f a : List ℕ) → is_in a fs ≡ true → is_in a (fs ++ f ∷ []) ≡ true
still [] f a h = absurd cc
still (n ∷ fs) f a h = step (bytes_eq n a) (place_of fs a) (place_of (fs ++ f ∷ []) a) (still fs f a) h

first_by : (b : Bool) (o : Option ℕ) → b ≡ true → is_some (if b then Some 0 else o) ≡ true
first_by true o h = refl
first_by false o h = absurd cc

not_first : (b : Bool) (o : Option ℕ) → is_some o ≡ true → is_some (if b then Some 0 else option_map (λ k. suc k) o) ≡ true
not_first true o h = refl
not_first false o h = later o h

last_in : (fs : List (List ℕ)) (f : List ℕ) → is_in f (fs ++ f ∷ []) ≡ true
last_in [] f = first_by (bytes_eq f f) None ((bytes_decides f f).1 refl)
last_in (n ∷ fs) f = not_first (bytes_eq n f) (place_of (fs ++ f ∷ []) f) (last_in fs f)

still_by : (b : Bool) (fs : List (List ℕ)) (f a : List ℕ) → is_in a fs ≡ true → is_in a (if b then fs else fs ++ f ∷ []) ≡ true
still_by true fs f a h = h
still_by false fs f a h = still fs f a h

here_by : (b : Bool) (fs : List (List ℕ)) (f : List ℕ) → is_in f fs ≡ b → is_in f (if b then fs else fs ++ f ∷ []) ≡ true
here_by true fs f h = h
here_by false fs f h = last_in fs f

after : (fs : List (List ℕ)) (ds : List Definition) (a : List ℕ) → is_in a fs ≡ true → is_in a (functions_after fs ds) ≡ true
after fs [] a h = h
after fs (d ∷ ds) a h =
    let f = d.name.function.text in
    after (with_function fs f) ds a (still_by (is_in f fs) fs f a h)

-- each definition's function is among the functions
pub all_bear : (fs : List (List ℕ)) (ds : List Definition) → list_all (λ (d : Definition). is_in d.name.function.text (functions_after fs ds)) ds ≡ true
all_bear fs [] = refl
all_bear fs (d ∷ ds) =
    let f = d.name.function.text in
    let first = after (with_function fs f) ds f (here_by (is_in f fs) fs f refl) in
    rw first (all_bear (with_function fs f) ds)

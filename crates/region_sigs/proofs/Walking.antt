-- What is found step by step is what the definitions of lists give.
use Rattle.std.proofs.Common.{◌≡◌, List, [], ◌∷◌, ◌++◌, refl, ap, sym, ◌∙◌}
use Rattle.std.specs.Prelude.{Result, Ok, Err}
use Rattle.region_sigs.specs.Walks.{each_onto, walk_onto, on_ok}
use Rattle.type_rules.specs.Faults.{Fault, and_then}

module _ {A : Type 0} where
  with_nothing : (xs : List A) → xs ++ [] ≡ xs
  with_nothing [] = refl
  with_nothing (x ∷ xs) = ap (λ ys. x ∷ ys) (with_nothing xs)

  put_behind : (xs : List A) (x : A) (ys : List A) → xs ++ x ∷ ys ≡ (xs ++ x ∷ []) ++ ys
  put_behind [] x ys = refl
  put_behind (z ∷ xs) x ys = ap (λ zs. z ∷ zs) (put_behind xs x ys)

  pub unchanged : (o : Result A Fault) → and_then o (λ y. Ok y) ≡ o
  unchanged (Ok y) = refl
  unchanged (Err x) = refl

-- two steps as one
pub together : {A B C : Type 0} (o : Result A Fault) (f : A → B) (k : B → Result C Fault) → and_then o (λ x. k (f x)) ≡ and_then (and_then o (λ x. Ok (f x))) k
together (Ok x) f k = refl
together (Err x) f k = refl

-- a definition that goes through a list by this step
module _ {A B : Type 0} (step : A → Result B Fault) (all : List A → Result (List B) Fault) where
  abbrev pub Ends : Type 0
  Ends = all [] ≡ Ok []

  abbrev pub Turns : Type 0
  Turns = (x : A) (xs : List A) → all (x ∷ xs) ≡ and_then (step x) (λ y. and_then (all xs) (λ ys. Ok (y ∷ ys)))

  more : (done : List B) (y : B) (o : Result (List B) Fault) → and_then (and_then o (λ ys. Ok (y ∷ ys))) (λ ys. Ok (done ++ ys)) ≡ and_then o (λ ys. Ok ((done ++ y ∷ []) ++ ys))
  more done y (Ok ys) = ap Ok (put_behind done y ys)
  more done y (Err x) = refl

  one : (done : List B) (xs : List A) (o : Result B Fault) → ((d : List B) → and_then (all xs) (λ ys. Ok (d ++ ys)) ≡ each_onto step d xs) →
      and_then (and_then o (λ y. and_then (all xs) (λ ys. Ok (y ∷ ys)))) (λ ys. Ok (done ++ ys)) ≡ and_then o (λ y. each_onto step (done ++ y ∷ []) xs)
  one done xs (Err x) h = refl
  one done xs (Ok y) h = more done y (all xs) ∙ h (done ++ y ∷ [])

  onto : Ends → Turns → (done : List B) (xs : List A) → and_then (all xs) (λ ys. Ok (done ++ ys)) ≡ each_onto step done xs
  onto e t done [] = ap (λ z. and_then z (λ ys. Ok (done ++ ys))) e ∙ ap Ok (with_nothing done)
  onto e t done (x ∷ xs) = ap (λ z. and_then z (λ ys. Ok (done ++ ys))) (t x xs) ∙ one done xs (step x) (λ d. onto e t d xs)

  pub each_gives : Ends → Turns → (xs : List A) → each_onto step [] xs ≡ all xs
  each_gives e t xs = sym (onto e t [] xs) ∙ unchanged (all xs)

-- a list of another form, made item by item, with what each step leaves
module _ {A B L S : Type 0} (step : A → S → Result (B × S) Fault) (more_of : B → L → L) (form : List B → L) (all : List A → S → Result (L × S) Fault) where
  abbrev put : List B → L → L
  put [] l = l
  put (x ∷ xs) l = more_of x (put xs l)

  abbrev pub FormEnds : Type 0
  FormEnds = (st : S) → all [] st ≡ Ok (form [], st)

  abbrev pub FormTurns : Type 0
  FormTurns = (x : A) (xs : List A) (st : S) → all (x ∷ xs) st ≡ and_then (step x st) (λ r. and_then (all xs r.1) (λ q. Ok (more_of r.0 q.0, q.1)))

  abbrev pub Forms : Type 0
  Forms = (x : B) (xs : List B) → more_of x (form xs) ≡ form (x ∷ xs)

  put_nothing : Forms → (done : List B) → put done (form []) ≡ form done
  put_nothing f [] = refl
  put_nothing f (x ∷ xs) = ap (more_of x) (put_nothing f xs) ∙ f x xs

  put_more : (done : List B) (y : B) (l : L) → put done (more_of y l) ≡ put (done ++ y ∷ []) l
  put_more [] y l = refl
  put_more (x ∷ xs) y l = ap (more_of x) (put_more xs y l)

  abbrev behind : List B → Result (L × S) Fault → Result (L × S) Fault
  behind done o = and_then o (λ q. Ok (put done q.0, q.1))

  abbrev formed : Result (List B × S) Fault → Result (L × S) Fault
  formed o = on_ok (λ r. (form r.0, r.1)) o

  form_more : (done : List B) (y : B) (o : Result (L × S) Fault) → behind done (and_then o (λ q. Ok (more_of y q.0, q.1))) ≡ behind (done ++ y ∷ []) o
  form_more done y (Ok q) = ap (λ l. Ok (l, q.1)) (put_more done y q.0)
  form_more done y (Err x) = refl

  form_one : (done : List B) (xs : List A) (o : Result (B × S) Fault) → ((d : List B) (st : S) → behind d (all xs st) ≡ formed (walk_onto step d xs st)) →
      behind done (and_then o (λ r. and_then (all xs r.1) (λ q. Ok (more_of r.0 q.0, q.1)))) ≡ formed (and_then o (λ y. walk_onto step (done ++ y.0 ∷ []) xs y.1))
  form_one done xs (Err x) h = refl
  form_one done xs (Ok r) h = form_more done r.0 (all xs r.1) ∙ h (done ++ r.0 ∷ []) r.1

  walk_onward : FormEnds → FormTurns → Forms → (done : List B) (xs : List A) (st : S) → behind done (all xs st) ≡ formed (walk_onto step done xs st)
  walk_onward e t f done [] st = ap (behind done) (e st) ∙ ap (λ l. Ok (l, st)) (put_nothing f done)
  walk_onward e t f done (x ∷ xs) st = ap (behind done) (t x xs st) ∙ form_one done xs (step x st) (λ d s. walk_onward e t f d xs s)

  pub walk_gives : FormEnds → FormTurns → Forms → (xs : List A) (st : S) → all xs st ≡ formed (walk_onto step [] xs st)
  walk_gives e t f xs st = sym (unchanged (all xs st)) ∙ walk_onward e t f [] xs st

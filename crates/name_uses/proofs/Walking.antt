-- The start and a turn of a walk through a list; lists of another form.
use Rattle.std.proofs.Common.{◌≡◌, ℕ, ◌+◌, ◌<◌, List, [], ◌∷◌, ◌++◌, length, get_or, drop, refl, ap, ◌∙◌}
use Rattle.std.specs.Prelude.{Result, Ok, Err}
use Rattle.aen_base.specs.declared.span.Span.{Span}
use Rattle.name_tables.specs.ListLemmas.{drop_at, put_behind}
use Rattle.name_tables.specs.Lookups.{and_then}
use Rattle.name_uses.specs.Walks.{on_ok, walk, onward, in_form}

module _ {A B S : Type 0} (step : A → S → Result (B × S) Span) where
  pub walk_start : (o : Result (List B × S) Span) → onward [] o ≡ o
  walk_start (Ok r) = refl
  walk_start (Err p) = refl

  walk_more : (done : List B) (y : B) (o : Result (List B × S) Span) → onward done (and_then o (λ ys. Ok (y ∷ ys.0, ys.1))) ≡ onward (done ++ y ∷ []) o
  walk_more done y (Ok r) = ap (λ zs. Ok (zs, r.1)) (put_behind done y r.0)
  walk_more done y (Err p) = refl

  walk_next : (xs : List A) (x : A) (st : S) (o : Result (B × S) Span) → step x st ≡ o → walk step (x ∷ xs) st ≡ and_then o (λ y. and_then (walk step xs y.1) (λ ys. Ok (y.0 ∷ ys.0, ys.1)))
  walk_next xs x st o h = ap (λ z. and_then z (λ y. and_then (walk step xs y.1) (λ ys. Ok (y.0 ∷ ys.0, ys.1)))) h

  pub walk_turn : (xs : List A) (i : ℕ) (done : List B) (st : S) (x : A) (y : B) (st2 : S) → i < length xs → x ≡ get_or xs i x → step x st ≡ Ok (y, st2) →
      onward done (walk step (drop i xs) st) ≡ onward (done ++ y ∷ []) (walk step (drop (i + 1) xs) st2)
  walk_turn xs i done st x y st2 h q e =
      ap (λ zs. onward done (walk step zs st)) (drop_at xs i x h q) ∙ ap (onward done) (walk_next (drop (i + 1) xs) x st (Ok (y, st2)) e) ∙ walk_more done y (walk step (drop (i + 1) xs) st2)

-- a list of another form, made item by item
each_by : {B L : Type 0} (more : B → L → L) (form : List B → L) → ((y : B) (ys : List B) → more y (form ys) ≡ form (y ∷ ys)) →
    (o : Result B Span) (q : Result (List B) Span) → and_then o (λ y. and_then (on_ok form q) (λ ys. Ok (more y ys))) ≡ on_ok form (and_then o (λ y. and_then q (λ ys. Ok (y ∷ ys))))
each_by more form h (Err p) q = refl
each_by more form h (Ok y) (Err p) = refl
each_by more form h (Ok y) (Ok ys) = ap Ok (h y ys)

walk_by : {B L S : Type 0} (more : B → L → L) (form : List B → L) → ((y : B) (ys : List B) → more y (form ys) ≡ form (y ∷ ys)) →
    (y : B) (r : Result (List B × S) Span) → and_then (on_ok (in_form form) r) (λ ys. Ok (more y ys.0, ys.1)) ≡ on_ok (in_form form) (and_then r (λ ys. Ok (y ∷ ys.0, ys.1)))
walk_by more form h y (Err p) = refl
walk_by more form h y (Ok r) = ap (λ l. Ok (l, r.1)) (h y r.0)

pub each_form : {B L : Type 0} (more : B → L → L) (form : List B → L) → ((y : B) (ys : List B) → more y (form ys) ≡ form (y ∷ ys)) →
    (o : Result B Span) (all : Result L Span) (q : Result (List B) Span) → all ≡ on_ok form q →
    and_then o (λ y. and_then all (λ ys. Ok (more y ys))) ≡ on_ok form (and_then o (λ y. and_then q (λ ys. Ok (y ∷ ys))))
each_form more form h o all q e = ap (λ z. and_then o (λ y. and_then z (λ ys. Ok (more y ys)))) e ∙ each_by more form h o q

pub walk_form : {B L S : Type 0} (more : B → L → L) (form : List B → L) → ((y : B) (ys : List B) → more y (form ys) ≡ form (y ∷ ys)) →
    (o : Result (B × S) Span) (all : S → Result (L × S) Span) (q : S → Result (List B × S) Span) → ((st : S) → all st ≡ on_ok (in_form form) (q st)) →
    and_then o (λ y. and_then (all y.1) (λ ys. Ok (more y.0 ys.0, ys.1))) ≡ on_ok (in_form form) (and_then o (λ y. and_then (q y.1) (λ ys. Ok (y.0 ∷ ys.0, ys.1))))
walk_form more form h (Err p) all q e = refl
walk_form more form h (Ok y) all q e = ap (λ z. and_then z (λ ys. Ok (more y.0 ys.0, ys.1))) (e y.1) ∙ walk_by more form h y.0 (q y.1)

-- The place of a name in a list: a table with one more name agrees with the list with one more name,
-- and the first item of a name stands in the name's place.
use Rattle.std.proofs.Common.{◌≡◌, ℕ, suc, ◌+◌, ◌<◌, get_or, Bool, true, false, if◌then◌else◌, List, [], ◌∷◌, ◌++◌, length, map, take, Option, Some, None, refl, sym, ap, ◌∙◌, arith}
use Rattle.std.specs.Prelude.{bytes_eq, slice_get}
use Rattle.std.specs.Option.{option_map, option_and_then}
use Rattle.std.proofs.lemmas.List.{map-append, length-map, length-take-le}
use Rattle.name_tables.specs.Finding.{find, place_of, or_else}
use Rattle.name_tables.specs.ListLemmas.{taken}

entry_later : (b : Bool) (n : ℕ) → option_map (λ k. suc k) (if b then Some n else None) ≡ (if b then Some (suc n) else None)
entry_later true n = refl
entry_later false n = refl

or_later : (o p : Option ℕ) → option_map (λ k. suc k) (or_else o p) ≡ or_else (option_map (λ k. suc k) o) (option_map (λ k. suc k) p)
or_later None p = refl
or_later (Some k) p = refl

or_by : (b : Bool) (o p q : Option ℕ) → o ≡ or_else p q → (if b then Some 0 else o) ≡ or_else (if b then Some 0 else p) q
or_by true o p q h = refl
or_by false o p q h = h

abbrev pub entry : List ℕ → ℕ → List ℕ → Option ℕ
entry x n w = if bytes_eq x w then Some n else None

place_more : (xs : List (List ℕ)) (x w : List ℕ) → place_of (xs ++ x ∷ []) w ≡ or_else (place_of xs w) (entry x (length xs) w)
place_more [] x w = refl
place_more (y ∷ xs) x w =
    or_by (bytes_eq y w) (option_map (λ k. suc k) (place_of (xs ++ x ∷ []) w)) (option_map (λ k. suc k) (place_of xs w)) (entry x (suc (length xs)) w)
    (ap (option_map (λ k. suc k)) (place_more xs x w) ∙ or_later (place_of xs w) (entry x (length xs) w) ∙ ap (or_else (option_map (λ k. suc k) (place_of xs w))) (entry_later (bytes_eq x w) (length xs)))

abbrev pub Agreeing : {A : Type 0} (f : A → List ℕ) → List A → (List ℕ → Option ℕ) → Type 0
Agreeing f xs table = (w : List ℕ) → table w ≡ place_of (map f xs) w

-- the next thing of a list
pub entered : {A : Type 0} (f : A → List ℕ) (xs : List A) (k : ℕ) (x d : A) (name : List ℕ) (old new : List ℕ → Option ℕ) →
    k < length xs → x ≡ get_or xs k d → name ≡ f x →
    ((w : List ℕ) → new w ≡ or_else (old w) (entry name k w)) → Agreeing f (take k xs) old → Agreeing f (take (k + 1) xs) new
entered f xs k x d name old new l at e step before w =
    let long : length (map f (take k xs)) ≡ k = length-map (take k xs) f ∙ length-take-le k xs (omega arith) in
    let split : map f (take (k + 1) xs) ≡ map f (take k xs) ++ f x ∷ [] = ap (map f) (taken xs k x d l at) ∙ map-append f (take k xs) (x ∷ []) in
    step w ∙ (λ i. or_else (before w i) (entry (e i) k w)) ∙ (λ i. or_else (place_of (map f (take k xs)) w) (entry (f x) (sym long i) w))
    ∙ sym (place_more (map f (take k xs)) (f x) w) ∙ ap (λ ns. place_of ns w) (sym split)

-- the first thing of a name stands in the name's place
module _ {A : Type 0} where
  abbrev pub with_place : ℕ → A → ℕ × A
  with_place k x = (k, x)

  abbrev pub item_at : List A → Option ℕ → Option (ℕ × A)
  item_at xs o = option_and_then (λ k. option_map (with_place k) (slice_get xs k)) o

  abbrev later : ℕ × A → ℕ × A
  later p = (suc p.0, p.1)

  shifted : (k : ℕ) (o : Option A) → option_map later (option_map (with_place k) o) ≡ option_map (with_place (suc k)) o
  shifted k None = refl
  shifted k (Some y) = refl

  item_later : (o : Option ℕ) (x : A) (xs : List A) → option_map later (item_at xs o) ≡ item_at (x ∷ xs) (option_map (λ k. suc k) o)
  item_later None x xs = refl
  item_later (Some k) x xs = shifted k (slice_get xs k)

  found_by : (b : Bool) (x : A) (xs : List A) (o : Option ℕ) (p : Option (ℕ × A)) → p ≡ item_at xs o →
      (if b then Some (with_place 0 x) else option_map later p) ≡ item_at (x ∷ xs) (if b then Some 0 else option_map (λ k. suc k) o)
  found_by true x xs o p h = refl
  found_by false x xs o p h = ap (option_map later) h ∙ item_later o x xs

  found_at : (f : A → List ℕ) (xs : List A) (a : List ℕ) → find f xs a ≡ item_at xs (place_of (map f xs) a)
  found_at f [] a = refl
  found_at f (x ∷ xs) a = found_by (bytes_eq (f x) a) x xs (place_of (map f xs) a) (find f xs a) (found_at f xs a)

  pub found_none : (f : A → List ℕ) (xs : List A) (a : List ℕ) (o : Option ℕ) → o ≡ place_of (map f xs) a → o ≡ None → find f xs a ≡ None
  found_none f xs a o h e = found_at f xs a ∙ ap (item_at xs) (sym h ∙ e)

  pub found_some : (f : A → List ℕ) (xs : List A) (a : List ℕ) (o : Option ℕ) (k : ℕ) (r : Option A) → o ≡ place_of (map f xs) a → o ≡ Some k → r ≡ slice_get xs k →
      find f xs a ≡ option_map (with_place k) r
  found_some f xs a o k r h e q = found_at f xs a ∙ ap (item_at xs) (sym h ∙ e) ∙ ap (option_map (with_place k)) (sym q)

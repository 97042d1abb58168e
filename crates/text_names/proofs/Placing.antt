-- Tables of the places of keys: a table with one more key agrees with the list with one more key.
use Rattle.std.proofs.Common.{◌≡◌, ℕ, zero, suc, ◌+◌, ◌<◌, add-one, get_or, Bool, true, false, if◌then◌else◌, List, [], ◌∷◌, ◌++◌, length, map, take, Option, Some, None, refl, sym, ap, ◌∙◌, arith}
use Rattle.std.specs.Prelude.{bytes_eq, slice_get}
use Rattle.std.specs.Option.{option_map, option_or, option_and_then}
use Rattle.std.proofs.lemmas.List.{map-append, length-map, length-take-le}
use Rattle.raw_meaning.specs.Lookups.{find}
use Rattle.text_names.specs.Kinds.{head_of_key, head_key}
use Rattle.text_names.specs.Places.{place_by}
use Rattle.raw_meaning.specs.Outlines.{place_of}
use Rattle.text_names.specs.declared.kind_key.KindKey.{KindKey}
use Rattle.raw_meaning.specs.declared.outline.DefinitionHead.{DefinitionHead}

entry_later : (b : Bool) (n : ℕ) → option_map (λ k. suc k) (if b then Some n else None) ≡ (if b then Some (suc n) else None)
entry_later true n = refl
entry_later false n = refl

or_later : (o p : Option ℕ) → option_map (λ k. suc k) (option_or o p) ≡ option_or (option_map (λ k. suc k) o) (option_map (λ k. suc k) p)
or_later None p = refl
or_later (Some k) p = refl

or_by : (b : Bool) (o p q : Option ℕ) → o ≡ option_or p q → (if b then Some 0 else o) ≡ option_or (if b then Some 0 else p) q
or_by true o p q h = refl
or_by false o p q h = h

taken : {A : Type 0} (xs : List A) (k : ℕ) (x d : A) → k < length xs → x ≡ get_or xs k d → take (k + 1) xs ≡ take k xs ++ x ∷ []
taken xs k x d l h = rw add-one (next xs k x d l h)
  where
    next : {A : Type 0} (xs : List A) (k : ℕ) (x d : A) → k < length xs → x ≡ get_or xs k d → take (suc k) xs ≡ take k xs ++ x ∷ []
    next [] k x d l h = absurd (omega arith)
    next (y ∷ ys) zero x d l h = ap (λ z. z ∷ []) (sym h)
    next (y ∷ ys) (suc k) x d l h = ap (λ zs. y ∷ zs) (next ys k x d (omega arith) h)

module _ {K : Type 0} (eq : K → K → Bool) where
  abbrev pub entry : K → ℕ → K → Option ℕ
  entry x n w = if eq x w then Some n else None

  place_more : (xs : List K) (x w : K) → place_by eq (xs ++ x ∷ []) w ≡ option_or (place_by eq xs w) (entry x (length xs) w)
  place_more [] x w = refl
  place_more (y ∷ xs) x w =
      or_by (eq y w) (option_map (λ k. suc k) (place_by eq (xs ++ x ∷ []) w)) (option_map (λ k. suc k) (place_by eq xs w)) (entry x (suc (length xs)) w)
      (ap (option_map (λ k. suc k)) (place_more xs x w) ∙ or_later (place_by eq xs w) (entry x (length xs) w) ∙ ap (option_or (option_map (λ k. suc k) (place_by eq xs w))) (entry_later (eq x w) (length xs)))

  abbrev pub Agreeing : {A : Type 0} (f : A → K) → List A → (K → Option ℕ) → Type 0
  Agreeing f xs table = (w : K) → table w ≡ place_by eq (map f xs) w

  -- the next thing of a list
  pub entered : {A : Type 0} (f : A → K) (xs : List A) (k : ℕ) (x d : A) (name : K) (n : ℕ) (old new : K → Option ℕ) →
      k < length xs → x ≡ get_or xs k d → name ≡ f x → n ≡ k →
      ((w : K) → new w ≡ option_or (old w) (entry name n w)) → Agreeing f (take k xs) old → Agreeing f (take (k + 1) xs) new
  entered f xs k x d name n old new l at e m step before w =
      let long : length (map f (take k xs)) ≡ k = length-map (take k xs) f ∙ length-take-le k xs (omega arith) in
      let split : map f (take (k + 1) xs) ≡ map f (take k xs) ++ f x ∷ [] = ap (map f) (taken xs k x d l at) ∙ map-append f (take k xs) (x ∷ []) in
      step w ∙ (λ i. option_or (before w i) (entry (e i) (m i) w)) ∙ (λ i. option_or (place_by eq (map f (take k xs)) w) (entry (f x) (sym long i) w))
      ∙ sym (place_more (map f (take k xs)) (f x) w) ∙ ap (λ ns. place_by eq ns w) (sym split)

  -- one more thing at the end
  pub added : {A : Type 0} (f : A → K) (xs ys : List A) (x : A) (name : K) (n : ℕ) (old new : K → Option ℕ) → name ≡ f x → n ≡ length xs → ys ≡ xs ++ x ∷ [] →
      ((w : K) → new w ≡ option_or (old w) (entry name n w)) → Agreeing f xs old → Agreeing f ys new
  added f xs ys x name n old new e m q step before w =
      step w ∙ (λ i. option_or (before w i) (entry (e i) (m i) w)) ∙ (λ i. option_or (place_by eq (map f xs) w) (entry (f x) (sym (length-map xs f) i) w))
      ∙ sym (place_more (map f xs) (f x) w) ∙ ap (λ ns. place_by eq ns w) (sym (map-append f xs (x ∷ [])) ∙ ap (map f) (sym q))

pub place_of_names : (ns : List (List ℕ)) (a : List ℕ) → place_by bytes_eq ns a ≡ place_of ns a
place_of_names [] a = refl
place_of_names (n ∷ ns) a = ap (λ o. if bytes_eq n a then Some 0 else option_map (λ k. suc k) o) (place_of_names ns a)

-- the first thing of a key stands in the key's place
module _ {A : Type 0} where
  abbrev pub with_place : ℕ → A → ℕ × A
  with_place k x = (k, x)

  abbrev pub item_at : List A → Option ℕ → Option (ℕ × A)
  item_at xs o = option_and_then (λ k. option_map (with_place k) (slice_get xs k)) o

  abbrev later : ℕ × A → ℕ × A
  later p = (suc p.0, p.1)

  shifted : (k : ℕ) (o : Option A) → option_map later (option_map (with_place k) o) ≡ option_map (with_place (suc k)) o
  shifted k None = refl
  shifted k (Some y) = refl

  item_later : (o : Option ℕ) (x : A) (xs : List A) → option_map later (item_at xs o) ≡ item_at (x ∷ xs) (option_map (λ k. suc k) o)
  item_later None x xs = refl
  item_later (Some k) x xs = shifted k (slice_get xs k)

  found_by : (b : Bool) (x : A) (xs : List A) (o : Option ℕ) (p : Option (ℕ × A)) → p ≡ item_at xs o →
      (if b then Some (with_place 0 x) else option_map later p) ≡ item_at (x ∷ xs) (if b then Some 0 else option_map (λ k. suc k) o)
  found_by true x xs o p h = refl
  found_by false x xs o p h = ap (option_map later) h ∙ item_later o x xs

  found_at : (f : A → List ℕ) (xs : List A) (a : List ℕ) → find f xs a ≡ item_at xs (place_of (map f xs) a)
  found_at f [] a = refl
  found_at f (x ∷ xs) a = found_by (bytes_eq (f x) a) x xs (place_of (map f xs) a) (find f xs a) (found_at f xs a)

  pub found_none : (f : A → List ℕ) (xs : List A) (a : List ℕ) (o : Option ℕ) → o ≡ place_of (map f xs) a → o ≡ None → find f xs a ≡ None
  found_none f xs a o h e = found_at f xs a ∙ ap (item_at xs) (sym h ∙ e)

  pub found_some : (f : A → List ℕ) (xs : List A) (a : List ℕ) (o : Option ℕ) (k : ℕ) (r : Option A) → o ≡ place_of (map f xs) a → o ≡ Some k → r ≡ slice_get xs k →
      find f xs a ≡ option_map (with_place k) r
  found_some f xs a o k r h e q = found_at f xs a ∙ ap (item_at xs) (sym h ∙ e) ∙ ap (option_map (with_place k)) (sym q)

-- and so does the first definition of a kind
module _ (eq : KindKey → KindKey → Bool) where
  abbrev heading : ℕ × DefinitionHead → ℕ × ℕ
  heading p = (p.0, p.1.parameters)

  heading_later : (o : Option (ℕ × DefinitionHead)) → option_map (λ (p : ℕ × ℕ). (suc p.0, p.1)) (option_map heading o) ≡ option_map heading (option_map later o)
  heading_later None = refl
  heading_later (Some p) = refl

  head_by : (b : Bool) (x : DefinitionHead) (xs : List DefinitionHead) (o : Option ℕ) (p : Option (ℕ × ℕ)) → p ≡ option_map heading (item_at xs o) →
      (if b then Some (0, x.parameters) else option_map (λ (p : ℕ × ℕ). (suc p.0, p.1)) p) ≡ option_map heading (item_at (x ∷ xs) (if b then Some 0 else option_map (λ k. suc k) o))
  head_by true x xs o p h = refl
  head_by false x xs o p h = ap (option_map (λ (p : ℕ × ℕ). (suc p.0, p.1))) h ∙ heading_later (item_at xs o) ∙ ap (option_map heading) (item_later o x xs)

  head_at : (xs : List DefinitionHead) (k : KindKey) → head_of_key eq xs k ≡ option_map heading (item_at xs (place_by eq (map head_key xs) k))
  head_at [] k = refl
  head_at (x ∷ xs) k = head_by (eq (head_key x) k) x xs (place_by eq (map head_key xs) k) (head_of_key eq xs k) (head_at xs k)

  pub head_none : (xs : List DefinitionHead) (a : KindKey) (o : Option ℕ) → o ≡ place_by eq (map head_key xs) a → o ≡ None → head_of_key eq xs a ≡ None
  head_none xs a o h e = head_at xs a ∙ ap (λ o. option_map heading (item_at xs o)) (sym h ∙ e)

  pub head_some : (xs : List DefinitionHead) (a : KindKey) (o : Option ℕ) (k : ℕ) (r : Option DefinitionHead) → o ≡ place_by eq (map head_key xs) a → o ≡ Some k → r ≡ slice_get xs k →
      head_of_key eq xs a ≡ option_map heading (option_map (with_place k) r)
  head_some xs a o k r h e q = head_at xs a ∙ ap (λ o. option_map heading (item_at xs o)) (sym h ∙ e) ∙ ap (λ o. option_map heading (option_map (with_place k) o)) (sym q)

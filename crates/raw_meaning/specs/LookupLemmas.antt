-- What is found by its name is there and has the name.
use Rattle.std.specs.Prelude.{◌≡◌, refl, ℕ, suc, Bool, true, false, if◌then◌else◌, List, [], ◌∷◌, map, Option, Some, None, slice_get, bytes_eq}
use Rattle.std.specs.Cmp.Lexicographic.{bytes_decides}
use Rattle.std.specs.Option.{option_map}
use Rattle.std.proofs.Common.{ap, subst}
use Rattle.raw_meaning.specs.Lookups.{find}
use Rattle.raw_meaning.specs.OptionLemmas.{mapped_made}
use Rattle.raw_meaning.specs.Outlines.{place_of}

pub same_bytes : (a b : List ℕ) → bytes_eq a b ≡ true → a ≡ b
same_bytes a b h = (bytes_decides a b).0 h

-- an item with this head in this place, of this name
pub record IsThere {A B : Type 0} (name : B → List ℕ) (head : A → B) (xs : List A) (a : List ℕ) (p : ℕ × B) : Type 0 where
  pub item : A
  pub at : slice_get xs p.0 ≡ Some item
  pub is : head item ≡ p.1
  pub named : name p.1 ≡ a

module _ {A B : Type 0} (name : B → List ℕ) (head : A → B) where
  later : (o : Option (ℕ × B)) (x : A) (xs : List A) (a : List ℕ) (p : ℕ × B) → ((q : ℕ × B) → o ≡ Some q → IsThere name head xs a q) → option_map (λ (q : ℕ × B). (suc q.0, q.1)) o ≡ Some p →
      IsThere name head (x ∷ xs) a p
  later None x xs a p f h = absurd cc
  later (Some q) x xs a p f h =
      let y : ℕ × B = (suc q.0, q.1) in let e : y ≡ p = cc in
      let r = f q refl in subst (IsThere name head (x ∷ xs) a) e (record { item = r.item; at = r.at; is = r.is; named = r.named })

  found_by : (b : Bool) (x : A) (xs : List A) (a : List ℕ) (p : ℕ × B) → bytes_eq (name (head x)) a ≡ b → ((q : ℕ × B) → find name (map head xs) a ≡ Some q → IsThere name head xs a q) →
      (if b then Some (0, head x) else option_map (λ (q : ℕ × B). (suc q.0, q.1)) (find name (map head xs) a)) ≡ Some p → IsThere name head (x ∷ xs) a p
  found_by true x xs a p s f h =
      let y : ℕ × B = (0, head x) in let e : y ≡ p = cc in
      subst (IsThere name head (x ∷ xs) a) e (record { item = x; at = refl; is = refl; named = same_bytes (name (head x)) a s })
  found_by false x xs a p s f h = later (find name (map head xs) a) x xs a p f h

  pub found : (xs : List A) (a : List ℕ) (p : ℕ × B) → find name (map head xs) a ≡ Some p → IsThere name head xs a p
  found [] a p h = absurd cc
  found (x ∷ xs) a p h = found_by (bytes_eq (name (head x)) a) x xs a p refl (found xs a) h

-- the place of a name
placed_by : (b : Bool) (o : Option ℕ) (n : List ℕ) (ns : List (List ℕ)) (a : List ℕ) (k : ℕ) → (b ≡ true → n ≡ a) → ((j : ℕ) → o ≡ Some j → slice_get ns j ≡ Some a) →
    (if b then Some 0 else option_map (λ j. suc j) o) ≡ Some k → slice_get (n ∷ ns) k ≡ Some a
placed_by true o n ns a k f g h = let e : 0 ≡ k = cc in subst (λ j. slice_get (n ∷ ns) j ≡ Some a) e (ap (λ x. Some x) (f refl))
placed_by false o n ns a k f g h =
    let m = mapped_made (λ j. suc j) o k h in subst (λ j. slice_get (n ∷ ns) j ≡ Some a) m.2 (g m.0 m.1)

pub placed : (ns : List (List ℕ)) (a : List ℕ) (k : ℕ) → place_of ns a ≡ Some k → slice_get ns k ≡ Some a
placed [] a k h = absurd cc
placed (n ∷ ns) a k h = placed_by (bytes_eq n a) (place_of ns a) n ns a k (same_bytes n a) (placed ns a) h

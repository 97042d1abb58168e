-- The sizes of lists of parts, as an atom, a type or code is dropped.
use Rattle.std.proofs.Common.{◌≡◌, refl, ap, subst, ◌∙◌, ℕ, ◌+◌, ◌*◌, ◌<◌, ◌≤◌, List, [], ◌∷◌, ◌++◌, Some, slice_get, slice_set, arith}
use Rattle.raw_ast.specs.Code.{RawCode, rawarms, nodes_rawcode, nodes_rawarms}
use Rattle.raw_ast.specs.declared.pattern.Pattern.{Pattern}
use Rattle.raw_ast.specs.Atoms.{RawAtom, rawatoms, nodes_rawatom, nodes_rawatoms}
use Rattle.raw_ast.specs.Types.{RawType, rawtypes, nodes_rawtype, nodes_rawtypes}

-- once for every list whose size is its items' sizes, and one for each item
module _ (A : Type 0) (weigh : A → ℕ) (all : List A → ℕ) (grows : (x : A) (xs : List A) → all (x ∷ xs) ≡ weigh x + all xs + 1) where
  first_below : (xs : List A) (f : A) → slice_get xs 0 ≡ Some f → weigh f < all xs
  first_below [] f h = absurd cc
  first_below (x ∷ xs) f h = let q : x ≡ f = cc in subst (λ y. weigh y < all (x ∷ xs)) q (omega (arith, grows x xs))

  first_changed : (xs new : List A) (f w : A) → slice_get xs 0 ≡ Some f → new ≡ slice_set xs 0 w → weigh f + all new ≡ weigh w + all xs
  first_changed [] new f w h p = absurd cc
  first_changed (x ∷ xs) new f w h p =
      let q : f ≡ x = cc in
      let same = ap weigh q in
      let changed : all new ≡ all (w ∷ xs) = ap all p in
      omega (arith, same, changed, grows x xs, grows w xs)

  last_added : (xs : List A) (x : A) → all (xs ++ x ∷ []) ≡ all xs + weigh x + 1
  last_added [] x = omega (arith, grows x [])
  last_added (y ∷ ys) x = omega (arith, grows y ys, grows y (ys ++ x ∷ []), last_added ys x)

  last_taken : (old xs : List A) (x : A) → old ≡ xs ++ x ∷ [] → all old ≡ all xs + weigh x + 1
  last_taken old xs x h = ap all h ∙ last_added xs x

-- atoms
pub below_first : (xs : List RawAtom) (f : RawAtom) → slice_get xs 0 ≡ Some f → nodes_rawatom f < nodes_rawatoms (rawatoms xs)
below_first = first_below RawAtom nodes_rawatom (λ xs. nodes_rawatoms (rawatoms xs)) (λ x xs. refl)

pub all_kept : (xs new : List RawAtom) (f w : RawAtom) → slice_get xs 0 ≡ Some f → new ≡ slice_set xs 0 w → nodes_rawatom f + nodes_rawatoms (rawatoms new) ≡ nodes_rawatom w + nodes_rawatoms (rawatoms xs)
all_kept = first_changed RawAtom nodes_rawatom (λ xs. nodes_rawatoms (rawatoms xs)) (λ x xs. refl)

pub nodes_taken : (old xs : List RawAtom) (x : RawAtom) → old ≡ xs ++ x ∷ [] → nodes_rawatoms (rawatoms old) ≡ nodes_rawatoms (rawatoms xs) + nodes_rawatom x + 1
nodes_taken = last_taken RawAtom nodes_rawatom (λ xs. nodes_rawatoms (rawatoms xs)) (λ x xs. refl)

-- types
pub below_first_type : (xs : List RawType) (f : RawType) → slice_get xs 0 ≡ Some f → nodes_rawtype f < nodes_rawtypes (rawtypes xs)
below_first_type = first_below RawType nodes_rawtype (λ xs. nodes_rawtypes (rawtypes xs)) (λ x xs. refl)

pub all_types_kept : (xs new : List RawType) (f w : RawType) → slice_get xs 0 ≡ Some f → new ≡ slice_set xs 0 w → nodes_rawtype f + nodes_rawtypes (rawtypes new) ≡ nodes_rawtype w + nodes_rawtypes (rawtypes xs)
all_types_kept = first_changed RawType nodes_rawtype (λ xs. nodes_rawtypes (rawtypes xs)) (λ x xs. refl)

pub types_taken : (old xs : List RawType) (x : RawType) → old ≡ xs ++ x ∷ [] → nodes_rawtypes (rawtypes old) ≡ nodes_rawtypes (rawtypes xs) + nodes_rawtype x + 1
types_taken = last_taken RawType nodes_rawtype (λ xs. nodes_rawtypes (rawtypes xs)) (λ x xs. refl)

-- arms
pub below_first_arm : (xs : List (Pattern × RawCode)) (f : Pattern × RawCode) → slice_get xs 0 ≡ Some f → nodes_rawcode f.1 < nodes_rawarms (rawarms xs)
below_first_arm = first_below (Pattern × RawCode) (λ x. nodes_rawcode x.1) (λ xs. nodes_rawarms (rawarms xs)) (λ x xs. refl)

pub all_arms_kept : (xs new : List (Pattern × RawCode)) (f w : Pattern × RawCode) → slice_get xs 0 ≡ Some f → new ≡ slice_set xs 0 w → nodes_rawcode f.1 + nodes_rawarms (rawarms new) ≡ nodes_rawcode w.1 + nodes_rawarms (rawarms xs)
all_arms_kept = first_changed (Pattern × RawCode) (λ x. nodes_rawcode x.1) (λ xs. nodes_rawarms (rawarms xs)) (λ x xs. refl)

pub arms_taken : (old xs : List (Pattern × RawCode)) (x : Pattern × RawCode) → old ≡ xs ++ x ∷ [] → nodes_rawarms (rawarms old) ≡ nodes_rawarms (rawarms xs) + nodes_rawcode x.1 + 1
arms_taken = last_taken (Pattern × RawCode) (λ x. nodes_rawcode x.1) (λ xs. nodes_rawarms (rawarms xs)) (λ x xs. refl)

-- fewer nodes in all, or as many and fewer in the next part
times_grows : (a b k : ℕ) → a ≤ b → a * k ≤ b * k
times_grows a b k h = grind arith

pub fewer_in_all : (t u h g k : ℕ) → u < t → g ≤ k → u * (k + 1) + g < t * (k + 1) + h
fewer_in_all t u h g k l m = let q : (u + 1) * (k + 1) ≤ t * (k + 1) = times_grows (u + 1) t (k + 1) (omega arith) in
    let r : (u + 1) * (k + 1) ≡ u * (k + 1) + (k + 1) = omega arith in omega arith

pub fewer_next : (t u h g k : ℕ) → u ≡ t → g < h → u * (k + 1) + g < t * (k + 1) + h
fewer_next t u h g k e l = let q = ap (λ n. n * (k + 1)) e in omega arith

-- The sizes of lists of parts, as a term, a value, a type or code is dropped.
use Rattle.std.proofs.Common.{◌≡◌, refl, ap, subst, ◌∙◌, ℕ, ◌+◌, ◌*◌, ◌<◌, ◌≤◌, List, [], ◌∷◌, ◌++◌, Some, slice_get, slice_set, arith}
use Rattle.pure_ast.specs.Code.{Code, arms, nodes_code, nodes_arms}
use Rattle.pure_ast.specs.declared.pat.Pat.{Pat}
use Rattle.pure_ast.specs.Terms.{Term, terms, nodes_term, nodes_terms}
use Rattle.pure_ast.specs.Types.{PTy, ptys, nodes_pty, nodes_ptys}
use Rattle.pure_ast.specs.Values.{PValue, pvalues, nodes_pvalue, nodes_pvalues}

-- once for every list whose size is its items' sizes, and one for each item
module _ (A : Type 0) (weigh : A → ℕ) (all : List A → ℕ) (grows : (x : A) (xs : List A) → all (x ∷ xs) ≡ weigh x + all xs + 1) where
  first_below : (xs : List A) (f : A) → slice_get xs 0 ≡ Some f → weigh f < all xs
  first_below [] f h = absurd cc
  first_below (x ∷ xs) f h = let q : x ≡ f = cc in subst (λ y. weigh y < all (x ∷ xs)) q (omega (arith, grows x xs))

  first_changed : (xs new : List A) (f w : A) → slice_get xs 0 ≡ Some f → new ≡ slice_set xs 0 w → weigh f + all new ≡ weigh w + all xs
  first_changed [] new f w h p = absurd cc
  first_changed (x ∷ xs) new f w h p =
      let q : f ≡ x = cc in
      let same = ap weigh q in
      let changed : all new ≡ all (w ∷ xs) = ap all p in
      omega (arith, same, changed, grows x xs, grows w xs)

  last_added : (xs : List A) (x : A) → all (xs ++ x ∷ []) ≡ all xs + weigh x + 1
  last_added [] x = omega (arith, grows x [])
  last_added (y ∷ ys) x = omega (arith, grows y ys, grows y (ys ++ x ∷ []), last_added ys x)

  last_taken : (old xs : List A) (x : A) → old ≡ xs ++ x ∷ [] → all old ≡ all xs + weigh x + 1
  last_taken old xs x h = ap all h ∙ last_added xs x

-- terms
pub below_first : (xs : List Term) (f : Term) → slice_get xs 0 ≡ Some f → nodes_term f < nodes_terms (terms xs)
below_first = first_below Term nodes_term (λ xs. nodes_terms (terms xs)) (λ x xs. refl)

pub all_kept : (xs new : List Term) (f w : Term) → slice_get xs 0 ≡ Some f → new ≡ slice_set xs 0 w → nodes_term f + nodes_terms (terms new) ≡ nodes_term w + nodes_terms (terms xs)
all_kept = first_changed Term nodes_term (λ xs. nodes_terms (terms xs)) (λ x xs. refl)

pub nodes_taken : (old xs : List Term) (x : Term) → old ≡ xs ++ x ∷ [] → nodes_terms (terms old) ≡ nodes_terms (terms xs) + nodes_term x + 1
nodes_taken = last_taken Term nodes_term (λ xs. nodes_terms (terms xs)) (λ x xs. refl)

-- values
pub below_first_value : (xs : List PValue) (f : PValue) → slice_get xs 0 ≡ Some f → nodes_pvalue f < nodes_pvalues (pvalues xs)
below_first_value = first_below PValue nodes_pvalue (λ xs. nodes_pvalues (pvalues xs)) (λ x xs. refl)

pub all_values_kept : (xs new : List PValue) (f w : PValue) → slice_get xs 0 ≡ Some f → new ≡ slice_set xs 0 w
    → nodes_pvalue f + nodes_pvalues (pvalues new) ≡ nodes_pvalue w + nodes_pvalues (pvalues xs)
all_values_kept = first_changed PValue nodes_pvalue (λ xs. nodes_pvalues (pvalues xs)) (λ x xs. refl)

pub values_taken : (old xs : List PValue) (x : PValue) → old ≡ xs ++ x ∷ [] → nodes_pvalues (pvalues old) ≡ nodes_pvalues (pvalues xs) + nodes_pvalue x + 1
values_taken = last_taken PValue nodes_pvalue (λ xs. nodes_pvalues (pvalues xs)) (λ x xs. refl)

-- types
pub below_first_type : (xs : List PTy) (f : PTy) → slice_get xs 0 ≡ Some f → nodes_pty f < nodes_ptys (ptys xs)
below_first_type = first_below PTy nodes_pty (λ xs. nodes_ptys (ptys xs)) (λ x xs. refl)

pub all_types_kept : (xs new : List PTy) (f w : PTy) → slice_get xs 0 ≡ Some f → new ≡ slice_set xs 0 w → nodes_pty f + nodes_ptys (ptys new) ≡ nodes_pty w + nodes_ptys (ptys xs)
all_types_kept = first_changed PTy nodes_pty (λ xs. nodes_ptys (ptys xs)) (λ x xs. refl)

pub types_taken : (old xs : List PTy) (x : PTy) → old ≡ xs ++ x ∷ [] → nodes_ptys (ptys old) ≡ nodes_ptys (ptys xs) + nodes_pty x + 1
types_taken = last_taken PTy nodes_pty (λ xs. nodes_ptys (ptys xs)) (λ x xs. refl)

-- arms
pub below_first_arm : (xs : List (Pat × Code)) (f : Pat × Code) → slice_get xs 0 ≡ Some f → nodes_code f.1 < nodes_arms (arms xs)
below_first_arm = first_below (Pat × Code) (λ x. nodes_code x.1) (λ xs. nodes_arms (arms xs)) (λ x xs. refl)

pub all_arms_kept : (xs new : List (Pat × Code)) (f w : Pat × Code) → slice_get xs 0 ≡ Some f → new ≡ slice_set xs 0 w → nodes_code f.1 + nodes_arms (arms new) ≡ nodes_code w.1 + nodes_arms (arms xs)
all_arms_kept = first_changed (Pat × Code) (λ x. nodes_code x.1) (λ xs. nodes_arms (arms xs)) (λ x xs. refl)

pub arms_taken : (old xs : List (Pat × Code)) (x : Pat × Code) → old ≡ xs ++ x ∷ [] → nodes_arms (arms old) ≡ nodes_arms (arms xs) + nodes_code x.1 + 1
arms_taken = last_taken (Pat × Code) (λ x. nodes_code x.1) (λ xs. nodes_arms (arms xs)) (λ x xs. refl)

-- fewer nodes in all, or as many and fewer in the next part
times_grows : (a b k : ℕ) → a ≤ b → a * k ≤ b * k
times_grows a b k h = grind arith

pub fewer_in_all : (t u h g k : ℕ) → u < t → g ≤ k → u * (k + 1) + g < t * (k + 1) + h
fewer_in_all t u h g k l m = let q : (u + 1) * (k + 1) ≤ t * (k + 1) = times_grows (u + 1) t (k + 1) (omega arith) in
    let r : (u + 1) * (k + 1) ≡ u * (k + 1) + (k + 1) = omega arith in omega arith

pub fewer_next : (t u h g k : ℕ) → u ≡ t → g < h → u * (k + 1) + g < t * (k + 1) + h
fewer_next t u h g k e l = let q = ap (λ n. n * (k + 1)) e in omega arith

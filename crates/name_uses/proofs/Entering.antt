-- Variables come into scope one after the other.
use Rattle.std.proofs.Common.{◌≡◌, ℕ, zero, suc, ◌+◌, ◌-◌, ◌<◌, ◌≤◌, List, [], ◌∷◌, ◌++◌, take, drop, Some, None, refl, ap, ◌∙◌, arith}
use Rattle.std.specs.Prelude.{slice_get}
use Rattle.rust_ast.specs.declared.resolution.Variable.{Variable}
use Rattle.name_tables.specs.ListLemmas.{with_nothing, put_behind}
use Rattle.name_uses.specs.Scopes.{numbered, with_variables}

drop_get : (xs : List Variable) (i : ℕ) (x : Variable) → slice_get xs i ≡ Some x → drop i xs ≡ x ∷ drop (suc i) xs
drop_get [] i x h = cc
drop_get (y ∷ ys) zero x h = cc
drop_get (y ∷ ys) (suc i) x h = drop_get ys i x h

drop_none : (xs : List Variable) (i : ℕ) → slice_get xs i ≡ None → drop i xs ≡ []
drop_none [] zero h = refl
drop_none [] (suc i) h = refl
drop_none (y ∷ ys) zero h = cc
drop_none (y ∷ ys) (suc i) h = drop_none ys i h

nothing_taken : (n : ℕ) (xs : List Variable) → xs ≡ [] → take n xs ≡ []
nothing_taken zero xs h = refl
nothing_taken (suc n) [] h = refl
nothing_taken (suc n) (x ∷ xs) h = cc

later : (a b : ℕ) → a < b → b - a ≡ suc (b - suc a)
later a b h = omega arith

nothing_left : (a b : ℕ) → b ≤ a → b - a ≡ 0
nothing_left a b h = omega arith

-- one more
pub enters : (a b : ℕ) (vs : List Variable) (sc : List (List ℕ × ℕ)) (v : Variable) → a < b → slice_get vs a ≡ Some v →
    with_variables a b vs sc ≡ with_variables (a + 1) b vs (sc ++ (v.name, a) ∷ [])
enters a b vs sc v h e =
    let n : suc a ≡ a + 1 = omega arith in
    (λ i. sc ++ numbered a (take (later a b h i) (drop_get vs a v e i)))
    ∙ put_behind sc (v.name, a) (numbered (suc a) (take (b - suc a) (drop (suc a) vs)))
    ∙ ap (λ k. (sc ++ (v.name, a) ∷ []) ++ numbered k (take (b - k) (drop k vs))) n

-- there is no more
pub enters_none : (a b : ℕ) (vs : List Variable) (sc : List (List ℕ × ℕ)) → slice_get vs a ≡ None → with_variables a b vs sc ≡ sc
enters_none a b vs sc e = ap (λ ys. sc ++ numbered a ys) (nothing_taken (b - a) (drop a vs) (drop_none vs a e)) ∙ with_nothing sc

pub enters_all : (a b : ℕ) (vs : List Variable) (sc : List (List ℕ × ℕ)) → b ≤ a → with_variables a b vs sc ≡ sc
enters_all a b vs sc h = ap (λ n. sc ++ numbered a (take n (drop a vs))) (nothing_left a b h) ∙ with_nothing sc

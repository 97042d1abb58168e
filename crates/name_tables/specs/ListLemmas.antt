-- Lists: the first items of one, what is left behind them, and an item put behind others.
use Rattle.std.proofs.Common.{◌≡◌, ℕ, zero, suc, ◌+◌, ◌<◌, ◌≤◌, add-one, get_or, List, [], ◌∷◌, ◌++◌, length, take, drop, refl, sym, ap, ◌∙◌, arith}

plus_one : (i : ℕ) → suc i ≡ i + 1
plus_one i = omega arith

module _ {A : Type 0} where
  drop_suc : (xs : List A) (i : ℕ) (x : A) → i < length xs → x ≡ get_or xs i x → drop i xs ≡ x ∷ drop (suc i) xs
  drop_suc [] i x h q = absurd (omega arith)
  drop_suc (y ∷ ys) zero x h q = ap (λ z. z ∷ ys) (sym q)
  drop_suc (y ∷ ys) (suc i) x h q = drop_suc ys i x (omega arith) q

  pub drop_at : (xs : List A) (i : ℕ) (x : A) → i < length xs → x ≡ get_or xs i x → drop i xs ≡ x ∷ drop (i + 1) xs
  drop_at xs i x h q = drop_suc xs i x h q ∙ ap (λ n. x ∷ drop n xs) (plus_one i)

  pub drop_all : (xs : List A) (i : ℕ) → length xs ≤ i → drop i xs ≡ []
  drop_all [] zero h = refl
  drop_all [] (suc i) h = refl
  drop_all (x ∷ xs) zero h = absurd (omega arith)
  drop_all (x ∷ xs) (suc i) h = drop_all xs i (omega arith)

  pub with_nothing : (xs : List A) → xs ++ [] ≡ xs
  with_nothing [] = refl
  with_nothing (x ∷ xs) = ap (λ ys. x ∷ ys) (with_nothing xs)

  pub put_behind : (xs : List A) (x : A) (ys : List A) → xs ++ x ∷ ys ≡ (xs ++ x ∷ []) ++ ys
  put_behind [] x ys = refl
  put_behind (z ∷ xs) x ys = ap (λ zs. z ∷ zs) (put_behind xs x ys)

pub taken : {A : Type 0} (xs : List A) (k : ℕ) (x d : A) → k < length xs → x ≡ get_or xs k d → take (k + 1) xs ≡ take k xs ++ x ∷ []
taken xs k x d l h = rw add-one (next xs k x d l h)
  where
    next : {A : Type 0} (xs : List A) (k : ℕ) (x d : A) → k < length xs → x ≡ get_or xs k d → take (suc k) xs ≡ take k xs ++ x ∷ []
    next [] k x d l h = absurd (omega arith)
    next (y ∷ ys) zero x d l h = ap (λ z. z ∷ []) (sym h)
    next (y ∷ ys) (suc k) x d l h = ap (λ zs. y ∷ zs) (next ys k x d (omega arith) h)

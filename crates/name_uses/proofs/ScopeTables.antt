-- The table of the names in scope, when a name is added and when the last is taken off.
use Rattle.std.proofs.Common.{◌≡◌, ℕ, zero, suc, ◌-◌, ◌≤◌, Bool, true, false, cond, if◌then◌else◌, List, [], ◌∷◌, ◌++◌, length, take, Option, Some, None, refl, sym, ap, ◌∙◌, arith, length-append}
use Rattle.std.specs.Str.{bytes_eq}
use Rattle.name_tables.specs.Finding.{or_else}
use Rattle.name_tables.specs.ListLemmas.{with_nothing, put_behind}
use Rattle.name_uses.specs.Hiding.{pair, pairs, found, IsTable, Hide}
use Rattle.name_uses.specs.Scopes.{variable_of}
use Rattle.name_uses.specs.declared.scope.InScope.{InScope}

or_if : (b : Bool) (k : ℕ) (v c : Option ℕ) → or_else (if b then Some k else v) c ≡ (if b then Some k else or_else v c)
or_if true k v c = refl
or_if false k v c = refl

variable_more : (xs : List (List ℕ × ℕ)) (n : List ℕ) (k : ℕ) (w : List ℕ) → variable_of (xs ++ (n, k) ∷ []) w ≡ (if bytes_eq n w then Some k else variable_of xs w)
variable_more [] n k w = refl
variable_more (x ∷ xs) n k w =
    ap (λ o. or_else o (if bytes_eq x.0 w then Some x.1 else None)) (variable_more xs n k w)
    ∙ or_if (bytes_eq n w) k (variable_of xs w) (if bytes_eq x.0 w then Some x.1 else None)

found_more : (b : Bool) (k : ℕ) (o : Option (Option ℕ)) (v : Option ℕ) → found o ≡ v → found (cond b (Some (Some k)) o) ≡ (if b then Some k else v)
found_more true k o v h = refl
found_more false k o v h = h

-- a name is added
pub table_more : (old new : List ℕ → Option (Option ℕ)) (xs : List (List ℕ × ℕ)) (name key : List ℕ) (k : ℕ) → key ≡ name →
    ((w : List ℕ) → new w ≡ cond (bytes_eq key w) (Some (Some k)) (old w)) → IsTable old xs → IsTable new (xs ++ (name, k) ∷ [])
table_more old new xs name key k e h t w =
    ap found (h w) ∙ found_more (bytes_eq key w) k (old w) (variable_of xs w) (t w) ∙ ap (λ n. if bytes_eq n w then Some k else variable_of xs w) e ∙ sym (variable_more xs name k w)

pub hide_more : (before : List (List ℕ × ℕ)) (xs : List InScope) (x : InScope) → Hide before xs → x.hides ≡ variable_of (before ++ pairs xs) x.name → Hide before (xs ++ x ∷ [])
hide_more before [] x h e = (e ∙ ap (λ ys. variable_of ys x.name) (with_nothing before), tt)
hide_more before (y ∷ ys) x h e = (h.0, hide_more (before ++ pair y ∷ []) ys x h.1 (e ∙ ap (λ zs. variable_of zs x.name) (put_behind before (pair y) (pairs ys))))

pub pairs_more : (xs : List InScope) (x : InScope) → pairs (xs ++ x ∷ []) ≡ pairs xs ++ pair x ∷ []
pairs_more [] x = refl
pairs_more (y ∷ ys) x = ap (λ zs. pair y ∷ zs) (pairs_more ys x)

-- the last name is taken off
pub hide_less : (before : List (List ℕ × ℕ)) (xs : List InScope) (x : InScope) → Hide before (xs ++ x ∷ []) → Hide before xs × (x.hides ≡ variable_of (before ++ pairs xs) x.name)
hide_less before [] x h = (tt, h.0 ∙ ap (λ ys. variable_of ys x.name) (sym (with_nothing before)))
hide_less before (y ∷ ys) x h =
    let r = hide_less (before ++ pair y ∷ []) ys x h.1 in
    ((h.0, r.0), r.1 ∙ ap (λ zs. variable_of zs x.name) (sym (put_behind before (pair y) (pairs ys))))

found_less : (b : Bool) (n w : List ℕ) (k : ℕ) (xs : List (List ℕ × ℕ)) (h : Option ℕ) (o : Option (Option ℕ)) → (b ≡ true → n ≡ w) → h ≡ variable_of xs n → found o ≡ (if b then Some k else variable_of xs w) →
    found (cond b (Some h) o) ≡ variable_of xs w
found_less true n w k xs h o e hide t = hide ∙ ap (variable_of xs) (e refl)
found_less false n w k xs h o e hide t = t

pub table_less : (old new : List ℕ → Option (Option ℕ)) (xs : List (List ℕ × ℕ)) (n : List ℕ) (k : ℕ) (hides : Option ℕ) → ((a b : List ℕ) → bytes_eq a b ≡ true → a ≡ b) →
    ((w : List ℕ) → new w ≡ cond (bytes_eq n w) (Some hides) (old w)) → IsTable old (xs ++ (n, k) ∷ []) → hides ≡ variable_of xs n → IsTable new xs
table_less old new xs n k hides same h t e w =
    ap found (h w) ∙ found_less (bytes_eq n w) n w k xs hides (old w) (same n w) e (t w ∙ variable_more xs n k w)

-- ---- the first of a list

take_front : {A : Type 0} (xs : List A) (x : A) → take (length xs) (xs ++ x ∷ []) ≡ xs
take_front [] x = refl
take_front (y ∷ ys) x = ap (λ zs. y ∷ zs) (take_front ys x)

less_one : {A : Type 0} (xs : List A) (x : A) → length (xs ++ x ∷ []) - 1 ≡ length xs
less_one xs x = let a = length-append xs (x ∷ []) in omega (arith, a)

pub without_last : {A : Type 0} (xs : List A) (x : A) → take (length (xs ++ x ∷ []) - 1) (xs ++ x ∷ []) ≡ xs
without_last xs x = ap (λ n. take n (xs ++ x ∷ [])) (less_one xs x) ∙ take_front xs x

pub take_all : {A : Type 0} (n : ℕ) (xs : List A) → length xs ≤ n → take n xs ≡ xs
take_all zero [] h = refl
take_all zero (x ∷ xs) h = absurd (omega arith)
take_all (suc n) [] h = refl
take_all (suc n) (x ∷ xs) h = ap (λ ys. x ∷ ys) (take_all n xs (omega arith))

pub take_take : {A : Type 0} (n m : ℕ) (xs : List A) → n ≤ m → take n (take m xs) ≡ take n xs
take_take zero m xs h = refl
take_take (suc n) zero xs h = absurd (omega arith)
take_take (suc n) (suc m) [] h = refl
take_take (suc n) (suc m) (x ∷ xs) h = ap (λ ys. x ∷ ys) (take_take n m xs (omega arith))

-- Two writes in a row.
use Rattle.std.proofs.Common.{◌≡◌, ℕ, List, ◌++◌, ap, ◌∙◌, sym, subst, append_assoc, take, drop, ◌+◌, ◌≤◌, length, ◌-◌, length-drop, arith}
use Rattle.std.proofs.lemmas.List.{take-append-drop, take-take, drop-take, take_rest}
use Rattle.aen_io.specs.Written.{WritesAll}

-- a list's front of k + n items, in two parts
pub take_add : {A : Type 0} → (k n : ℕ) (xs : List A) → take k xs ++ take n (drop k xs) ≡ take (k + n) xs
take_add k n xs =
    let front = take-take k (k + n) xs (omega arith) in
    let rest = drop-take k n xs in
    (λ i. sym front i ++ sym rest i) ∙ take-append-drop k (take (k + n) xs)

pub writes_more : (a b c x y : List ℕ) → WritesAll a b x → WritesAll b c y → WritesAll a c (x ++ y)
writes_more a b c x y p q = q ∙ ap (λ xs. xs ++ y) p ∙ append_assoc a x y

pub writes_turn : (a b c bytes : List ℕ) (done n : ℕ)
    → WritesAll a b (take done bytes) → WritesAll b c (take n (take (length bytes - done) (drop done bytes)))
    → WritesAll a c (take (done + n) bytes)
writes_turn a b c bytes done n p q =
    let both = writes_more a b c (take done bytes) (take n (take (length bytes - done) (drop done bytes))) p q in
    let e = ap (λ (xs : List ℕ). take done bytes ++ take n xs) (take_rest bytes done) ∙ take_add done n bytes in
    subst (λ t. WritesAll a c t) e both

pub turn_within : (bytes : List ℕ) (done n : ℕ) → done ≤ length bytes
    → n ≤ length (take (length bytes - done) (drop done bytes)) → done + n ≤ length bytes
turn_within bytes done n h b =
    let e = ap length (take_rest bytes done) ∙ length-drop done bytes in
    omega arith

-- The longest punctuation that begins a text.
use Rattle.std.proofs.Common.{◌≡◌, refl, subst, ℕ, zero, suc, ◌≤◌, ◌<◌, Bool, true, false, List, [], ◌∷◌, length, take, Some, None, arith}
use Rattle.std.specs.Prelude.{nat_le, if◌then◌else◌}
use Rattle.std.proofs.lemmas.Bool.Decides.{nat_tests}
use Rattle.rust_lex.specs.Punctuation.{is_mark}
use Rattle.rust_lex.specs.Scan.{is_mark_of, mark_length}
use Rattle.rust_lex.proofs.TestLemmas.{by_test, and_left, and_right, and_both, clash, not_true, some_same}

le_test : (m n : ℕ) → m ≤ n → nat_le m n ≡ true
le_test m n h = grind (arith, nat_tests)

test_le : (m n : ℕ) → nat_le m n ≡ true → m ≤ n
test_le m n h = grind (arith, nat_tests)

-- punctuation has one to three bytes
small : (m : ℕ) (text : List ℕ) → m ≤ length text → is_mark (take m text) ≡ true → m ≤ 3
small zero text l h = omega arith
small (suc zero) text l h = omega arith
small (suc (suc zero)) text l h = omega arith
small (suc (suc (suc zero))) text l h = omega arith
small (suc (suc (suc (suc m)))) [] l h = absurd cc
small (suc (suc (suc (suc m)))) (a ∷ []) l h = absurd (omega arith)
small (suc (suc (suc (suc m)))) (a ∷ b ∷ []) l h = absurd (omega arith)
small (suc (suc (suc (suc m)))) (a ∷ b ∷ c ∷ []) l h = absurd (omega arith)
small (suc (suc (suc (suc m)))) (a ∷ b ∷ c ∷ d ∷ r) l h = absurd cc

of_slice : (m : ℕ) (text : List ℕ) → m ≤ length text → is_mark (take m text) ≡ true → is_mark_of m text ≡ true
of_slice m text l h = and_both (nat_le m (length text)) (is_mark (take m text)) (le_test m (length text) l) h

pub record IsFoundMark (text : List ℕ) (n : ℕ) : Type 0 where
  pub within : n ≤ length text
  pub is : is_mark (take n text) ≡ true
  pub longest : (m : ℕ) → m ≤ length text → is_mark (take m text) ≡ true → m ≤ n

found_mark : (n : ℕ) (text : List ℕ) → is_mark_of n text ≡ true → ((m : ℕ) → m ≤ length text → is_mark (take m text) ≡ true → m ≤ n) → IsFoundMark text n
found_mark n text h f =
    record { within = test_le n (length text) (and_left (nat_le n (length text)) (is_mark (take n text)) h); is = and_right (nat_le n (length text)) (is_mark (take n text)) h; longest = f }

-- no punctuation of n + 1 bytes
less : (n m : ℕ) (text : List ℕ) → m ≤ length text → is_mark (take m text) ≡ true → m ≤ suc n → is_mark_of (suc n) text ≡ false → m ≤ n
less n m text l h k f = by_place (nat_le m n) refl
  where
    by_place : (b : Bool) → nat_le m n ≡ b → m ≤ n
    by_place true e = test_le m n e
    by_place false e =
        let p : n < m = grind (arith, nat_tests) in
        let q : m ≡ suc n = omega arith in
        clash (is_mark_of (suc n) text) (subst (λ i. is_mark_of i text ≡ true) q (of_slice m text l h)) f

pub mark_found : (text : List ℕ) (n : ℕ) → mark_length text ≡ Some n → IsFoundMark text n
mark_found text n h =
    by_test (is_mark_of 3 text) (Some 3) _ (Some n) h
    (λ t e. subst (IsFoundMark text) (some_same 3 n e) (found_mark 3 text t (λ m l k. small m text l k)))
    (λ t e. by_test (is_mark_of 2 text) (Some 2) (if is_mark_of 1 text then Some 1 else None) (Some n) e
    (λ u e. subst (IsFoundMark text) (some_same 2 n e) (found_mark 2 text u (λ m l k. less 2 m text l k (small m text l k) t)))
    (λ u e. by_test (is_mark_of 1 text) (Some 1) None (Some n) e
    (λ v e. subst (IsFoundMark text) (some_same 1 n e) (found_mark 1 text v (λ m l k. less 1 m text l k (less 2 m text l k (small m text l k) t) u)))
    (λ v e. absurd cc)))

no_bytes : (m : ℕ) (text : List ℕ) → is_mark (take m text) ≡ true → m ≤ 0 → ⊥
no_bytes zero text h l = cc
no_bytes (suc m) text h l = omega arith

pub mark_none : (text : List ℕ) (m : ℕ) → mark_length text ≡ None → m ≤ length text → is_mark (take m text) ≡ false
mark_none text m h l =
    not_true (is_mark (take m text)) (λ k.
    by_test (is_mark_of 3 text) (Some 3) _ None h
    (λ t e. absurd cc)
    (λ t e. by_test (is_mark_of 2 text) (Some 2) (if is_mark_of 1 text then Some 1 else None) None e
    (λ u e. absurd cc)
    (λ u e. by_test (is_mark_of 1 text) (Some 1) None None e
    (λ v e. absurd cc)
    (λ v e. no_bytes m text k (less 0 m text l k (less 1 m text l k (less 2 m text l k (small m text l k) t) u) v)))))

-- Digits read one by one write what the whole word writes.
use Rattle.std.proofs.Common.{◌≡◌, ℕ, ◌+◌, ◌-◌, ◌*◌, ◌^◌, ◌<◌, ◌≤◌, Bool, true, false, ◌&&◌, List, [], ◌∷◌, refl, ap, sym, ◌∙◌, arith, nat_lt}
use Rattle.std.specs.Prelude.{Option, Some, None, if◌then◌else◌}
use Rattle.std.specs.List.{list_all}
use Rattle.std.specs.Option.{option_and_then}
use Rattle.std.proofs.lemmas.Bool.{ltb-true, ltb-false, lt-ltb, le-ltb}
use Rattle.aen_base.specs.Decimals.{is_digit, is_number, digits_value, decimal_below, decimal_number}
use Rattle.aen_base.specs.Digits.{with_digit, narrowed}

-- digits read one by one, after the digits that were read
abbrev pub read_from : ℕ → List ℕ → Option ℕ
read_from n [] = Some n
read_from n (c ∷ cs) = option_and_then (λ m. read_from m cs) (with_digit n c)

abbrev told : ℕ → List ℕ → Option ℕ
told n cs = if list_all is_digit cs && nat_lt (digits_value n cs) (2 ^ 128) then Some (digits_value n cs) else None

-- more digits write no less
pub grows : (n : ℕ) (cs : List ℕ) → n ≤ digits_value n cs
grows n [] = omega arith
grows n (c ∷ cs) = let h = grows (n * 10 + (c - 48)) cs in omega arith

not_both : (a : Bool) (k : ℕ) → (if a && false then Some k else None) ≡ None
not_both true k = refl
not_both false k = refl

step : (n : ℕ) (cs : List ℕ) (d l : Bool) → nat_lt n (2 ^ 128) ≡ l → (n < 2 ^ 128 → read_from n cs ≡ told n cs) →
    option_and_then (λ m. read_from m cs) (if d && l then Some n else None)
    ≡ (if (d && list_all is_digit cs) && nat_lt (digits_value n cs) (2 ^ 128) then Some (digits_value n cs) else None)
step n cs false l e ih = refl
step n cs true true e ih = ih (ltb-true n (2 ^ 128) e)
step n cs true false e ih =
    let low = ltb-false n (2 ^ 128) e in
    let high = grows n cs in
    let large : nat_lt (digits_value n cs) (2 ^ 128) ≡ false = le-ltb (digits_value n cs) (2 ^ 128) (omega arith) in
    sym (ap (λ (b : Bool). if list_all is_digit cs && b then Some (digits_value n cs) else None) large ∙ not_both (list_all is_digit cs) (digits_value n cs))

read_from_is : (n : ℕ) (cs : List ℕ) → n < 2 ^ 128 → read_from n cs ≡ told n cs
unfolding with_digit
read_from_is n [] h = sym (ap (λ (b : Bool). if b then Some n else None) (lt-ltb n (2 ^ 128) h))
read_from_is n (c ∷ cs) h =
    step (n * 10 + (c - 48)) cs (is_digit c) (nat_lt (n * 10 + (c - 48)) (2 ^ 128)) refl (read_from_is (n * 10 + (c - 48)) cs)

-- a word that isn't empty, read from its first digit
pub read_from_start : (w : List ℕ) → (w ≡ [] → ⊥) → read_from 0 w ≡ decimal_number w
read_from_start [] h = absurd (h refl)
read_from_start (c ∷ cs) h = read_from_is 0 (c ∷ cs) (omega arith)

kept : (d l m : Bool) (k : ℕ) → nat_lt k (2 ^ 128) ≡ l → nat_lt k (2 ^ 32) ≡ m →
    (if d && m then Some k else None) ≡ option_and_then narrowed (if d && l then Some k else None)
kept false l m k e f = refl
kept true true m k e f = ap (λ (b : Bool). if b then Some k else None) (sym f)
kept true false true k e f = let high = ltb-false k (2 ^ 128) e in let low = ltb-true k (2 ^ 32) f in absurd (omega arith)
kept true false false k e f = refl

-- a number below 2^32 is one below 2^128 that is kept
pub narrower : (w : List ℕ) → decimal_below (2 ^ 32) w ≡ option_and_then narrowed (decimal_number w)
narrower w = kept (is_number w) (nat_lt (digits_value 0 w) (2 ^ 128)) (nat_lt (digits_value 0 w) (2 ^ 32)) (digits_value 0 w) refl refl

-- What at most 18 digits write.
use Rattle.std.proofs.Common.{◌≡◌, ℕ, suc, ◌+◌, ◌-◌, ◌*◌, ◌^◌, ◌<◌, ◌≤◌, Bool, true, false, ◌&&◌, nat_lt, nat_le, List, [], ◌∷◌, length, refl, ap, subst, arith}
use Rattle.std.specs.Prelude.{Option, Some, None, MatchOption, if◌then◌else◌}
use Rattle.std.specs.List.{list_all}
use Rattle.std.proofs.Math.Nat.{pow-le-pow_right, pow-suc}
use Rattle.std.proofs.lemmas.Bool.{leb-true, lt-ltb}
use Rattle.std.proofs.lemmas.Nat.{mul-le}
use Rattle.aen_base.specs.Decimals.{is_digit, is_number, digits_value, decimal_number}
use Rattle.aeneas.specs.Words.{IsFuel, fuel_of}

both : (a b : Bool) → (a && b) ≡ true → (a ≡ true) × (b ≡ true)
both true b h = (refl, h)
both false b h = absurd cc

-- n and k digits more write a number below (n + 1) * 10^k
below : (n : ℕ) (w : List ℕ) → list_all is_digit w ≡ true → digits_value n w < (n + 1) * 10 ^ length w
below n [] h = omega arith
below n (c ∷ w) h =
    let (d, all) = both (is_digit c) (list_all is_digit w) h in
    let (low, high) = both (nat_le 48 c) (nat_le c 57) d in
    let upper = leb-true c 57 high in
    let rest = below (n * 10 + (c - 48)) w all in
    let step : (n + 1) * 10 ^ suc (length w) ≡ (n + 1) * (10 ^ length w * 10) = ap (λ k. (n + 1) * k) (pow-suc 10 (length w)) in
    let wide = mul-le (n * 10 + (c - 48) + 1) (10 ^ length w) ((n + 1) * 10) (10 ^ length w) (omega arith) (omega arith) in
    omega (arith, rest, wide, step)

all_digits : (w : List ℕ) → is_number w ≡ true → list_all is_digit w ≡ true
all_digits [] h = absurd cc
all_digits (c ∷ w) h = h

pub fuel_below : (w : List ℕ) → IsFuel w → digits_value 0 w < 10 ^ 18
fuel_below w f =
    let small = below 0 w (all_digits w f.digits) in
    let few : 10 ^ length w ≤ 10 ^ 18 = pow-le-pow_right {n = 10} (omega arith) {i = length w} {j = 18} f.few in
    omega arith

taken : (w : List ℕ) (d l : Bool) → is_number w ≡ d → nat_lt (digits_value 0 w) (2 ^ 128) ≡ l → length w ≤ 18 →
    MatchOption (if d && l then Some (digits_value 0 w) else None) (IsFuel w → ⊥) (λ n. IsFuel w × (n ≡ fuel_of w) × (n < 2 ^ 64))
taken w true true e h few = let f : IsFuel w = record { digits = e; few = few } in let small = fuel_below w f in (f, refl, omega arith)
taken w true false e h few = λ f. let small = fuel_below w f in let l = lt-ltb (digits_value 0 w) (2 ^ 128) (omega arith) in absurd cc
taken w false l e h few = λ f. let d = f.digits in absurd cc

-- a word of at most 18 bytes that is read is the number FUEL, and has 64 bits; one that isn't read is none
pub fuel_read : (w : List ℕ) → length w ≤ 18 → MatchOption (decimal_number w) (IsFuel w → ⊥) (λ n. IsFuel w × (n ≡ fuel_of w) × (n < 2 ^ 64))
fuel_read w few = taken w (is_number w) (nat_lt (digits_value 0 w) (2 ^ 128)) refl refl few

pub small_fuel : (w : List ℕ) (n : ℕ) → length w ≤ 18 → decimal_number w ≡ Some n → n < 2 ^ 64
small_fuel w n few e = (subst (λ (o : Option ℕ). MatchOption o (IsFuel w → ⊥) (λ n. IsFuel w × (n ≡ fuel_of w) × (n < 2 ^ 64))) e (fuel_read w few)).2

pub no_fuel : (w : List ℕ) → length w ≤ 18 → decimal_number w ≡ None → IsFuel w → ⊥
no_fuel w few e = subst (λ (o : Option ℕ). MatchOption o (IsFuel w → ⊥) (λ n. IsFuel w × (n ≡ fuel_of w) × (n < 2 ^ 64))) e (fuel_read w few)

-- Names that spell the place of a part: those below 2^32 are all that a tuple has.
use Rattle.std.proofs.Common.{rules, ◌≡◌, ℕ, zero, suc, ◌+◌, ◌-◌, ◌*◌, ◌^◌, ◌<◌, ◌≤◌, Bool, true, false, not, ◌&&◌, List, [], ◌∷◌, length, refl, ap, sym, ◌∙◌, arith, nat_lt, slice_get}
use Rattle.std.specs.Prelude.{◌==◌, nat_le, Option, Some, None, option_map, if◌then◌else◌}
use Rattle.std.specs.List.{list_all}
use Rattle.std.specs.Option.{option_and_then}
use Rattle.std.proofs.lemmas.Bool.{ltb-false}
use Rattle.aen_base.specs.Decimals.{is_digit, digits_value, decimal_below}
use Rattle.aen_base.specs.Digits.{narrowed}
use Rattle.core_ty.specs.Types as t
use Rattle.type_rules.specs.Fields.{Part, digits_from, place_named, at_place}
use Rattle.type_values.specs.Places.{begins_with_zero}

one_digit : (c : ℕ) → (not (nat_lt c 48) && nat_lt c 58) ≡ is_digit c
one_digit c = search rules

chosen : (d : Bool) (cs : List ℕ) (o : Option ℕ) (k : ℕ) → o ≡ (if list_all is_digit cs then Some k else None) →
    (if d then o else None) ≡ (if d && list_all is_digit cs then Some k else None)
chosen true cs o k h = h
chosen false cs o k h = refl

digits : (n : ℕ) (cs : List ℕ) → digits_from n cs ≡ (if list_all is_digit cs then Some (digits_value n cs) else None)
digits n [] = refl
digits n (c ∷ cs) =
    ap (λ (b : Bool). if b then digits_from (n * 10 + (c - 48)) cs else None) (one_digit c)
    ∙ chosen (is_digit c) cs (digits_from (n * 10 + (c - 48)) cs) (digits_value n (c ∷ cs)) (digits (n * 10 + (c - 48)) cs)

kept : (b : Bool) (k : ℕ) → option_and_then narrowed (if b then Some k else None) ≡ (if b && nat_lt k (2 ^ 32) then Some k else None)
kept true k = refl
kept false k = refl

below : (c : ℕ) (cs : List ℕ) → option_and_then narrowed (digits_from 0 (c ∷ cs)) ≡ decimal_below (2 ^ 32) (c ∷ cs)
below c cs = ap (option_and_then narrowed) (digits 0 (c ∷ cs)) ∙ kept (list_all is_digit (c ∷ cs)) (digits_value 0 (c ∷ cs))

unless : (b : Bool) (o : Option ℕ) (z : Option ℕ) → option_and_then narrowed o ≡ z → option_and_then narrowed (if b then None else o) ≡ (if b then None else z)
unless true o z h = refl
unless false o z h = h

pub place_narrowed : (w : List ℕ) → option_and_then narrowed (place_named w) ≡ (if begins_with_zero w then None else decimal_below (2 ^ 32) w)
place_narrowed [] = refl
place_narrowed (c ∷ []) = below c []
place_narrowed (c ∷ d ∷ cs) = unless (c == 48) (digits_from 0 (c ∷ d ∷ cs)) (decimal_below (2 ^ 32) (c ∷ d ∷ cs)) (below c (d ∷ cs))

beyond : (xs : List t.Ty) (k : ℕ) → length xs ≤ k → slice_get xs k ≡ None
beyond [] zero h = refl
beyond [] (suc k) h = refl
beyond (x ∷ xs) zero h = absurd (omega arith)
beyond (x ∷ xs) (suc k) h = beyond xs k (omega arith)

at_one : (xs : List t.Ty) (k : ℕ) (b : Bool) → nat_lt k (2 ^ 32) ≡ b → length xs < 2 ^ 32 → at_place xs (if b then Some k else None) ≡ at_place xs (Some k)
at_one xs k true e h = refl
at_one xs k false e h = let far = ltb-false k (2 ^ 32) e in sym (ap (λ (o : Option t.Ty). option_map (λ (x : t.Ty). (k, x)) o) (beyond xs k (omega arith)))

at_narrowed : (xs : List t.Ty) (o : Option ℕ) → length xs < 2 ^ 32 → at_place xs (option_and_then narrowed o) ≡ at_place xs o
at_narrowed xs None h = refl
at_narrowed xs (Some k) h = at_one xs k (nat_lt k (2 ^ 32)) refl h

-- the part in the place that a name spells
pub at_some : (xs : List t.Ty) (o : Option ℕ) (k : ℕ) → length xs < 2 ^ 32 → Some k ≡ option_and_then narrowed o → at_place xs (Some k) ≡ at_place xs o
at_some xs o k h e = ap (at_place xs) e ∙ at_narrowed xs o h

pub at_none : (xs : List t.Ty) (o : Option ℕ) → length xs < 2 ^ 32 → None ≡ option_and_then narrowed o → None ≡ at_place xs o
at_none xs o h e = ap (at_place xs) e ∙ at_narrowed xs o h

-- Numbers as they are spelled are small, or in the range of their type.
use Rattle.std.proofs.Common.{◌≡◌, refl, subst, ℕ, ◌^◌, Bool, true, false, List, [], ◌∷◌, Option, Some, None}
use Rattle.std.specs.Prelude.{◌==◌, ◌&&◌, nat_lt, if◌then◌else◌, bytes_eq}
use Rattle.std.specs.Fmt.{decimal, signed_decimal}
use Rattle.std.specs.Str.Parse.{digits_value}
use Rattle.std.proofs.lemmas.Bool.{ltb-true}
use Rattle.aen_base.specs.declared.int_ty.IntTy.{IntTy}
use Rattle.aen_base.specs.Numbers.{Number, in_range, signed}
use Rattle.text_meaning.specs.Names.{are_digits}
use Rattle.text_meaning.specs.Ranges.{IsSmall, IsInRange}
use Rattle.raw_meaning.specs.Numbers.{checked_number, numbered, magnitude, has_minus, number_of}

by_test : {A : Type 0} {G : Type 0} (b : Bool) (x z : A) → (if b then Some x else None) ≡ Some z → (b ≡ true → x ≡ z → G) → G
by_test true x z h f = let e : x ≡ z = cc in f refl e
by_test false x z h f = absurd cc

some_of : {A : Type 0} (b : Bool) (o : Option A) (z : A) → (if b then o else None) ≡ Some z → o ≡ Some z
some_of true o z h = h
some_of false o z h = absurd cc

pub and_left : (a b : Bool) → (a && b) ≡ true → a ≡ true
and_left true b h = refl
and_left false b h = h

pub and_right : (a b : Bool) → (a && b) ≡ true → b ≡ true
and_right true b h = h
and_right false b h = absurd cc

checked_small : (k n : ℕ) (ds : List ℕ) → checked_number k ds ≡ Some n → IsSmall n
checked_small k n ds h = by_test (nat_lt k (2 ^ 32) && bytes_eq (decimal k) ds) k n h (λ t e. subst IsSmall e (ltb-true k (2 ^ 32) (and_left _ _ t)))

pub numbered_small : (prefix w : List ℕ) (n : ℕ) → numbered prefix w ≡ Some n → IsSmall n
numbered_small [] w n h = checked_small (digits_value 10 w) n w (some_of (are_digits w) (checked_number (digits_value 10 w) w) n h)
numbered_small (c ∷ cs) [] n h = absurd cc
numbered_small (c ∷ cs) (d ∷ w) n h = numbered_small cs w n (some_of (d == c) (numbered cs w) n h)

pub number_in_range : (s : List ℕ) (t : IntTy) (n : Number) → number_of s t ≡ Some n → IsInRange n
number_in_range s t n h =
    let z = signed (has_minus s) (magnitude s) in
    let here : Number = record { ty = t; value = z } in
    by_test (bytes_eq (signed_decimal z) s && in_range t z) here n h (λ b e. subst IsInRange e (and_right _ _ b))

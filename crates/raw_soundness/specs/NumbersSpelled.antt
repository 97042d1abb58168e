-- Numbers are spelled as they are printed.
use Rattle.std.specs.Prelude.{◌≡◌, refl, ℕ, ◌^◌, ◌==◌, ◌&&◌, nat_lt, Bool, true, false, if◌then◌else◌, List, [], ◌∷◌, ◌++◌, Option, Some, None, bytes_eq, codes}
use Rattle.std.specs.Fmt.{decimal, signed_decimal}
use Rattle.std.specs.Str.Parse.{digits_value}
use Rattle.std.proofs.Common.{ap, sym, subst}
use Rattle.std.proofs.lemmas.Bool.{eqb-true}
use Rattle.aen_base.specs.declared.int_ty.IntTy.{IntTy}
use Rattle.aen_base.specs.Numbers.{Number, in_range, signed}
use Rattle.text_meaning.specs.Names.{are_digits}
use Rattle.text_meaning.specs.SpelledNames.{var_token}
use Rattle.text_meaning.specs.Tokens.{word}
use Rattle.text_syntax.specs.Among.{and_left, and_right}
use Rattle.raw_ast.specs.declared.spelling.Spelling.{Spelling}
use Rattle.raw_meaning.specs.LookupLemmas.{same_bytes}
use Rattle.raw_meaning.specs.Numbers.{checked_number, numbered, magnitude, has_minus, number_of}
use Rattle.raw_meaning.specs.Trees.{variable_number}

-- what a test lets through
by_test : {A : Type 0} (G : A → Type 0) (b : Bool) (x z : A) → (if b then Some x else None) ≡ Some z → (b ≡ true → G x) → G z
by_test G true x z h f = let e : x ≡ z = cc in subst G e (f refl)
by_test G false x z h f = absurd cc

some_of : {A : Type 0} (b : Bool) (o : Option A) (z : A) → (if b then o else None) ≡ Some z → (b ≡ true) × (o ≡ Some z)
some_of true o z h = (refl, h)
some_of false o z h = absurd cc

checked_spelled : (k n : ℕ) (ds : List ℕ) → checked_number k ds ≡ Some n → ds ≡ decimal n
checked_spelled k n ds h =
    by_test (λ n. ds ≡ decimal n) (nat_lt k (2 ^ 32) && bytes_eq (decimal k) ds) k n h
    (λ t. sym (same_bytes (decimal k) ds (and_right (nat_lt k (2 ^ 32)) (bytes_eq (decimal k) ds) t)))

-- a number after a prefix
pub numbered_spelled : (prefix w : List ℕ) (n : ℕ) → numbered prefix w ≡ Some n → w ≡ prefix ++ decimal n
numbered_spelled [] w n h = checked_spelled (digits_value 10 w) n w (some_of (are_digits w) (checked_number (digits_value 10 w) w) n h).1
numbered_spelled (c ∷ cs) [] n h = absurd cc
numbered_spelled (c ∷ cs) (d ∷ w) n h =
    let r = some_of (d == c) (numbered cs w) n h in
    λ i. eqb-true d c r.0 i ∷ numbered_spelled cs w n r.1 i

-- a variable
pub variable_spelled : (s : Spelling) (k : ℕ) → variable_number s ≡ Some k → var_token k ≡ word s.text
variable_spelled s k h = ap word (sym (numbered_spelled (codes "v") s.text k h))

-- a number of a type
pub number_spelled : (s : List ℕ) (t : IntTy) (n : Number) → number_of s t ≡ Some n → (s ≡ signed_decimal n.value) × (n.ty ≡ t)
number_spelled s t n h =
    let z = signed (has_minus s) (magnitude s) in
    let here : Number = record { ty = t; value = z } in
    by_test (λ (n : Number). (s ≡ signed_decimal n.value) × (n.ty ≡ t)) (bytes_eq (signed_decimal z) s && in_range t z) here n h
    (λ b. (sym (same_bytes (signed_decimal z) s (and_left (bytes_eq (signed_decimal z) s) (in_range t z) b)), refl))

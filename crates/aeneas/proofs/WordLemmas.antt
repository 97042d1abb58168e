-- Words that are known by their length and their first items.
use Rattle.std.proofs.Common.{◌≡◌, ◌∙◌, ℕ, ◌-◌, ◌≤◌, ◌<◌, List, [], ◌∷◌, length, get_or, take, drop, map, arith, true, ap, sym, subst, String, Global}
use Rattle.std.specs.String.{string_bytes, string_len}
use Rattle.aeneas.specs.Words.{IsShort}
use Rattle.std.specs.Prelude.{All}
use Rattle.std.specs.Str.{bytes_eq}
use Rattle.std.proofs.Math.Seq.{take-length}
use Rattle.std.proofs.lemmas.List.Elements.{All-cons, All-head, All-tail}
use Rattle.std.proofs.lemmas.Slice.Eq.{bytes_eq-Decides}

pub two_items : {A : Type 0} (ws : List A) (a b : A) → 2 ≤ length ws → length ws < 3 → a ≡ get_or ws 0 a → b ≡ get_or ws 1 b →
    ws ≡ a ∷ b ∷ []
two_items [] a b low high p q = absurd (omega arith)
two_items (x ∷ []) a b low high p q = absurd (omega arith)
two_items (x ∷ y ∷ []) a b low high p q = cc
two_items (x ∷ y ∷ z ∷ zs) a b low high p q = absurd (omega arith)

pub take_whole : {A : Type 0} (xs : List A) (n : ℕ) → n ≡ length xs → take n xs ≡ xs
take_whole xs n h = ap (λ k. take k xs) h ∙ take-length xs

pub four_items : {A : Type 0} (ws : List A) (a b c d : A) → 4 ≤ length ws →
    a ≡ get_or ws 0 a → b ≡ get_or ws 1 b → c ≡ get_or ws 2 c → d ≡ get_or ws 3 d →
    ws ≡ a ∷ b ∷ c ∷ d ∷ take (length ws - 4) (drop 4 ws)
four_items [] a b c d low p q r s = absurd (omega arith)
four_items (x ∷ []) a b c d low p q r s = absurd (omega arith)
four_items (x ∷ y ∷ []) a b c d low p q r s = absurd (omega arith)
four_items (x ∷ y ∷ z ∷ []) a b c d low p q r s = absurd (omega arith)
four_items (x ∷ y ∷ z ∷ w ∷ ws) a b c d low p q r s = let e = take_whole ws (length (x ∷ y ∷ z ∷ w ∷ ws) - 4) (omega arith) in cc

-- a test that texts are equal
pub same_bytes : (a b : List ℕ) → bytes_eq a b ≡ true → a ≡ b
same_bytes a b h = (bytes_eq-Decides a b).0 h

-- what holds of each image holds of each item's image
pub all_unmapped : {X Y : Type 0} (P : Y → Type 0) (f : X → Y) (xs : List X) → All P (map f xs) → All (λ x. P (f x)) xs
all_unmapped P f [] all = λ k d h. absurd (omega arith)
all_unmapped P f (x ∷ xs) all = All-cons (λ x. P (f x)) x xs (All-head P (f x) (map f xs) all) (all_unmapped P f xs (All-tail P (f x) (map f xs) all))

-- a string's length is that of its bytes
pub len_is : (s : String Global) → string_len s ≡ length (string_bytes s)
len_is s = s.bytes.ok.0

pub short_by_len : (ws : List (String Global)) → All (λ w. string_len w < 4294967296) ws → All (λ w. IsShort (string_bytes w)) ws
short_by_len ws h k d lt = subst (λ n. n < 4294967296) (len_is (get_or ws k d)) (h k d lt)

pub len_by_short : (ws : List (String Global)) → All (λ w. IsShort (string_bytes w)) ws → All (λ w. string_len w < 4294967296) ws
len_by_short ws h k d lt = subst (λ n. n < 4294967296) (sym (len_is (get_or ws k d))) (h k d lt)

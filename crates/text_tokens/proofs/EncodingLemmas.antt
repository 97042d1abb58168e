-- Bytes encode one list of characters at most.
use Rattle.std.proofs.Common.{◌≡◌, refl, ap, sym, ◌∙◌, ℕ, ◌+◌, ◌/◌, ◌%◌, ◌<◌, Bool, true, false, List, [], ◌∷◌, ◌++◌, IsUtf8, chars, encode_utf8, encode_utf8_all, arith}
use Rattle.std.specs.Prelude.{cond}
use Rattle.std.proofs.Math.Dec.{ltb}
use Rattle.std.proofs.Math.Utf8.{encode}
use Rattle.std.proofs.lemmas.Bool.{ltb-true}
use Rattle.std.proofs.lemmas.Str.{encodes-chars}

-- the bytes of a character, by their number
data Bytes (c : ℕ) : Type 0 where
  one : c < 128 → encode_utf8 c ≡ c ∷ [] → Bytes c
  two : c < 2048 → encode_utf8 c ≡ (192 + c / 64) ∷ (128 + c % 64) ∷ [] → Bytes c
  three : c < 65536 → encode_utf8 c ≡ (224 + c / 4096) ∷ (128 + c / 64 % 64) ∷ (128 + c % 64) ∷ [] → Bytes c
  four : encode_utf8 c ≡ (240 + c / 262144) ∷ (128 + c / 4096 % 64) ∷ (128 + c / 64 % 64) ∷ (128 + c % 64) ∷ [] → Bytes c

by_test : {A : Type 0} {G : Type 0} (b : Bool) (x y z : A) → cond b x y ≡ z → (b ≡ true → x ≡ z → G) → (b ≡ false → y ≡ z → G) → G
by_test true x y z h f g = f refl h
by_test false x y z h f g = g refl h

bytes_of : (c : ℕ) → Bytes c
unfolding encode
bytes_of c =
    by_test (ltb c 128) (c ∷ []) _ (encode_utf8 c) refl (λ t e. one (ltb-true c 128 t) (sym e)) (λ t e.
    by_test (ltb c 2048) _ _ (encode_utf8 c) e (λ t e. two (ltb-true c 2048 t) (sym e)) (λ t e.
    by_test (ltb c 65536) _ _ (encode_utf8 c) e (λ t e. three (ltb-true c 65536 t) (sym e)) (λ t e. four (sym e))))

-- characters whose bytes stand first in the same bytes
pub record SameFirst (x y : ℕ) (r s : List ℕ) : Type 0 where
  pub first : x ≡ y
  pub rest : r ≡ s

start : (x y : ℕ) (xs ys r s : List ℕ) → encode_utf8 x ≡ xs → encode_utf8 y ≡ ys → encode_utf8 x ++ r ≡ encode_utf8 y ++ s → xs ++ r ≡ ys ++ s
start x y xs ys r s e f h = ap (λ b. b ++ r) (sym e) ∙ h ∙ ap (λ b. b ++ s) f

same_by : (x y : ℕ) (r s : List ℕ) → Bytes x → Bytes y → encode_utf8 x ++ r ≡ encode_utf8 y ++ s → SameFirst x y r s
same_by x y r s (one a e) (one b f) h = let q = start x y _ _ r s e f h in let p : x ≡ y = cc in let t : r ≡ s = cc in record { first = p; rest = t }
same_by x y r s (one a e) (two b f) h = let q = start x y _ _ r s e f h in let p : x ≡ 192 + y / 64 = cc in absurd (omega arith)
same_by x y r s (one a e) (three b f) h = let q = start x y _ _ r s e f h in let p : x ≡ 224 + y / 4096 = cc in absurd (omega arith)
same_by x y r s (one a e) (four f) h = let q = start x y _ _ r s e f h in let p : x ≡ 240 + y / 262144 = cc in absurd (omega arith)
same_by x y r s (two a e) (one b f) h = let q = start x y _ _ r s e f h in let p : 192 + x / 64 ≡ y = cc in absurd (omega arith)
same_by x y r s (two a e) (two b f) h =
    let q = start x y _ _ r s e f h in
    let p : 192 + x / 64 ≡ 192 + y / 64 = cc in let u : 128 + x % 64 ≡ 128 + y % 64 = cc in let t : r ≡ s = cc in
    record { first = omega arith; rest = t }
same_by x y r s (two a e) (three b f) h = let q = start x y _ _ r s e f h in let p : 192 + x / 64 ≡ 224 + y / 4096 = cc in absurd (omega arith)
same_by x y r s (two a e) (four f) h = let q = start x y _ _ r s e f h in let p : 192 + x / 64 ≡ 240 + y / 262144 = cc in absurd (omega arith)
same_by x y r s (three a e) (one b f) h = let q = start x y _ _ r s e f h in let p : 224 + x / 4096 ≡ y = cc in absurd (omega arith)
same_by x y r s (three a e) (two b f) h = let q = start x y _ _ r s e f h in let p : 224 + x / 4096 ≡ 192 + y / 64 = cc in absurd (omega arith)
same_by x y r s (three a e) (three b f) h =
    let q = start x y _ _ r s e f h in
    let p : 224 + x / 4096 ≡ 224 + y / 4096 = cc in let u : 128 + x / 64 % 64 ≡ 128 + y / 64 % 64 = cc in let v : 128 + x % 64 ≡ 128 + y % 64 = cc in
    let t : r ≡ s = cc in record { first = omega arith; rest = t }
same_by x y r s (three a e) (four f) h = let q = start x y _ _ r s e f h in let p : 224 + x / 4096 ≡ 240 + y / 262144 = cc in absurd (omega arith)
same_by x y r s (four e) (one b f) h = let q = start x y _ _ r s e f h in let p : 240 + x / 262144 ≡ y = cc in absurd (omega arith)
same_by x y r s (four e) (two b f) h = let q = start x y _ _ r s e f h in let p : 240 + x / 262144 ≡ 192 + y / 64 = cc in absurd (omega arith)
same_by x y r s (four e) (three b f) h = let q = start x y _ _ r s e f h in let p : 240 + x / 262144 ≡ 224 + y / 4096 = cc in absurd (omega arith)
same_by x y r s (four e) (four f) h =
    let q = start x y _ _ r s e f h in
    let p : 240 + x / 262144 ≡ 240 + y / 262144 = cc in let u : 128 + x / 4096 % 64 ≡ 128 + y / 4096 % 64 = cc in
    let v : 128 + x / 64 % 64 ≡ 128 + y / 64 % 64 = cc in let w : 128 + x % 64 ≡ 128 + y % 64 = cc in
    let t : r ≡ s = cc in record { first = omega arith; rest = t }

none_first : (x : ℕ) (r : List ℕ) → Bytes x → [] ≡ encode_utf8 x ++ r → ⊥
none_first x r (one a e) h = let q : [] ≡ x ∷ r = h ∙ ap (λ b. b ++ r) e in cc
none_first x r (two a e) h = let q = h ∙ ap (λ b. b ++ r) e in cc
none_first x r (three a e) h = let q = h ∙ ap (λ b. b ++ r) e in cc
none_first x r (four e) h = let q = h ∙ ap (λ b. b ++ r) e in cc

pub encodes_once : (xs ys : List ℕ) → encode_utf8_all xs ≡ encode_utf8_all ys → xs ≡ ys
encodes_once [] [] h = refl
encodes_once [] (y ∷ ys) h = absurd (none_first y (encode_utf8_all ys) (bytes_of y) h)
encodes_once (x ∷ xs) [] h = absurd (none_first x (encode_utf8_all xs) (bytes_of x) (sym h))
encodes_once (x ∷ xs) (y ∷ ys) h =
    let s = same_by x y (encode_utf8_all xs) (encode_utf8_all ys) (bytes_of x) (bytes_of y) h in
    (λ i. s.first i ∷ encodes_once xs ys s.rest i)

-- the characters of a text are those that it encodes
pub chars_of : (text cs : List ℕ) → IsUtf8 text → text ≡ encode_utf8_all cs → chars text ≡ cs
chars_of text cs u e = encodes_once (chars text) cs (encodes-chars text u ∙ e)

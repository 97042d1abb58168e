-- The longest integer that begins a text.
use Rattle.std.proofs.Common.{◌≡◌, refl, ap, sym, ◌∙◌, ℕ, zero, suc, ◌+◌, ◌-◌, ◌≤◌, Bool, true, false, List, [], ◌∷◌, ◌++◌, length, length-append, length-drop, length-take-le, take, drop, Option, Some, None, arith}
use Rattle.std.specs.Prelude.{◌&&◌, ◌==◌}
use Rattle.std.specs.List.{list_all}
use Rattle.std.specs.Char.{is_ascii_digit}
use Rattle.std.proofs.lemmas.Bool.Decides.{nat_tests}
use Rattle.std.proofs.lemmas.List.{drop-take}
use Rattle.aen_base.specs.declared.int_ty.IntTy.{IntTy}
use Rattle.rust_lex.specs.declared.token.Base.{Base}
use Rattle.rust_lex.specs.declared.token.Base.TheVariants.{Binary, Octal, Decimal, Hexadecimal}
use Rattle.rust_lex.specs.Characters.{begins, front, back}
use Rattle.rust_lex.specs.Words.{int_types, int_word}
use Rattle.rust_lex.specs.Numbers.{base_of, prefix_length, after_prefix, is_digit_of, goes_on, is_suffix, is_number, are_digits}
use Rattle.rust_lex.specs.Scan.{suffix_among, suffix_length, number_length}
use Rattle.rust_lex.proofs.TestLemmas.{choose, if_true, if_false, and_left, and_right, and_both, and_false, begins_take, split}
use Rattle.rust_lex.proofs.FrontLemmas.{front_back, front_length, all_front, begins_back, front_all, back_all, front_longest, front_inside, back_inside, whole_front, take_front}
use Rattle.rust_lex.proofs.SuffixLemmas.{suffix_counted, suffix_begins, word_is_suffix}

-- a decimal digit is one of every reading
pub decimal_digit : (c : ℕ) → is_ascii_digit c ≡ true → is_digit_of Decimal c ≡ true
decimal_digit c h = grind (arith, nat_tests)

-- ---- digits and a suffix, behind the prefix

-- so many bytes are digits and a suffix
abbrev pub ends_well : (ℕ → Bool) → List ℕ → Bool
ends_well q u = is_suffix (back q u)

abbrev pub run : (ℕ → Bool) → List ℕ → ℕ
run q v = length (front q v) + suffix_length (suffix_among (back q v) int_types)

-- the first k bytes are digits and a suffix: no more than are found
pub run_longest : (q : ℕ → Bool) (k : ℕ) (v : List ℕ) → k ≤ length v → ends_well q (take k v) ≡ true → k ≤ run q v
run_longest q k v l h = by_suffix (back q (take k v)) refl h
  where
    by_suffix : (b : List ℕ) → back q (take k v) ≡ b → is_suffix b ≡ true → k ≤ run q v
    by_suffix [] e h = let f = front_longest q k v l (whole_front q (take k v) e) in omega arith
    by_suffix (c ∷ w) e h =
        let s = split k v in
        let f = ap (front q) s ∙ front_inside q (take k v) (drop k v) c w e in
        let g = ap (back q) s ∙ back_inside q (take k v) (drop k v) c w e ∙ ap (λ x. x ++ drop k v) e in
        let n = ap (λ x. suffix_length (suffix_among x int_types)) g in
        let m = suffix_counted c w (drop k v) h in
        let a = ap length (front_back q (take k v)) in
        let b = length-append (front q (take k v)) (back q (take k v)) in
        let d = ap length e in
        let t = length-take-le k v l in
        let o = ap length f in
        omega arith

-- what is found are digits and a suffix
pub record Runs (q : ℕ → Bool) (v : List ℕ) : Type 0 where
  pub within : run q v ≤ length v
  pub digits : front q (take (run q v) v) ≡ front q v
  pub well : ends_well q (take (run q v) v) ≡ true

begins_part : (q : ℕ → Bool) (s : ℕ) (v : List ℕ) → begins q v ≡ false → begins q (take s v) ≡ false
begins_part q zero v h = refl
begins_part q (suc s) [] h = refl
begins_part q (suc s) (c ∷ v) h = h

pub record Tail (s : ℕ) (b : List ℕ) : Type 0 where
  pub within : s ≤ length b
  pub suffix : is_suffix (take s b) ≡ true

tail_of : (o : Option IntTy) (b : List ℕ) → ((t : IntTy) → o ≡ Some t → take (length (int_word t)) b ≡ int_word t) → Tail (suffix_length o) b
tail_of None b f = record { within = omega arith; suffix = refl }
tail_of (Some t) b f =
    let e = f t refl in
    record { within = long (length (int_word t)) b (ap length e); suffix = ap is_suffix e ∙ word_is_suffix t }
  where
    long : (n : ℕ) (b : List ℕ) → length (take n b) ≡ n → n ≤ length b
    long zero b h = omega arith
    long (suc n) [] h = absurd (omega arith)
    long (suc n) (c ∷ b) h = let k = long n b (omega arith) in omega arith

pub run_runs : (q : ℕ → Bool) (v : List ℕ) → Runs q v
run_runs q v =
    let s = suffix_length (suffix_among (back q v) int_types) in
    let t = tail_of (suffix_among (back q v) int_types) (back q v) (suffix_begins (back q v) int_types) in
    let w = t.within in
    let a = ap length (front_back q v) in
    let b = length-append (front q v) (back q v) in
    let e = ap (take (run q v)) (sym (front_back q v)) ∙ taken (front q v) (back q v) s in
    let n = begins_part q s (back q v) (begins_back q v) in
    record {
      within = omega arith;
      digits = ap (front q) e ∙ front_all q (front q v) (take s (back q v)) (all_front q v) n;
      well = ap is_suffix (ap (back q) e ∙ back_all q (front q v) (take s (back q v)) (all_front q v) n) ∙ t.suffix;
    }
  where
    taken : (f b : List ℕ) (s : ℕ) → take (length f + s) (f ++ b) ≡ f ++ take s b
    taken [] b s = let e : 0 + s ≡ s = omega arith in ap (λ n. take n b) e
    taken (c ∷ f) b s =
        let e : suc (length f) + s ≡ suc (length f + s) = omega arith in
        ap (λ n. take n (c ∷ (f ++ b))) e ∙ ap (λ x. c ∷ x) (taken f b s)

-- ---- behind a prefix

prefix_small : (b : Base) → prefix_length b ≤ 2
prefix_small Binary = omega arith
prefix_small Octal = omega arith
prefix_small Decimal = omega arith
prefix_small Hexadecimal = omega arith

base_take : (k : ℕ) (text : List ℕ) → base_of (take (suc (suc k)) text) ≡ base_of text
base_take k [] = refl
base_take k (c ∷ []) = refl
base_take k (c ∷ d ∷ cs) = refl

drop_part : (p m : ℕ) (text : List ℕ) → p ≤ m → drop p (take m text) ≡ take (m - p) (drop p text)
drop_part p m text h =
    let e : p + (m - p) ≡ m = omega arith in
    ap (λ n. drop p (take n text)) (sym e) ∙ drop-take p (m - p) text

-- an integer whose base is known
abbrev pub number_in : Base → List ℕ → Bool
number_in b u = begins (is_digit_of b) u && is_suffix (back (goes_on b) u)

number_part : (k : ℕ) (text : List ℕ) →
    is_number (take (suc (suc k)) text) ≡ number_in (base_of text) (take (suc (suc k) - prefix_length (base_of text)) (after_prefix text))
unfolding is_number
number_part k text =
    ap (λ b. number_in b (drop (prefix_length b) (take (suc (suc k)) text))) (base_take k text)
    ∙ ap (number_in (base_of text)) (drop_part (prefix_length (base_of text)) (suc (suc k)) text (let s = prefix_small (base_of text) in omega arith))

digit_goes : (b : Base) (c : ℕ) → is_digit_of b c ≡ true → goes_on b c ≡ true
digit_goes b c h = rw h refl

some_front : (b : Base) (v : List ℕ) → begins (is_digit_of b) v ≡ true → 1 ≤ length (front (goes_on b) v)
some_front b [] h = absurd cc
some_front b (c ∷ v) h = rw (digit_goes b c h) (omega arith)

some_length : (text : List ℕ) → 1 ≤ number_length false text
unfolding number_length
some_length text =
    choose (λ n. 1 ≤ n) (begins (is_digit_of (base_of text)) (after_prefix text)) _ 1
    (λ t. let f = some_front (base_of text) (after_prefix text) t in omega arith)
    (λ t. omega arith)

length_true : (text : List ℕ) → begins (is_digit_of (base_of text)) (after_prefix text) ≡ true →
    number_length false text ≡ prefix_length (base_of text) + run (goes_on (base_of text)) (after_prefix text)
unfolding number_length
length_true text h = if_true (begins (is_digit_of (base_of text)) (after_prefix text)) _ 1 h ∙ omega arith

length_false : (text : List ℕ) → begins (is_digit_of (base_of text)) (after_prefix text) ≡ false → number_length false text ≡ 1
unfolding number_length
length_false text h = if_false (begins (is_digit_of (base_of text)) (after_prefix text)) _ 1 h

pub number_longest : (m : ℕ) (text : List ℕ) → m ≤ length text → is_number (take m text) ≡ true → m ≤ number_length false text
number_longest zero text l h = omega arith
number_longest (suc zero) text l h = some_length text
number_longest (suc (suc k)) text l h =
    let b = base_of text in
    let v = after_prefix text in
    let p = prefix_length b in
    let g = sym (number_part k text) ∙ h in
    let u = take (suc (suc k) - p) v in
    let d = begins_take (is_digit_of b) (suc (suc k) - p) v (and_left (begins (is_digit_of b) u) (ends_well (goes_on b) u) g) in
    let s = prefix_small b in
    let x = length-drop p text in
    let fits : suc (suc k) - p ≤ length v = omega arith in
    let r : suc (suc k) - p ≤ run (goes_on b) v = run_longest (goes_on b) (suc (suc k) - p) v fits (and_right (begins (is_digit_of b) u) (ends_well (goes_on b) u) g) in
    let e = length_true text d in
    omega arith

base_single : (c : ℕ) → base_of (c ∷ []) ≡ Decimal
base_single c = rw (and_false (c == 48)) refl

back_single : (q : ℕ → Bool) (c : ℕ) → q c ≡ true → back q (c ∷ []) ≡ []
back_single q c h = if_true (q c) [] (c ∷ []) h

single_is : (c : ℕ) → is_digit_of Decimal c ≡ true → is_number (c ∷ []) ≡ true
unfolding is_number
single_is c h =
    ap (λ b. number_in b (drop (prefix_length b) (c ∷ []))) (base_single c)
    ∙ and_both (is_digit_of Decimal c) (is_suffix (back (goes_on Decimal) (c ∷ []))) h (ap is_suffix (back_single (goes_on Decimal) c (digit_goes Decimal c h)))

begins_long : (p : ℕ → Bool) (k : ℕ) (v : List ℕ) → 1 ≤ k → begins p v ≡ true → begins p (take k v) ≡ true
begins_long p zero v l h = absurd (omega arith)
begins_long p (suc k) [] l h = absurd cc
begins_long p (suc k) (c ∷ v) l h = h

pub record IsFoundNumber (text : List ℕ) (n : ℕ) : Type 0 where
  pub within : n ≤ length text
  pub is : is_number (take n text) ≡ true

found_long : (k : ℕ) (text : List ℕ) → begins (is_digit_of (base_of text)) (after_prefix text) ≡ true →
    prefix_length (base_of text) + run (goes_on (base_of text)) (after_prefix text) ≡ suc (suc k) → IsFoundNumber text (suc (suc k))
found_long k text t e =
    let b = base_of text in
    let v = after_prefix text in
    let p = prefix_length b in
    let q = goes_on b in
    let r = run_runs q v in
    let w = r.within in
    let s = some_front b v t in
    let d = length-drop p text in
    let same : suc (suc k) - p ≡ run q v = omega arith in
    record {
      within = omega arith;
      is = number_part k text ∙ ap (λ n. number_in b (take n v)) same
          ∙ and_both (begins (is_digit_of b) (take (run q v) v)) (ends_well q (take (run q v) v)) (begins_long (is_digit_of b) (run q v) v (omega arith) t) r.well;
    }

pub number_is : (c : ℕ) (cs : List ℕ) → is_ascii_digit c ≡ true → IsFoundNumber (c ∷ cs) (number_length false (c ∷ cs))
number_is c cs h = by_length (number_length false (c ∷ cs)) refl
  where
    by_length : (n : ℕ) → number_length false (c ∷ cs) ≡ n → IsFoundNumber (c ∷ cs) n
    by_length zero e = let s = some_length (c ∷ cs) in absurd (omega arith)
    by_length (suc zero) e = record { within = omega arith; is = single_is c (decimal_digit c h) }
    by_length (suc (suc k)) e = by_digit (begins (is_digit_of (base_of (c ∷ cs))) (after_prefix (c ∷ cs))) refl
      where
        by_digit : (t : Bool) → begins (is_digit_of (base_of (c ∷ cs))) (after_prefix (c ∷ cs)) ≡ t → IsFoundNumber (c ∷ cs) (suc (suc k))
        by_digit true t = found_long k (c ∷ cs) t (sym (length_true (c ∷ cs) t) ∙ e)
        by_digit false t = let l = length_false (c ∷ cs) t in absurd (omega arith)

-- ---- directly after `.`

digits_all : (w : List ℕ) → are_digits w ≡ true → list_all is_ascii_digit w ≡ true
digits_all [] h = absurd cc
digits_all (c ∷ w) h = h

pub digits_longest : (m : ℕ) (text : List ℕ) → m ≤ length text → are_digits (take m text) ≡ true → m ≤ number_length true text
unfolding number_length
digits_longest m text l h = front_longest is_ascii_digit m text l (digits_all (take m text) h)

digits_front : (c : ℕ) (cs : List ℕ) → is_ascii_digit c ≡ true → are_digits (front is_ascii_digit (c ∷ cs)) ≡ true
digits_front c cs h =
    let e = if_true (is_ascii_digit c) (c ∷ front is_ascii_digit cs) [] h in
    ap are_digits e ∙ and_both (is_ascii_digit c) (list_all is_ascii_digit (front is_ascii_digit cs)) h (all_front is_ascii_digit cs)

pub digits_are : (c : ℕ) (cs : List ℕ) → is_ascii_digit c ≡ true →
    (number_length true (c ∷ cs) ≤ length (c ∷ cs)) × (are_digits (take (number_length true (c ∷ cs)) (c ∷ cs)) ≡ true)
unfolding number_length
digits_are c cs h = (front_length is_ascii_digit (c ∷ cs), ap are_digits (take_front is_ascii_digit (c ∷ cs)) ∙ digits_front c cs h)

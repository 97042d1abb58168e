-- Where a string ends.
use Rattle.std.proofs.Common.{◌≡◌, refl, ap, sym, ◌∙◌, ℕ, zero, suc, ◌+◌, ◌-◌, ◌≤◌, ◌<◌, Bool, true, false, List, [], ◌∷◌, length, take, drop, length-drop, drop-cons, drop_of_length-le, get_or, not, Some, None, arith}
use Rattle.std.specs.Prelude.{◌&&◌, ◌==◌, bytes_eq}
use Rattle.rust_lex.specs.Lexing.{closes_string}
use Rattle.rust_lex.specs.Scan.{after_string}
use Rattle.rust_lex.proofs.TestLemmas.{by_test, if_true, if_false}

-- after k bytes this rest stands
pub record Stands (k : ℕ) (text rest : List ℕ) : Type 0 where
  pub within : k ≤ length text
  pub left : drop k text ≡ rest

pub stands_more : (k : ℕ) (c : ℕ) (cs rest : List ℕ) → Stands k cs rest → Stands (suc k) (c ∷ cs) rest
stands_more k c cs rest s = let w = s.within in record { within = omega arith; left = s.left }

-- how many bytes are before a rest
pub stands_count : (k : ℕ) (text rest : List ℕ) → Stands k text rest → length text - length rest ≡ k
stands_count k text rest s = let w = s.within in let l = ap length (sym s.left) ∙ length-drop k text in omega arith

pub record Ended (taken : Bool) (cs rest : List ℕ) : Type 0 where
  pub count : ℕ
  pub stands : Stands count cs rest
  pub closes : closes_string taken (take count cs) ≡ true

quote_ends : (c : ℕ) (cs rest : List ℕ) → (c == 34) ≡ true → Some cs ≡ Some rest → Ended false (c ∷ cs) rest
quote_ends c cs rest t e =
    let f : cs ≡ rest = cc in
    record { count = 1; stands = record { within = omega arith; left = f }; closes = if_true (c == 34) true false t }

pub string_ended : (taken : Bool) (cs rest : List ℕ) → after_string taken cs ≡ Some rest → Ended taken cs rest
string_ended taken [] rest h = absurd cc
string_ended true (c ∷ cs) rest h =
    let r = string_ended false cs rest h in
    record { count = suc r.count; stands = stands_more r.count c cs rest r.stands; closes = r.closes }
string_ended false (c ∷ cs) rest h =
    by_test (c == 34) (Some cs) (after_string (c == 92) cs) (Some rest) h
    (λ t e. quote_ends c cs rest t e)
    (λ t e. let r = string_ended (c == 92) cs rest e in
    record { count = suc r.count; stands = stands_more r.count c cs rest r.stands; closes = if_false (c == 34) (bytes_eq (take r.count cs) []) (closes_string (c == 92) (take r.count cs)) t ∙ r.closes })

nothing_closes : (taken : Bool) → closes_string taken [] ≡ true → ⊥
nothing_closes true h = cc
nothing_closes false h = cc

end_at : (m : ℕ) (cs : List ℕ) → m ≤ length cs → bytes_eq (take m cs) [] ≡ true → cs ≡ drop m cs
end_at zero cs l h = refl
end_at (suc m) [] l h = refl
end_at (suc m) (c ∷ cs) l h = absurd cc

pub string_found : (taken : Bool) (m : ℕ) (cs : List ℕ) → m ≤ length cs → closes_string taken (take m cs) ≡ true → after_string taken cs ≡ Some (drop m cs)
string_found taken zero cs l h = absurd (nothing_closes taken h)
string_found taken (suc m) [] l h = absurd (nothing_closes taken h)
string_found true (suc m) (c ∷ cs) l h = string_found false m cs (omega arith) h
string_found false (suc m) (c ∷ cs) l h =
    by_test (c == 34) (bytes_eq (take m cs) []) (closes_string (c == 92) (take m cs)) true h
    (λ t e. if_true (c == 34) (Some cs) (after_string (c == 92) cs) t ∙ ap (λ x. Some x) (end_at m cs (omega arith) e))
    (λ t e. if_false (c == 34) (Some cs) (after_string (c == 92) cs) t ∙ string_found (c == 92) m cs (omega arith) e)

-- ---- a turn of the search

-- a byte that ends a string, and one that takes the next with it
turn_by : (taken : Bool) (c : ℕ) (cs : List ℕ) → (not taken && (c == 34)) ≡ false → after_string (not taken && (c == 92)) cs ≡ after_string taken (c ∷ cs)
turn_by true c cs h = refl
turn_by false c cs h = sym (if_false (c == 34) (Some cs) (after_string (c == 92) cs) h)

pub string_turn : (taken : Bool) (bs : List ℕ) (at : ℕ) → at < length bs → (not taken && (get_or bs at 0 == 34)) ≡ false →
    after_string (not taken && (get_or bs at 0 == 92)) (drop (at + 1) bs) ≡ after_string taken (drop at bs)
string_turn taken bs at l h =
    let s : at + 1 ≡ suc at = omega arith in
    ap (λ n. after_string (not taken && (get_or bs at 0 == 92)) (drop n bs)) s ∙ turn_by taken (get_or bs at 0) (drop (suc at) bs) h ∙ ap (after_string taken) (sym (drop-cons bs at 0 l))

quote_by : (taken : Bool) (c : ℕ) (cs : List ℕ) → (not taken && (c == 34)) ≡ true → after_string taken (c ∷ cs) ≡ Some cs
quote_by true c cs h = absurd cc
quote_by false c cs h = if_true (c == 34) (Some cs) (after_string (c == 92) cs) h

pub quote_turn : (taken : Bool) (bs : List ℕ) (at : ℕ) → at < length bs → (not taken && (get_or bs at 0 == 34)) ≡ true →
    after_string taken (drop at bs) ≡ Some (drop (at + 1) bs)
quote_turn taken bs at l h =
    let s : suc at ≡ at + 1 = omega arith in
    ap (after_string taken) (drop-cons bs at 0 l) ∙ quote_by taken (get_or bs at 0) (drop (suc at) bs) h ∙ ap (λ n. Some (drop n bs)) s

nothing_after : (taken : Bool) → after_string taken [] ≡ None
nothing_after true = refl
nothing_after false = refl

pub string_over : (taken : Bool) (bs : List ℕ) (at : ℕ) → length bs ≤ at → after_string taken (drop at bs) ≡ None
string_over taken bs at l = ap (after_string taken) (drop_of_length-le bs l) ∙ nothing_after taken

-- what stands behind so many bytes is found so
pub before_count : (n : ℕ) (text rest : List ℕ) → n ≤ length text → rest ≡ drop n text → length text - length rest ≡ n
before_count n text rest l e = let d = ap length e ∙ length-drop n text in omega arith

-- A text is its longest beginning that passes a test, and the rest.
use Rattle.std.proofs.Common.{◌≡◌, refl, ap, sym, ◌∙◌, ℕ, zero, suc, ◌≤◌, Bool, true, false, List, [], ◌∷◌, ◌++◌, length, take, drop, take_at, arith}
use Rattle.std.specs.Prelude.{if◌then◌else◌, ◌&&◌}
use Rattle.std.specs.List.{list_all}
use Rattle.rust_lex.specs.Characters.{begins, front, back}
use Rattle.rust_lex.proofs.TestLemmas.{and_left, and_right}

front_back_by : (b : Bool) (p : ℕ → Bool) (c : ℕ) (cs : List ℕ) → front p cs ++ back p cs ≡ cs →
    (if b then c ∷ front p cs else []) ++ (if b then back p cs else c ∷ cs) ≡ c ∷ cs
front_back_by true p c cs h = ap (λ x. c ∷ x) h
front_back_by false p c cs h = refl

pub front_back : (p : ℕ → Bool) (cs : List ℕ) → front p cs ++ back p cs ≡ cs
front_back p [] = refl
front_back p (c ∷ cs) = front_back_by (p c) p c cs (front_back p cs)

drop_by : (b : Bool) (p : ℕ → Bool) (c : ℕ) (cs : List ℕ) → drop (length (front p cs)) cs ≡ back p cs →
    drop (length (if b then c ∷ front p cs else [])) (c ∷ cs) ≡ (if b then back p cs else c ∷ cs)
drop_by true p c cs h = h
drop_by false p c cs h = refl

pub drop_front : (p : ℕ → Bool) (cs : List ℕ) → drop (length (front p cs)) cs ≡ back p cs
drop_front p [] = refl
drop_front p (c ∷ cs) = drop_by (p c) p c cs (drop_front p cs)

length_by : (b : Bool) (p : ℕ → Bool) (c : ℕ) (cs : List ℕ) → length (front p cs) ≤ length cs →
    length (if b then c ∷ front p cs else []) ≤ suc (length cs)
length_by true p c cs h = omega arith
length_by false p c cs h = omega arith

pub front_length : (p : ℕ → Bool) (cs : List ℕ) → length (front p cs) ≤ length cs
front_length p [] = omega arith
front_length p (c ∷ cs) = length_by (p c) p c cs (front_length p cs)

-- what passes the test is the front, where it ends
pass_by : (b : Bool) (p : ℕ → Bool) (c : ℕ) (cs rest : List ℕ) → (b && list_all p cs) ≡ true →
    (list_all p cs ≡ true → front p (cs ++ rest) ≡ cs) → (if b then c ∷ front p (cs ++ rest) else []) ≡ c ∷ cs
pass_by true p c cs rest h k = ap (λ x. c ∷ x) (k h)
pass_by false p c cs rest h k = absurd cc

end_by : (b : Bool) (p : ℕ → Bool) (c : ℕ) (cs : List ℕ) → b ≡ false → (if b then c ∷ front p cs else []) ≡ []
end_by true p c cs h = absurd cc
end_by false p c cs h = refl

pub front_all : (p : ℕ → Bool) (w rest : List ℕ) → list_all p w ≡ true → begins p rest ≡ false → front p (w ++ rest) ≡ w
front_all p [] [] h k = refl
front_all p [] (c ∷ cs) h k = end_by (p c) p c cs k
front_all p (c ∷ cs) rest h k = pass_by (p c) p c cs rest h (λ e. front_all p cs rest e k)

back_by : (b : Bool) (p : ℕ → Bool) (c : ℕ) (cs rest : List ℕ) → (b && list_all p cs) ≡ true →
    (list_all p cs ≡ true → back p (cs ++ rest) ≡ rest) → (if b then back p (cs ++ rest) else c ∷ (cs ++ rest)) ≡ rest
back_by true p c cs rest h k = k h
back_by false p c cs rest h k = absurd cc

stop_by : (b : Bool) (p : ℕ → Bool) (c : ℕ) (cs : List ℕ) → b ≡ false → (if b then back p cs else c ∷ cs) ≡ c ∷ cs
stop_by true p c cs h = absurd cc
stop_by false p c cs h = refl

pub back_all : (p : ℕ → Bool) (w rest : List ℕ) → list_all p w ≡ true → begins p rest ≡ false → back p (w ++ rest) ≡ rest
back_all p [] [] h k = refl
back_all p [] (c ∷ cs) h k = stop_by (p c) p c cs k
back_all p (c ∷ cs) rest h k = back_by (p c) p c cs rest h (λ e. back_all p cs rest e k)

all_by : (b : Bool) (p : ℕ → Bool) (c : ℕ) (cs : List ℕ) → p c ≡ b → list_all p (front p cs) ≡ true → list_all p (if b then c ∷ front p cs else []) ≡ true
all_by true p c cs e h = (λ i. e i && h i)
all_by false p c cs e h = refl

pub all_front : (p : ℕ → Bool) (cs : List ℕ) → list_all p (front p cs) ≡ true
all_front p [] = refl
all_front p (c ∷ cs) = all_by (p c) p c cs refl (all_front p cs)

ends_by : (b : Bool) (p : ℕ → Bool) (c : ℕ) (cs : List ℕ) → p c ≡ b → begins p (back p cs) ≡ false → begins p (if b then back p cs else c ∷ cs) ≡ false
ends_by true p c cs e h = h
ends_by false p c cs e h = e

pub begins_back : (p : ℕ → Bool) (cs : List ℕ) → begins p (back p cs) ≡ false
begins_back p [] = refl
begins_back p (c ∷ cs) = ends_by (p c) p c cs refl (begins_back p cs)

-- a beginning that passes is no longer than the longest one
pub front_append : (p : ℕ → Bool) (w rest : List ℕ) → list_all p w ≡ true → front p (w ++ rest) ≡ w ++ front p rest
front_append p [] rest h = refl
front_append p (c ∷ w) rest h = rw (and_left (p c) (list_all p w) h) (ap (λ x. c ∷ x) (front_append p w rest (and_right (p c) (list_all p w) h)))

pub front_longest : (p : ℕ → Bool) (m : ℕ) (text : List ℕ) → m ≤ length text → list_all p (take m text) ≡ true → m ≤ length (front p text)
front_longest p zero text l h = omega arith
front_longest p (suc m) [] l h = absurd (omega arith)
front_longest p (suc m) (c ∷ cs) l h =
    let k = front_longest p m cs (omega arith) (and_right (p c) (list_all p (take m cs)) h) in
    rw (and_left (p c) (list_all p (take m cs)) h) (omega arith)

-- a beginning in which the longest one ends
pub front_inside : (p : ℕ → Bool) (u rest : List ℕ) (c : ℕ) (w : List ℕ) → back p u ≡ c ∷ w → front p (u ++ rest) ≡ front p u
front_inside p [] rest c w h = absurd cc
front_inside p (d ∷ u) rest c w h = inside_by (p d) p d u rest c w h (λ e. front_inside p u rest c w e)
  where
    inside_by : (b : Bool) (p : ℕ → Bool) (d : ℕ) (u rest : List ℕ) (c : ℕ) (w : List ℕ) → (if b then back p u else d ∷ u) ≡ c ∷ w →
        (back p u ≡ c ∷ w → front p (u ++ rest) ≡ front p u) → (if b then d ∷ front p (u ++ rest) else []) ≡ (if b then d ∷ front p u else [])
    inside_by true p d u rest c w h f = ap (λ x. d ∷ x) (f h)
    inside_by false p d u rest c w h f = refl

pub back_inside : (p : ℕ → Bool) (u rest : List ℕ) (c : ℕ) (w : List ℕ) → back p u ≡ c ∷ w → back p (u ++ rest) ≡ back p u ++ rest
back_inside p [] rest c w h = absurd cc
back_inside p (d ∷ u) rest c w h = inside_by (p d) p d u rest c w h (λ e. back_inside p u rest c w e)
  where
    inside_by : (b : Bool) (p : ℕ → Bool) (d : ℕ) (u rest : List ℕ) (c : ℕ) (w : List ℕ) → (if b then back p u else d ∷ u) ≡ c ∷ w →
        (back p u ≡ c ∷ w → back p (u ++ rest) ≡ back p u ++ rest) → (if b then back p (u ++ rest) else d ∷ (u ++ rest)) ≡ (if b then back p u else d ∷ u) ++ rest
    inside_by true p d u rest c w h f = f h
    inside_by false p d u rest c w h f = refl

-- a text without anything behind its longest beginning
pub whole_front : (p : ℕ → Bool) (u : List ℕ) → back p u ≡ [] → list_all p u ≡ true
whole_front p [] h = refl
whole_front p (d ∷ u) h = whole_by (p d) p d u refl h (λ e. whole_front p u e)
  where
    whole_by : (b : Bool) (p : ℕ → Bool) (d : ℕ) (u : List ℕ) → p d ≡ b → (if b then back p u else d ∷ u) ≡ [] → (back p u ≡ [] → list_all p u ≡ true) → (p d && list_all p u) ≡ true
    whole_by true p d u e h f = rw e (f h)
    whole_by false p d u e h f = absurd cc

pub take_front : (p : ℕ → Bool) (text : List ℕ) → take (length (front p text)) text ≡ front p text
take_front p text = ap (take (length (front p text))) (sym (front_back p text)) ∙ take_at (front p text) (back p text) (length (front p text)) refl

-- A text is its longest beginning that passes a test, and the rest.
use Rattle.std.proofs.Common.{◌≡◌, refl, ap, ℕ, suc, ◌+◌, ◌≤◌, Bool, true, false, List, [], ◌∷◌, ◌++◌, length, drop, drop-cons, get_or, add-one, ◌<◌, Option, Some, None, arith}
use Rattle.std.specs.Option.{option_map}
use Rattle.std.specs.Prelude.{if◌then◌else◌, ◌&&◌}
use Rattle.std.specs.List.{list_all}
use Rattle.text_meaning.specs.Names.{begins}
use Rattle.text_tokens.specs.Fronts.{front, back, begins_two, close_at}

front_back_by : (b : Bool) (p : ℕ → Bool) (c : ℕ) (cs : List ℕ) → front p cs ++ back p cs ≡ cs →
    (if b then c ∷ front p cs else []) ++ (if b then back p cs else c ∷ cs) ≡ c ∷ cs
front_back_by true p c cs h = ap (λ x. c ∷ x) h
front_back_by false p c cs h = refl

pub front_back : (p : ℕ → Bool) (cs : List ℕ) → front p cs ++ back p cs ≡ cs
front_back p [] = refl
front_back p (c ∷ cs) = front_back_by (p c) p c cs (front_back p cs)

drop_by : (b : Bool) (p : ℕ → Bool) (c : ℕ) (cs : List ℕ) → drop (length (front p cs)) cs ≡ back p cs →
    drop (length (if b then c ∷ front p cs else [])) (c ∷ cs) ≡ (if b then back p cs else c ∷ cs)
drop_by true p c cs h = h
drop_by false p c cs h = refl

pub drop_front : (p : ℕ → Bool) (cs : List ℕ) → drop (length (front p cs)) cs ≡ back p cs
drop_front p [] = refl
drop_front p (c ∷ cs) = drop_by (p c) p c cs (drop_front p cs)

length_by : (b : Bool) (p : ℕ → Bool) (c : ℕ) (cs : List ℕ) → length (front p cs) ≤ length cs →
    length (if b then c ∷ front p cs else []) ≤ suc (length cs)
length_by true p c cs h = omega arith
length_by false p c cs h = omega arith

pub front_length : (p : ℕ → Bool) (cs : List ℕ) → length (front p cs) ≤ length cs
front_length p [] = omega arith
front_length p (c ∷ cs) = length_by (p c) p c cs (front_length p cs)

-- what passes the test is the front, where it ends
pass_by : (b : Bool) (p : ℕ → Bool) (c : ℕ) (cs rest : List ℕ) → (b && list_all p cs) ≡ true →
    (list_all p cs ≡ true → front p (cs ++ rest) ≡ cs) → (if b then c ∷ front p (cs ++ rest) else []) ≡ c ∷ cs
pass_by true p c cs rest h k = ap (λ x. c ∷ x) (k h)
pass_by false p c cs rest h k = absurd cc

end_by : (b : Bool) (p : ℕ → Bool) (c : ℕ) (cs : List ℕ) → b ≡ false → (if b then c ∷ front p cs else []) ≡ []
end_by true p c cs h = absurd cc
end_by false p c cs h = refl

pub front_all : (p : ℕ → Bool) (w rest : List ℕ) → list_all p w ≡ true → begins p rest ≡ false → front p (w ++ rest) ≡ w
front_all p [] [] h k = refl
front_all p [] (c ∷ cs) h k = end_by (p c) p c cs k
front_all p (c ∷ cs) rest h k = pass_by (p c) p c cs rest h (λ e. front_all p cs rest e k)

back_by : (b : Bool) (p : ℕ → Bool) (c : ℕ) (cs rest : List ℕ) → (b && list_all p cs) ≡ true →
    (list_all p cs ≡ true → back p (cs ++ rest) ≡ rest) → (if b then back p (cs ++ rest) else c ∷ (cs ++ rest)) ≡ rest
back_by true p c cs rest h k = k h
back_by false p c cs rest h k = absurd cc

stop_by : (b : Bool) (p : ℕ → Bool) (c : ℕ) (cs : List ℕ) → b ≡ false → (if b then back p cs else c ∷ cs) ≡ c ∷ cs
stop_by true p c cs h = absurd cc
stop_by false p c cs h = refl

pub back_all : (p : ℕ → Bool) (w rest : List ℕ) → list_all p w ≡ true → begins p rest ≡ false → back p (w ++ rest) ≡ rest
back_all p [] [] h k = refl
back_all p [] (c ∷ cs) h k = stop_by (p c) p c cs k
back_all p (c ∷ cs) rest h k = back_by (p c) p c cs rest h (λ e. back_all p cs rest e k)

all_by : (b : Bool) (p : ℕ → Bool) (c : ℕ) (cs : List ℕ) → p c ≡ b → list_all p (front p cs) ≡ true → list_all p (if b then c ∷ front p cs else []) ≡ true
all_by true p c cs e h = (λ i. e i && h i)
all_by false p c cs e h = refl

pub all_front : (p : ℕ → Bool) (cs : List ℕ) → list_all p (front p cs) ≡ true
all_front p [] = refl
all_front p (c ∷ cs) = all_by (p c) p c cs refl (all_front p cs)

ends_by : (b : Bool) (p : ℕ → Bool) (c : ℕ) (cs : List ℕ) → p c ≡ b → begins p (back p cs) ≡ false → begins p (if b then back p cs else c ∷ cs) ≡ false
ends_by true p c cs e h = h
ends_by false p c cs e h = e

pub begins_back : (p : ℕ → Bool) (cs : List ℕ) → begins p (back p cs) ≡ false
begins_back p [] = refl
begins_back p (c ∷ cs) = ends_by (p c) p c cs refl (begins_back p cs)

-- a turn of the search for `»`
turn_map : (at : ℕ) (o : Option ℕ) → option_map (λ n. suc at + n) o ≡ option_map (λ n. at + n) (option_map (λ n. n + 1) o)
turn_map at None = refl
turn_map at (Some n) = ap (λ k. Some k) (omega arith)

turn_by : (b : Bool) (at : ℕ) (o : Option ℕ) → b ≡ false →
    option_map (λ n. suc at + n) o ≡ option_map (λ n. at + n) (if b then Some 0 else option_map (λ n. n + 1) o)
turn_by true at o h = absurd cc
turn_by false at o h = turn_map at o

pub close_turn : (bs : List ℕ) (at : ℕ) → at < length bs → begins_two 194 187 (drop at bs) ≡ false →
    option_map (λ n. (at + 1) + n) (close_at (drop (at + 1) bs)) ≡ option_map (λ n. at + n) (close_at (drop at bs))
close_turn bs at h k =
    let e = drop-cons bs at 0 h in
    let k2 = rw e at k in
    rw (add-one, e) (turn_by (begins_two 194 187 (get_or bs at 0 ∷ drop (suc at) bs)) at (close_at (drop (suc at) bs)) k2)

two_within : (bs : List ℕ) → begins_two 194 187 bs ≡ true → 2 ≤ length bs
two_within [] h = absurd cc
two_within (c ∷ []) h = absurd cc
two_within (c ∷ d ∷ bs) h = omega arith

within_map : (n k : ℕ) (o : Option ℕ) → option_map (λ n. n + 1) o ≡ Some n → ((m : ℕ) → o ≡ Some m → m + 2 ≤ k) → n + 2 ≤ suc k
within_map n k None h f = absurd cc
within_map n k (Some m) h f = let e : Some (m + 1) ≡ Some n = h in let e2 : m + 1 ≡ n = cc in let q = f m refl in omega arith

within_by : (b : Bool) (n k : ℕ) (o : Option ℕ) → (b ≡ true → 2 ≤ suc k) → (if b then Some 0 else option_map (λ n. n + 1) o) ≡ Some n →
    ((m : ℕ) → o ≡ Some m → m + 2 ≤ k) → n + 2 ≤ suc k
within_by true n k o g h f = let e : 0 ≡ n = cc in let q = g refl in omega arith
within_by false n k o g h f = within_map n k o h f

-- the two bytes of `»` are there
pub close_within : (bs : List ℕ) (n : ℕ) → close_at bs ≡ Some n → n + 2 ≤ length bs
close_within [] n h = absurd cc
close_within (c ∷ bs) n h = within_by (begins_two 194 187 (c ∷ bs)) n (length bs) (close_at bs) (two_within (c ∷ bs)) h (close_within bs)

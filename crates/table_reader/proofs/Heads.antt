-- The tokens that parts begin with: one production at most goes on with a lexeme.
use Rattle.std.proofs.Common.{◌≡◌, refl, ap, ◌∙◌, subst, ℕ, zero, suc, inl, inr, ◌⊎◌, Bool, true, false, List, [], ◌∷◌, ◌++◌, Option}
use Rattle.std.specs.Prelude.{if◌then◌else◌, ◌&&◌, not}
use Rattle.std.specs.List.{list_all}
use Rattle.table_reader.specs.declared.symbol.Symbol.{Symbol}
use Rattle.table_reader.specs.declared.symbol.Symbol.TheVariants as S
use Rattle.table_reader.specs.declared.take.Take.{Take}
use Rattle.table_reader.specs.declared.take.Take.TheVariants as K
use Rattle.table_reader.specs.Steps.{has_empty, Turn, refused, taken, left, turned, before, either, one_more}
use Rattle.table_reader.specs.Steps as Steps
use Rattle.table_reader.specs.Derivations as D
use Rattle.table_reader.specs.Derivations.{IsOneOf, nothing, token, piece, part}
use Rattle.table_reader.specs.Conditions as C
use Rattle.table_reader.specs.Conditions.{accepts, single}
use Rattle.table_reader.proofs.Sound as Sound
use Rattle.table_reader.proofs.Sound.{both}

-- lists
pub of_left : {A : Type 0} (x : A) (xs ys : List A) → IsOneOf x xs → IsOneOf x (xs ++ ys)
of_left x [] ys h = absurd h
of_left x (z ∷ xs) ys (inl e) = inl e
of_left x (z ∷ xs) ys (inr h) = inr (of_left x xs ys h)

pub of_right : {A : Type 0} (x : A) (xs ys : List A) → IsOneOf x ys → IsOneOf x (xs ++ ys)
of_right x [] ys h = h
of_right x (z ∷ xs) ys h = inr (of_right x xs ys h)

pub of_append : {A : Type 0} (x : A) (xs ys : List A) → IsOneOf x (xs ++ ys) → IsOneOf x xs ⊎ IsOneOf x ys
of_append x [] ys h = inr h
of_append x (z ∷ xs) ys (inl e) = inl (inl e)
of_append x (z ∷ xs) ys (inr h) = elim (of_append x xs ys h) [ inl a ↦ inl (inr a) | inr b ↦ inr b ]

pub left_of : (a b : Bool) → a && b ≡ true → a ≡ true
left_of true b h = refl
left_of false b h = h

pub right_of : (a b : Bool) → a && b ≡ true → b ≡ true
right_of true b h = h
right_of false b h = absurd cc

pub and_both : (a b : Bool) → a ≡ true → b ≡ true → a && b ≡ true
and_both true b e f = f
and_both false b e f = absurd cc

pub not_true : (b : Bool) → not b ≡ true → b ≡ true → ⊥
not_true true h g = cc
not_true false h g = cc

pub all_of : {A : Type 0} (test : A → Bool) (xs : List A) (x : A) → list_all test xs ≡ true → IsOneOf x xs → test x ≡ true
all_of test [] x h i = absurd i
all_of test (y ∷ ys) x h (inl e) = ap test e ∙ left_of (test y) (list_all test ys) h
all_of test (y ∷ ys) x h (inr i) = all_of test ys x (right_of (test y) (list_all test ys) h) i

module _ {T N L : Type 0} (takes : T → L → Take L) (productions : N → List (List (Symbol T N))) (rank : ℕ) (weight : L → ℕ)
    (fits : C.Fits takes productions rank weight) where
  abbrev pub Symbols : Type 0
  Symbols = List (Symbol T N)

  abbrev pub Derives : Symbols → List L → Type 0
  Derives s ls = D.Derives takes productions s ls

  abbrev pub After : Turn T N L → Symbols → List L → Type 0
  After t rest ls = Sound.After takes productions rank weight t rest ls

  abbrev pub Then : Turn T N L → List L → Type 0
  Then t ls = Sound.Then takes productions rank weight t ls

  abbrev pub chosen : ℕ → List Symbols → L → Turn T N L
  chosen d ps l = Steps.chosen takes productions rank weight d ps l

  abbrev pub turn : Symbols → L → Turn T N L
  turn s l = Steps.turn takes productions rank weight s l

  abbrev pub turns : ℕ → Symbols → L → Option Symbols
  turns k s l = Steps.turns takes productions rank weight k s l

  abbrev pub heads : ℕ → List Symbols → List T
  heads d ps = C.heads productions d ps

  abbrev pub firsts : Symbols → List T → List T
  firsts p after = C.firsts productions rank fits.follow fits.apart fits.same p after

  abbrev pub firm : ℕ → List Symbols → Bool
  firm d ps = C.firm productions d ps

  abbrev pub sits : Symbols → List T → Bool
  sits p after = C.sits productions rank fits.follow fits.apart fits.same p after

  abbrev pub among : List T → List T → Bool
  among ts us = C.among productions rank fits.follow fits.apart fits.same ts us

  abbrev pub all_apart : List T → Bool
  all_apart ts = C.all_apart productions rank fits.follow fits.apart fits.same ts

  abbrev pub each_apart : List T → List T → Bool
  each_apart ts us = C.each_apart productions rank fits.follow fits.apart fits.same ts us

  -- the conditions of a part
  pub firm_part : (n : N) → firm rank (productions n) ≡ true
  firm_part n = left_of (firm rank (productions n)) _ (fits.table n)

  pub heads_part : (n : N) → all_apart (heads rank (productions n)) ≡ true
  heads_part n = left_of (all_apart (heads rank (productions n))) _ (right_of (firm rank (productions n)) _ (fits.table n))

  pub sits_part : (n : N) → list_all (λ p. sits p (fits.follow n)) (productions n) ≡ true
  sits_part n =
      left_of (list_all (λ p. sits p (fits.follow n)) (productions n)) _
      (right_of (all_apart (heads rank (productions n))) _ (right_of (firm rank (productions n)) _ (fits.table n)))

  -- what is left of the test where its first three parts are passed
  last_tests : (n : N) → (if has_empty (productions n) then each_apart (heads rank (productions n)) (fits.follow n) else true) && single (productions n) ≡ true
  last_tests n =
      right_of (list_all (λ p. sits p (fits.follow n)) (productions n)) _
      (right_of (all_apart (heads rank (productions n))) _ (right_of (firm rank (productions n)) _ (fits.table n)))

  pub ends_part : (n : N) → (if has_empty (productions n) then each_apart (heads rank (productions n)) (fits.follow n) else true) ≡ true
  ends_part n = left_of (if has_empty (productions n) then each_apart (heads rank (productions n)) (fits.follow n) else true) _ (last_tests n)

  pub single_part : (n : N) → single (productions n) ≡ true
  single_part n = right_of (if has_empty (productions n) then each_apart (heads rank (productions n)) (fits.follow n) else true) _ (last_tests n)

  -- what takes a lexeme
  pub record Begins (ts : List T) (l : L) : Type 0 where
    pub with : T
    pub one : IsOneOf with ts
    pub good : accepts (takes with l) ≡ true

  pub to_left : (ts us : List T) (l : L) → Begins ts l → Begins (ts ++ us) l
  to_left ts us l b = record { with = b.with; one = of_left b.with ts us b.one; good = b.good }

  pub to_right : (ts us : List T) (l : L) → Begins us l → Begins (ts ++ us) l
  to_right ts us l b = record { with = b.with; one = of_right b.with ts us b.one; good = b.good }

  pub to_later : (t : T) (ts : List T) (l : L) → Begins ts l → Begins (t ∷ ts) l
  to_later t ts l b = record { with = b.with; one = inr b.one; good = b.good }

  -- of two tokens that are apart, one at most takes a lexeme
  abbrev pub Apart : List T → List T → Type 0
  Apart ts us = (t u : T) → IsOneOf t ts → IsOneOf u us → fits.apart t u ≡ true

  pub clash : (ts us : List T) (l : L) → Apart ts us → Begins ts l → Begins us l → ⊥
  clash ts us l a b c = fits.apart_right b.with c.with l (a b.with c.with b.one c.one) b.good c.good

  pub apart_tail : (ts us : List T) → all_apart (ts ++ us) ≡ true → all_apart us ≡ true
  apart_tail [] us h = h
  apart_tail (t ∷ ts) us h = apart_tail ts us (right_of (list_all (fits.apart t) (ts ++ us)) _ h)

  pub all_front : (test : T → Bool) (ts us : List T) → list_all test (ts ++ us) ≡ true → list_all test ts ≡ true
  all_front test [] us h = refl
  all_front test (t ∷ ts) us h = and_both (test t) (list_all test ts) (left_of (test t) _ h) (all_front test ts us (right_of (test t) _ h))

  pub apart_front : (ts us : List T) → all_apart (ts ++ us) ≡ true → all_apart ts ≡ true
  apart_front [] us h = refl
  apart_front (t ∷ ts) us h =
      and_both (list_all (fits.apart t) ts) (all_apart ts) (all_front (fits.apart t) ts us (left_of (list_all (fits.apart t) (ts ++ us)) _ h))
      (apart_front ts us (right_of (list_all (fits.apart t) (ts ++ us)) _ h))

  pub apart_both : (ts us : List T) → all_apart (ts ++ us) ≡ true → Apart ts us
  apart_both [] us h t u i j = absurd i
  apart_both (v ∷ ts) us h t u (inl e) j =
      ap (λ w. fits.apart w u) e ∙ all_of (fits.apart v) (ts ++ us) u (left_of (list_all (fits.apart v) (ts ++ us)) _ h) (of_right u ts us j)
  apart_both (v ∷ ts) us h t u (inr i) j = apart_both ts us (right_of (list_all (fits.apart v) (ts ++ us)) _ h) t u i j

  pub apart_each : (ts us : List T) → each_apart ts us ≡ true → Apart ts us
  apart_each ts us h t u i j = all_of (fits.apart t) us u (all_of (λ v. list_all (fits.apart v) us) ts t h i) j

  -- a production that isn't empty begins with a token of its own
  abbrev pub IsSome : Symbols → Type 0
  IsSome [] = ⊥
  IsSome (s ∷ p) = Unit {0}

  pub some_of : (q : Symbols) (ps : List Symbols) → has_empty ps ≡ false → IsOneOf q ps → IsSome q
  some_of q [] h i = absurd i
  some_of q ([] ∷ ps) h i = absurd cc
  some_of [] ((s ∷ p) ∷ ps) h (inl e) = absurd cc
  some_of (x ∷ q) ((s ∷ p) ∷ ps) h (inl e) = tt
  some_of q ((s ∷ p) ∷ ps) h (inr i) = some_of q ps h i

  pub none_empty : (b : Bool) → not b ≡ true → b ≡ false
  none_empty true h = absurd cc
  none_empty false h = refl

  pub taken_good : (t : T) (l : L) (k : Take L) → takes t l ≡ k → accepts k ≡ true → accepts (takes t l) ≡ true
  taken_good t l k e h = ap accepts e ∙ h

  pub head_token : (t : T) (rest : Symbols) (l : L) (ls : List L) → Derives (S.Token t ∷ rest) (l ∷ ls) → accepts (takes t l) ≡ true
  head_token t rest l ls (token e d) = taken_good t l K.Whole e refl
  head_token t rest l ls (piece half r e d) = taken_good t l (K.Front half r) e refl

  pub lead_heads : (d : ℕ) (n : N) (p rest : Symbols) (l : L) (ls : List L) → not (has_empty (productions n)) && firm d (productions n) ≡ true →
      ((q : Symbols) → IsOneOf q (productions n) → IsSome q → Derives (q ++ (p ++ rest)) (l ∷ ls) → Begins (heads d (productions n)) l) →
      Derives (S.Part n ∷ (p ++ rest)) (l ∷ ls) → Begins (heads d (productions n)) l
  lead_heads d n p rest l ls h f (part q one x) =
      f q one (some_of q (productions n) (none_empty (has_empty (productions n)) (left_of (not (has_empty (productions n))) _ h)) one) x

  pub begun_heads : (d : ℕ) (ps : List Symbols) → firm d ps ≡ true → (q rest : Symbols) (l : L) (ls : List L) → IsOneOf q ps → IsSome q → Derives (q ++ rest) (l ∷ ls) → Begins (heads d ps) l
  begun_heads d [] h q rest l ls i s x = absurd i
  begun_heads d ([] ∷ ps) h [] rest l ls i s x = absurd s
  begun_heads d ([] ∷ ps) h (y ∷ q) rest l ls (inl e) s x = absurd cc
  begun_heads d ([] ∷ ps) h (y ∷ q) rest l ls (inr i) s x = begun_heads d ps h (y ∷ q) rest l ls i s x
  begun_heads d ((S.Token t ∷ p) ∷ ps) h q rest l ls (inl e) s x =
      record { with = t; one = inl refl; good = head_token t (p ++ rest) l ls (subst (λ (z : Symbols). Derives (z ++ rest) (l ∷ ls)) e x) }
  begun_heads d ((S.Token t ∷ p) ∷ ps) h q rest l ls (inr i) s x = to_later t (heads d ps) l (begun_heads d ps h q rest l ls i s x)
  begun_heads zero ((S.Part n ∷ p) ∷ ps) h q rest l ls i s x = absurd cc
  begun_heads (suc d) ((S.Part n ∷ p) ∷ ps) h q rest l ls (inl e) s x =
      to_left (heads d (productions n)) (heads (suc d) ps) l
      (lead_heads d n p rest l ls (left_of (not (has_empty (productions n)) && firm d (productions n)) _ h)
      (λ w i y z. begun_heads d (productions n) (right_of (not (has_empty (productions n))) _ (left_of (not (has_empty (productions n)) && firm d (productions n)) _ h)) w (p ++ rest) l ls i y z)
      (subst (λ (z : Symbols). Derives (z ++ rest) (l ∷ ls)) e x))
  begun_heads (suc d) ((S.Part n ∷ p) ∷ ps) h q rest l ls (inr i) s x =
      to_right (heads d (productions n)) (heads (suc d) ps) l
      (begun_heads (suc d) ps (right_of (not (has_empty (productions n)) && firm d (productions n)) _ h) q rest l ls i s x)

  -- what is chosen takes the lexeme
  abbrev pub Goes : Turn T N L → Type 0
  Goes refused = ⊥
  Goes (taken p) = Unit {0}
  Goes (left p r) = Unit {0}

  pub take_goes : (k : Take L) (t : T) (p : Symbols) (other : Turn T N L) (ts : List T) (l : L) → takes t l ≡ k → (Goes other → Begins ts l) → Goes (either (turned k p) other) → Begins (t ∷ ts) l
  take_goes K.No t p other ts l e f g = to_later t ts l (f g)
  take_goes K.Whole t p other ts l e f g = record { with = t; one = inl refl; good = taken_good t l K.Whole e refl }
  take_goes (K.Front half r) t p other ts l e f g = record { with = t; one = inl refl; good = taken_good t l (K.Front half r) e refl }

  pub lead_goes : (c : Turn T N L) (p : Symbols) (other : Turn T N L) (ts us : List T) (l : L) → (Goes c → Begins ts l) → (Goes other → Begins us l) → Goes (before p c other) → Begins (ts ++ us) l
  lead_goes refused p other ts us l f g h = to_right ts us l (g h)
  lead_goes (taken q) p other ts us l f g h = to_left ts us l (f h)
  lead_goes (left q r) p other ts us l f g h = to_left ts us l (f h)

  pub chosen_goes : (d : ℕ) (ps : List Symbols) (l : L) → Goes (chosen d ps l) → Begins (heads d ps) l
  chosen_goes d [] l g = absurd g
  chosen_goes d ([] ∷ ps) l g = chosen_goes d ps l g
  chosen_goes d ((S.Token t ∷ p) ∷ ps) l g = take_goes (takes t l) t p (chosen d ps l) (heads d ps) l refl (chosen_goes d ps l) g
  chosen_goes zero ((S.Part n ∷ p) ∷ ps) l g = chosen_goes zero ps l g
  chosen_goes (suc d) ((S.Part n ∷ p) ∷ ps) l g =
      lead_goes (chosen d (productions n) l) p (chosen (suc d) ps l) (heads d (productions n)) (heads (suc d) ps) l (chosen_goes d (productions n) l) (chosen_goes (suc d) ps l) g

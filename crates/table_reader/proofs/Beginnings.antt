-- The tokens that the first of some productions begins with, and the others.
use Rattle.std.proofs.Common.{◌≡◌, refl, sym, ap, ◌∙◌, subst, ℕ, zero, suc, ◌<◌, length, get_or, arith, inl, inr, Bool, true, false, List, [], ◌∷◌, ◌++◌, Option, Some, None}
use Rattle.std.specs.Prelude.{◌&&◌, ◌||◌, not, if◌then◌else◌}
use Rattle.std.specs.List.{list_any}
use Rattle.table_reader.specs.declared.symbol.Production.{Production}
use Rattle.table_reader.specs.declared.symbol.Symbol.{Symbol}
use Rattle.table_reader.specs.declared.symbol.Symbol.TheVariants as S
use Rattle.table_reader.specs.declared.take.Take.{Take}
use Rattle.table_reader.specs.Steps.{has_empty, one_more}
use Rattle.table_reader.specs.Derivations as D
use Rattle.table_reader.specs.Derivations.{IsOneOf, rows}
use Rattle.table_reader.specs.Conditions as C
use Rattle.table_reader.specs.Conditions.{accepts, single}
use Rattle.table_reader.specs.Machine as M
use Rattle.table_reader.specs.Machine.{IsAt, first_place, is_empty}
use Rattle.table_reader.proofs.Heads as Heads
use Rattle.table_reader.proofs.Heads.{left_of, right_of}

pub append_nil : {A : Type 0} (xs : List A) → xs ++ [] ≡ xs
append_nil [] = refl
append_nil {A} (x ∷ xs) = ap (λ (ys : List A). x ∷ ys) (append_nil xs)

-- places
pub one_of_at : {A : Type 0} (x : A) (i : ℕ) (ys : List A) → IsAt x i ys → IsOneOf x ys
one_of_at x i [] h = absurd h
one_of_at x zero (y ∷ ys) h = inl h
one_of_at x (suc i) (y ∷ ys) h = inr (one_of_at x i ys h)

pub at_of_one : {A : Type 0} (x : A) (ys : List A) → IsOneOf x ys → (i : ℕ) × IsAt x i ys
at_of_one x [] h = absurd h
at_of_one x (y ∷ ys) (inl e) = (zero, e)
at_of_one x (y ∷ ys) (inr h) = let r = at_of_one x ys h in (suc r.0, r.1)

pub at_rows : {T N : Type 0} (w : Production T N) (i : ℕ) (ws : List (Production T N)) → i < length ws → w ≡ get_or ws i w → IsAt w.symbols.now i (rows ws)
at_rows w i [] h e = absurd (omega arith)
at_rows {T} {N} w zero (v ∷ ws) h e = ap (λ (u : Production T N). u.symbols.now) e
at_rows w (suc i) (v ∷ ws) h e = at_rows w i ws (omega arith) e

pub at_within : {T N : Type 0} (p : List (Symbol T N)) (i : ℕ) (ws : List (Production T N)) → IsAt p i (rows ws) → i < length ws
at_within p i [] h = absurd h
at_within p zero (w ∷ ws) h = omega arith
at_within p (suc i) (w ∷ ws) h = let less = at_within p i ws h in omega arith

pub same_at : {A : Type 0} (x y : A) (i : ℕ) (zs : List A) → IsAt x i zs → IsAt y i zs → x ≡ y
same_at x y i [] h g = absurd h
same_at x y zero (z ∷ zs) h g = h ∙ sym g
same_at x y (suc i) (z ∷ zs) h g = same_at x y i zs h g

pub some_within : {A : Type 0} (first : A) (rest xs : List A) (i : ℕ) (ps : List (List A)) → IsAt (first ∷ rest) i ps → IsAt xs i ps → 0 < length xs
some_within {A} first rest xs i ps h g =
    let long : 0 < length (first ∷ rest) = omega arith in
    subst (λ (ys : List A). 0 < length ys) (same_at (first ∷ rest) xs i ps h g) long

pub first_here : {A : Type 0} (test : A → Bool) (y : A) (ys : List A) → test y ≡ true → first_place test (y ∷ ys) ≡ Some 0
first_here test y ys e = ap (λ (c : Bool). if c then Some 0 else one_more (first_place test ys)) e

pub first_later : {A : Type 0} (test : A → Bool) (y : A) (ys : List A) → test y ≡ false → first_place test (y ∷ ys) ≡ one_more (first_place test ys)
first_later test y ys e = ap (λ (c : Bool). if c then Some 0 else one_more (first_place test ys)) e

pub record FirstAt {A : Type 0} (test : A → Bool) (i : ℕ) (ys : List A) : Type 0 where
  pub item : A
  pub at : IsAt item i ys
  pub passes : test item ≡ true

at_later : {A : Type 0} (test : A → Bool) (y : A) (ys : List A) (i : ℕ) (o : Option ℕ) → ((j : ℕ) → o ≡ Some j → FirstAt test j ys) → one_more o ≡ Some i → FirstAt test i (y ∷ ys)
at_later test y ys i None f g = absurd cc
at_later {A} test y ys i (Some j) f g =
    let first = f j refl in
    let more : suc j ≡ i = cc in
    subst (λ (k : ℕ). FirstAt test k (y ∷ ys)) more (record { item = first.item; at = first.at; passes = first.passes })

at_test : {A : Type 0} (test : A → Bool) (y : A) (ys : List A) (i : ℕ) (b : Bool) → test y ≡ b → ((j : ℕ) → first_place test ys ≡ Some j → FirstAt test j ys) →
    (if b then Some 0 else one_more (first_place test ys)) ≡ Some i → FirstAt test i (y ∷ ys)
at_test {A} test y ys i true e f g =
    let here : 0 ≡ i = cc in
    subst (λ (k : ℕ). FirstAt test k (y ∷ ys)) here (record { item = y; at = refl; passes = e })
at_test test y ys i false e f g = at_later test y ys i (first_place test ys) f g

pub first_at : {A : Type 0} (test : A → Bool) (i : ℕ) (ys : List A) → first_place test ys ≡ Some i → FirstAt test i ys
first_at test i [] h = absurd cc
first_at test i (y ∷ ys) h = at_test test y ys i (test y) refl (λ j e. first_at test j ys e) h

abbrev pub is_some : Option ℕ → Bool
is_some None = false
is_some (Some k) = true

some_more : (o : Option ℕ) → is_some o ≡ is_some (one_more o)
some_more None = refl
some_more (Some k) = refl

-- one is empty where an empty one has a place
pub has_place : {A : Type 0} (ps : List (List A)) → has_empty ps ≡ is_some (first_place is_empty ps)
has_place [] = refl
has_place ([] ∷ ps) = refl
has_place ((x ∷ p) ∷ ps) = has_place ps ∙ some_more (first_place is_empty ps)

pub false_of : (b : Bool) → (b ≡ true → ⊥) → b ≡ false
false_of true f = absurd (f refl)
false_of false f = refl

-- at most one is empty
pub empty_at : {A : Type 0} (ps : List (List A)) (i : ℕ) → single ps ≡ true → IsAt [] i ps → first_place is_empty ps ≡ Some i
empty_at [] i s h = absurd h
empty_at ([] ∷ ps) zero s h = refl
empty_at ([] ∷ ps) (suc i) s h = absurd (Heads.not_true (has_empty ps) s (has_it ps (one_of_at [] i ps h)))
  where
    has_it : {A : Type 0} (ps : List (List A)) → IsOneOf [] ps → has_empty ps ≡ true
    has_it [] h = absurd h
    has_it ([] ∷ ps) h = refl
    has_it ((s ∷ p) ∷ ps) (inl e) = absurd cc
    has_it ((s ∷ p) ∷ ps) (inr h) = has_it ps h
empty_at ((x ∷ p) ∷ ps) zero s h = absurd cc
empty_at ((x ∷ p) ∷ ps) (suc i) s h = ap one_more (empty_at ps i s h)

module _ {T N L : Type 0} (takes : T → L → Take L) (productions : N → List (List (Symbol T N))) (rank : ℕ) (weight : L → ℕ)
    (fits : C.Fits takes productions rank weight) where
  abbrev Symbols : Type 0
  Symbols = List (Symbol T N)

  abbrev Derives : Symbols → List L → Type 0
  Derives s ls = D.Derives takes productions s ls

  abbrev heads : ℕ → List Symbols → List T
  heads d ps = C.heads productions d ps

  abbrev firm : ℕ → List Symbols → Bool
  firm d ps = C.firm productions d ps

  abbrev all_apart : List T → Bool
  all_apart ts = Heads.all_apart takes productions rank weight fits ts

  abbrev Begins : List T → L → Type 0
  Begins ts l = Heads.Begins takes productions rank weight fits ts l

  abbrev IsSome : Symbols → Type 0
  IsSome s = Heads.IsSome takes productions rank weight fits s

  pub firm_tail : (d : ℕ) (x : Symbols) (ps : List Symbols) → firm d (x ∷ ps) ≡ true → firm d ps ≡ true
  firm_tail d [] ps h = h
  firm_tail d (S.Token t ∷ p) ps h = h
  firm_tail zero (S.Part n ∷ p) ps h = absurd cc
  firm_tail (suc d) (S.Part n ∷ p) ps h = right_of (not (has_empty (productions n)) && firm d (productions n)) _ h

  pub firm_one : (d : ℕ) (x : Symbols) (ps : List Symbols) → firm d (x ∷ ps) ≡ true → firm d (x ∷ []) ≡ true
  firm_one d [] ps h = refl
  firm_one d (S.Token t ∷ p) ps h = refl
  firm_one zero (S.Part n ∷ p) ps h = absurd cc
  firm_one (suc d) (S.Part n ∷ p) ps h = Heads.and_both (not (has_empty (productions n)) && firm d (productions n)) true (left_of (not (has_empty (productions n)) && firm d (productions n)) _ h) refl

  pub heads_split : (d : ℕ) (x : Symbols) (ps : List Symbols) → heads d (x ∷ ps) ≡ heads d (x ∷ []) ++ heads d ps
  heads_split d [] ps = refl
  heads_split d (S.Token t ∷ p) ps = refl
  heads_split zero (S.Part n ∷ p) ps = refl
  heads_split (suc d) (S.Part n ∷ p) ps = ap (λ (ts : List T). ts ++ heads (suc d) ps) (sym (append_nil (heads d (productions n))))

  -- two productions of which one is the first
  pub first_clash : (d : ℕ) (x : Symbols) (ps : List Symbols) (l : L) → all_apart (heads d (x ∷ ps)) ≡ true → Begins (heads d (x ∷ [])) l → Begins (heads d ps) l → ⊥
  first_clash d x ps l h b c =
      Heads.clash takes productions rank weight fits (heads d (x ∷ [])) (heads d ps) l
      (Heads.apart_both takes productions rank weight fits (heads d (x ∷ [])) (heads d ps) (subst (λ (ts : List T). all_apart ts ≡ true) (heads_split d x ps) h)) b c

  pub tail_apart : (d : ℕ) (x : Symbols) (ps : List Symbols) → all_apart (heads d (x ∷ ps)) ≡ true → all_apart (heads d ps) ≡ true
  tail_apart d x ps h = Heads.apart_tail takes productions rank weight fits (heads d (x ∷ [])) (heads d ps) (subst (λ (ts : List T). all_apart ts ≡ true) (heads_split d x ps) h)

  -- the test whether a token takes the lexeme
  abbrev taken_by : L → T → Bool
  taken_by l t = accepts (takes t l)

  any_by : (b : Bool) (t : T) (ts : List T) (l : L) → taken_by l t ≡ b → (list_any (taken_by l) ts ≡ true → Begins ts l) → b || list_any (taken_by l) ts ≡ true → Begins (t ∷ ts) l
  any_by true t ts l e f h = record { with = t; one = inl refl; good = e }
  any_by false t ts l e f h = Heads.to_later takes productions rank weight fits t ts l (f h)

  pub any_begins : (ts : List T) (l : L) → list_any (taken_by l) ts ≡ true → Begins ts l
  any_begins [] l h = absurd cc
  any_begins (t ∷ ts) l h = any_by (taken_by l t) t ts l refl (any_begins ts l) h

  or_right : (a b : Bool) → b ≡ true → a || b ≡ true
  or_right true b h = refl
  or_right false b h = h

  or_left : (a b : Bool) → a ≡ true → a || b ≡ true
  or_left true b h = refl
  or_left false b h = absurd cc

  any_from : (ts : List T) (l : L) (t : T) → IsOneOf t ts → taken_by l t ≡ true → list_any (taken_by l) ts ≡ true
  any_from [] l t i g = absurd i
  any_from (u ∷ ts) l t (inl e) g = or_left (taken_by l u) (list_any (taken_by l) ts) (ap (taken_by l) (sym e) ∙ g)
  any_from (u ∷ ts) l t (inr i) g = or_right (taken_by l u) (list_any (taken_by l) ts) (any_from ts l t i g)

  pub begins_any : (ts : List T) (l : L) → Begins ts l → list_any (taken_by l) ts ≡ true
  begins_any ts l b = any_from ts l b.with b.one b.good

  abbrev test : L → Symbols → Bool
  test l p = M.begins takes productions rank (p ∷ []) l

  -- a production that derives the lexeme and others is the first that begins with it
  pub forced_some : (ps : List Symbols) (i : ℕ) → firm rank ps ≡ true → all_apart (heads rank ps) ≡ true → (q rest : Symbols) (l : L) (ls : List L) → IsAt q i ps → IsSome q →
      Derives (q ++ rest) (l ∷ ls) → first_place (test l) ps ≡ Some i
  forced_some [] i f a q rest l ls h s d = absurd h
  forced_some (p ∷ ps) zero f a q rest l ls h s d =
      first_here (test l) p ps (begins_any (heads rank (p ∷ [])) l (Heads.begun_heads takes productions rank weight fits rank (p ∷ []) (firm_one rank p ps f) q rest l ls (inl h) s d))
  forced_some (p ∷ ps) (suc i) f a q rest l ls h s d =
      let others = Heads.begun_heads takes productions rank weight fits rank ps (firm_tail rank p ps f) q rest l ls (one_of_at q i ps h) s d in
      first_later (test l) p ps (false_of (test l p) (λ e. first_clash rank p ps l a (any_begins (heads rank (p ∷ [])) l e) others))
      ∙ ap one_more (forced_some ps i (firm_tail rank p ps f) (tail_apart rank p ps a) q rest l ls h s d)

  -- productions that do not begin with the lexeme
  pub none_begins : (ps : List Symbols) (l : L) → (Begins (heads rank ps) l → ⊥) → first_place (test l) ps ≡ None
  none_begins [] l f = refl
  none_begins (p ∷ ps) l f =
      let whole = sym (heads_split rank p ps) in
      first_later (test l) p ps (false_of (test l p) (λ e. f (subst (λ (ts : List T). Begins ts l) whole
      (Heads.to_left takes productions rank weight fits (heads rank (p ∷ [])) (heads rank ps) l (any_begins (heads rank (p ∷ [])) l e)))))
      ∙ ap one_more (none_begins ps l (λ b. f (subst (λ (ts : List T). Begins ts l) whole (Heads.to_right takes productions rank weight fits (heads rank (p ∷ [])) (heads rank ps) l b))))

  some_by : (b : Bool) (p : Symbols) (ps : List Symbols) (l : L) (i : ℕ) → test l p ≡ b →
      ((i : ℕ) → first_place (test l) ps ≡ Some i → Begins (heads rank ps) l) → first_place (test l) (p ∷ ps) ≡ Some i → Begins (heads rank (p ∷ ps)) l
  some_by true p ps l i e f h =
      subst (λ (ts : List T). Begins ts l) (sym (heads_split rank p ps)) (Heads.to_left takes productions rank weight fits (heads rank (p ∷ [])) (heads rank ps) l (any_begins (heads rank (p ∷ [])) l e))
  some_by false p ps l i e f h =
      subst (λ (ts : List T). Begins ts l) (sym (heads_split rank p ps)) (Heads.to_right takes productions rank weight fits (heads rank (p ∷ [])) (heads rank ps) l
      (one_less (first_place (test l) ps) refl (sym (first_later (test l) p ps e) ∙ h)))
    where
      one_less : (o : Option ℕ) → first_place (test l) ps ≡ o → one_more o ≡ Some i → Begins (heads rank ps) l
      one_less None x y = absurd cc
      one_less (Some j) x y = f j x

  pub some_begins : (ps : List Symbols) (l : L) (i : ℕ) → first_place (test l) ps ≡ Some i → Begins (heads rank ps) l
  some_begins [] l i h = absurd cc
  some_begins (p ∷ ps) l i h = some_by (test l p) p ps l i refl (some_begins ps l) h

-- The way down from a part to the token that takes a lexeme, level by level.
use Rattle.std.proofs.Common.{◌≡◌, refl, sym, ap, ◌∙◌, subst, ℕ, zero, suc, ◌+◌, arith, Bool, true, false, List, [], ◌∷◌, ◌++◌, Option, Some, None}
use Rattle.std.specs.Prelude.{if◌then◌else◌, ◌||◌, ◌&&◌, not}
use Rattle.std.specs.List.{list_any}
use Rattle.table_reader.specs.declared.symbol.Symbol.{Symbol}
use Rattle.table_reader.specs.declared.symbol.Symbol.TheVariants as S
use Rattle.table_reader.specs.declared.take.Take.{Take}
use Rattle.table_reader.specs.Steps.{has_empty, one_more}
use Rattle.table_reader.specs.Conditions as C
use Rattle.table_reader.specs.Conditions.{accepts}
use Rattle.table_reader.specs.Machine as M
use Rattle.table_reader.specs.Machine.{IsAt, Finds, first_place, through}
use Rattle.table_reader.proofs.Heads as Heads
use Rattle.table_reader.proofs.Heads.{left_of, right_of}
use Rattle.table_reader.proofs.Beginnings as B
use Rattle.table_reader.proofs.Beginnings.{append_nil, first_here, first_later, is_some}

or_assoc : (a b c : Bool) → a || (b || c) ≡ (a || b) || c
or_assoc true b c = refl
or_assoc false b c = refl

any_append : {A : Type 0} (test : A → Bool) (xs ys : List A) → list_any test (xs ++ ys) ≡ list_any test xs || list_any test ys
any_append test [] ys = refl
any_append test (x ∷ xs) ys = ap (λ (b : Bool). test x || b) (any_append test xs ys) ∙ or_assoc (test x) (list_any test xs) (list_any test ys)

some_or : (b : Bool) (o : Option ℕ) → b || is_some o ≡ is_some (if b then Some 0 else one_more o)
some_or true o = refl
some_or false None = refl
some_or false (Some k) = refl

pub through_none : (i : ℕ) (o other : Option (List ℕ)) → through i o other ≡ None → (o ≡ None) × (other ≡ None)
through_none i None other h = (refl, h)
through_none i (Some w) other h = absurd cc

token_none : (b : Bool) (w : List ℕ) → (if b then Some w else None) ≡ None → b || false ≡ false
token_none true w h = absurd cc
token_none false w h = refl

pub finds_nothing : (o : Option (List ℕ)) (old new : List ℕ) → Finds o false old new → o ≡ None
finds_nothing None old new h = refl
finds_nothing (Some w) old new h = absurd h

module _ {T N L : Type 0} (takes : T → L → Take L) (productions : N → List (List (Symbol T N))) (rank : ℕ) (weight : L → ℕ)
    (fits : C.Fits takes productions rank weight) where
  abbrev Symbols : Type 0
  Symbols = List (Symbol T N)

  abbrev wanted : ℕ → ℕ → List Symbols → L → Option (List ℕ)
  wanted d i ps l = M.way takes productions d i ps l

  abbrev heads : ℕ → List Symbols → List T
  heads d ps = C.heads productions d ps

  abbrev firm : ℕ → List Symbols → Bool
  firm d ps = C.firm productions d ps

  abbrev taken_by : L → T → Bool
  taken_by l t = accepts (takes t l)

  abbrev test : ℕ → L → Symbols → Bool
  test d l p = M.begins takes productions d (p ∷ []) l

  -- some production begins with the lexeme where one of the tokens takes it
  any_place : (d : ℕ) (ps : List Symbols) (l : L) → list_any (taken_by l) (heads d ps) ≡ is_some (first_place (test d l) ps)
  any_place d [] l = refl
  any_place d (p ∷ ps) l =
      ap (λ (ts : List T). list_any (taken_by l) ts) (B.heads_split takes productions rank weight fits d p ps)
      ∙ (any_append (taken_by l) (heads d (p ∷ [])) (heads d ps)
      ∙ (ap (λ (b : Bool). test d l p || b) (any_place d ps l)
      ∙ some_or (test d l p) (first_place (test d l) ps)))

  part_test : (d : ℕ) (n : N) (p : Symbols) (l : L) → test (suc d) l (S.Part n ∷ p) ≡ is_some (first_place (test d l) (productions n))
  part_test d n p l = ap (λ (ts : List T). list_any (taken_by l) ts) (append_nil (heads d (productions n))) ∙ any_place d (productions n) l

  -- where there is no way, no production begins with the lexeme
  pub no_place : (d i : ℕ) (ps : List Symbols) (l : L) → wanted d i ps l ≡ None → first_place (test d l) ps ≡ None
  no_place d i [] l h = refl
  no_place d i ([] ∷ ps) l h = ap one_more (no_place d (suc i) ps l h)
  no_place d i ((S.Token t ∷ p) ∷ ps) l h =
      let both = through_none i (if accepts (takes t l) then Some [] else None) (wanted d (suc i) ps l) h in
      first_later (test d l) (S.Token t ∷ p) ps (token_none (accepts (takes t l)) [] both.0) ∙ ap one_more (no_place d (suc i) ps l both.1)
  no_place zero i ((S.Part n ∷ p) ∷ ps) l h = ap one_more (no_place zero (suc i) ps l h)
  no_place (suc d) i ((S.Part n ∷ p) ∷ ps) l h =
      let both = through_none i (wanted d 0 (productions n) l) (wanted (suc d) (suc i) ps l) h in
      first_later (test (suc d) l) (S.Part n ∷ p) ps (part_test d n p l ∙ ap is_some (no_place d 0 (productions n) l both.0)) ∙ ap one_more (no_place (suc d) (suc i) ps l both.1)

  -- the first place of a way is that of the first production that begins with the lexeme
  record Found (d i : ℕ) (ps : List Symbols) (l : L) (ways : List ℕ) : Type 0 where
    pub place : ℕ
    pub others : List ℕ
    pub is : ways ≡ (i + place) ∷ others
    pub first : first_place (test d l) ps ≡ Some place
    pub item : Symbols
    pub at : IsAt item place ps
    pub on : M.way_by takes productions d item l ≡ Some others

  found_here : (d i : ℕ) (p : Symbols) (ps : List Symbols) (l : L) (others ways : List ℕ) → test d l p ≡ true → M.way_by takes productions d p l ≡ Some others → i ∷ others ≡ ways → Found d i (p ∷ ps) l ways
  found_here d i p ps l others ways e on h =
      let here : i ≡ i + 0 = omega arith in
      record {
        place = 0;
        others = others;
        is = sym h ∙ ap (λ (k : ℕ). k ∷ others) here;
        first = first_here (test d l) p ps e;
        item = p;
        at = refl;
        on = on;
      }

  found_later : (d i : ℕ) (p : Symbols) (ps : List Symbols) (l : L) (ways : List ℕ) → test d l p ≡ false → Found d (suc i) ps l ways → Found d i (p ∷ ps) l ways
  found_later d i p ps l ways e f =
      let more : suc i + f.place ≡ i + suc f.place = omega arith in
      record {
        place = suc f.place;
        others = f.others;
        is = f.is ∙ ap (λ (k : ℕ). k ∷ f.others) more;
        first = first_later (test d l) p ps e ∙ ap one_more f.first;
        item = f.item;
        at = f.at;
        on = f.on;
      }

  by_token : (d i : ℕ) (t : T) (p : Symbols) (ps : List Symbols) (l : L) (ways : List ℕ) (b : Bool) → taken_by l t ≡ b → (wanted d (suc i) ps l ≡ Some ways → Found d (suc i) ps l ways) →
      through i (if b then Some [] else None) (wanted d (suc i) ps l) ≡ Some ways → Found d i ((S.Token t ∷ p) ∷ ps) l ways
  by_token d i t p ps l ways true e f h =
      let is : i ∷ [] ≡ ways = cc in
      found_here d i (S.Token t ∷ p) ps l [] ways (ap (λ (b : Bool). b || false) e) (ap (λ (b : Bool). if b then Some [] else None) e) is
  by_token d i t p ps l ways false e f h = found_later d i (S.Token t ∷ p) ps l ways (ap (λ (b : Bool). b || false) e) (f h)

  by_part : (d i : ℕ) (n : N) (p : Symbols) (ps : List Symbols) (l : L) (ways : List ℕ) (o : Option (List ℕ)) → wanted d 0 (productions n) l ≡ o →
      ((w : List ℕ) → wanted d 0 (productions n) l ≡ Some w → Found d 0 (productions n) l w) → (wanted (suc d) (suc i) ps l ≡ Some ways → Found (suc d) (suc i) ps l ways) →
      through i o (wanted (suc d) (suc i) ps l) ≡ Some ways → Found (suc d) i ((S.Part n ∷ p) ∷ ps) l ways
  by_part d i n p ps l ways None e f g h =
      found_later (suc d) i (S.Part n ∷ p) ps l ways (part_test d n p l ∙ ap is_some (no_place d 0 (productions n) l e)) (g h)
  by_part d i n p ps l ways (Some w) e f g h =
      let is : i ∷ w ≡ ways = cc in
      found_here (suc d) i (S.Part n ∷ p) ps l w ways (part_test d n p l ∙ ap is_some (f w e).first) e is

  found : (d i : ℕ) (ps : List Symbols) (l : L) (ways : List ℕ) → wanted d i ps l ≡ Some ways → Found d i ps l ways
  found d i [] l ways h = absurd cc
  found d i ([] ∷ ps) l ways h = found_later d i [] ps l ways refl (found d (suc i) ps l ways h)
  found d i ((S.Token t ∷ p) ∷ ps) l ways h = by_token d i t p ps l ways (taken_by l t) refl (λ g. found d (suc i) ps l ways g) h
  found zero i ((S.Part n ∷ p) ∷ ps) l ways h = found_later zero i (S.Part n ∷ p) ps l ways refl (found zero (suc i) ps l ways h)
  found (suc d) i ((S.Part n ∷ p) ∷ ps) l ways h =
      by_part d i n p ps l ways (wanted d 0 (productions n) l) refl (λ w g. found d 0 (productions n) l w g) (λ g. found (suc d) (suc i) ps l ways g) h

  -- wherever leading parts are firm, these are all tokens that productions begin with
  heads_same : (d e : ℕ) (ps : List Symbols) → firm d ps ≡ true → firm e ps ≡ true → heads d ps ≡ heads e ps
  heads_same d e [] f g = refl
  heads_same d e ([] ∷ ps) f g = heads_same d e ps f g
  heads_same d e ((S.Token t ∷ p) ∷ ps) f g = ap (λ (ts : List T). t ∷ ts) (heads_same d e ps f g)
  heads_same zero e ((S.Part n ∷ p) ∷ ps) f g = absurd cc
  heads_same (suc d) zero ((S.Part n ∷ p) ∷ ps) f g = absurd cc
  heads_same (suc d) (suc e) ((S.Part n ∷ p) ∷ ps) f g =
      ap (λ (ts : List T). ts ++ heads (suc d) ps) (heads_same d e (productions n)
      (right_of (not (has_empty (productions n))) _ (left_of (not (has_empty (productions n)) && firm d (productions n)) _ f))
      (right_of (not (has_empty (productions n))) _ (left_of (not (has_empty (productions n)) && firm e (productions n)) _ g)))
      ∙ ap (λ (ts : List T). heads e (productions n) ++ ts) (heads_same (suc d) (suc e) ps
      (right_of (not (has_empty (productions n)) && firm d (productions n)) _ f) (right_of (not (has_empty (productions n)) && firm e (productions n)) _ g))

  place_same : (d e : ℕ) (ps : List Symbols) (l : L) → firm d ps ≡ true → firm e ps ≡ true → first_place (test d l) ps ≡ first_place (test e l) ps
  place_same d e [] l f g = refl
  place_same d e (p ∷ ps) l f g =
      let same : test d l p ≡ test e l p = ap (λ (ts : List T). list_any (taken_by l) ts) (heads_same d e (p ∷ [])
      (B.firm_one takes productions rank weight fits d p ps f) (B.firm_one takes productions rank weight fits e p ps g)) in
      ap (λ (b : Bool). if b then Some 0 else one_more (first_place (test d l) ps)) same
      ∙ ap (λ (o : Option ℕ). if test e l p then Some 0 else one_more o) (place_same d e ps l
      (B.firm_tail takes productions rank weight fits d p ps f) (B.firm_tail takes productions rank weight fits e p ps g))

  -- the production in this place begins with the lexeme, and this is the way after it
  pub record Step (d : ℕ) (n : N) (l : L) (place : ℕ) (ways : List ℕ) : Type 0 where
    pub first : Symbol T N
    pub rest : Symbols
    pub at : IsAt (first ∷ rest) place (productions n)
    pub begins : M.begun takes productions rank n l ≡ Some place
    pub on : M.way_by takes productions d (first ∷ rest) l ≡ Some ways

  step_by : (d : ℕ) (n : N) (l : L) (place : ℕ) (ways : List ℕ) (p : Symbols) → IsAt p place (productions n) → M.begun takes productions rank n l ≡ Some place →
      M.way_by takes productions d p l ≡ Some ways → Step d n l place ways
  step_by d n l place ways [] at b on = absurd cc
  step_by d n l place ways (s ∷ q) at b on = record { first = s; rest = q; at = at; begins = b; on = on }

  pub step : (d : ℕ) (n : N) (l : L) (place : ℕ) (ways : List ℕ) → firm d (productions n) ≡ true → wanted d 0 (productions n) l ≡ Some (place ∷ ways) → Step d n l place ways
  step d n l place ways f h =
      let s = found d 0 (productions n) l (place ∷ ways) h in
      let is = s.is in
      let sum : place ≡ 0 + s.place = cc in
      let here : s.place ≡ place = omega arith in
      let left : s.others ≡ ways = cc in
      step_by d n l place ways s.item (subst (λ (k : ℕ). IsAt s.item k (productions n)) here s.at)
      (sym (place_same d rank (productions n) l f (Heads.firm_part takes productions rank weight fits n)) ∙ (s.first ∙ ap Some here))
      (s.on ∙ ap Some left)

  pub no_way : (d : ℕ) (n : N) (l : L) → wanted d 0 (productions n) l ≡ Some [] → ⊥
  no_way d n l h =
      let s = found d 0 (productions n) l [] h in
      let is = s.is in
      cc

  pub on_part : (d less : ℕ) (k : N) (q : Symbols) (l : L) (ways : List ℕ) → d ≡ suc less → M.way_by takes productions d (S.Part k ∷ q) l ≡ Some ways → wanted less 0 (productions k) l ≡ Some ways
  on_part d less k q l ways e h = subst (λ (m : ℕ). M.way_by takes productions m (S.Part k ∷ q) l ≡ Some ways) e h

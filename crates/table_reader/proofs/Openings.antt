-- What is chosen is what opening production by production along the way down gives.
use Rattle.std.proofs.Common.{◌≡◌, refl, sym, ap, ◌∙◌, subst, ℕ, zero, suc, ◌+◌, arith, Bool, true, false, List, [], ◌∷◌, ◌++◌, append_assoc, Option, Some, None}
use Rattle.std.specs.Prelude.{if◌then◌else◌}
use Rattle.table_reader.specs.declared.symbol.Symbol.{Symbol}
use Rattle.table_reader.specs.declared.symbol.Symbol.TheVariants as S
use Rattle.table_reader.specs.declared.take.Take.{Take}
use Rattle.table_reader.specs.declared.take.Take.TheVariants as K
use Rattle.table_reader.specs.Conditions.{accepts}
use Rattle.table_reader.specs.Steps.{Turn, refused, taken, left, turned, before, either}
use Rattle.table_reader.specs.Steps as Steps
use Rattle.table_reader.specs.Machine as M
use Rattle.table_reader.specs.Machine.{IsAt, HasFirst, Finds, through}
use Rattle.table_reader.proofs.Ways.{through_none, finds_nothing}

-- a turn that is not refused
abbrev Goes : {T N L : Type 0} → Turn T N L → Type 0
Goes refused = ⊥
Goes (taken p) = Unit {0}
Goes (left p r) = Unit {0}

-- by a token
not_taken : {T N L : Type 0} (k : Take L) (p : List (Symbol T N)) (other : Turn T N L) → accepts k ≡ false → either (turned k p) other ≡ other
not_taken K.No p other h = refl
not_taken K.Whole p other h = absurd cc
not_taken (K.Front piece r) p other h = absurd cc

is_taken : {T N L : Type 0} (k : Take L) (p : List (Symbol T N)) (x : Turn T N L) (r : List (Symbol T N)) (other : Turn T N L) → accepts k ≡ true →
    before r (either (turned k p) x) other ≡ turned k (p ++ r)
is_taken K.No p x r other h = absurd cc
is_taken K.Whole p x r other h = refl
is_taken (K.Front piece q) p x r other h = refl

taken_goes : {T N L : Type 0} (k : Take L) (p : List (Symbol T N)) (x : Turn T N L) → accepts k ≡ true → Goes (either (turned k p) x)
taken_goes K.No p x h = absurd cc
taken_goes K.Whole p x h = tt
taken_goes (K.Front piece q) p x h = tt

none_false : (b : Bool) (w : List ℕ) → (if b then Some w else None) ≡ None → b ≡ false
none_false true w h = absurd cc
none_false false w h = refl

-- by a part
leads : {T N L : Type 0} (c : Turn T N L) (p : List (Symbol T N)) (x : Turn T N L) (r : List (Symbol T N)) (other : Turn T N L) → Goes c →
    before r (before p c x) other ≡ before (p ++ r) c other
leads refused p x r other g = absurd g
leads (taken q) p x r other g = ap taken (append_assoc q p r)
leads {T} {N} {L} (left q y) p x r other g = ap (λ (s : List (Symbol T N)). left s y) (append_assoc q p r)

lead_goes : {T N L : Type 0} (c : Turn T N L) (p : List (Symbol T N)) (x : Turn T N L) → Goes c → Goes (before p c x)
lead_goes refused p x g = absurd g
lead_goes (taken q) p x g = tt
lead_goes (left q y) p x g = tt

-- a way that comes before another
nothing_left : {A : Type 0} (xs ys : List A) → xs ++ ys ≡ [] → xs ≡ []
nothing_left [] ys h = refl
nothing_left (x ∷ xs) ys h = absurd cc

pub record Found (o : Option (List ℕ)) (below ways : List ℕ) : Type 0 where
  pub way : List ℕ
  pub is : o ≡ Some way
  pub are : ways ≡ way ++ below

pub finds_way : (o : Option (List ℕ)) (below ways : List ℕ) → Finds o true below ways → Found o below ways
finds_way None below ways h = absurd h
finds_way (Some w) below ways h = record { way = w; is = refl; are = h }

module _ {T N L : Type 0} (takes : T → L → Take L) (productions : N → List (List (Symbol T N))) (rank : ℕ) (weight : L → ℕ) where
  abbrev Symbols : Type 0
  Symbols = List (Symbol T N)

  abbrev chosen : ℕ → List Symbols → L → Turn T N L
  chosen d ps l = Steps.chosen takes productions rank weight d ps l

  abbrev way : ℕ → ℕ → List Symbols → L → Option (List ℕ)
  way d i ps l = M.way takes productions d i ps l

  -- where there is no way, no production goes on
  no_choice : (d i : ℕ) (ps : List Symbols) (l : L) → way d i ps l ≡ None → chosen d ps l ≡ refused
  no_choice d i [] l h = refl
  no_choice d i ([] ∷ ps) l h = no_choice d (suc i) ps l h
  no_choice d i ((S.Token t ∷ p) ∷ ps) l h =
      let both = through_none i (if accepts (takes t l) then Some [] else None) (way d (suc i) ps l) h in
      not_taken (takes t l) p (chosen d ps l) (none_false (accepts (takes t l)) [] both.0) ∙ no_choice d (suc i) ps l both.1
  no_choice zero i ((S.Part n ∷ p) ∷ ps) l h = no_choice zero (suc i) ps l h
  no_choice (suc d) i ((S.Part n ∷ p) ∷ ps) l h =
      let both = through_none i (way d 0 (productions n) l) (way (suc d) (suc i) ps l) h in
      ap (λ (c : Turn T N L). before p c (chosen (suc d) ps l)) (no_choice d 0 (productions n) l both.0) ∙ no_choice (suc d) (suc i) ps l both.1

  -- a turn, before whatever comes after it, is that of the productions of a part before these symbols, and this is the way
  record Through (n : N) (q : Symbols) (l : L) (ways : List ℕ) (c : Turn T N L) : Type 0 where
    pub depth : ℕ
    pub on : way depth 0 (productions n) l ≡ Some ways
    pub same : (r : Symbols) (other : Turn T N L) → before r c other ≡ before (q ++ r) (chosen depth (productions n) l) other

  -- a turn is that by a production of these symbols
  abbrev GoesBy : Symbol T N → Symbols → L → List ℕ → Turn T N L → Type 0
  GoesBy (S.Token t) q l ways c = (r : Symbols) (other : Turn T N L) → before r c other ≡ turned (takes t l) (q ++ r)
  GoesBy (S.Part n) q l ways c = Through n q l ways c

  -- the first place of a way is that of the production which is chosen
  record Opens (d i : ℕ) (ps : List Symbols) (l : L) (ways : List ℕ) : Type 0 where
    pub place : ℕ
    pub others : List ℕ
    pub is : ways ≡ (i + place) ∷ others
    pub first : Symbol T N
    pub rest : Symbols
    pub at : IsAt (first ∷ rest) place ps
    pub by : GoesBy first rest l others (chosen d ps l)
    pub goes : Goes (chosen d ps l)

  opens_here : (d i : ℕ) (s : Symbol T N) (q : Symbols) (ps : List Symbols) (l : L) (others ways : List ℕ) → i ∷ others ≡ ways →
      GoesBy s q l others (chosen d ((s ∷ q) ∷ ps) l) → Goes (chosen d ((s ∷ q) ∷ ps) l) → Opens d i ((s ∷ q) ∷ ps) l ways
  opens_here d i s q ps l others ways h by goes =
      let here : i ≡ i + 0 = omega arith in
      record {
        place = 0;
        others = others;
        is = sym h ∙ ap (λ (k : ℕ). k ∷ others) here;
        first = s;
        rest = q;
        at = refl;
        by = by;
        goes = goes;
      }

  opens_later : (d i : ℕ) (p : Symbols) (ps : List Symbols) (l : L) (ways : List ℕ) → chosen d (p ∷ ps) l ≡ chosen d ps l → Opens d (suc i) ps l ways → Opens d i (p ∷ ps) l ways
  opens_later d i p ps l ways e o =
      let more : suc i + o.place ≡ i + suc o.place = omega arith in
      record {
        place = suc o.place;
        others = o.others;
        is = o.is ∙ ap (λ (k : ℕ). k ∷ o.others) more;
        first = o.first;
        rest = o.rest;
        at = o.at;
        by = subst (λ (c : Turn T N L). GoesBy o.first o.rest l o.others c) (sym e) o.by;
        goes = subst (λ (c : Turn T N L). Goes c) (sym e) o.goes;
      }

  by_token : (d i : ℕ) (t : T) (p : Symbols) (ps : List Symbols) (l : L) (ways : List ℕ) (b : Bool) → accepts (takes t l) ≡ b → (way d (suc i) ps l ≡ Some ways → Opens d (suc i) ps l ways) →
      through i (if b then Some [] else None) (way d (suc i) ps l) ≡ Some ways → Opens d i ((S.Token t ∷ p) ∷ ps) l ways
  by_token d i t p ps l ways true e f h =
      let is : i ∷ [] ≡ ways = cc in
      opens_here d i (S.Token t) p ps l [] ways is (λ r other. is_taken (takes t l) p (chosen d ps l) r other e) (taken_goes (takes t l) p (chosen d ps l) e)
  by_token d i t p ps l ways false e f h = opens_later d i (S.Token t ∷ p) ps l ways (not_taken (takes t l) p (chosen d ps l) e) (f h)

  by_part : (d i : ℕ) (n : N) (p : Symbols) (ps : List Symbols) (l : L) (ways : List ℕ) (o : Option (List ℕ)) → way d 0 (productions n) l ≡ o →
      ((w : List ℕ) → way d 0 (productions n) l ≡ Some w → Opens d 0 (productions n) l w) → (way (suc d) (suc i) ps l ≡ Some ways → Opens (suc d) (suc i) ps l ways) →
      through i o (way (suc d) (suc i) ps l) ≡ Some ways → Opens (suc d) i ((S.Part n ∷ p) ∷ ps) l ways
  by_part d i n p ps l ways None e f g h =
      opens_later (suc d) i (S.Part n ∷ p) ps l ways (ap (λ (c : Turn T N L). before p c (chosen (suc d) ps l)) (no_choice d 0 (productions n) l e)) (g h)
  by_part d i n p ps l ways (Some w) e f g h =
      let is : i ∷ w ≡ ways = cc in
      opens_here (suc d) i (S.Part n) p ps l w ways is
      (record { depth = d; on = e; same = λ r other. leads (chosen d (productions n) l) p (chosen (suc d) ps l) r other (f w e).goes })
      (lead_goes (chosen d (productions n) l) p (chosen (suc d) ps l) (f w e).goes)

  opens : (d i : ℕ) (ps : List Symbols) (l : L) (ways : List ℕ) → way d i ps l ≡ Some ways → Opens d i ps l ways
  opens d i [] l ways h = absurd cc
  opens d i ([] ∷ ps) l ways h = opens_later d i [] ps l ways refl (opens d (suc i) ps l ways h)
  opens d i ((S.Token t ∷ p) ∷ ps) l ways h = by_token d i t p ps l ways (accepts (takes t l)) refl (λ g. opens d (suc i) ps l ways g) h
  opens zero i ((S.Part n ∷ p) ∷ ps) l ways h = opens_later zero i (S.Part n ∷ p) ps l ways refl (opens zero (suc i) ps l ways h)
  opens (suc d) i ((S.Part n ∷ p) ∷ ps) l ways h =
      by_part d i n p ps l ways (way d 0 (productions n) l) refl (λ w g. opens d 0 (productions n) l w g) (λ g. opens (suc d) (suc i) ps l ways g) h

  -- a part is opened, and what was to be chosen from here is chosen of it; this is left of the way down
  pub record Opened (c : Turn T N L) (from : Symbols) (l : L) (n : N) (to : Symbols) (below ways : List ℕ) : Type 0 where
    pub depth : ℕ
    pub down : List ℕ
    pub on : way depth 0 (productions n) l ≡ Some down
    pub are : ways ≡ down ++ below
    pub same : (other : Turn T N L) → before from c other ≡ before to (chosen depth (productions n) l) other

  pub opens_first : (d : ℕ) (n : N) (l : L) (from : Symbols) (below ways : List ℕ) → d ≡ rank → Finds (M.way takes productions d 0 (productions n) l) true below ways →
      Opened (chosen rank (productions n) l) from l n from below ways
  opens_first d n l from below ways e h =
      let found = finds_way (way d 0 (productions n) l) below ways h in
      record {
        depth = d;
        down = found.way;
        on = found.is;
        are = found.are;
        same = λ other. ap (λ (k : ℕ). before from (chosen k (productions n) l) other) (sym e);
      }

  pub opens_none : (d : ℕ) (n : N) (l : L) (below ways : List ℕ) → d ≡ rank → Finds (M.way takes productions d 0 (productions n) l) false below ways →
      Steps.chosen takes productions rank weight rank (productions n) l ≡ refused
  opens_none d n l below ways e h =
      subst (λ (k : ℕ). chosen k (productions n) l ≡ refused) e (no_choice d 0 (productions n) l (finds_nothing (way d 0 (productions n) l) below ways h))

  module _ (c : Turn T N L) (from : Symbols) (l : L) (n : N) (to : Symbols) (below old : List ℕ) (e : Opened c from l n to below old) where
    next : Opens e.depth 0 (productions n) l e.down
    next = opens e.depth 0 (productions n) l e.down e.on

    pub down_goes_on : old ≡ [] → ⊥
    down_goes_on h =
        let none : e.down ≡ [] = nothing_left e.down below (sym e.are ∙ h) in
        let some = next.is in
        cc

    module _ (place : ℕ) (ways : List ℕ) (is : old ≡ place ∷ ways) where
      joined : place ∷ ways ≡ (0 + next.place) ∷ (next.others ++ below)
      joined = sym is ∙ (e.are ∙ ap (λ (w : List ℕ). w ++ below) next.is)

      here : next.place ≡ place
      here =
          let all = joined in
          let sum : place ≡ 0 + next.place = cc in
          omega arith

      others_left : ways ≡ next.others ++ below
      others_left = let all = joined in cc

      at_place : IsAt (next.first ∷ next.rest) place (productions n)
      at_place = subst (λ (k : ℕ). IsAt (next.first ∷ next.rest) k (productions n)) here next.at

      pub opening : HasFirst productions n place
      opening = record { first = next.first; rest = next.rest; at = at_place }

      module _ (it : Symbol T N) (new : Symbols)
          (opened : (first : Symbol T N) (rest : Symbols) → IsAt (first ∷ rest) place (productions n) → (it ≡ first) × (new ≡ rest ++ to)) where
        pub opens_token : (t : T) → it ≡ S.Token t → (other : Turn T N L) → before from c other ≡ turned (takes t l) new
        opens_token t is_token other =
            let o = opened next.first next.rest at_place in
            let by = subst (λ (s : Symbol T N). GoesBy s next.rest l next.others (chosen e.depth (productions n) l)) (sym o.0 ∙ is_token) next.by in
            e.same other ∙ (by to other ∙ ap (λ (s : Symbols). turned (takes t l) s) (sym o.1))

        pub opens_part : (k : N) → it ≡ S.Part k → Opened c from l k new below ways
        opens_part k is_part =
            let o = opened next.first next.rest at_place in
            let by : Through k next.rest l next.others (chosen e.depth (productions n) l) =
            subst (λ (s : Symbol T N). GoesBy s next.rest l next.others (chosen e.depth (productions n) l)) (sym o.0 ∙ is_part) next.by in
            record {
              depth = by.depth;
              down = next.others;
              on = by.on;
              are = others_left;
              same = λ other. e.same other ∙ (by.same to other ∙ ap (λ (s : Symbols). before s (chosen by.depth (productions k) l) other) (sym o.1));
            }

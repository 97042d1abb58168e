-- How a part that begins with a lexeme is opened, down to the token that takes the lexeme.
use Rattle.std.proofs.Common.{◌≡◌, refl, sym, ap, ◌∙◌, subst, ℕ, zero, suc, true, false, List, [], ◌∷◌, ◌++◌, map, Some, None}
use Rattle.std.specs.Prelude.{not, ◌&&◌, if◌then◌else◌}
use Rattle.table_reader.specs.declared.coming.Coming.{Coming}
use Rattle.table_reader.specs.declared.coming.Coming.TheVariants as C
use Rattle.table_reader.specs.declared.item.Item.{Item}
use Rattle.table_reader.specs.declared.symbol.Symbol.{Symbol}
use Rattle.table_reader.specs.declared.symbol.Symbol.TheVariants as S
use Rattle.table_reader.specs.declared.take.Take.{Take}
use Rattle.table_reader.specs.Conditions.{Fits, firm}
use Rattle.table_reader.specs.Steps as Steps
use Rattle.table_reader.specs.Steps.{has_empty, Turn, refused}
use Rattle.table_reader.specs.Reading.{Made, plain}
use Rattle.table_reader.specs.Machine as M
use Rattle.table_reader.specs.Machine.{IsAt, IsReached, HasFirst, Finds, coming, symbols, begun}
use Rattle.table_reader.proofs.Heads.{left_of, right_of, firm_part}
use Rattle.table_reader.proofs.Beginnings.{one_of_at}
use Rattle.table_reader.proofs.Ways as Ways
use Rattle.table_reader.proofs.Ways.{finds_nothing}
use Rattle.table_reader.proofs.Openings as Openings
use Rattle.table_reader.proofs.Openings.{Opened, finds_way}
use Rattle.table_reader.proofs.Ready as Ready
use Rattle.table_reader.proofs.Leading as Leading
use Rattle.table_reader.proofs.Leading.{symbols_coming}

-- a leading part has less rank
record Lead {T N : Type 0} (productions : N → List (List (Symbol T N))) (d : ℕ) (k : N) : Type 0 where
  pub less : ℕ
  pub more : d ≡ suc less
  pub firm_too : firm productions less (productions k) ≡ true

firm_lead : {T N : Type 0} (productions : N → List (List (Symbol T N))) (d : ℕ) (k : N) (q : List (Symbol T N)) (i : ℕ) (ps : List (List (Symbol T N))) →
    firm productions d ps ≡ true → IsAt (S.Part k ∷ q) i ps → Lead productions d k
firm_lead productions d k q i [] f h = absurd h
firm_lead productions d k q zero ([] ∷ ps) f h = absurd cc
firm_lead productions d k q (suc i) ([] ∷ ps) f h = firm_lead productions d k q i ps f h
firm_lead productions d k q zero ((S.Token t ∷ p) ∷ ps) f h = absurd cc
firm_lead productions d k q (suc i) ((S.Token t ∷ p) ∷ ps) f h = firm_lead productions d k q i ps f h
firm_lead productions zero k q i ((S.Part n ∷ p) ∷ ps) f h = absurd cc
firm_lead productions (suc d) k q zero ((S.Part n ∷ p) ∷ ps) f h =
    let same : n ≡ k = cc in
    let both = left_of (not (has_empty (productions n)) && firm productions d (productions n)) _ f in
    subst (λ (j : _). Lead productions (suc d) j) same
    (record {
      less = d;
      more = refl;
      firm_too = right_of (not (has_empty (productions n))) _ both;
    })
firm_lead productions (suc d) k q (suc i) ((S.Part n ∷ p) ∷ ps) f h =
    firm_lead productions (suc d) k q i ps (right_of (not (has_empty (productions n)) && firm productions d (productions n)) _ f) h

-- a way down begins with the first of all that stands there
record Split (down below : List ℕ) (place : ℕ) (ways : List ℕ) : Type 0 where
  pub others : List ℕ
  pub is : down ≡ place ∷ others
  pub are : ways ≡ others ++ below

split_down : (down below : List ℕ) (place : ℕ) (ways : List ℕ) → (down ≡ [] → ⊥) → down ++ below ≡ place ∷ ways → Split down below place ways
split_down [] below place ways f h = absurd (f refl)
split_down (k ∷ down) below place ways f h =
    let here : k ≡ place = cc in
    let others : ways ≡ down ++ below = cc in
    record { others = down; is = ap (λ (j : ℕ). j ∷ down) here; are = others }

module _ {T N L V : Type 0} (takes : T → L → Take L) (carrier : N → Type 0) (made : (n : N) → List (Made T N L carrier n)) (held : (n : N) → carrier n → V)
    (productions : N → List (List (Symbol T N))) (same : (n : N) → plain carrier n (made n) ≡ productions n) (rank : ℕ) (weight : L → ℕ) (fits : Fits takes productions rank weight) where
  abbrev Values : Type 0
  Values = List (Item L V)

  abbrev Leads : List (Coming T N) → Values → List L → Values → Type 0
  Leads s values ls last = M.Leads takes carrier made held s values ls last

  abbrev IsReady : List (Coming T N) → Values → Type 0
  IsReady s values = M.IsReady carrier made held s values

  abbrev Moves : List (Coming T N) → Values → L → List (Coming T N) → Values → List L → Type 0
  Moves from values l to new left = M.Moves takes carrier made held productions rank weight from values l to new left

  abbrev chosen : N → L → Turn T N L
  chosen n l = Steps.chosen takes productions rank weight rank (productions n) l

  abbrev Follows : List (Coming T N) → Values → L → List (Coming T N) → Values → List L → Type 0
  Follows from values l to new left = M.Follows takes carrier made held productions from values l to new left

  -- one state after another
  then_follows : (a b c : List (Coming T N)) (va vb vc : Values) (l : L) (left : List L) → Follows a va l b vb (l ∷ []) → Follows b vb l c vc left → Follows a va l c vc left
  then_follows a b c va vb vc l left f g = record { reached = g.reached; leads = λ ls last h. g.leads ls last (f.leads ls last h); ready = λ h. g.ready (f.ready h) }

  module _ (n : N) (i : ℕ) (l : L) (b : begun takes productions rank n l ≡ Some i) (rest new : List (Coming T N)) (s : Symbol T N) (q : List (Symbol T N)) (at : IsAt (s ∷ q) i (productions n))
      (reached : IsReached productions (S.Part n ∷ symbols rest)) (is : new ≡ map coming q ++ C.Over n i ∷ rest) where
    reached_to : IsReached productions (s ∷ symbols new)
    reached_to =
        let there : IsReached productions ((s ∷ q) ++ symbols rest) = M.part (s ∷ q) (one_of_at (s ∷ q) i (productions n) at) reached in
        let these : q ++ symbols rest ≡ symbols new = sym (ap symbols is ∙ symbols_coming q (C.Over n i ∷ rest)) in
        subst (λ (r : List (Symbol T N)). IsReached productions (s ∷ r)) these there

    leads_to : (values : Values) (ls : List L) (last : Values) → Leads (C.Part n ∷ rest) values (l ∷ ls) last → Leads (coming s ∷ new) values (l ∷ ls) last
    leads_to values ls last h =
        subst (λ (r : List (Coming T N)). Leads (coming s ∷ r) values (l ∷ ls) last) (sym is)
        (Leading.part_opens takes carrier made held productions same rank weight fits n rest values last l ls
        (Leading.reached_sits takes carrier made held productions same rank weight fits reached) i b (s ∷ q) at h)

    ready_to : (values : Values) → IsReady (C.Part n ∷ rest) values → IsReady (coming s ∷ new) values
    ready_to values h =
        subst (λ (r : List (Coming T N)). IsReady (coming s ∷ r) values) (sym is) (Ready.opens takes carrier made held productions same n (s ∷ q) i rest values at h)

    opens_token : (t : T) → s ≡ S.Token t → (values : Values) → Follows (C.Part n ∷ rest) values l (C.Token t ∷ new) values (l ∷ [])
    opens_token t e values = record {
      reached = subst (λ (r : Symbol T N). IsReached productions (r ∷ symbols new)) e reached_to;
      ready = λ h. subst (λ (r : Symbol T N). IsReady (coming r ∷ new) values) e (ready_to values h);
      leads = λ ls last h. subst (λ (r : Symbol T N). Leads (coming r ∷ new) values (l ∷ ls) last) e (leads_to values ls last h);
    }

    opens_part : (k : N) → s ≡ S.Part k → (values : Values) → Follows (C.Part n ∷ rest) values l (C.Part k ∷ new) values (l ∷ [])
    opens_part k e values = record {
      reached = subst (λ (r : Symbol T N). IsReached productions (r ∷ symbols new)) e reached_to;
      ready = λ h. subst (λ (r : Symbol T N). IsReady (coming r ∷ new) values) e (ready_to values h);
      leads = λ ls last h. subst (λ (r : Symbol T N). Leads (coming r ∷ new) values (l ∷ ls) last) e (leads_to values ls last h);
    }

  -- a lexeme and others that led from here lead from a part that it begins, and this is the way down
  pub record Entered (from : List (Coming T N)) (l : L) (n : N) (to : List (Coming T N)) (below ways : List ℕ) : Type 0 where
    pub depth : ℕ
    pub firm_here : firm productions depth (productions n) ≡ true
    pub down : List ℕ
    pub way : M.way takes productions depth 0 (productions n) l ≡ Some down
    pub are : ways ≡ down ++ below
    pub follows : (values : Values) → Follows from values l (C.Part n ∷ to) values (l ∷ [])

  -- and the symbols that are to come are those of the turn
  pub record Down (first : N) (from : List (Coming T N)) (l : L) (n : N) (to : List (Coming T N)) (below ways : List ℕ) : Type 0 where
    pub enters : Entered (C.Part first ∷ from) l n to below ways
    pub opens : Opened takes productions rank weight (chosen first l) (symbols from) l n (symbols to) below ways

  pub begin_down : (n : N) (rest : List (Coming T N)) (l : L) (d : ℕ) (below ways : List ℕ) → d ≡ rank → IsReached productions (S.Part n ∷ symbols rest) →
      Finds (M.way takes productions d 0 (productions n) l) true below ways → Down n rest l n rest below ways
  begin_down n rest l d below ways e r f =
      let found = finds_way (M.way takes productions d 0 (productions n) l) below ways f in
      record {
        enters = record {
          depth = d;
          firm_here = subst (λ (k : ℕ). firm productions k (productions n) ≡ true) (sym e) (firm_part takes productions rank weight fits n);
          down = found.way;
          way = found.is;
          are = found.are;
          follows = λ values. record { reached = r; ready = λ h. h; leads = λ ls last h. h };
        };
        opens = Openings.opens_first takes productions rank weight d n l (symbols rest) below ways e f;
      }

  pub enters_none : (n : N) (l : L) (d : ℕ) (old new : List ℕ) → d ≡ rank → Finds (M.way takes productions d 0 (productions n) l) false old new →
      (begun takes productions rank n l ≡ None) × (chosen n l ≡ refused)
  enters_none n l d old new e f = (
    subst (λ (k : ℕ). begun takes productions k n l ≡ None) e
        (Ways.no_place takes productions rank weight fits d 0 (productions n) l (finds_nothing (M.way takes productions d 0 (productions n) l) old new f)),
    Openings.opens_none takes productions rank weight d n l old new e f,
  )

  module _ (first : N) (from : List (Coming T N)) (l : L) (n : N) (to : List (Coming T N)) (below old : List ℕ) (e : Down first from l n to below old) where
    pub way_goes_on : old ≡ [] → ⊥
    way_goes_on f = Openings.down_goes_on takes productions rank weight (chosen first l) (symbols from) l n (symbols to) below old e.opens f

    module _ (place : ℕ) (ways : List ℕ) (is : old ≡ place ∷ ways) where
      pub entry : HasFirst productions n place
      entry = Openings.opening takes productions rank weight (chosen first l) (symbols from) l n (symbols to) below old e.opens place ways is

      split : Split e.enters.down below place ways
      split = split_down e.enters.down below place ways (λ f. Ways.no_way takes productions rank weight fits e.enters.depth n l (e.enters.way ∙ ap Some f)) (sym e.enters.are ∙ is)

      next : Ways.Step takes productions rank weight fits e.enters.depth n l place split.others
      next = Ways.step takes productions rank weight fits e.enters.depth n l place split.others e.enters.firm_here (e.enters.way ∙ ap Some split.is)

      module _ (it : Symbol T N) (new : List (Coming T N))
          (opened : (s : Symbol T N) (rest : List (Symbol T N)) → IsAt (s ∷ rest) place (productions n) → (it ≡ s) × (new ≡ map coming rest ++ C.Over n place ∷ to)) where
        opened_symbols : (s : Symbol T N) (rest : List (Symbol T N)) → IsAt (s ∷ rest) place (productions n) → (it ≡ s) × (symbols new ≡ rest ++ symbols to)
        opened_symbols s rest at =
            let o = opened s rest at in
            (o.0, ap symbols o.1 ∙ symbols_coming rest (C.Over n place ∷ to))

        pub enters_token : (t : T) → it ≡ S.Token t → (values : Values) → Moves (C.Part first ∷ from) values l (C.Token t ∷ new) values (l ∷ [])
        enters_token t is_token values =
            let o = opened next.first next.rest next.at in
            record {
              follows = then_follows (C.Part first ∷ from) (C.Part n ∷ to) (C.Token t ∷ new) values values values l (l ∷ []) (e.enters.follows values)
                  (opens_token n place l next.begins to new next.first next.rest next.at (e.enters.follows values).reached o.1 t (sym o.0 ∙ is_token) values);
              steps = ap (λ (c : Turn T N L). Steps.after_turn takes productions rank weight c (λ p r. Steps.turns takes productions rank weight (weight l) p r))
                  (Openings.opens_token takes productions rank weight (chosen first l) (symbols from) l n (symbols to) below old e.opens place ways is it (symbols new) opened_symbols t is_token
                  (if has_empty (productions first) then Steps.turn takes productions rank weight (symbols from) l else refused));
            }

        pub enters_part : (k : N) → it ≡ S.Part k → Down first from l k new below ways
        enters_part k is_part =
            let o = opened next.first next.rest next.at in
            let same_part : next.first ≡ S.Part k = sym o.0 ∙ is_part in
            let less = firm_lead productions e.enters.depth k next.rest place (productions n) e.enters.firm_here
            (subst (λ (r : Symbol T N). IsAt (r ∷ next.rest) place (productions n)) same_part next.at) in
            record {
              enters = record {
                depth = less.less;
                firm_here = less.firm_too;
                down = split.others;
                way = Ways.on_part takes productions rank weight fits e.enters.depth less.less k next.rest l split.others less.more
                    (subst (λ (r : Symbol T N). M.way_by takes productions e.enters.depth (r ∷ next.rest) l ≡ Some split.others) same_part next.on);
                are = split.are;
                follows = λ values. then_follows (C.Part first ∷ from) (C.Part n ∷ to) (C.Part k ∷ new) values values values l (l ∷ []) (e.enters.follows values)
                    (opens_part n place l next.begins to new next.first next.rest next.at (e.enters.follows values).reached o.1 k same_part values);
              };
              opens = Openings.opens_part takes productions rank weight (chosen first l) (symbols from) l n (symbols to) below old e.opens place ways is it (symbols new) opened_symbols k is_part;
            }

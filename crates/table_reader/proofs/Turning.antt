-- A turn: what is over is built, what can be empty is left out, and a token takes the lexeme or refuses it.
use Rattle.std.proofs.Common.{◌≡◌, refl, sym, ap, ◌∙◌, subst, ℕ, suc, ◌<◌, arith, Bool, true, false, List, [], ◌∷◌, ◌++◌, reverse, Option, Some, None, MatchOption}
use Rattle.std.specs.Prelude.{⊤, if◌then◌else◌}
use Rattle.table_reader.specs.declared.coming.Coming.{Coming}
use Rattle.table_reader.specs.declared.coming.Coming.TheVariants as C
use Rattle.table_reader.specs.declared.item.Item.{Item}
use Rattle.table_reader.specs.declared.item.Item.TheVariants as I
use Rattle.table_reader.specs.declared.symbol.Symbol.{Symbol}
use Rattle.table_reader.specs.declared.symbol.Symbol.TheVariants as S
use Rattle.table_reader.specs.declared.take.Take.{Take}
use Rattle.table_reader.specs.declared.take.Take.TheVariants as K
use Rattle.table_reader.specs.declared.turned.Turned.{Turned}
use Rattle.table_reader.specs.declared.turned.Turned.TheVariants as W
use Rattle.table_reader.specs.Conditions.{Fits}
use Rattle.table_reader.specs.Reading.{Made, plain}
use Rattle.table_reader.specs.Building as Building
use Rattle.table_reader.specs.Machine as M
use Rattle.table_reader.specs.Machine.{IsAt, IsReached, symbols, begun, empty_place, Skips, TakesToken}
use Rattle.table_reader.specs.Steps as Steps
use Rattle.table_reader.specs.Steps.{has_empty, Turn, refused, turned, before}
use Rattle.table_reader.proofs.Beginnings.{first_at, one_of_at, has_place, is_some}
use Rattle.table_reader.proofs.Stepping.{popped}
use Rattle.table_reader.proofs.Pieces as Pieces
use Rattle.table_reader.proofs.Leading as Leading
use Rattle.table_reader.proofs.Ready as Ready

module _ {T N L V : Type 0} (takes : T → L → Take L) (carrier : N → Type 0) (made : (n : N) → List (Made T N L carrier n)) (held : (n : N) → carrier n → V)
    (productions : N → List (List (Symbol T N))) (same : (n : N) → plain carrier n (made n) ≡ productions n) (rank : ℕ) (weight : L → ℕ) (fits : Fits takes productions rank weight) where
  abbrev Values : Type 0
  Values = List (Item L V)

  abbrev ToCome : Type 0
  ToCome = List (Coming T N)

  abbrev Symbols : Type 0
  Symbols = List (Symbol T N)

  abbrev Leads : ToCome → Values → List L → Values → Type 0
  Leads s values ls last = M.Leads takes carrier made held s values ls last

  abbrev IsReady : ToCome → Values → Type 0
  IsReady s values = M.IsReady carrier made held s values

  abbrev Moves : ToCome → Values → L → ToCome → Values → List L → Type 0
  Moves from values l to new left = M.Moves takes carrier made held productions rank weight from values l to new left

  abbrev GoesOn : Symbols → L → Symbols → List L → Type 0
  GoesOn from l to left = M.GoesOn takes carrier made held productions rank weight from l to left

  abbrev Turns : ToCome → Values → L → Turned L → ToCome → Values → Type 0
  Turns from values l took to new = M.Turns takes carrier made held productions rank weight from values l took to new

  abbrev Takes : ToCome → Values → L → Bool → ToCome → Values → Type 0
  Takes from values l took to new = M.Takes takes carrier made held productions rank weight from values l took to new

  abbrev Enters : N → L → Option T → ToCome → ToCome → Type 0
  Enters n l o old new = M.Enters takes carrier made held productions rank weight n l o old new

  abbrev CanBuild : N → ℕ → Values → Type 0
  CanBuild n i stack = Building.CanBuild carrier held n (made n) i stack

  abbrev turn : Symbols → L → Turn T N L
  turn s l = Steps.turn takes productions rank weight s l

  abbrev turns : ℕ → Symbols → L → Option Symbols
  turns k s l = Steps.turns takes productions rank weight k s l

  abbrev step : Symbols → L → Option Symbols
  step s l = Steps.step takes productions rank weight s l

  abbrev chosen : N → L → Turn T N L
  chosen n l = Steps.chosen takes productions rank weight rank (productions n) l

  -- the production's value came on top of what was below its symbols' values
  abbrev pub Builds : N → ℕ → Values → Values → Type 0
  Builds n i old new = (value : V) (below : Values) → Building.MakesBy carrier held n (made n) i old value below → new ≡ I.Part value ∷ below

  -- one state after another
  pub moves_start : (s : ToCome) (values : Values) (l : L) → IsReached productions (symbols s) → Moves s values l s values (l ∷ [])
  moves_start s values l r = record { follows = record { reached = r; ready = λ h. h; leads = λ ls last h. h }; steps = refl }

  goes_on : (a b c : Symbols) (l k : L) (left : List L) → step a l ≡ step b k → GoesOn b k c left → GoesOn a l c left
  goes_on a b c l k [] e f = e ∙ f
  goes_on a b c l k (x ∷ xs) e f = e ∙ f

  pub moves_on : (a b c : ToCome) (va vb vc : Values) (l k : L) (left : List L) → Moves a va l b vb (k ∷ []) → Moves b vb k c vc left → Moves a va l c vc left
  moves_on a b c va vb vc l k left f g =
      record {
        follows = record {
          reached = g.follows.reached;
          ready = λ h. g.follows.ready (f.follows.ready h);
          leads = λ ls last h. g.follows.leads ls last (f.follows.leads ls last h);
        };
        steps = goes_on (symbols a) (symbols b) (symbols c) l k left f.steps g.steps;
      }

  pub turns_on : (a b c : ToCome) (va vb vc : Values) (l : L) (took : Turned L) → Moves a va l b vb (l ∷ []) → Turns b vb l took c vc → Turns a va l took c vc
  turns_on a b c va vb vc l W.Refused f g = f.steps ∙ g
  turns_on a b c va vb vc l W.Taken f g = moves_on a b c va vb vc l l [] f g
  turns_on a b c va vb vc l (W.Left r) f g = (moves_on a b c va vb vc l l (r ∷ []) f g.0, g.1)

  pub takes_on : (a b c : ToCome) (va vb vc : Values) (l k : L) (took : Bool) → Moves a va l b vb (k ∷ []) → Takes b vb k took c vc → Takes a va l took c vc
  takes_on a b c va vb vc l k true f g = moves_on a b c va vb vc l k [] f g
  takes_on a b c va vb vc l k false f g = f.steps ∙ g

  pub at_left : (a c : ToCome) (va vc : Values) (l r : L) (took : Turned L) → took ≡ W.Left r → Turns a va l took c vc → Moves a va l c vc (r ∷ []) × (weight r < weight l)
  at_left a c va vc l r took e h = subst (λ (k : Turned L). Turns a va l k c vc) e h

  -- the newest symbol
  pub at_newest : (a : ToCome) (va vb : Values) (l : L) (left : List L) (old mid : ToCome) (x y : Coming T N) → old ≡ mid ++ x ∷ [] → x ≡ y →
      Moves a va l (reverse old) vb left → Moves a va l (y ∷ reverse mid) vb left
  at_newest a va vb l left old mid x y e g f =
      subst (λ (s : ToCome). Moves a va l s vb left) (popped old mid x e ∙ ap (λ (z : Coming T N). z ∷ reverse mid) g) f

  -- a token
  by_token : (rest : Symbols) (l : L) (k : Take L) (t : T) → takes t l ≡ k →
      step (S.Token t ∷ rest) l ≡ Steps.after_turn takes productions rank weight (turned k rest) (λ p r. turns (weight l) p r)
  by_token rest l k t e = ap (λ (c : Take L). Steps.after_turn takes productions rank weight (turned c rest) (λ p r. turns (weight l) p r)) e

  after_whole : (t : T) (rest : ToCome) (values last : Values) (l : L) (ls : List L) → takes t l ≡ K.Whole → Leads (C.Token t ∷ rest) values (l ∷ ls) last → Leads rest (I.Token l ∷ values) ls last
  after_whole t rest values last l ls g (M.token e h) = h
  after_whole t rest values last l ls g (M.piece half k e h) = let f = sym e ∙ g in absurd cc

  after_front : (t : T) (rest : ToCome) (values last : Values) (l : L) (ls : List L) (bit r : L) → takes t l ≡ K.Front bit r → Leads (C.Token t ∷ rest) values (l ∷ ls) last →
      Leads rest (I.Token bit ∷ values) (r ∷ ls) last
  after_front t rest values last l ls bit r g (M.token e h) = let f = sym e ∙ g in absurd cc
  after_front t rest values last l ls bit r g (M.piece half k e h) =
      let f = sym e ∙ g in
      let one : half ≡ bit = cc in
      let two : k ≡ r = cc in
      subst (λ (x : L). Leads rest (I.Token x ∷ values) (r ∷ ls) last) one (subst (λ (x : L). Leads rest (I.Token half ∷ values) (x ∷ ls) last) two h)

  pub token_turns : (t : T) (rest : ToCome) (values new : Values) (l : L) (took : Turned L) (k : Take L) → takes t l ≡ k → TakesToken k l values took new → IsReached productions (S.Token t ∷ symbols rest) →
      Turns (C.Token t ∷ rest) values l took rest new
  token_turns t rest values new l took K.No e h r =
      subst (λ (o : Turned L). Turns (C.Token t ∷ rest) values l o rest new) (sym h) (by_token (symbols rest) l K.No t e)
  token_turns t rest values new l took K.Whole e h r =
      subst (λ (o : Turned L). Turns (C.Token t ∷ rest) values l o rest new) (sym h.0)
      (subst (λ (vs : Values). Moves (C.Token t ∷ rest) values l rest vs []) (sym h.1)
      (record {
        follows = record { reached = M.token r; ready = λ g. g l; leads = λ ls last g. after_whole t rest values last l ls e g };
        steps = by_token (symbols rest) l K.Whole t e;
      }))
  token_turns t rest values new l took (K.Front bit k) e h r =
      let less = fits.lighter t l bit k e in
      let moves : Moves (C.Token t ∷ rest) values l rest (I.Token bit ∷ values) (k ∷ []) =
      record {
        follows = record { reached = M.token r; ready = λ g. g bit; leads = λ ls last g. after_front t rest values last l ls bit k e g };
        steps = by_token (symbols rest) l (K.Front bit k) t e
            ∙ Pieces.same_turns takes productions rank weight fits (weight l) (suc (weight k)) (symbols rest) k less (omega arith);
      } in
      subst (λ (o : Turned L). Turns (C.Token t ∷ rest) values l o rest new) (sym h.0)
      (subst (λ (vs : Values). Moves (C.Token t ∷ rest) values l rest vs (k ∷ []) × (weight k < weight l)) (sym h.1) (moves, less))

  -- a production that is over
  pub over_leads : (n : N) (i : ℕ) (rest : ToCome) (values new last : Values) (ls : List L) → Builds n i values new → Leads (C.Over n i ∷ rest) values ls last → Leads rest new ls last
  over_leads n i rest values new last ls b (M.made_of value below w h) = subst (λ (vs : Values). Leads rest vs ls last) (sym (b value below w)) h

  pub over_can : (n : N) (i : ℕ) (rest : ToCome) (values : Values) → IsReady (C.Over n i ∷ rest) values → CanBuild n i values
  over_can n i rest values h = Ready.can_build takes carrier made held productions same n i rest values h

  pub over_ready : (n : N) (i : ℕ) (rest : ToCome) (values new : Values) → Builds n i values new → IsReady (C.Over n i ∷ rest) values → IsReady rest new
  over_ready n i rest values new b h = Ready.built takes carrier made held productions same n i rest values new b h

  pub over_moves : (a : ToCome) (va : Values) (l : L) (n : N) (i : ℕ) (rest : ToCome) (values new : Values) → Builds n i values new →
      Moves a va l (C.Over n i ∷ rest) values (l ∷ []) → Moves a va l rest new (l ∷ [])
  over_moves a va l n i rest values new b f =
      record {
        follows = record {
          reached = f.follows.reached;
          ready = λ h. over_ready n i rest values new b (f.follows.ready h);
          leads = λ ls last h. over_leads n i rest values new last (l ∷ ls) b (f.follows.leads ls last h);
        };
        steps = f.steps;
      }

  -- a part that is empty
  pub empty_one : (n : N) (i : ℕ) → empty_place productions n ≡ Some i → IsAt [] i (productions n)
  empty_one n i e = let f = first_at (λ (p : List (Symbol T N)). M.is_empty p) i (productions n) e in empty_by i f.item f.at f.passes
    where
      empty_by : (i : ℕ) (p : List (Symbol T N)) → IsAt p i (productions n) → M.is_empty p ≡ true → IsAt [] i (productions n)
      empty_by i [] at g = at
      empty_by i (s ∷ p) at g = absurd cc

  pub skip_ready : (n : N) (i : ℕ) (rest : ToCome) (values : Values) → empty_place productions n ≡ Some i → IsReady (C.Part n ∷ rest) values → IsReady (C.Over n i ∷ rest) values
  skip_ready n i rest values e h = Ready.opens takes carrier made held productions same n [] i rest values (empty_one n i e) h

  pub skip_can : (n : N) (rest : ToCome) (values : Values) → IsReady (C.Part n ∷ rest) values → MatchOption (empty_place productions n) ⊤ (λ i. CanBuild n i values)
  skip_can n rest values h = by_place (empty_place productions n) (λ i e. over_can n i rest values (skip_ready n i rest values e h))
    where
      by_place : (o : Option ℕ) → ((i : ℕ) → o ≡ Some i → CanBuild n i values) → MatchOption o ⊤ (λ i. CanBuild n i values)
      by_place None f = tt
      by_place (Some i) f = f i refl

  -- whether a part can be left out is told by whether it has an empty production
  pub record Skipped (n : N) (values new : Values) : Type 0 where
    pub place : ℕ
    pub is : empty_place productions n ≡ Some place
    pub has : has_empty (productions n) ≡ true
    pub builds : Builds n place values new

  skipped_by : (n : N) (values new : Values) (o : Option ℕ) → empty_place productions n ≡ o → Skips o true (λ i. Builds n i values new) → Skipped n values new
  skipped_by n values new None e h = absurd h
  skipped_by n values new (Some i) e h = record { place = i; is = e; has = has_place (productions n) ∙ ap is_some e; builds = h }

  pub skipped : (n : N) (values new : Values) (b : Bool) → b ≡ true → Skips (empty_place productions n) b (λ i. Builds n i values new) → Skipped n values new
  skipped n values new b e h = skipped_by n values new (empty_place productions n) refl (subst (λ (c : Bool). Skips (empty_place productions n) c (λ i. Builds n i values new)) e h)

  stays_by : (n : N) (By : ℕ → Type 0) (o : Option ℕ) → empty_place productions n ≡ o → Skips o false By → has_empty (productions n) ≡ false
  stays_by n By None e h = has_place (productions n) ∙ ap is_some e
  stays_by n By (Some i) e h = absurd h

  pub stays : (n : N) (By : ℕ → Type 0) (b : Bool) → b ≡ false → Skips (empty_place productions n) b By → has_empty (productions n) ≡ false
  stays n By b e h = stays_by n By (empty_place productions n) refl (subst (λ (c : Bool). Skips (empty_place productions n) c By) e h)

  by_turn : (c : Turn T N L) (s : Symbols) (l : L) → turn s l ≡ c → step s l ≡ Steps.after_turn takes productions rank weight c (λ p r. turns (weight l) p r)
  by_turn c s l e = ap (λ (d : Turn T N L). Steps.after_turn takes productions rank weight d (λ p r. turns (weight l) p r)) e

  none_chosen : (n : N) (rest : Symbols) (l : L) (b : Bool) → chosen n l ≡ refused → has_empty (productions n) ≡ b → turn (S.Part n ∷ rest) l ≡ (if b then turn rest l else refused)
  none_chosen n rest l b e f =
      ap (λ (c : Turn T N L). before rest c (if has_empty (productions n) then turn rest l else refused)) e ∙ ap (λ (c : Bool). if c then turn rest l else refused) f

  abbrev Entered : N → L → Type 0
  Entered n l = (begun takes productions rank n l ≡ None) × (chosen n l ≡ refused)

  pub enters_none : (n : N) (old new : ToCome) (l : L) (o : Option T) → o ≡ None → Enters n l o old new → Entered n l × (new ≡ old)
  enters_none n old new l o e h = subst (λ (p : Option T). Enters n l p old new) e h

  pub enters_some : (n : N) (old new : ToCome) (l : L) (o : Option T) (t : T) → o ≡ Some t → Enters n l o old new → (values : Values) → Moves (C.Part n ∷ old) values l (C.Token t ∷ new) values (l ∷ [])
  enters_some n old new l o t e h = subst (λ (p : Option T). Enters n l p old new) e h

  skip_moves : (n : N) (rest : ToCome) (values new : Values) (l : L) → Entered n l → Skipped n values new → IsReached productions (S.Part n ∷ symbols rest) →
      Moves (C.Part n ∷ rest) values l rest new (l ∷ [])
  skip_moves n rest values new l e s r =
      record {
        follows = record {
          reached = M.part [] (one_of_at [] s.place (productions n) (empty_one n s.place s.is)) r;
          ready = λ h. over_ready n s.place rest values new s.builds (skip_ready n s.place rest values s.is h);
          leads = λ ls last g. over_leads n s.place rest values new last (l ∷ ls) s.builds
              (Leading.part_skips takes carrier made held productions same rank weight fits n rest values last l ls e.0 s.place s.is g);
        };
        steps = by_turn (turn (symbols rest) l) (S.Part n ∷ symbols rest) l (none_chosen n (symbols rest) l true e.1 s.has);
      }

  module _ (a : ToCome) (va : Values) (l : L) (n : N) (old mid : ToCome) (values new : Values) (o : Option T) (b : Bool) (none : o ≡ None) (entered : Enters n l o old mid)
      (skips : Skips (empty_place productions n) b (λ i. Builds n i values new)) (moves : Moves a va l (C.Part n ∷ old) values (l ∷ [])) where
    pub leaves_out : b ≡ true → Moves a va l mid new (l ∷ [])
    leaves_out e =
        let e_none = enters_none n old mid l o none entered in
        subst (λ (s : ToCome). Moves a va l s new (l ∷ [])) (sym e_none.1)
        (moves_on a (C.Part n ∷ old) old va values new l l (l ∷ []) moves (skip_moves n old values new l e_none.0 (skipped n values new b e skips) moves.follows.reached))

    pub must_come : b ≡ false → step (symbols a) l ≡ None
    must_come e =
        let e_none = enters_none n old mid l o none entered in
        moves.steps ∙ by_turn refused (S.Part n ∷ symbols old) l (none_chosen n (symbols old) l false e_none.0.1 (stays n (λ i. Builds n i values new) b e skips))

  -- nothing is to come
  pub none_to_come : (a : ToCome) (va vb : Values) (l : L) (old : ToCome) → old ≡ [] → Moves a va l (reverse old) vb (l ∷ []) → step (symbols a) l ≡ None
  none_to_come a va vb l old e f = f.steps ∙ ap (λ (s : ToCome). step (symbols (reverse s)) l) e

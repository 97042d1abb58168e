-- At the end what is over is built, what can be empty is left out, and one value stands alone.
use Rattle.std.proofs.Common.{◌≡◌, refl, sym, ap, ◌∙◌, subst, ℕ, Bool, true, false, List, [], ◌∷◌, ◌++◌, reverse}
use Rattle.std.specs.Prelude.{◌&&◌}
use Rattle.table_reader.specs.declared.coming.Coming.{Coming}
use Rattle.table_reader.specs.declared.coming.Coming.TheVariants as C
use Rattle.table_reader.specs.declared.item.Item.{Item}
use Rattle.table_reader.specs.declared.item.Item.TheVariants as I
use Rattle.table_reader.specs.declared.symbol.Symbol.{Symbol}
use Rattle.table_reader.specs.declared.take.Take.{Take}
use Rattle.table_reader.specs.Conditions.{Fits}
use Rattle.table_reader.specs.Reading.{Made, plain}
use Rattle.table_reader.specs.Building as Building
use Rattle.table_reader.specs.Machine as M
use Rattle.table_reader.specs.Machine.{symbols, empty_place, Skips}
use Rattle.table_reader.specs.Steps as Steps
use Rattle.table_reader.specs.Steps.{has_empty}
use Rattle.table_reader.proofs.Stepping.{popped}
use Rattle.table_reader.proofs.Leading as Leading
use Rattle.table_reader.proofs.Turning as Turning

module _ {T N L V : Type 0} (takes : T → L → Take L) (carrier : N → Type 0) (made : (n : N) → List (Made T N L carrier n)) (held : (n : N) → carrier n → V)
    (productions : N → List (List (Symbol T N))) (same : (n : N) → plain carrier n (made n) ≡ productions n) (rank : ℕ) (weight : L → ℕ) (fits : Fits takes productions rank weight) where
  abbrev Values : Type 0
  Values = List (Item L V)

  abbrev ToCome : Type 0
  ToCome = List (Coming T N)

  abbrev Leads : ToCome → Values → List L → Values → Type 0
  Leads s values ls last = M.Leads takes carrier made held s values ls last

  abbrev IsReady : ToCome → Values → Type 0
  IsReady s values = M.IsReady carrier made held s values

  abbrev CanBuild : N → ℕ → Values → Type 0
  CanBuild n i stack = Building.CanBuild carrier held n (made n) i stack

  abbrev Builds : N → ℕ → Values → Values → Type 0
  Builds n i old new = Turning.Builds takes carrier made held productions same rank weight fits n i old new

  abbrev may_end : ToCome → Bool
  may_end s = Steps.may_end takes productions rank weight (symbols s)

  -- what is to come now ends as what was to come does, and leads where that led
  pub record Ending (from : ToCome) (values : Values) (to : ToCome) (new : Values) : Type 0 where
    pub ready : IsReady to new
    pub ends : may_end to ≡ may_end from
    pub leads : (last : Values) → Leads from values [] last → Leads to new [] last

  module _ (from : ToCome) (values : Values) where
    pub newest : (old mid : ToCome) (now : Values) (x y : Coming T N) → old ≡ mid ++ x ∷ [] → x ≡ y → Ending from values (reverse old) now → Ending from values (y ∷ reverse mid) now
    newest old mid now x y e g h =
        subst (λ (s : ToCome). Ending from values s now) (popped old mid x e ∙ ap (λ (z : Coming T N). z ∷ reverse mid) g) h

    pub over_ends : (n : N) (i : ℕ) (rest : ToCome) (now new : Values) → Builds n i now new → Ending from values (C.Over n i ∷ rest) now → Ending from values rest new
    over_ends n i rest now new b h =
        record {
          ready = Turning.over_ready takes carrier made held productions same rank weight fits n i rest now new b h.ready;
          ends = h.ends;
          leads = λ last g. Turning.over_leads takes carrier made held productions same rank weight fits n i rest now new last [] b (h.leads last g);
        }

    module _ (n : N) (rest : ToCome) (now new : Values) (b : Bool) (skips : Skips (empty_place productions n) b (λ i. Builds n i now new)) (h : Ending from values (C.Part n ∷ rest) now) where
      pub part_ends : b ≡ true → Ending from values rest new
      part_ends e =
          let s = Turning.skipped takes carrier made held productions same rank weight fits n now new b e skips in
          record {
            ready = Turning.over_ready takes carrier made held productions same rank weight fits n s.place rest now new s.builds
                (Turning.skip_ready takes carrier made held productions same rank weight fits n s.place rest now s.is h.ready);
            ends = sym (ap (λ (c : Bool). c && may_end rest) s.has) ∙ h.ends;
            leads = λ last g. Turning.over_leads takes carrier made held productions same rank weight fits n s.place rest now new last [] s.builds
                (Leading.part_ends takes carrier made held productions same rank weight fits n rest now last s.place s.is (h.leads last g));
          }

      pub part_stays : b ≡ false → may_end from ≡ false
      part_stays e =
          sym h.ends ∙ ap (λ (c : Bool). c && may_end rest) (Turning.stays takes carrier made held productions same rank weight fits n (λ i. Builds n i now new) b e skips)

    module _ (old : ToCome) (now : Values) (none : old ≡ []) (h : Ending from values (reverse old) now) where
      last_state : Ending from values [] now
      last_state = subst (λ (s : ToCome). Ending from values (reverse s) now) none h

      one_value : now ≡ I.Part last_state.ready.0 ∷ []
      one_value = last_state.ready.1

      is_last : (v w : Values) → Leads [] v [] w → v ≡ w
      is_last v w g = is g
        where
          is : {vs us : Values} → Leads [] vs [] us → vs ≡ us
          is M.over = refl

      module _ (stack mid : Values) (x : Item L V) (is_now : now ≡ reverse stack) (top : stack ≡ mid ++ x ∷ []) where
        pub value_is : (it : V) → x ≡ I.Part it → (may_end from ≡ true) × M.Ends takes carrier made held from values [] it
        value_is it e = (
          sym last_state.ends,
          λ value g.
              let a = is_last now (I.Part value ∷ []) (last_state.leads (I.Part value ∷ []) g) in
              let k : x ∷ reverse mid ≡ I.Part value ∷ [] = sym (is_now ∙ popped stack mid x top) ∙ a in
              cc,
        )

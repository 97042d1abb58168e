-- Lexemes that are derived from a part are read as one value, to which they lead.
use Rattle.std.proofs.Common.{◌≡◌, refl, sym, ap, ◌∙◌, subst, ℕ, zero, suc, ◌<◌, ◌≤◌, ◌+◌, arith, inl, inr, ◌⊎◌, List, [], ◌∷◌, ◌++◌, take, drop, drop-cons, length, get_or, reverse, Option, Some, None, MatchOption, Ok, Err, MatchResult}
use Rattle.std.specs.Prelude.{⊤}
use Rattle.std.specs.declared.result.Result.{Result}
use Rattle.table_reader.specs.declared.coming.Coming.{Coming}
use Rattle.table_reader.specs.declared.coming.Coming.TheVariants as C
use Rattle.table_reader.specs.declared.item.Item.{Item}
use Rattle.table_reader.specs.declared.item.Item.TheVariants as I
use Rattle.table_reader.specs.declared.symbol.Symbol.{Symbol}
use Rattle.table_reader.specs.declared.symbol.Symbol.TheVariants as S
use Rattle.table_reader.specs.declared.take.Take.{Take}
use Rattle.table_reader.specs.Conditions.{Fits}
use Rattle.table_reader.specs.Derivations as D
use Rattle.table_reader.specs.Reading as R
use Rattle.table_reader.specs.Reading.{Made, Parts, plain, IsReadAs, IsNotRead}
use Rattle.table_reader.specs.Machine as M
use Rattle.table_reader.specs.Machine.{IsReached, symbols}
use Rattle.table_reader.specs.Steps as Steps
use Rattle.table_reader.proofs.Stepping.{further, further_none, further_one}
use Rattle.table_reader.proofs.Theorem.{exact}
use Rattle.table_reader.proofs.Readings as Readings
use Rattle.table_reader.proofs.Unique.{unique}
use Rattle.table_reader.proofs.Leading.{part_leads}

all_items : {A : Type 0} (k : ℕ) (xs : List A) → take k xs ++ drop k xs ≡ xs
all_items zero xs = refl
all_items (suc k) [] = refl
all_items {A} (suc k) (x ∷ xs) = ap (λ (ys : List A). x ∷ ys) (all_items k xs)

below_or_at : (k n : ℕ) → k ≤ n → (k < n) ⊎ (k ≡ n)
below_or_at zero zero h = inr refl
below_or_at zero (suc n) h = inl (omega arith)
below_or_at (suc k) zero h = absurd (omega arith)
below_or_at (suc k) (suc n) h = elim (below_or_at k n (omega arith)) [ inl b ↦ inl (omega arith) | inr e ↦ inr (ap suc e) ]

-- where there is a fault the lexemes are not derived
pub fault_underived : {T N L : Type 0} (takes : T → L → Take L) (productions : N → List (List (Symbol T N))) (s : List (Symbol T N)) (ls : List L) (k : ℕ) →
    D.IsFault takes productions s ls k → D.Derives takes productions s ls → ⊥
fault_underived takes productions s ls k f d =
    elim (below_or_at k (length ls) f.within) [
      | inl b ↦ f.here b (drop (suc k) ls, subst (λ (us : _). D.Derives takes productions s us) (sym (all_items (suc k) ls)) d)
      | inr e ↦ f.ends e d
    ]

module _ {T N L V : Type 0} (takes : T → L → Take L) (carrier : N → Type 0) (made : (n : N) → List (Made T N L carrier n)) (held : (n : N) → carrier n → V)
    (productions : N → List (List (Symbol T N))) (same : (n : N) → plain carrier n (made n) ≡ productions n) (rank : ℕ) (weight : L → ℕ) (fits : Fits takes productions rank weight) where
  abbrev Values : Type 0
  Values = List (Item L V)

  abbrev ToCome : Type 0
  ToCome = List (Coming T N)

  abbrev Leads : ToCome → Values → List L → Values → Type 0
  Leads s values ls last = M.Leads takes carrier made held s values ls last

  these : productions ≡ (λ n. plain carrier n (made n))
  these = λ i n. sym (same n) i

  pub read_derived : (n : N) (ls : List L) (v : carrier n) → R.Reads takes carrier made n ls [] v → D.Derives takes productions (S.Part n ∷ []) ls
  read_derived n ls v r =
      subst (λ (ps : N → List (List (Symbol T N))). D.Derives takes ps (S.Part n ∷ []) ls) (sym these) (Readings.part_derived takes carrier made n ls [] v [] r D.nothing)

  pub fault_not_read : (n : N) (ls : List L) (k : ℕ) → D.IsFault takes productions (S.Part n ∷ []) ls k → IsNotRead takes carrier made n ls
  fault_not_read n ls k f v r = fault_underived takes productions (S.Part n ∷ []) ls k f (read_derived n ls v r)

  pub record Reading (n : N) (ls : List L) : Type 0 where
    pub value : carrier n
    pub reads : R.Reads takes carrier made n ls [] value

  one_reading : (n : N) (ls : List L) (vs : Parts T N L carrier (S.Part n ∷ [])) → R.ReadsAll takes carrier made (S.Part n ∷ []) ls [] vs → Reading n ls
  one_reading n ls _ (R.part {v = v} r R.nothing) = record { value = v; reads = r }

  pub reading : (n : N) (ls : List L) → D.Derives takes productions (S.Part n ∷ []) ls → Reading n ls
  reading n ls d =
      let all = Readings.all_read takes carrier made (S.Part n ∷ []) ls (subst (λ (ps : N → List (List (Symbol T N))). D.Derives takes ps (S.Part n ∷ []) ls) these d) in
      one_reading n ls all.values all.reads

  pub one_value : (n : N) (ls : List L) (v w : carrier n) → R.Reads takes carrier made n ls [] v → R.Reads takes carrier made n ls [] w → v ≡ w
  one_value n ls v w r q =
      unique takes carrier made rank weight (subst (λ (ps : N → List (List (Symbol T N))). Fits takes ps rank weight) these fits) n ls v w r q

  module _ (n : N) (ls : List L) (d : D.Derives takes productions (S.Part n ∷ []) ls) where
    abbrev pub value : carrier n
    value = (reading n ls d).value

    abbrev pub last : Values
    last = I.Part (held n value) ∷ []

    pub leads_all : Leads (C.Part n ∷ []) [] ls last
    leads_all = part_leads takes carrier made held n ls [] value (reading n ls d).reads [] [] last M.over

    pub is_read : (it : V) → it ≡ held n value → IsReadAs takes carrier made held n ls it
    is_read it e = record {
      carried = value;
      reads = (reading n ls d).reads;
      holds = e;
      only = λ other r. one_value n ls other value r (reading n ls d).reads;
    }

  abbrev fault_from : List (Symbol T N) → List L → Option ℕ
  fault_from s us = Steps.fault_from takes productions rank weight s us

  -- after so many lexemes: what the part led to from all of them, what is to come leads to from those that are left
  pub record Been (n : N) (ls : List L) (i : ℕ) (to : ToCome) (values : Values) : Type 0 where
    pub reached : IsReached productions (symbols to)
    pub ready : M.IsReady carrier made held to values
    pub leads : (last : Values) → Leads (C.Part n ∷ []) [] ls last → Leads to values (drop i ls) last
    pub faults : fault_from (S.Part n ∷ []) ls ≡ further i (fault_from (symbols to) (drop i ls))

  start_ready : (n : N) → M.IsReady carrier made held (C.Part n ∷ []) []
  start_ready n = λ v. (held n v, refl)

  been_alone : (n : N) (ls : List L) → Been n ls 0 (C.Part n ∷ []) []
  been_alone n ls = record {
    reached = M.start n;
    ready = start_ready n;
    leads = λ last h. h;
    faults = further_none (fault_from (S.Part n ∷ []) ls);
  }

  pub been_start : (n : N) (ls : List L) (old new : ToCome) (values : Values) → old ≡ [] → new ≡ old ++ C.Part n ∷ [] → values ≡ [] → Been n ls 0 (reverse new) (reverse values)
  been_start n ls old new values e f g =
      subst (λ (s : ToCome). Been n ls 0 (reverse s) (reverse values)) (sym (f ∙ ap (λ (s : ToCome). s ++ C.Part n ∷ []) e))
      (subst (λ (vs : Values). Been n ls 0 (C.Part n ∷ []) (reverse vs)) (sym g) (been_alone n ls))

  module _ (n : N) (ls : List L) (i : ℕ) (to : ToCome) (values : Values) (b : Been n ls i to values) where
    module _ (l : L) (h : i < length ls) (is : l ≡ get_or ls i l) where
      next : drop i ls ≡ l ∷ drop (i + 1) ls
      next =
          let cut : drop i ls ≡ get_or ls i l ∷ drop (suc i) ls = drop-cons ls i l h in
          let one : suc i ≡ i + 1 = omega arith in
          cut ∙ (ap (λ (x : L). x ∷ drop (suc i) ls) (sym is) ∙ ap (λ (j : ℕ). l ∷ drop j ls) one)

      pub been_next : (new : ToCome) (more : Values) → M.Moves takes carrier made held productions rank weight to values l new more [] → Been n ls (i + 1) new more
      been_next new more m = record {
        reached = m.follows.reached;
        ready = m.follows.ready b.ready;
        leads = λ last g. m.follows.leads (drop (i + 1) ls) last (subst (λ (us : List L). Leads to values us last) next (b.leads last g));
        faults = b.faults ∙ (ap (λ (us : List L). further i (fault_from (symbols to) us)) next
            ∙ (ap (λ (o : Option (List (Symbol T N))). further i (Steps.fault_after takes productions rank weight o (λ s. fault_from s (drop (i + 1) ls)))) m.steps
            ∙ further_one i (fault_from (symbols new) (drop (i + 1) ls))));
      }

  -- what the steps tell
  abbrev IsFault : N → List L → ℕ → Type 0
  IsFault n ls k = D.IsFault takes productions (S.Part n ∷ []) ls k

  told : (n : N) (ls : List L) (o : Option ℕ) → fault_from (S.Part n ∷ []) ls ≡ o → MatchOption o (D.Derives takes productions (S.Part n ∷ []) ls) (IsFault n ls)
  told n ls o e = subst (λ (p : Option ℕ). MatchOption p (D.Derives takes productions (S.Part n ∷ []) ls) (IsFault n ls)) e (exact takes productions rank weight fits n ls)

  abbrev Told : N → List L → Result V ℕ → Type 0
  Told n ls r = MatchResult r (λ it. (fault_from (S.Part n ∷ []) ls ≡ None) × M.Ends takes carrier made held (C.Part n ∷ []) [] ls it) (λ place. fault_from (S.Part n ∷ []) ls ≡ Some place)

  pub told_exact : (n : N) (ls : List L) (r : Result V ℕ) → Told n ls r → MatchResult r (λ it. IsReadAs takes carrier made held n ls it) (λ place. IsFault n ls place)
  told_exact n ls (Ok it) h =
      let d = told n ls None h.0 in
      is_read n ls d it (h.1 (held n (value n ls d)) (leads_all n ls d))
  told_exact n ls (Err place) h = told n ls (Some place) h

  pub told_not_read : (n : N) (ls : List L) (r : Result V ℕ) → Told n ls r → MatchResult r (λ it. ⊤) (λ place. IsNotRead takes carrier made n ls)
  told_not_read n ls (Ok it) h = tt
  told_not_read n ls (Err place) h = fault_not_read n ls place (told n ls (Some place) h)

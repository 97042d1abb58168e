-- What is read leads from a part to its value, and each production on the way is forced.
use Rattle.std.proofs.Common.{◌≡◌, refl, ap, subst, ℕ, zero, suc, List, [], ◌∷◌, ◌++◌, map, Option, Some, None}
use Rattle.table_reader.specs.declared.coming.Coming.{Coming}
use Rattle.table_reader.specs.declared.coming.Coming.TheVariants as C
use Rattle.table_reader.specs.declared.item.Item.{Item}
use Rattle.table_reader.specs.declared.item.Item.TheVariants as I
use Rattle.table_reader.specs.declared.symbol.Symbol.{Symbol}
use Rattle.table_reader.specs.declared.symbol.Symbol.TheVariants as S
use Rattle.table_reader.specs.declared.take.Take.{Take}
use Rattle.table_reader.specs.Derivations as D
use Rattle.table_reader.specs.Derivations.{IsOneOf}
use Rattle.table_reader.specs.Conditions.{Fits}
use Rattle.table_reader.specs.Steps.{has_empty}
use Rattle.table_reader.specs.Reading as R
use Rattle.table_reader.specs.Reading.{Made, Parts, plain}
use Rattle.table_reader.specs.Building as Building
use Rattle.table_reader.specs.Machine as M
use Rattle.table_reader.specs.Machine.{IsAt, IsReached, coming, symbols, first_place, is_empty}
use Rattle.table_reader.proofs.Heads as Heads
use Rattle.table_reader.proofs.Following as Following
use Rattle.table_reader.proofs.Completeness as Completeness
use Rattle.table_reader.proofs.Theorem as Theorem
use Rattle.table_reader.proofs.Beginnings as B
use Rattle.table_reader.proofs.Beginnings.{one_of_at, at_of_one, same_at, empty_at}

pub symbols_coming : {T N : Type 0} (p : List (Symbol T N)) (rest : List (Coming T N)) → symbols (map coming p ++ rest) ≡ p ++ symbols rest
symbols_coming [] rest = refl
symbols_coming {T} {N} (S.Token t ∷ p) rest = ap (λ (s : List (Symbol T N)). S.Token t ∷ s) (symbols_coming p rest)
symbols_coming {T} {N} (S.Part n ∷ p) rest = ap (λ (s : List (Symbol T N)). S.Part n ∷ s) (symbols_coming p rest)

pub plain_at : {T N L : Type 0} (carrier : N → Type 0) (n : N) (m : Made T N L carrier n) (i : ℕ) (ms : List (Made T N L carrier n)) → IsAt m i ms → IsAt m.symbols i (plain carrier n ms)
plain_at carrier n m i [] h = absurd h
plain_at {T} {N} {L} carrier n m zero (q ∷ ms) h = ap (λ (w : Made T N L carrier n). w.symbols) h
plain_at carrier n m (suc i) (q ∷ ms) h = plain_at carrier n m i ms h

module _ {T N L V : Type 0} (takes : T → L → Take L) (carrier : N → Type 0) (made : (n : N) → List (Made T N L carrier n)) (held : (n : N) → carrier n → V) where
  abbrev Values : Type 0
  Values = List (Item L V)

  abbrev put : (p : List (Symbol T N)) → Parts T N L carrier p → Values → Values
  put p vs below = Building.put carrier held p vs below

  abbrev MakesBy : (n : N) → List (Made T N L carrier n) → ℕ → Values → V → Values → Type 0
  MakesBy n ms i stack value below = Building.MakesBy carrier held n ms i stack value below

  abbrev Leads : List (Coming T N) → Values → List L → Values → Type 0
  Leads s values ls last = M.Leads takes carrier made held s values ls last

  pub makes_at : (n : N) (m : Made T N L carrier n) (i : ℕ) (ms : List (Made T N L carrier n)) → IsAt m i ms → (vs : Parts T N L carrier m.symbols) (below : Values) →
      MakesBy n ms i (put m.symbols vs below) (held n (m.make vs)) below
  makes_at n m i [] h vs below = absurd h
  makes_at n m zero (q ∷ ms) h vs below =
      subst (λ (w : Made T N L carrier n). MakesBy n (w ∷ ms) zero (put m.symbols vs below) (held n (m.make vs)) below) h (vs, (refl, refl))
  makes_at n m (suc i) (q ∷ ms) h vs below = makes_at n m i ms h vs below

  mutual
    pub part_leads : (n : N) (ls us : List L) (v : carrier n) → R.Reads takes carrier made n ls us v → (rest : List (Coming T N)) (values last : Values) →
        Leads rest (I.Part (held n v) ∷ values) us last → Leads (C.Part n ∷ rest) values ls last
    part_leads n ls us _ (R.by m one vs r) rest values last h =
        let at = at_of_one m (made n) one in
        M.part m at.0 at.1
        (all_leads m.symbols ls us vs r (C.Over n at.0 ∷ rest) values last (M.made_of (held n (m.make vs)) values (makes_at n m at.0 (made n) at.1 vs values) h))

    all_leads : (p : List (Symbol T N)) (ls us : List L) (vs : Parts T N L carrier p) → R.ReadsAll takes carrier made p ls us vs → (rest : List (Coming T N)) (values last : Values) →
        Leads rest (put p vs values) us last → Leads (map coming p ++ rest) values ls last
    all_leads [] ls us _ R.nothing rest values last h = h
    all_leads (S.Token t ∷ p) (l ∷ ls) us _ (R.token {vs} e r) rest values last h = M.token e (all_leads p ls us vs r rest (I.Token l ∷ values) last h)
    all_leads (S.Token t ∷ p) (l ∷ ls) us _ (R.piece {vs} half k e r) rest values last h = M.piece half k e (all_leads p (k ∷ ls) us vs r rest (I.Token half ∷ values) last h)
    all_leads (S.Part n ∷ p) ls us _ (R.part {ms} {v} {vs} r rs) rest values last h =
        part_leads n ls ms v r (map coming p ++ rest) values last (all_leads p ms us vs rs rest (I.Part (held n v) ∷ values) last h)

  module _ (productions : N → List (List (Symbol T N))) (same : (n : N) → plain carrier n (made n) ≡ productions n) where
    pub made_at : (n : N) (m : Made T N L carrier n) (i : ℕ) → IsAt m i (made n) → IsAt m.symbols i (productions n)
    made_at n m i h = subst (λ (ps : List (List (Symbol T N))). IsAt m.symbols i ps) (same n) (plain_at carrier n m i (made n) h)

    pub leads_derives : {s : List (Coming T N)} {values : Values} {ls : List L} {last : Values} → Leads s values ls last → D.Derives takes productions (symbols s) ls
    leads_derives M.over = D.nothing
    leads_derives (M.token e h) = D.token e (leads_derives h)
    leads_derives (M.piece half k e h) = D.piece half k e (leads_derives h)
    leads_derives (M.part {n} {rest} {ls} m i at h) =
        D.part m.symbols (one_of_at m.symbols i (productions n) (made_at n m i at))
        (subst (λ (q : List (Symbol T N)). D.Derives takes productions q ls) (symbols_coming m.symbols (C.Over n i ∷ rest)) (leads_derives h))
    leads_derives (M.made_of value below w h) = leads_derives h

    module _ (rank : ℕ) (weight : L → ℕ) (fits : Fits takes productions rank weight) where
      abbrev Derives : List (Symbol T N) → List L → Type 0
      Derives s ls = D.Derives takes productions s ls

      abbrev Sits : List (Symbol T N) → Type 0
      Sits s = Following.Sits takes productions rank weight fits s

      pub reached_sits : {s : List (Symbol T N)} → IsReached productions s → Sits s
      reached_sits (M.start n) = ((λ t i. absurd i), tt)
      reached_sits (M.token h) = reached_sits h
      reached_sits (M.part {n} {rest} p one h) =
          let s = reached_sits h in
          Following.sits_append takes productions rank weight fits p rest (fits.follow n)
          (Heads.all_of (λ q. Heads.sits takes productions rank weight fits q (fits.follow n)) (productions n) p (Heads.sits_part takes productions rank weight fits n) one) s.0 s.1

      -- the place of the production that goes on with a lexeme
      abbrev begun : N → L → Option ℕ
      begun n l = first_place (λ p. M.begins takes productions rank (p ∷ []) l) (productions n)

      abbrev empty_place : N → Option ℕ
      empty_place n = first_place is_empty (productions n)

      begun_some : (n : N) (i : ℕ) (s : Symbol T N) (q rest : List (Symbol T N)) (l : L) (ls : List L) → IsAt (s ∷ q) i (productions n) → Derives ((s ∷ q) ++ rest) (l ∷ ls) → begun n l ≡ Some i
      begun_some n i s q rest l ls h d =
          B.forced_some takes productions rank weight fits (productions n) i (Heads.firm_part takes productions rank weight fits n) (Heads.heads_part takes productions rank weight fits n)
          (s ∷ q) rest l ls h tt d

      empty_is : (n : N) (i : ℕ) → IsAt [] i (productions n) → empty_place n ≡ Some i
      empty_is n i h = empty_at (productions n) i (Heads.single_part takes productions rank weight fits n) h

      begun_none : (n : N) (i : ℕ) (rest : List (Symbol T N)) (l : L) (ls : List L) → Sits (S.Part n ∷ rest) → IsAt [] i (productions n) → Derives rest (l ∷ ls) → begun n l ≡ None
      begun_none n i rest l ls s h d =
          let c = Completeness.derives_begins takes productions rank weight fits rest l ls d in
          B.none_begins takes productions rank weight fits (productions n) l
          (λ b. Heads.clash takes productions rank weight fits (Heads.heads takes productions rank weight fits rank (productions n)) (fits.follow n) l
          (Completeness.ends_by takes productions rank weight fits (has_empty (productions n)) (Heads.heads takes productions rank weight fits rank (productions n)) (fits.follow n)
          (Completeness.empty_complete takes productions rank weight fits (productions n) (one_of_at [] i (productions n) h)) (Heads.ends_part takes productions rank weight fits n))
          b (record { with = c.with; one = s.0 c.with c.one; good = c.good }))

      derived : (n : N) (p : List (Symbol T N)) (j : ℕ) (rest : List (Coming T N)) (values : Values) (ls : List L) (last : Values) →
          Leads (map coming p ++ C.Over n j ∷ rest) values ls last → Derives (p ++ symbols rest) ls
      derived n p j rest values ls last h = subst (λ (s : List (Symbol T N)). Derives s ls) (symbols_coming p (C.Over n j ∷ rest)) (leads_derives h)

      module _ (n : N) (rest : List (Coming T N)) (values last : Values) where
        -- before a lexeme, where a production begins with it
        module _ (l : L) (ls : List L) (sits : Sits (S.Part n ∷ symbols rest)) (i : ℕ) (b : begun n l ≡ Some i) (q : List (Symbol T N)) (iq : IsAt q i (productions n)) where
          opens_by : (p : List (Symbol T N)) (j : ℕ) → IsAt p j (productions n) → Leads (map coming p ++ C.Over n j ∷ rest) values (l ∷ ls) last →
              Leads (map coming q ++ C.Over n i ∷ rest) values (l ∷ ls) last
          opens_by [] j at h =
              let e = begun_none n j (symbols rest) l ls sits at (derived n [] j rest values (l ∷ ls) last h) in
              absurd cc
          opens_by (s ∷ p) j at h =
              let e = begun_some n j s p (symbols rest) l ls at (derived n (s ∷ p) j rest values (l ∷ ls) last h) in
              let place : j ≡ i = cc in
              let here : IsAt (s ∷ p) i (productions n) = subst (λ (k : ℕ). IsAt (s ∷ p) k (productions n)) place at in
              subst (λ (r : List (Symbol T N)). Leads (map coming r ++ C.Over n i ∷ rest) values (l ∷ ls) last) (same_at (s ∷ p) q i (productions n) here iq)
              (subst (λ (k : ℕ). Leads (map coming (s ∷ p) ++ C.Over n k ∷ rest) values (l ∷ ls) last) place h)

          pub part_opens : Leads (C.Part n ∷ rest) values (l ∷ ls) last → Leads (map coming q ++ C.Over n i ∷ rest) values (l ∷ ls) last
          part_opens (M.part m j at h) = opens_by m.symbols j (made_at n m j at) h

        -- before a lexeme, where none begins with it
        module _ (l : L) (ls : List L) (b : begun n l ≡ None) where
          skips_by : (i : ℕ) → empty_place n ≡ Some i → (p : List (Symbol T N)) (j : ℕ) → IsAt p j (productions n) → Leads (map coming p ++ C.Over n j ∷ rest) values (l ∷ ls) last →
              Leads (C.Over n i ∷ rest) values (l ∷ ls) last
          skips_by i e [] j at h =
              let f = empty_is n j at in
              let place : j ≡ i = cc in
              subst (λ (k : ℕ). Leads (C.Over n k ∷ rest) values (l ∷ ls) last) place h
          skips_by i e (s ∷ p) j at h =
              let f = begun_some n j s p (symbols rest) l ls at (derived n (s ∷ p) j rest values (l ∷ ls) last h) in
              absurd cc

          pub part_skips : (i : ℕ) → empty_place n ≡ Some i → Leads (C.Part n ∷ rest) values (l ∷ ls) last → Leads (C.Over n i ∷ rest) values (l ∷ ls) last
          part_skips i e (M.part m j at h) = skips_by i e m.symbols j (made_at n m j at) h

        -- at the end
        ends_by : (i : ℕ) → empty_place n ≡ Some i → (p : List (Symbol T N)) (j : ℕ) → IsAt p j (productions n) → Leads (map coming p ++ C.Over n j ∷ rest) values [] last →
            Leads (C.Over n i ∷ rest) values [] last
        ends_by i e [] j at h =
            let f = empty_is n j at in
            let place : j ≡ i = cc in
            subst (λ (k : ℕ). Leads (C.Over n k ∷ rest) values [] last) place h
        ends_by i e (s ∷ p) j at h =
            absurd (Theorem.no_end takes productions rank weight fits rank (productions n) (Heads.firm_part takes productions rank weight fits n) (s ∷ p) (symbols rest)
            (one_of_at (s ∷ p) j (productions n) at) tt (derived n (s ∷ p) j rest values [] last h))

        pub part_ends : (i : ℕ) → empty_place n ≡ Some i → Leads (C.Part n ∷ rest) values [] last → Leads (C.Over n i ∷ rest) values [] last
        part_ends i e (M.part m j at h) = ends_by i e m.symbols j (made_at n m j at) h

-- Lexemes are read as one value at most.
use Rattle.std.proofs.Common.{◌≡◌, refl, sym, ap, ◌∙◌, subst, ℕ, inl, inr, ◌⊎◌, Bool, true, List, [], ◌∷◌, ◌++◌, map}
use Rattle.table_reader.specs.declared.symbol.Symbol.{Symbol}
use Rattle.table_reader.specs.declared.symbol.Symbol.TheVariants as S
use Rattle.table_reader.specs.declared.take.Take.{Take}
use Rattle.table_reader.specs.Steps.{has_empty}
use Rattle.table_reader.specs.Derivations as D
use Rattle.table_reader.specs.Derivations.{IsOneOf}
use Rattle.table_reader.specs.Conditions as C
use Rattle.table_reader.specs.Conditions.{single}
use Rattle.table_reader.specs.Reading as R
use Rattle.table_reader.specs.Reading.{Made, Parts}
use Rattle.table_reader.proofs.Readings as Readings
use Rattle.table_reader.proofs.Readings.{of_plain}
use Rattle.table_reader.proofs.Heads as Heads
use Rattle.table_reader.proofs.Following as Following
use Rattle.table_reader.proofs.Completeness as Completeness
use Rattle.table_reader.proofs.Theorem as Theorem
use Rattle.table_reader.proofs.Beginnings as B
use Rattle.table_reader.proofs.Heads.{left_of, right_of}

module _ {T N L : Type 0} (takes : T → L → Take L) (carrier : N → Type 0) (made : (n : N) → List (Made T N L carrier n)) (rank : ℕ) (weight : L → ℕ)
    (fits : C.Fits takes (Readings.productions takes carrier made) rank weight) where
  abbrev Symbols : Type 0
  Symbols = List (Symbol T N)

  abbrev prods : N → List Symbols
  prods n = Readings.productions takes carrier made n

  abbrev Way : N → Type 0
  Way n = Made T N L carrier n

  abbrev plain : (n : N) → List (Way n) → List Symbols
  plain n ms = map (λ (m : Way n). m.symbols) ms

  abbrev Derives : Symbols → List L → Type 0
  Derives s ls = D.Derives takes prods s ls

  abbrev heads : ℕ → List Symbols → List T
  heads d ps = Heads.heads takes prods rank weight fits d ps

  abbrev firm : ℕ → List Symbols → Bool
  firm d ps = Heads.firm takes prods rank weight fits d ps

  abbrev all_apart : List T → Bool
  all_apart ts = Heads.all_apart takes prods rank weight fits ts

  abbrev Sits : Symbols → Type 0
  Sits s = Following.Sits takes prods rank weight fits s

  abbrev IsSome : Symbols → Type 0
  IsSome s = Heads.IsSome takes prods rank weight fits s

  abbrev Begins : List T → L → Type 0
  Begins ts l = Heads.Begins takes prods rank weight fits ts l

  begins : (d : ℕ) (ps : List Symbols) → firm d ps ≡ true → (q rest : Symbols) (l : L) (ls : List L) → IsOneOf q ps → IsSome q → Derives (q ++ rest) (l ∷ ls) → Begins (heads d ps) l
  begins d ps h q rest l ls i s x = Heads.begun_heads takes prods rank weight fits d ps h q rest l ls i s x

  same_made : (n : N) (d : ℕ) (ms : List (Way n)) → firm d (plain n ms) ≡ true → all_apart (heads d (plain n ms)) ≡ true → (a b : Way n) (rest : Symbols) (l : L) (ls : List L) →
      IsOneOf a ms → IsOneOf b ms → IsSome a.symbols → IsSome b.symbols → Derives (a.symbols ++ rest) (l ∷ ls) → Derives (b.symbols ++ rest) (l ∷ ls) → a ≡ b
  same_made n d [] h g a b rest l ls i j s t x y = absurd i
  same_made n d (m ∷ ms) h g a b rest l ls (inl e) (inl f) s t x y = e ∙ sym f
  same_made n d (m ∷ ms) h g a b rest l ls (inl e) (inr j) s t x y =
      absurd (B.first_clash takes prods rank weight fits d m.symbols (plain n ms) l g
      (begins d (m.symbols ∷ []) (B.firm_one takes prods rank weight fits d m.symbols (plain n ms) h) a.symbols rest l ls (inl (ap (λ (w : Way n). w.symbols) e)) s x)
      (begins d (plain n ms) (B.firm_tail takes prods rank weight fits d m.symbols (plain n ms) h) b.symbols rest l ls (of_plain carrier n b ms j) t y))
  same_made n d (m ∷ ms) h g a b rest l ls (inr i) (inl f) s t x y =
      absurd (B.first_clash takes prods rank weight fits d m.symbols (plain n ms) l g
      (begins d (m.symbols ∷ []) (B.firm_one takes prods rank weight fits d m.symbols (plain n ms) h) b.symbols rest l ls (inl (ap (λ (w : Way n). w.symbols) f)) t y)
      (begins d (plain n ms) (B.firm_tail takes prods rank weight fits d m.symbols (plain n ms) h) a.symbols rest l ls (of_plain carrier n a ms i) s x))
  same_made n d (m ∷ ms) h g a b rest l ls (inr i) (inr j) s t x y =
      same_made n d ms (B.firm_tail takes prods rank weight fits d m.symbols (plain n ms) h) (B.tail_apart takes prods rank weight fits d m.symbols (plain n ms) g) a b rest l ls i j s t x y

  -- empty ones
  has_it : (ps : List Symbols) → IsOneOf [] ps → has_empty ps ≡ true
  has_it ps h = Completeness.empty_complete takes prods rank weight fits ps h

  first_by : (x : Symbols) (ps : List Symbols) → x ≡ [] → single (x ∷ ps) ≡ true → IsOneOf [] ps → ⊥
  first_by [] ps e h i = Heads.not_true (has_empty ps) h (has_it ps i)
  first_by (s ∷ p) ps e h i = cc

  later_by : (x : Symbols) (ps : List Symbols) → single (x ∷ ps) ≡ true → IsOneOf [] ps → single ps ≡ true
  later_by [] ps h i = absurd (Heads.not_true (has_empty ps) h (has_it ps i))
  later_by (s ∷ p) ps h i = h

  empty_one : (n : N) (a : Way n) (ms : List (Way n)) → IsOneOf a ms → a.symbols ≡ [] → IsOneOf [] (plain n ms)
  empty_one n a ms i e = subst (λ (q : Symbols). IsOneOf q (plain n ms)) e (of_plain carrier n a ms i)

  same_empty : (n : N) (ms : List (Way n)) → single (plain n ms) ≡ true → (a b : Way n) → IsOneOf a ms → IsOneOf b ms → a.symbols ≡ [] → b.symbols ≡ [] → a ≡ b
  same_empty n [] h a b i j e f = absurd i
  same_empty n (m ∷ ms) h a b (inl x) (inl y) e f = x ∙ sym y
  same_empty n (m ∷ ms) h a b (inl x) (inr j) e f = absurd (first_by m.symbols (plain n ms) (ap (λ (w : Way n). w.symbols) (sym x) ∙ e) h (empty_one n b ms j f))
  same_empty n (m ∷ ms) h a b (inr i) (inl y) e f = absurd (first_by m.symbols (plain n ms) (ap (λ (w : Way n). w.symbols) (sym y) ∙ f) h (empty_one n a ms i e))
  same_empty n (m ∷ ms) h a b (inr i) (inr j) e f = same_empty n ms (later_by m.symbols (plain n ms) h (empty_one n a ms i e)) a b i j e f

  -- the production is forced
  some_or : (p : Symbols) → (p ≡ []) ⊎ IsSome p
  some_or [] = inl refl
  some_or (s ∷ p) = inr tt

  one_is_empty : (n : N) (a b : Way n) (rest : Symbols) (ls : List L) → Sits (S.Part n ∷ rest) → IsOneOf a (made n) → IsOneOf b (made n) → a.symbols ≡ [] → IsSome b.symbols →
      Derives rest ls → Derives (b.symbols ++ rest) ls → ⊥
  one_is_empty n a b rest [] h i j e t x y = Theorem.no_end takes prods rank weight fits rank (prods n) (Heads.firm_part takes prods rank weight fits n) b.symbols rest (of_plain carrier n b (made n) j) t y
  one_is_empty n a b rest (l ∷ ls) h i j e t x y =
      let c = Completeness.derives_begins takes prods rank weight fits rest l ls x in
      Heads.clash takes prods rank weight fits (heads rank (prods n)) (fits.follow n) l
      (Completeness.ends_by takes prods rank weight fits (has_empty (prods n)) (heads rank (prods n)) (fits.follow n) (has_it (prods n) (empty_one n a (made n) i e)) (Heads.ends_part takes prods rank weight fits n))
      (begins rank (prods n) (Heads.firm_part takes prods rank weight fits n) b.symbols rest l ls (of_plain carrier n b (made n) j) t y)
      (record { with = c.with; one = h.0 c.with c.one; good = c.good })

  none_left : (n : N) (a : Way n) (rest : Symbols) (ls : List L) → a.symbols ≡ [] → Derives (a.symbols ++ rest) ls → Derives rest ls
  none_left n a rest ls e x = subst (λ (q : Symbols). Derives (q ++ rest) ls) e x

  both_some : (n : N) (a b : Way n) (rest : Symbols) (ls : List L) → IsOneOf a (made n) → IsOneOf b (made n) → IsSome a.symbols → IsSome b.symbols →
      Derives (a.symbols ++ rest) ls → Derives (b.symbols ++ rest) ls → a ≡ b
  both_some n a b rest [] i j s t x y = absurd (Theorem.no_end takes prods rank weight fits rank (prods n) (Heads.firm_part takes prods rank weight fits n) a.symbols rest (of_plain carrier n a (made n) i) s x)
  both_some n a b rest (l ∷ ls) i j s t x y =
      same_made n rank (made n) (Heads.firm_part takes prods rank weight fits n) (Heads.heads_part takes prods rank weight fits n) a b rest l ls i j s t x y

  forced_by : (n : N) (a b : Way n) (rest : Symbols) (ls : List L) → Sits (S.Part n ∷ rest) → IsOneOf a (made n) → IsOneOf b (made n) →
      ((a.symbols ≡ []) ⊎ IsSome a.symbols) → ((b.symbols ≡ []) ⊎ IsSome b.symbols) → Derives (a.symbols ++ rest) ls → Derives (b.symbols ++ rest) ls → a ≡ b
  forced_by n a b rest ls h i j (inl e) (inl f) x y = same_empty n (made n) (Heads.single_part takes prods rank weight fits n) a b i j e f
  forced_by n a b rest ls h i j (inl e) (inr t) x y = absurd (one_is_empty n a b rest ls h i j e t (none_left n a rest ls e x) y)
  forced_by n a b rest ls h i j (inr s) (inl f) x y = absurd (one_is_empty n b a rest ls h j i f s (none_left n b rest ls f y) x)
  forced_by n a b rest ls h i j (inr s) (inr t) x y = both_some n a b rest ls i j s t x y

  -- the value is one
  abbrev Values : Symbols → Type 0
  Values p = Parts T N L carrier p

  abbrev ReadsAll : (p : Symbols) → List L → List L → Values p → Type 0
  ReadsAll p ls us vs = R.ReadsAll takes carrier made p ls us vs

  abbrev Reads : (n : N) → List L → List L → carrier n → Type 0
  Reads n ls us v = R.Reads takes carrier made n ls us v

  pub record Other (n : N) (a : Way n) (ls us : List L) (w : carrier n) : Type 0 where
    pub values : Values a.symbols
    pub reads : ReadsAll a.symbols ls us values
    pub same : a.make values ≡ w

  moved : (n : N) (a b : Way n) (ls us : List L) (vs : Values b.symbols) → b ≡ a → ReadsAll b.symbols ls us vs → Other n a ls us (b.make vs)
  moved n a b ls us vs e r = subst (λ (c : Way n). Other n c ls us (b.make vs)) e (record { values = vs; reads = r; same = refl })

  sits_in : (n : N) (a : Way n) (rest : Symbols) → IsOneOf a (made n) → Sits (S.Part n ∷ rest) → Sits (a.symbols ++ rest)
  sits_in n a rest i h =
      Following.sits_append takes prods rank weight fits a.symbols rest (fits.follow n)
      (Heads.all_of (λ p. Heads.sits takes prods rank weight fits p (fits.follow n)) (prods n) a.symbols (Heads.sits_part takes prods rank weight fits n) (of_plain carrier n a (made n) i)) h.0 h.1

  sits_after : (p q : Symbols) → Sits (p ++ q) → Sits q
  sits_after [] q h = h
  sits_after (S.Token t ∷ p) q h = sits_after p q h
  sits_after (S.Part n ∷ p) q h = sits_after p q h.1

  mutual
    pub part_unique : (n : N) (ls us others : List L) (v w : carrier n) (rest : Symbols) → Sits (S.Part n ∷ rest) → Reads n ls us v → Reads n ls others w →
        Derives rest us → Derives rest others → (us ≡ others) × (v ≡ w)
    part_unique n ls us others _ _ rest h (R.by a i vs r) (R.by b j ws q) d e =
        let x = Readings.all_derived takes carrier made a.symbols ls us vs rest r d in
        let y = Readings.all_derived takes carrier made b.symbols ls others ws rest q e in
        let same = forced_by n a b rest ls h i j (some_or a.symbols) (some_or b.symbols) x y in
        let o = moved n a b ls others ws (sym same) q in
        let u = all_unique a.symbols ls us others vs o.values rest (sits_in n a rest i h) r o.reads d e in
        (u.0, ap a.make u.1 ∙ o.same)

    pub all_unique : (p : Symbols) (ls us others : List L) (vs ws : Values p) (rest : Symbols) → Sits (p ++ rest) → ReadsAll p ls us vs → ReadsAll p ls others ws →
        Derives rest us → Derives rest others → (us ≡ others) × (vs ≡ ws)
    all_unique [] ls _ _ _ _ rest h R.nothing R.nothing d e = (refl, refl)
    all_unique (S.Token t ∷ p) [] us others vs ws rest h r q d e = elim r [ ]
    all_unique (S.Token t ∷ p) (l ∷ ls) us others _ _ rest h (R.token {vs = vs} x r) (R.token {vs = ws} y q) d e =
        let u = all_unique p ls us others vs ws rest h r q d e in (u.0, ap (λ (zs : Values p). (let z : Values (S.Token t ∷ p) = (l, zs) in z)) u.1)
    all_unique (S.Token t ∷ p) (l ∷ ls) us others _ _ rest h (R.token {vs = vs} x r) (R.piece {vs = ws} half k y q) d e = let f = sym x ∙ y in absurd cc
    all_unique (S.Token t ∷ p) (l ∷ ls) us others _ _ rest h (R.piece {vs = vs} half k x r) (R.token {vs = ws} y q) d e = let f = sym x ∙ y in absurd cc
    all_unique (S.Token t ∷ p) (l ∷ ls) us others _ _ rest h (R.piece {vs = vs} half k x r) (R.piece {vs = ws} bit m y q) d e =
        let f = sym x ∙ y in
        let same : m ≡ k = cc in
        let front : bit ≡ half = cc in
        let u = all_unique p (k ∷ ls) us others vs ws rest h r (subst (λ (c : L). ReadsAll p (c ∷ ls) others ws) same q) d e in
        (u.0, (λ i. (sym front i, u.1 i)))
    all_unique (S.Part n ∷ p) ls us others _ _ rest h (R.part {ms = ms} {v = v} {vs = vs} r rs) (R.part {ms = ns} {v = w} {vs = ws} q qs) d e =
        let x = Readings.all_derived takes carrier made p ms us vs rest rs d in
        let y = Readings.all_derived takes carrier made p ns others ws rest qs e in
        let one = part_unique n ls ms ns v w (p ++ rest) h r q x y in
        let u = all_unique p ms us others vs ws rest h.1 rs (subst (λ (c : List L). ReadsAll p c others ws) (sym one.0) qs) d e in
        (u.0, (λ i. (one.1 i, u.1 i)))

  -- all lexemes
  pub unique : (n : N) (ls : List L) (v w : carrier n) → Reads n ls [] v → Reads n ls [] w → v ≡ w
  unique n ls v w r q = (part_unique n ls [] [] v w [] ((λ t i. absurd i), tt) r q D.nothing D.nothing).1

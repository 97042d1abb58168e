-- Where the newest value of a variable stands.
use Rattle.std.proofs.Common.{◌≡◌, ℕ, zero, suc, ◌<◌, ◌≤◌, Bool, [], ◌∷◌, ◌++◌, take, drop, refl, sym, ap, subst, arith, ne_eqb, eq-eqb}
use Rattle.std.specs.Prelude.{Option, Some, None, slice_get, if◌then◌else◌, ◌==◌}
use Rattle.std.specs.Option.{option_or}
use Rattle.pure_ast.specs.Values.{PValue}
use Rattle.text_meaning.specs.Environment.{Environment, lookup, with_value}
use Rattle.pure_eval.specs.Ascending.{Ascends}

abbrev Entry : Type 0
Entry = ℕ × PValue

-- the value of one entry
abbrev own : Entry → ℕ → Option PValue
own e v = if e.0 == v then Some e.1 else None

own_not : (e : Entry) (v : ℕ) → (e.0 ≡ v → ⊥) → own e v ≡ None
own_not e v n = ap (λ (b : Bool). if b then Some e.1 else None) (ne_eqb e.0 v n)

own_is : (e : Entry) → own e e.0 ≡ Some e.1
own_is e = ap (λ (b : Bool). if b then Some e.1 else None) (eq-eqb e.0 e.0 refl)

-- numbers all above v
pub above : (low high : ℕ) (env : Environment) (v : ℕ) → Ascends low high env → v < low → lookup env v ≡ None
above low high [] v h l = refl
above low high (e ∷ env) v h l =
    let le : low ≤ e.0 = h.0 in
    let n : e.0 ≡ v → ⊥ = λ q. omega arith in
    rw (above (suc e.0) high env v h.1 (omega arith), own_not e v n) refl

some_same : {A : Type 0} (a b : A) → Some a ≡ Some b → a ≡ b
some_same a b p = cc

-- an entry in its place is above the least number
least : (low high : ℕ) (env : Environment) (i : ℕ) (e : Entry) → Ascends low high env → slice_get env i ≡ Some e → low ≤ e.0
least low high [] i e h p = absurd cc
least low high (x ∷ env) zero e h p = subst (λ (y : Entry). low ≤ y.0) (some_same x e p) h.0
least low high (x ∷ env) (suc i) e h p =
    let m = least (suc x.0) high env i e h.1 p in
    let l : low ≤ x.0 = h.0 in
    omega arith

-- the entry of this number has its value
pub hit : (low high : ℕ) (env : Environment) (i : ℕ) (e : Entry) → Ascends low high env → slice_get env i ≡ Some e →
    lookup env e.0 ≡ Some e.1
hit low high [] i e h p = absurd cc
hit low high (x ∷ env) zero e h p =
    let same = some_same x e p in
    subst (λ (y : Entry). lookup (x ∷ env) y.0 ≡ Some y.1) same
    (rw (above (suc x.0) high env x.0 h.1 (omega arith), own_is x) refl)
hit low high (x ∷ env) (suc i) e h p = rw (hit (suc x.0) high env i e h.1 p) refl

-- from an entry of a greater number on there is none
pub none_from : (low high : ℕ) (env : Environment) (i : ℕ) (e : Entry) (v : ℕ) → Ascends low high env → slice_get env i ≡ Some e →
    v < e.0 → lookup (drop i env) v ≡ None
none_from low high [] i e v h p l = absurd cc
none_from low high (x ∷ env) zero e v h p l =
    let same = some_same x e p in
    let l2 : v < x.0 = subst (λ (y : Entry). v < y.0) (sym same) l in
    above x.0 high (x ∷ env) v (omega arith, h.1) l2
none_from low high (x ∷ env) (suc i) e v h p l = none_from (suc x.0) high env i e v h.1 p l

-- up to an entry of a smaller number there is none
pub none_to : (low high : ℕ) (env : Environment) (i : ℕ) (e : Entry) (v : ℕ) → Ascends low high env → slice_get env i ≡ Some e →
    e.0 < v → lookup (take (suc i) env) v ≡ None
none_to low high [] i e v h p l = absurd cc
none_to low high (x ∷ env) zero e v h p l =
    let same = some_same x e p in
    let l2 : x.0 < v = subst (λ (y : Entry). y.0 < v) (sym same) l in
    let n : x.0 ≡ v → ⊥ = λ q. omega arith in
    own_not x v n
none_to low high (x ∷ env) (suc i) e v h p l =
    let m = least (suc x.0) high env i e h.1 p in
    let n : x.0 ≡ v → ⊥ = λ q. omega arith in
    rw (none_to (suc x.0) high env i e v h.1 p l, own_not x v n) refl

or_first : {A : Type 0} (o p : Option A) → option_or o p ≡ None → o ≡ None
or_first None p h = refl
or_first (Some x) p h = absurd cc

or_second : {A : Type 0} (o p : Option A) → option_or o p ≡ None → p ≡ None
or_second None p h = h
or_second (Some x) p h = absurd cc

or_or : {A : Type 0} (o p q : Option A) → option_or (option_or o p) q ≡ option_or o (option_or p q)
or_or None p q = refl
or_or (Some x) p q = refl

or_none : {A : Type 0} (o : Option A) → option_or o None ≡ o
or_none None = refl
or_none (Some x) = refl

-- neither among the first nor among the others
pub none_join : (k : ℕ) (env : Environment) (v : ℕ) → lookup (take k env) v ≡ None → lookup (drop k env) v ≡ None → lookup env v ≡ None
none_join zero env v p q = q
none_join (suc k) [] v p q = refl
none_join (suc k) (x ∷ env) v p q =
    let first = or_first (lookup (take k env) v) (own x v) p in
    let second = or_second (lookup (take k env) v) (own x v) p in
    rw (none_join k env v first q, second) refl

-- one entry more at the end
pub lookup_more : (env : Environment) (e : Entry) (v : ℕ) → lookup (env ++ e ∷ []) v ≡ option_or (own e v) (lookup env v)
lookup_more [] e v = sym (or_none (own e v))
lookup_more (x ∷ env) e v = rw (lookup_more env e v) (or_or (own e v) (lookup env v) (own x v))

-- numbers ascend with one more at the end
pub ascends_more : (low high : ℕ) (env : Environment) (v : ℕ) (a : PValue) → Ascends low high env → high ≤ v → Ascends low (suc v) (with_value env v a)
ascends_more low high [] v a h l = (omega arith, omega arith)
ascends_more low high (e ∷ env) v a h l = (h.0, ascends_more (suc e.0) high env v a h.1 l)

-- the first k of a list, where the last of them is known
take_last : (env : Environment) (i : ℕ) (e : Entry) → slice_get env i ≡ Some e → take (suc i) env ≡ take i env ++ e ∷ []
take_last [] i e p = absurd cc
take_last (x ∷ env) zero e p = ap (λ (y : Entry). y ∷ []) (some_same x e p)
take_last (x ∷ env) (suc i) e p = ap (λ (ys : Environment). x ∷ ys) (take_last env i e p)

-- among the first k, the last one's value comes before the others'
pub newest_hit : (env : Environment) (k i : ℕ) (e : Entry) (v : ℕ) → slice_get env i ≡ Some e → k ≡ suc i → e.0 ≡ v →
    lookup (take k env) v ≡ Some e.1
newest_hit env k i e v p q r =
    rw (q, take_last env i e p, lookup_more (take i env) e v, ← r, own_is e) refl

pub newest_other : (env : Environment) (k i : ℕ) (e : Entry) (v : ℕ) → slice_get env i ≡ Some e → k ≡ suc i → (e.0 ≡ v → ⊥) →
    lookup (take k env) v ≡ lookup (take i env) v
newest_other env k i e v p q r =
    rw (q, take_last env i e p, lookup_more (take i env) e v, own_not e v r) refl

-- What an answer without fault tells of its steps.
use Rattle.std.proofs.Common.{◌≡◌, ℕ, suc, ◌+◌, List, [], ◌∷◌, length, refl, ap, sym, ◌∙◌, subst, arith}
use Rattle.std.proofs.lemmas.Bool.{eqb-true}
use Rattle.std.specs.Prelude.{Bool, true, false, not, ◌==◌, if◌then◌else◌, Result, Ok, Err, Option, Some, None, bytes_eq, slice_get, slice_set}
use Rattle.aen_base.specs.declared.span.Span.{Span}
use Rattle.core_ty.specs.Shape.{is_copy}
use Rattle.core_ty.specs.Types as t
use Rattle.rust_ast.specs.SpelledPatterns as q
use Rattle.type_rules.specs.Binding.{Met, bound, bound_as, taken}
use Rattle.type_rules.specs.Constructors.{is_no_tuple, put_in_fields, tuple_types}
use Rattle.type_rules.specs.Faults.{Fault, and_then, limited, refuse}
use Rattle.type_rules.specs.Fields.{field_named}
use Rattle.type_rules.specs.FitsPatterns.{IsTuple, tuple_parts}
use Rattle.type_rules.specs.TypeFacts.{count, is_large, no_region}
use Rattle.type_rules.specs.declared.fault.KindOfFault.{KindOfFault}
use Rattle.type_rules.specs.declared.fault.KindOfFault.TheVariants.{MoveOut}

abbrev value_or : {A : Type 0} → A → Result A Fault → A
value_or d (Ok a) = a
value_or d (Err x) = d

abbrev Both : {A : Type 0} → Result A Fault → Result A Fault → Type 0
Both o p = o ≡ p

pub ok_is : {A : Type 0} {a b : A} → Both (Ok a) (Ok b) → a ≡ b
ok_is {A} {a} {b} h = ap (value_or a) h

pub passed : {A B : Type 0} (o : Result A Fault) (f : A → Result B Fault) (b : B) → and_then o f ≡ Ok b → (a : A) × ((o ≡ Ok a) × (f a ≡ Ok b))
passed (Ok a) f b h = (a, (refl, h))
passed (Err x) f b h = absurd cc

pub unrefused : {A : Type 0} (b : Bool) (p : Span) (k : KindOfFault) (r : Result A Fault) (y : A) → refuse b p k r ≡ Ok y → (b ≡ false) × (r ≡ Ok y)
unrefused true p k r y h = absurd cc
unrefused false p k r y h = (refl, h)

pub unlimited : {A : Type 0} (b : Bool) (r : Result A Fault) (y : A) → limited b r ≡ Ok y → r ≡ Ok y
unlimited true r y h = absurd cc
unlimited false r y h = h

pub not_false : (b : Bool) → not b ≡ false → b ≡ true
not_false true h = refl
not_false false h = absurd cc

-- ---- what a name gives is a name

module _ (P : q.Pat → Type 0) (names : (s : Span) (k : ℕ) (m : q.Mode) → P (q.bind s k m)) where
  abbrev Named : Result (q.Pat × List t.Ty) Fault → Type 0
  Named o = (r : q.Pat × List t.Ty) → o ≡ Ok r → P r.0

  a_name : (s : Span) (k : ℕ) (m : q.Mode) (ts : List t.Ty) → Named (Ok (q.bind s k m, ts))
  a_name s k m ts r h = subst P (ap (λ z. z.0) (ok_is h)) (names s k m)

  taken_named : (s name : Span) (k : ℕ) (x : t.Ty) (behind : Bool) (ts : List t.Ty) → Named (taken s name k x behind ts)
  taken_named s name k x behind ts r h = by_copy (is_copy x) h where
    by_copy : (c : Bool) → (if c then limited (is_large x) (Ok (q.bind s k q.copy, slice_set ts k x)) else refuse behind name MoveOut (limited (is_large x) (Ok (q.bind s k q.move, slice_set ts k x)))) ≡ Ok r → P r.0
    by_copy true h = a_name s k q.copy (slice_set ts k x) r (unlimited (is_large x) _ r h)
    by_copy false h = a_name s k q.move (slice_set ts k x) r (unlimited (is_large x) _ r (unrefused behind name MoveOut _ r h).1)

  bound_named_as : (s name : Span) (k : ℕ) (behind : Bool) (ts : List t.Ty) (mutable : Bool) (o : Option t.Ty) (kind : Option Bool) → Named (bound_as s name k behind ts mutable o kind)
  bound_named_as s name k behind ts mutable None kind r h = a_name s k q.move ts r h
  bound_named_as s name k behind ts false (Some x) (Some m) r h = a_name s k (q.refer m) (slice_set ts k (t.ref no_region m x)) r (unlimited (is_large (t.ref no_region m x)) _ r h)
  bound_named_as s name k behind ts false (Some x) None r h = taken_named s name k x behind ts r h
  bound_named_as s name k behind ts true (Some x) None r h = taken_named s name k x behind ts r h
  bound_named_as s name k behind ts true (Some x) (Some m) r h = taken_named s name k x behind ts r h

  pub bound_named : (s name : Span) (mutable : Bool) (k : ℕ) (m : Met) (ts : List t.Ty) → Named (bound s name mutable k m ts)
  unfolding bound
  bound_named s name mutable k m ts = bound_named_as s name k m.behind ts mutable m.part m.kind

-- ---- tuples

count_list : (xs : t.Tys) → length (t.tys_list xs) ≡ count xs
count_list t.no_tys = refl
count_list (t.more_tys x xs) = ap suc (count_list xs)

-- a type that is met by a tuple of n parts
pub record IsMetBy (n : ℕ) (x : t.Ty) : Type 0 where
  pub tuple : IsTuple n x
  pub long : n ≡ length (tuple_types n (Some x))
  pub parts : tuple_types n (Some x) ≡ tuple_parts x

pub met_by : (n : ℕ) (x : t.Ty) → is_no_tuple n (Some x) ≡ false → IsMetBy n x
met_by n (t.int i) h = absurd cc
met_by n t.bool h = absurd cc
met_by n t.unit h = record { tuple = eqb-true n 0 (not_false (n == 0) h); long = eqb-true n 0 (not_false (n == 0) h); parts = refl }
met_by n (t.tuple xs) h =
    let e = not_false (count xs == n) h in
    let c = eqb-true (count xs) n e in
    let p : tuple_types n (Some (t.tuple xs)) ≡ t.tys_list xs = ap (λ b. if b then t.tys_list xs else []) e in
    record { tuple = sym c; long = sym c ∙ sym (count_list xs) ∙ ap length (sym p); parts = p }
met_by n (t.named d xs) h = absurd cc
met_by n (t.param k) h = absurd cc
met_by n (t.boxed x) h = absurd cc
met_by n (t.ref r m x) h = absurd cc

-- ---- fields

pub put_length : (args : List t.Ty) (fs : List (List ℕ × t.Ty)) → length (put_in_fields (Some args) fs) ≡ length fs
put_length args [] = refl
put_length args (f ∷ fs) = ap suc (put_length args fs)

-- a field that has a name stands in its place
pub record IsPlaced (k : ℕ) (fs : List (List ℕ × t.Ty)) (f : ℕ × t.Ty) : Type 0 where
  pub place : ℕ
  pub name : List ℕ
  pub number : f.0 ≡ k + place
  pub there : slice_get fs place ≡ Some (name, f.1)

abbrev some_or : {A : Type 0} → A → Option A → A
some_or d (Some a) = a
some_or d None = d

placed_at : (name : List ℕ) (k : ℕ) (g : List ℕ × t.Ty) (gs : List (List ℕ × t.Ty)) (f : ℕ × t.Ty) → (field_named name (k + 1) gs ≡ Some f → IsPlaced (k + 1) gs f) → (b : Bool) →
    (if b then Some (k, g.1) else field_named name (k + 1) gs) ≡ Some f → IsPlaced k (g ∷ gs) f
placed_at name k g gs f more true h =
    let e : (k, g.1) ≡ f = ap (some_or (k, g.1)) h in
    record { place = 0; name = g.0; number = sym (ap (λ z. z.0) e) ∙ omega arith; there = ap (λ z. Some (g.0, z)) (ap (λ z. z.1) e) }
placed_at name k g gs f more false h =
    let p = more h in
    let n = p.number in
    record { place = suc p.place; name = p.name; number = omega (arith, n); there = p.there }

pub placed : (name : List ℕ) (k : ℕ) (fs : List (List ℕ × t.Ty)) (f : ℕ × t.Ty) → field_named name k fs ≡ Some f → IsPlaced k fs f
placed name k [] f h = absurd cc
placed name k (g ∷ gs) f h = placed_at name k g gs f (placed name (k + 1) gs f) (bytes_eq g.0 name) h

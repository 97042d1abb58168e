-- A declaration that the search doesn't find among its own types doesn't contain itself: a closed
-- table says so.
use Rattle.std.proofs.Common.{◌≡◌, ℕ, ◌+◌, ◌<◌, ◌≤◌, Bool, true, false, not, ◌&&◌, ◌||◌, nat_lt, nat_le, ◌==◌, List, length, length-set, replicate, slice_get, slice_set, slice_index_or, Some, ◌⊎◌, inl, inr, refl, sym, ◌∙◌, ap, subst, arith}
use Rattle.std.specs.List.{All}
use Rattle.std.specs.Bool.{MatchBool}
use Rattle.std.proofs.lemmas.List.{length-replicate}
use Rattle.std.proofs.lemmas.Bool.{lt-ltb, ltb-true, le-leb, leb-true, eq-eqb, eqb-true, and_parts, and_from, or_left, or_right, or_cases, cases_Bool, cases_lt, true≢false}
use Rattle.std.proofs.lemmas.Option.{slice_get_within}
use Rattle.aen_base.specs.declared.ids.TypeId.{TypeId}
use Rattle.core_ty.specs.declared.decl.TypeDecl.{TypeDecl}
use Rattle.core_ty.specs.declared.parts.Part.{Part}
use Rattle.core_ty.specs.declared.parts.Part.TheVariants.{Parameter, Declared}
use Rattle.core_ty.specs.Containment.{Table, IsClosed, IsOf, IsEndless, parts_of_variants}
use Rattle.core_ty.specs.Marks.{is_set, row_of, marked, HasShape, IsMarked, IsComplete, IsSeen, IsReach, parts_by, AreSound, IsClear}
use Rattle.core_ty.proofs.Tables.{fewer, row_fits, unset_everywhere}
use Rattle.core_ty.proofs.Reaching.{set_from}

module _ (ds : List TypeDecl) (rows : List (List Bool)) (start : ℕ) (seen : List Bool)
    (shape : HasShape ds rows) (complete : (d : ℕ) → IsComplete ds rows d) (same : length seen ≡ length ds)
    (first : (decl : TypeDecl) → slice_get ds start ≡ Some decl → All (IsSeen seen) (parts_by rows decl))
    (beyond : (e : ℕ) (decl : TypeDecl) → is_set seen e ≡ true → slice_get ds e ≡ Some decl → All (IsSeen seen) (parts_by rows decl)) where
  -- whether the search came to this declaration
  abbrev visited : ℕ → Bool
  visited d = (d == start) || is_set seen d

  -- whether it saw this type, if there is one
  abbrev met : ℕ → Bool
  met e = is_set seen e || nat_le (length ds) e

  abbrev table : Table
  table d (Parameter k) = marked rows d (Parameter k)
  table d (Declared e) = nat_lt d (length ds) && (not (visited d) || met e.0)

  met_seen : (e : ℕ) → (e < length ds) ⊎ (length ds ≤ e) → (e < length seen → is_set seen e ≡ true) → met e ≡ true
  met_seen e (inl low) h = or_left (is_set seen e) (nat_le (length ds) e) (h (omega (arith, same)))
  met_seen e (inr high) h = or_right (is_set seen e) (nat_le (length ds) e) (le-leb (length ds) e high)

  has_type : (d : ℕ) (e : TypeId) → d < length ds → (visited d ≡ true → met e.0 ≡ true) → (visited d ≡ true) ⊎ (visited d ≡ false) →
      table d (Declared e) ≡ true
  has_type d e low h (inl v) =
      and_from (nat_lt d (length ds)) (not (visited d) || met e.0) (lt-ltb d (length ds) low)
      (or_right (not (visited d)) (met e.0) (h v))
  has_type d e low h (inr v) =
      and_from (nat_lt d (length ds)) (not (visited d) || met e.0) (lt-ltb d (length ds) low)
      (or_left (not (visited d)) (met e.0) (ap not v))

  Fits : ℕ → ℕ → Part → Type 0
  Fits n d p = IsOf n p → table d p ≡ true

  part_fits : (d : ℕ) (decl : TypeDecl) → slice_get ds d ≡ Some decl → (p : Part) → IsMarked (row_of rows d) p →
      (visited d ≡ true → IsSeen seen p) → Fits (length decl.params) d p
  unfolding Fits
  part_fits d decl at (Parameter k) m v = λ low. m (omega (arith, row_fits ds rows d decl shape at))
  part_fits d decl at (Declared e) m v = λ of.
      has_type d e (slice_get_within ds d decl at) (λ x. met_seen e.0 (cases_lt e.0 (length ds)) (v x)) (cases_Bool (visited d))

  seen_parts : (d : ℕ) (decl : TypeDecl) → slice_get ds d ≡ Some decl → visited d ≡ true → All (IsSeen seen) (parts_by rows decl)
  seen_parts d decl at v = seen_by d decl at (or_cases (d == start) (is_set seen d) v)
    where
      seen_by : (d : ℕ) (decl : TypeDecl) → slice_get ds d ≡ Some decl → ((d == start) ≡ true) ⊎ (is_set seen d ≡ true) →
          All (IsSeen seen) (parts_by rows decl)
      seen_by d decl at (inl x) = first decl (ap (λ i. slice_get ds i) (sym (eqb-true d start x)) ∙ at)
      seen_by d decl at (inr x) = beyond d decl x at

  parts_fit : (d : ℕ) (decl : TypeDecl) → slice_get ds d ≡ Some decl → All (Fits (length decl.params) d) (parts_of_variants table decl.variants)
  parts_fit d decl at =
      fewer table (marked rows) (λ e k h. h) (Fits (length decl.params) d) decl.variants
      (λ k z low. part_fits d decl at (slice_index_or (parts_by rows decl) k z) (complete d decl at k z low)
      (λ v. seen_parts d decl at v k z low))

  goes_onward : (d : ℕ) (m e : TypeId) → table d (Declared m) ≡ true → table m.0 (Declared e) ≡ true → table d (Declared e) ≡ true
  goes_onward d m e h k =
      let low = and_parts (nat_lt d (length ds)) (not (visited d) || met m.0) h in
      let next = and_parts (nat_lt m.0 (length ds)) (not (visited m.0) || met e.0) k in
      has_type d e (ltb-true d (length ds) low.0) (λ v. onward v low.1 next.0 next.1) (cases_Bool (visited d))
    where
      came : (not (visited d) || met m.0) ≡ true → visited d ≡ true → met m.0 ≡ true
      came x v = by (or_cases (not (visited d)) (met m.0) x)
        where
          by : (not (visited d) ≡ true) ⊎ (met m.0 ≡ true) → met m.0 ≡ true
          by (inl y) = absurd (true≢false (sym y ∙ ap not v))
          by (inr y) = y

      onward : visited d ≡ true → (not (visited d) || met m.0) ≡ true → nat_lt m.0 (length ds) ≡ true →
          (not (visited m.0) || met e.0) ≡ true → met e.0 ≡ true
      onward v x low y = by (or_cases (is_set seen m.0) (nat_le (length ds) m.0) (came x v)) (or_cases (not (visited m.0)) (met e.0) y)
        where
          by : (is_set seen m.0 ≡ true) ⊎ (nat_le (length ds) m.0 ≡ true) → (not (visited m.0) ≡ true) ⊎ (met e.0 ≡ true) → met e.0 ≡ true
          by s (inr z) = z
          by (inl s) (inl z) = absurd (true≢false (sym z ∙ ap not (or_right (m.0 == start) (is_set seen m.0) s)))
          by (inr b) (inl z) = let far : length ds ≤ m.0 = leb-true (length ds) m.0 b in
              let near : m.0 < length ds = ltb-true m.0 (length ds) low in absurd (omega arith)

  closed : IsClosed ds table
  unfolding Fits
  closed = record { own = parts_fit; onward = goes_onward }

  pub not_endless : start < length ds → is_set seen start ≡ false → IsEndless ds start → ⊥
  not_endless low unseen endless =
      let says = and_parts (nat_lt start (length ds)) (not (visited start) || met start) (endless table closed) in
      let here : visited start ≡ true = or_left (start == start) (is_set seen start) (eq-eqb start start refl) in
      by_visit here (or_cases (not (visited start)) (met start) says.1)
    where
      by_mark : (is_set seen start ≡ true) ⊎ (nat_le (length ds) start ≡ true) → ⊥
      by_mark (inl s) = true≢false (sym s ∙ unseen)
      by_mark (inr b) = let far : length ds ≤ start = leb-true (length ds) start b in absurd (omega arith)

      by_visit : visited start ≡ true → (not (visited start) ≡ true) ⊎ (met start ≡ true) → ⊥
      by_visit v (inl y) = true≢false (sym y ∙ ap not v)
      by_visit v (inr y) = by_mark (or_cases (is_set seen start) (nat_le (length ds) start) y)

-- one declaration more that doesn't contain itself
one_more : (ds : List TypeDecl) (n e : ℕ) → (e < n) ⊎ (n ≤ e) → ((k : ℕ) → k < n → IsEndless ds k → ⊥) → (IsEndless ds n → ⊥) →
    e < n + 1 → IsEndless ds e → ⊥
one_more ds n e (inl low) before here h endless = before e low endless
one_more ds n e (inr high) before here h endless =
    let x : e ≡ n = omega arith in
    here (subst (λ k. IsEndless ds k) x endless)

-- the answer of the search for declaration n
pub by_search : (ds : List TypeDecl) (rows : List (List Bool)) (n : ℕ) (seen : List Bool) (b : Bool) →
    HasShape ds rows → ((d : ℕ) → IsComplete ds rows d) → AreSound ds rows → IsReach ds rows n seen →
    n < length ds → is_set seen n ≡ b → MatchBool b (IsEndless ds n) (IsEndless ds n → ⊥)
by_search ds rows n seen true shape complete sound reach low is = λ has closed. reach.sound has closed n is
by_search ds rows n seen false shape complete sound reach low is =
    not_endless ds rows n seen shape complete reach.same reach.first reach.onward low is

pub next_not_endless : (ds : List TypeDecl) (n : ℕ) → ((k : ℕ) → k < n → IsEndless ds k → ⊥) → (IsEndless ds n → ⊥) →
    (e : ℕ) → e < n + 1 → IsEndless ds e → ⊥
next_not_endless ds n before here e = one_more ds n e (cases_lt e n) before here

-- no declaration is marked yet
pub none_clear : (ds : List TypeDecl) (marks : List Bool) → marks ≡ replicate (length ds) false → (length marks ≡ length ds) × IsClear ds marks
none_clear ds marks none = (
  ap length none ∙ length-replicate (length ds) false,
  λ e s endless. true≢false (sym s ∙ ap (λ row. is_set row e) none ∙ unset_everywhere (length ds) e),
)

-- and one more, that doesn't contain itself
pub one_clear : (ds : List TypeDecl) (marks after : List Bool) (d : ℕ) → (length marks ≡ length ds) × IsClear ds marks →
    (IsEndless ds d → ⊥) → after ≡ slice_set marks d true → (length after ≡ length ds) × IsClear ds after
one_clear ds marks after d (same, clear) here made = rw made (
  length-set marks d true ∙ same,
  λ e s. not_itself e (set_from marks d e s),
)
  where
    not_itself : (e : ℕ) → (is_set marks e ≡ true) ⊎ (e ≡ d) → IsEndless ds e → ⊥
    not_itself e (inl s) = clear e s
    not_itself e (inr x) = subst (λ k. IsEndless ds k → ⊥) (sym x) here

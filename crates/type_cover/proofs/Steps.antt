-- One column in front of others, case by case.
use Rattle.std.proofs.Common.{◌≡◌, ℕ, zero, suc, ◌-◌, refl, ap, sym, ◌∙◌, arith}
use Rattle.std.specs.Prelude.{Bool, true, false, ◌||◌, if◌then◌else◌, Option, Some, Result, IfOk, List, [], ◌∷◌, map, slice_get}
use Rattle.std.specs.List.{list_all}
use Rattle.std.proofs.lemmas.Result.{IfOk-weaker}
use Rattle.aen_base.specs.declared.ids.TypeId.{TypeId}
use Rattle.aen_base.specs.declared.memory.NoMem.{NoMem}
use Rattle.core_ty.specs.declared.decl.TypeDecl.{TypeDecl}
use Rattle.core_ty.specs.declared.decl.Variant.{Variant}
use Rattle.type_rules.specs.Coverage.{is_covered, levels}
use Rattle.type_rules.specs.Skeletons.{content}
use Rattle.type_cover.specs.Rows.{Row, begins_open, open_rows}
use Rattle.type_cover.specs.Splitting.{as_row, is_void, some_row, split}
use Rattle.type_cover.specs.Stack.{Column, at_way, at_ways, by_type, covers}
use Rattle.type_cover.specs.Ways.{Way, declared_ways, variant_ways, way}
use Rattle.type_cover.specs.Suits.{PatternsSuit}
use Rattle.type_cover.proofs.Covered.{split_covers}
use Rattle.type_cover.proofs.Tests.{with_true}
use Rattle.rust_ast.specs.SpelledPatterns as q
use Rattle.core_ty.specs.Types as t

module _ (ds : List TypeDecl) (x : t.Ty) (cs : List Column) (rows : List Row) where
  abbrev pub Whole : ℕ → Bool
  Whole n = split ds n x rows (covers ds cs)

  pub at_none : (n : ℕ) (b : Bool) → n ≡ 0 → b ≡ covers ds cs (open_rows rows) → b ≡ Whole n
  at_none zero b e h = h
  at_none (suc n) b e h = absurd (omega (arith, e))

  pub at_void : (n : ℕ) → list_all begins_open rows ≡ true → is_void ds n x ≡ true → true ≡ Whole n
  at_void zero o v = absurd cc
  at_void (suc n) o v = sym (
      ap (λ b. if b then is_void ds (suc n) x || covers ds cs (open_rows rows) else by_type ds (content x) n cs rows) o
      ∙ ap (λ b. b || covers ds cs (open_rows rows)) v)

  pub at_open : (n : ℕ) (b : Bool) → list_all begins_open rows ≡ true → is_void ds n x ≡ false → b ≡ covers ds cs (open_rows rows) → b ≡ Whole n
  at_open zero b o v h = h
  at_open (suc n) b o v h = h ∙ sym (
      ap (λ b. if b then is_void ds (suc n) x || covers ds cs (open_rows rows) else by_type ds (content x) n cs rows) o
      ∙ ap (λ b. b || covers ds cs (open_rows rows)) v)

  pub at_type : (n : ℕ) (b : Bool) → (n ≡ 0 → ⊥) → list_all begins_open rows ≡ false → b ≡ by_type ds (content x) (n - 1) cs rows → b ≡ Whole n
  at_type zero b z o h = absurd (z refl)
  at_type (suc n) b z o h =
      h ∙ ap (λ (k : ℕ). by_type ds (content x) k cs rows) (one_less n)
      ∙ sym (ap (λ b. if b then is_void ds (suc n) x || covers ds cs (open_rows rows) else by_type ds (content x) n cs rows) o)
    where
      one_less : (n : ℕ) → suc n - 1 ≡ n
      one_less n = omega arith

pub one_way : (ds : List TypeDecl) (n : ℕ) (cs : List Column) (rows : List Row) (w : Way) (b : Bool) → b ≡ at_way ds n cs rows w → b ≡ at_ways ds n cs rows (w ∷ [])
one_way ds n cs rows w b h = h ∙ sym (with_true (at_way ds n cs rows w))

-- ---- a column by its type, as code finds it

module _ (ds : List TypeDecl) (x : t.Ty) (n : ℕ) (cs : List Column) (rows : List Row) (r : Result Bool NoMem) where
  abbrev pub ByType : Type 0
  ByType = IfOk r (λ b. b ≡ by_type ds x n cs rows)

  told : (w : Way) (b : Bool) → b ≡ at_way ds n cs rows w → at_ways ds n cs rows (w ∷ []) ≡ by_type ds x n cs rows → b ≡ by_type ds x n cs rows
  told w b h e = h ∙ sym (with_true (at_way ds n cs rows w)) ∙ e

  pub unit_by_type : (xs : List t.Ty) → x ≡ t.unit → xs ≡ [] → IfOk r (λ b. b ≡ at_way ds n cs rows (way 0 xs)) → ByType
  unit_by_type xs e z h =
      IfOk-weaker r (λ b. b ≡ at_way ds n cs rows (way 0 xs)) (λ b. b ≡ by_type ds x n cs rows)
      (λ b k. told (way 0 []) b (k ∙ ap (λ (ys : List t.Ty). at_way ds n cs rows (way 0 ys)) z) (ap (λ y. by_type ds y n cs rows) (sym e))) h

  pub tuple_by_type : (xs : List t.Ty) → x ≡ t.tuple (t.tys xs) → IfOk r (λ b. b ≡ at_way ds n cs rows (way 0 xs)) → ByType
  tuple_by_type xs e h =
      IfOk-weaker r (λ b. b ≡ at_way ds n cs rows (way 0 xs)) (λ b. b ≡ by_type ds x n cs rows)
      (λ b k. told (way 0 xs) b k (ap (λ (ys : List t.Ty). at_ways ds n cs rows (way 0 ys ∷ [])) (sym (t.tys_back xs)) ∙ ap (λ y. by_type ds y n cs rows) (sym e))) h

  pub named_by_type : (d : TypeId) (args : List t.Ty) (decl : TypeDecl) (vs : List Variant) → x ≡ t.named d (t.tys args) →
      Some decl ≡ slice_get ds d.0 → vs ≡ decl.variants → IfOk r (λ b. b ≡ at_ways ds n cs rows (variant_ways args 0 vs)) → ByType
  named_by_type d args decl vs e s v h =
      IfOk-weaker r (λ b. b ≡ at_ways ds n cs rows (variant_ways args 0 vs)) (λ b. b ≡ by_type ds x n cs rows)
      (λ b k. k ∙ ap (λ (us : List Variant). at_ways ds n cs rows (variant_ways args 0 us)) v
      ∙ ap (λ (o : Option TypeDecl). at_ways ds n cs rows (declared_ways args o)) s
      ∙ ap (λ (ys : List t.Ty). at_ways ds n cs rows (declared_ways ys (slice_get ds d.0))) (sym (t.tys_back args))
      ∙ ap (λ y. by_type ds y n cs rows) (sym e)) h

-- the columns of a match are its type alone
pub match_covers : (ds : List TypeDecl) (x y : t.Ty) (n : ℕ) (ps : List q.Pat) (cs : List Column) (rows : List Row) (r : Result Bool NoMem) →
    cs ≡ (y, n) ∷ [] → y ≡ x → n ≡ levels ps → rows ≡ map as_row ps → PatternsSuit ds ps x → IfOk r (λ b. b ≡ covers ds cs rows) →
    IfOk r (λ b. b ≡ is_covered ds x ps)
match_covers ds x y n ps cs rows r one same deep each suit h =
    IfOk-weaker r (λ b. b ≡ covers ds cs rows) (λ b. b ≡ is_covered ds x ps)
    (λ b k. k ∙ (λ i. covers ds (one i) (each i)) ∙ (λ i. split ds (deep i) (same i) (map as_row ps) some_row) ∙ split_covers ds x ps suit) h

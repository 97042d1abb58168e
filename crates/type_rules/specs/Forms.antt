-- What is expected of an expression, and what it is (LANGUAGE.md, "Expected types", "Places").
-- Made by tools/trees.py from tools/type_rules.desc.py.
use Rattle.std.specs.Prelude.{◌≡◌, ℕ, zero, suc, Bool, refl}
use Rattle.std.specs.Coded.{Coded, coded_bool}
use Rattle.std.proofs.Common.{ap, sym, ◌∙◌, subst}
use base.Stored.{Gv, gnil, gnum, gcons, num}
use Rattle.core_ty.specs.Types.{Ty, coded_ty}
use Rattle.rust_ast.specs.Spelled.{Place, coded_place, Val, coded_val}

abbrev head : Gv → Gv
head gnil = gnil
head (gnum n) = gnil
head (gcons a b) = a

abbrev tail : Gv → Gv
tail gnil = gnil
tail (gnum n) = gnil
tail (gcons a b) = b

mutual
  pub data Expected : Type 0 where
    none : Expected
    hint : Ty → Expected
    want : Ty → Expected

  pub data Raw : Type 0 where
    stands : Place → Ty → Bool → Raw
    held : Val → Raw

abbrev mutual
  pub nodes_expected : Expected → ℕ
  nodes_expected none = 1
  nodes_expected (hint a0) = 1
  nodes_expected (want a0) = 1

  pub nodes_raw : Raw → ℕ
  nodes_raw (stands a0 a1 a2) = 1
  nodes_raw (held a0) = 1

abbrev mutual
  pub stored_expected : Expected → Gv
  stored_expected none = gcons (gnum 0) (gnil)
  stored_expected (hint a0) = gcons (gnum 1) (gcons (coded_ty.code a0) gnil)
  stored_expected (want a0) = gcons (gnum 2) (gcons (coded_ty.code a0) gnil)

  pub stored_raw : Raw → Gv
  stored_raw (stands a0 a1 a2) = gcons (gnum 0) (gcons (coded_place.code a0) (gcons (coded_ty.code a1) (gcons (coded_bool.code a2) gnil)))
  stored_raw (held a0) = gcons (gnum 1) (gcons (coded_val.code a0) gnil)

abbrev Is_none : Expected → Type 0
Is_none y = y ≡ none

abbrev Is_hint : Expected → Type 0
Is_hint y = (a0 : Ty) × (y ≡ hint a0)

abbrev Is_want : Expected → Type 0
Is_want y = (a0 : Ty) × (y ≡ want a0)

abbrev Shape_expected : ℕ → Expected → Type 0
Shape_expected zero y = Is_none y
Shape_expected (suc zero) y = Is_hint y
Shape_expected (suc (suc zero)) y = Is_want y
Shape_expected (suc (suc (suc n))) y = ⊥

shape_expected : (y : Expected) → Shape_expected (num (head (stored_expected y))) y
shape_expected none = refl
shape_expected (hint a0) = (a0, refl)
shape_expected (want a0) = (a0, refl)

as_none : (g : Gv) (y : Expected) → gcons (gnum 0) g ≡ stored_expected y → Is_none y
as_none g y p = subst (λ n. Shape_expected n y) (sym (ap (λ g. num (head g)) p)) (shape_expected y)

as_hint : (g : Gv) (y : Expected) → gcons (gnum 1) g ≡ stored_expected y → Is_hint y
as_hint g y p = subst (λ n. Shape_expected n y) (sym (ap (λ g. num (head g)) p)) (shape_expected y)

as_want : (g : Gv) (y : Expected) → gcons (gnum 2) g ≡ stored_expected y → Is_want y
as_want g y p = subst (λ n. Shape_expected n y) (sym (ap (λ g. num (head g)) p)) (shape_expected y)

abbrev Is_stands : Raw → Type 0
Is_stands y = (a0 : Place) × ((a1 : Ty) × ((a2 : Bool) × (y ≡ stands a0 a1 a2)))

abbrev Is_held : Raw → Type 0
Is_held y = (a0 : Val) × (y ≡ held a0)

abbrev Shape_raw : ℕ → Raw → Type 0
Shape_raw zero y = Is_stands y
Shape_raw (suc zero) y = Is_held y
Shape_raw (suc (suc n)) y = ⊥

shape_raw : (y : Raw) → Shape_raw (num (head (stored_raw y))) y
shape_raw (stands a0 a1 a2) = (a0, (a1, (a2, refl)))
shape_raw (held a0) = (a0, refl)

as_stands : (g : Gv) (y : Raw) → gcons (gnum 0) g ≡ stored_raw y → Is_stands y
as_stands g y p = subst (λ n. Shape_raw n y) (sym (ap (λ g. num (head g)) p)) (shape_raw y)

as_held : (g : Gv) (y : Raw) → gcons (gnum 1) g ≡ stored_raw y → Is_held y
as_held g y p = subst (λ n. Shape_raw n y) (sym (ap (λ g. num (head g)) p)) (shape_raw y)

mutual
  pub inj_expected : (x y : Expected) → stored_expected x ≡ stored_expected y → x ≡ y
  inj_expected none y q =
      let w = as_none (gnil) y q in
      sym w
  inj_expected (hint a0) y q =
      let w = as_hint (gcons (coded_ty.code a0) gnil) y q in
      let p : stored_expected (hint a0) ≡ stored_expected (hint w.0) = q ∙ ap stored_expected (w.1) in
      (λ i. hint (coded_ty.inj a0 w.0 (ap (λ g. head (tail g)) p) i)) ∙ sym (w.1)
  inj_expected (want a0) y q =
      let w = as_want (gcons (coded_ty.code a0) gnil) y q in
      let p : stored_expected (want a0) ≡ stored_expected (want w.0) = q ∙ ap stored_expected (w.1) in
      (λ i. want (coded_ty.inj a0 w.0 (ap (λ g. head (tail g)) p) i)) ∙ sym (w.1)

  pub inj_raw : (x y : Raw) → stored_raw x ≡ stored_raw y → x ≡ y
  inj_raw (stands a0 a1 a2) y q =
      let w = as_stands (gcons (coded_place.code a0) (gcons (coded_ty.code a1) (gcons (coded_bool.code a2) gnil))) y q in
      let p : stored_raw (stands a0 a1 a2) ≡ stored_raw (stands w.0 w.1.0 w.1.1.0) = q ∙ ap stored_raw (w.1.1.1) in
      (λ i. stands (coded_place.inj a0 w.0 (ap (λ g. head (tail g)) p) i) (coded_ty.inj a1 w.1.0 (ap (λ g. head (tail (tail g))) p) i) (coded_bool.inj a2 w.1.1.0 (ap (λ g. head (tail (tail (tail g)))) p) i)) ∙ sym (w.1.1.1)
  inj_raw (held a0) y q =
      let w = as_held (gcons (coded_val.code a0) gnil) y q in
      let p : stored_raw (held a0) ≡ stored_raw (held w.0) = q ∙ ap stored_raw (w.1) in
      (λ i. held (coded_val.inj a0 w.0 (ap (λ g. head (tail g)) p) i)) ∙ sym (w.1)

abbrev pub coded_expected : Coded Expected
coded_expected = record { code = stored_expected; inj = inj_expected }

abbrev pub coded_raw : Coded Raw
coded_raw = record { code = stored_raw; inj = inj_raw }

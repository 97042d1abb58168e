-- Types as they are written, and paths (LANGUAGE.md, "Grammar").
-- Made by tools/trees.py from tools/rust_ast.desc.py.
use Rattle.std.specs.Prelude.{◌≡◌, ℕ, zero, suc, ◌+◌, Bool, List, [], ◌∷◌, Option, Some, None, refl}
use Rattle.std.specs.Coded.{Coded, coded_bool}
use Rattle.std.proofs.Common.{ap, sym, ◌∙◌, subst}
use base.Stored.{Gv, gnil, gnum, gcons, num}
use Rattle.aen_base.specs.declared.span.Span.{Span}
use Rattle.aen_base.specs.contracts.span.Span as span_row
use Rattle.aen_base.specs.declared.int_ty.IntTy.{IntTy}
use Rattle.aen_base.specs.contracts.int_ty.IntTy as intty_row
use Rattle.rust_ast.specs.declared.ident.Ident.{Ident}
use Rattle.rust_ast.specs.contracts.ident.Ident as ident_row

abbrev head : Gv → Gv
head gnil = gnil
head (gnum n) = gnil
head (gcons a b) = a

abbrev tail : Gv → Gv
tail gnil = gnil
tail (gnum n) = gnil
tail (gcons a b) = b

mutual
  pub data Lifetime : Type 0 where
    elided : Lifetime
    lifetime : Ident → Lifetime

  pub data Turbo : Type 0 where
    no_turbo : Turbo
    turbo : Writtens → Turbo

  pub data Path : Type 0 where
    one : Ident → Path
    two : Ident → Turbo → Ident → Path
    box_new : Span → Path
    mem_replace : Span → Span → Bool → Path
    mem_swap : Span → Span → Bool → Path

  pub data Written : Type 0 where
    int : Span → IntTy → Written
    bool : Span → Written
    unit : Span → Written
    tuple : Span → Writtens → Written
    ref : Span → Lifetime → Bool → Written → Written
    boxed : Span → Written → Written
    named : Span → Ident → Writtens → Written

  pub data Writtens : Type 0 where
    no_writtens : Writtens
    more_writtens : Written → Writtens → Writtens

  pub data MaybeWritten : Type 0 where
    no_maybewritten : MaybeWritten
    some_maybewritten : Written → MaybeWritten

abbrev pub writtens : List (Written) → Writtens
writtens [] = no_writtens
writtens (x ∷ xs) = more_writtens x (writtens xs)

abbrev pub writtens_list : Writtens → List (Written)
writtens_list no_writtens = []
writtens_list (more_writtens a0 r) = a0 ∷ writtens_list r

pub writtens_back : (xs : List (Written)) → writtens_list (writtens xs) ≡ xs
writtens_back [] = refl
writtens_back (x ∷ xs) = ap (λ r. x ∷ r) (writtens_back xs)

abbrev pub maybewritten : Option Written → MaybeWritten
maybewritten None = no_maybewritten
maybewritten (Some x) = some_maybewritten x

abbrev pub maybewritten_option : MaybeWritten → Option Written
maybewritten_option no_maybewritten = None
maybewritten_option (some_maybewritten x) = Some x

pub maybewritten_back : (o : Option Written) → maybewritten_option (maybewritten o) ≡ o
maybewritten_back None = refl
maybewritten_back (Some x) = refl

pub writtens_inj : (xs ys : List (Written)) → writtens xs ≡ writtens ys → xs ≡ ys
writtens_inj xs ys p = sym (writtens_back xs) ∙ ap writtens_list p ∙ writtens_back ys

pub maybewritten_inj : (x y : Option Written) → maybewritten x ≡ maybewritten y → x ≡ y
maybewritten_inj x y p = sym (maybewritten_back x) ∙ ap maybewritten_option p ∙ maybewritten_back y

abbrev mutual
  pub nodes_lifetime : Lifetime → ℕ
  nodes_lifetime elided = 1
  nodes_lifetime (lifetime a0) = 1

  pub nodes_turbo : Turbo → ℕ
  nodes_turbo no_turbo = 1
  nodes_turbo (turbo a0) = nodes_writtens a0 + 1

  pub nodes_path : Path → ℕ
  nodes_path (one a0) = 1
  nodes_path (two a0 a1 a2) = nodes_turbo a1 + 1
  nodes_path (box_new a0) = 1
  nodes_path (mem_replace a0 a1 a2) = 1
  nodes_path (mem_swap a0 a1 a2) = 1

  pub nodes_written : Written → ℕ
  nodes_written (int a0 a1) = 1
  nodes_written (bool a0) = 1
  nodes_written (unit a0) = 1
  nodes_written (tuple a0 a1) = nodes_writtens a1 + 1
  nodes_written (ref a0 a1 a2 a3) = nodes_lifetime a1 + nodes_written a3 + 1
  nodes_written (boxed a0 a1) = nodes_written a1 + 1
  nodes_written (named a0 a1 a2) = nodes_writtens a2 + 1

  pub nodes_writtens : Writtens → ℕ
  nodes_writtens no_writtens = 1
  nodes_writtens (more_writtens a0 a1) = nodes_written a0 + nodes_writtens a1 + 1

  pub nodes_maybewritten : MaybeWritten → ℕ
  nodes_maybewritten no_maybewritten = 1
  nodes_maybewritten (some_maybewritten a0) = nodes_written a0 + 1

abbrev mutual
  pub stored_lifetime : Lifetime → Gv
  stored_lifetime elided = gcons (gnum 0) (gnil)
  stored_lifetime (lifetime a0) = gcons (gnum 1) (gcons (ident_row.the_row.coded.code a0) gnil)

  pub stored_turbo : Turbo → Gv
  stored_turbo no_turbo = gcons (gnum 0) (gnil)
  stored_turbo (turbo a0) = gcons (gnum 1) (gcons (stored_writtens a0) gnil)

  pub stored_path : Path → Gv
  stored_path (one a0) = gcons (gnum 0) (gcons (ident_row.the_row.coded.code a0) gnil)
  stored_path (two a0 a1 a2) = gcons (gnum 1) (gcons (ident_row.the_row.coded.code a0) (gcons (stored_turbo a1) (gcons (ident_row.the_row.coded.code a2) gnil)))
  stored_path (box_new a0) = gcons (gnum 2) (gcons (span_row.the_row.coded.code a0) gnil)
  stored_path (mem_replace a0 a1 a2) = gcons (gnum 3) (gcons (span_row.the_row.coded.code a0) (gcons (span_row.the_row.coded.code a1) (gcons (coded_bool.code a2) gnil)))
  stored_path (mem_swap a0 a1 a2) = gcons (gnum 4) (gcons (span_row.the_row.coded.code a0) (gcons (span_row.the_row.coded.code a1) (gcons (coded_bool.code a2) gnil)))

  pub stored_written : Written → Gv
  stored_written (int a0 a1) = gcons (gnum 0) (gcons (span_row.the_row.coded.code a0) (gcons (intty_row.the_row.coded.code a1) gnil))
  stored_written (bool a0) = gcons (gnum 1) (gcons (span_row.the_row.coded.code a0) gnil)
  stored_written (unit a0) = gcons (gnum 2) (gcons (span_row.the_row.coded.code a0) gnil)
  stored_written (tuple a0 a1) = gcons (gnum 3) (gcons (span_row.the_row.coded.code a0) (gcons (stored_writtens a1) gnil))
  stored_written (ref a0 a1 a2 a3) = gcons (gnum 4) (gcons (span_row.the_row.coded.code a0) (gcons (stored_lifetime a1) (gcons (coded_bool.code a2) (gcons (stored_written a3) gnil))))
  stored_written (boxed a0 a1) = gcons (gnum 5) (gcons (span_row.the_row.coded.code a0) (gcons (stored_written a1) gnil))
  stored_written (named a0 a1 a2) = gcons (gnum 6) (gcons (span_row.the_row.coded.code a0) (gcons (ident_row.the_row.coded.code a1) (gcons (stored_writtens a2) gnil)))

  pub stored_writtens : Writtens → Gv
  stored_writtens no_writtens = gcons (gnum 0) (gnil)
  stored_writtens (more_writtens a0 a1) = gcons (gnum 1) (gcons (stored_written a0) (gcons (stored_writtens a1) gnil))

  pub stored_maybewritten : MaybeWritten → Gv
  stored_maybewritten no_maybewritten = gcons (gnum 0) (gnil)
  stored_maybewritten (some_maybewritten a0) = gcons (gnum 1) (gcons (stored_written a0) gnil)

abbrev Is_elided : Lifetime → Type 0
Is_elided y = y ≡ elided

abbrev Is_lifetime : Lifetime → Type 0
Is_lifetime y = (a0 : Ident) × (y ≡ lifetime a0)

abbrev Shape_lifetime : ℕ → Lifetime → Type 0
Shape_lifetime zero y = Is_elided y
Shape_lifetime (suc zero) y = Is_lifetime y
Shape_lifetime (suc (suc n)) y = ⊥

shape_lifetime : (y : Lifetime) → Shape_lifetime (num (head (stored_lifetime y))) y
shape_lifetime elided = refl
shape_lifetime (lifetime a0) = (a0, refl)

as_elided : (g : Gv) (y : Lifetime) → gcons (gnum 0) g ≡ stored_lifetime y → Is_elided y
as_elided g y p = subst (λ n. Shape_lifetime n y) (sym (ap (λ g. num (head g)) p)) (shape_lifetime y)

as_lifetime : (g : Gv) (y : Lifetime) → gcons (gnum 1) g ≡ stored_lifetime y → Is_lifetime y
as_lifetime g y p = subst (λ n. Shape_lifetime n y) (sym (ap (λ g. num (head g)) p)) (shape_lifetime y)

abbrev Is_no_turbo : Turbo → Type 0
Is_no_turbo y = y ≡ no_turbo

abbrev Is_turbo : Turbo → Type 0
Is_turbo y = (a0 : Writtens) × (y ≡ turbo a0)

abbrev Shape_turbo : ℕ → Turbo → Type 0
Shape_turbo zero y = Is_no_turbo y
Shape_turbo (suc zero) y = Is_turbo y
Shape_turbo (suc (suc n)) y = ⊥

shape_turbo : (y : Turbo) → Shape_turbo (num (head (stored_turbo y))) y
shape_turbo no_turbo = refl
shape_turbo (turbo a0) = (a0, refl)

as_no_turbo : (g : Gv) (y : Turbo) → gcons (gnum 0) g ≡ stored_turbo y → Is_no_turbo y
as_no_turbo g y p = subst (λ n. Shape_turbo n y) (sym (ap (λ g. num (head g)) p)) (shape_turbo y)

as_turbo : (g : Gv) (y : Turbo) → gcons (gnum 1) g ≡ stored_turbo y → Is_turbo y
as_turbo g y p = subst (λ n. Shape_turbo n y) (sym (ap (λ g. num (head g)) p)) (shape_turbo y)

abbrev Is_one : Path → Type 0
Is_one y = (a0 : Ident) × (y ≡ one a0)

abbrev Is_two : Path → Type 0
Is_two y = (a0 : Ident) × ((a1 : Turbo) × ((a2 : Ident) × (y ≡ two a0 a1 a2)))

abbrev Is_box_new : Path → Type 0
Is_box_new y = (a0 : Span) × (y ≡ box_new a0)

abbrev Is_mem_replace : Path → Type 0
Is_mem_replace y = (a0 : Span) × ((a1 : Span) × ((a2 : Bool) × (y ≡ mem_replace a0 a1 a2)))

abbrev Is_mem_swap : Path → Type 0
Is_mem_swap y = (a0 : Span) × ((a1 : Span) × ((a2 : Bool) × (y ≡ mem_swap a0 a1 a2)))

abbrev Shape_path : ℕ → Path → Type 0
Shape_path zero y = Is_one y
Shape_path (suc zero) y = Is_two y
Shape_path (suc (suc zero)) y = Is_box_new y
Shape_path (suc (suc (suc zero))) y = Is_mem_replace y
Shape_path (suc (suc (suc (suc zero)))) y = Is_mem_swap y
Shape_path (suc (suc (suc (suc (suc n))))) y = ⊥

shape_path : (y : Path) → Shape_path (num (head (stored_path y))) y
shape_path (one a0) = (a0, refl)
shape_path (two a0 a1 a2) = (a0, (a1, (a2, refl)))
shape_path (box_new a0) = (a0, refl)
shape_path (mem_replace a0 a1 a2) = (a0, (a1, (a2, refl)))
shape_path (mem_swap a0 a1 a2) = (a0, (a1, (a2, refl)))

as_one : (g : Gv) (y : Path) → gcons (gnum 0) g ≡ stored_path y → Is_one y
as_one g y p = subst (λ n. Shape_path n y) (sym (ap (λ g. num (head g)) p)) (shape_path y)

as_two : (g : Gv) (y : Path) → gcons (gnum 1) g ≡ stored_path y → Is_two y
as_two g y p = subst (λ n. Shape_path n y) (sym (ap (λ g. num (head g)) p)) (shape_path y)

as_box_new : (g : Gv) (y : Path) → gcons (gnum 2) g ≡ stored_path y → Is_box_new y
as_box_new g y p = subst (λ n. Shape_path n y) (sym (ap (λ g. num (head g)) p)) (shape_path y)

as_mem_replace : (g : Gv) (y : Path) → gcons (gnum 3) g ≡ stored_path y → Is_mem_replace y
as_mem_replace g y p = subst (λ n. Shape_path n y) (sym (ap (λ g. num (head g)) p)) (shape_path y)

as_mem_swap : (g : Gv) (y : Path) → gcons (gnum 4) g ≡ stored_path y → Is_mem_swap y
as_mem_swap g y p = subst (λ n. Shape_path n y) (sym (ap (λ g. num (head g)) p)) (shape_path y)

abbrev Is_int : Written → Type 0
Is_int y = (a0 : Span) × ((a1 : IntTy) × (y ≡ int a0 a1))

abbrev Is_bool : Written → Type 0
Is_bool y = (a0 : Span) × (y ≡ bool a0)

abbrev Is_unit : Written → Type 0
Is_unit y = (a0 : Span) × (y ≡ unit a0)

abbrev Is_tuple : Written → Type 0
Is_tuple y = (a0 : Span) × ((a1 : Writtens) × (y ≡ tuple a0 a1))

abbrev Is_ref : Written → Type 0
Is_ref y = (a0 : Span) × ((a1 : Lifetime) × ((a2 : Bool) × ((a3 : Written) × (y ≡ ref a0 a1 a2 a3))))

abbrev Is_boxed : Written → Type 0
Is_boxed y = (a0 : Span) × ((a1 : Written) × (y ≡ boxed a0 a1))

abbrev Is_named : Written → Type 0
Is_named y = (a0 : Span) × ((a1 : Ident) × ((a2 : Writtens) × (y ≡ named a0 a1 a2)))

abbrev Shape_written : ℕ → Written → Type 0
Shape_written zero y = Is_int y
Shape_written (suc zero) y = Is_bool y
Shape_written (suc (suc zero)) y = Is_unit y
Shape_written (suc (suc (suc zero))) y = Is_tuple y
Shape_written (suc (suc (suc (suc zero)))) y = Is_ref y
Shape_written (suc (suc (suc (suc (suc zero))))) y = Is_boxed y
Shape_written (suc (suc (suc (suc (suc (suc zero)))))) y = Is_named y
Shape_written (suc (suc (suc (suc (suc (suc (suc n))))))) y = ⊥

shape_written : (y : Written) → Shape_written (num (head (stored_written y))) y
shape_written (int a0 a1) = (a0, (a1, refl))
shape_written (bool a0) = (a0, refl)
shape_written (unit a0) = (a0, refl)
shape_written (tuple a0 a1) = (a0, (a1, refl))
shape_written (ref a0 a1 a2 a3) = (a0, (a1, (a2, (a3, refl))))
shape_written (boxed a0 a1) = (a0, (a1, refl))
shape_written (named a0 a1 a2) = (a0, (a1, (a2, refl)))

as_int : (g : Gv) (y : Written) → gcons (gnum 0) g ≡ stored_written y → Is_int y
as_int g y p = subst (λ n. Shape_written n y) (sym (ap (λ g. num (head g)) p)) (shape_written y)

as_bool : (g : Gv) (y : Written) → gcons (gnum 1) g ≡ stored_written y → Is_bool y
as_bool g y p = subst (λ n. Shape_written n y) (sym (ap (λ g. num (head g)) p)) (shape_written y)

as_unit : (g : Gv) (y : Written) → gcons (gnum 2) g ≡ stored_written y → Is_unit y
as_unit g y p = subst (λ n. Shape_written n y) (sym (ap (λ g. num (head g)) p)) (shape_written y)

as_tuple : (g : Gv) (y : Written) → gcons (gnum 3) g ≡ stored_written y → Is_tuple y
as_tuple g y p = subst (λ n. Shape_written n y) (sym (ap (λ g. num (head g)) p)) (shape_written y)

as_ref : (g : Gv) (y : Written) → gcons (gnum 4) g ≡ stored_written y → Is_ref y
as_ref g y p = subst (λ n. Shape_written n y) (sym (ap (λ g. num (head g)) p)) (shape_written y)

as_boxed : (g : Gv) (y : Written) → gcons (gnum 5) g ≡ stored_written y → Is_boxed y
as_boxed g y p = subst (λ n. Shape_written n y) (sym (ap (λ g. num (head g)) p)) (shape_written y)

as_named : (g : Gv) (y : Written) → gcons (gnum 6) g ≡ stored_written y → Is_named y
as_named g y p = subst (λ n. Shape_written n y) (sym (ap (λ g. num (head g)) p)) (shape_written y)

abbrev Is_no_writtens : Writtens → Type 0
Is_no_writtens y = y ≡ no_writtens

abbrev Is_more_writtens : Writtens → Type 0
Is_more_writtens y = (a0 : Written) × ((a1 : Writtens) × (y ≡ more_writtens a0 a1))

abbrev Shape_writtens : ℕ → Writtens → Type 0
Shape_writtens zero y = Is_no_writtens y
Shape_writtens (suc zero) y = Is_more_writtens y
Shape_writtens (suc (suc n)) y = ⊥

shape_writtens : (y : Writtens) → Shape_writtens (num (head (stored_writtens y))) y
shape_writtens no_writtens = refl
shape_writtens (more_writtens a0 a1) = (a0, (a1, refl))

as_no_writtens : (g : Gv) (y : Writtens) → gcons (gnum 0) g ≡ stored_writtens y → Is_no_writtens y
as_no_writtens g y p = subst (λ n. Shape_writtens n y) (sym (ap (λ g. num (head g)) p)) (shape_writtens y)

as_more_writtens : (g : Gv) (y : Writtens) → gcons (gnum 1) g ≡ stored_writtens y → Is_more_writtens y
as_more_writtens g y p = subst (λ n. Shape_writtens n y) (sym (ap (λ g. num (head g)) p)) (shape_writtens y)

abbrev Is_no_maybewritten : MaybeWritten → Type 0
Is_no_maybewritten y = y ≡ no_maybewritten

abbrev Is_some_maybewritten : MaybeWritten → Type 0
Is_some_maybewritten y = (a0 : Written) × (y ≡ some_maybewritten a0)

abbrev Shape_maybewritten : ℕ → MaybeWritten → Type 0
Shape_maybewritten zero y = Is_no_maybewritten y
Shape_maybewritten (suc zero) y = Is_some_maybewritten y
Shape_maybewritten (suc (suc n)) y = ⊥

shape_maybewritten : (y : MaybeWritten) → Shape_maybewritten (num (head (stored_maybewritten y))) y
shape_maybewritten no_maybewritten = refl
shape_maybewritten (some_maybewritten a0) = (a0, refl)

as_no_maybewritten : (g : Gv) (y : MaybeWritten) → gcons (gnum 0) g ≡ stored_maybewritten y → Is_no_maybewritten y
as_no_maybewritten g y p = subst (λ n. Shape_maybewritten n y) (sym (ap (λ g. num (head g)) p)) (shape_maybewritten y)

as_some_maybewritten : (g : Gv) (y : MaybeWritten) → gcons (gnum 1) g ≡ stored_maybewritten y → Is_some_maybewritten y
as_some_maybewritten g y p = subst (λ n. Shape_maybewritten n y) (sym (ap (λ g. num (head g)) p)) (shape_maybewritten y)

mutual
  pub inj_lifetime : (x y : Lifetime) → stored_lifetime x ≡ stored_lifetime y → x ≡ y
  inj_lifetime elided y q =
      let w = as_elided (gnil) y q in
      sym w
  inj_lifetime (lifetime a0) y q =
      let w = as_lifetime (gcons (ident_row.the_row.coded.code a0) gnil) y q in
      let p : stored_lifetime (lifetime a0) ≡ stored_lifetime (lifetime w.0) = q ∙ ap stored_lifetime (w.1) in
      (λ i. lifetime (ident_row.the_row.coded.inj a0 w.0 (ap (λ g. head (tail g)) p) i)) ∙ sym (w.1)

  pub inj_turbo : (x y : Turbo) → stored_turbo x ≡ stored_turbo y → x ≡ y
  inj_turbo no_turbo y q =
      let w = as_no_turbo (gnil) y q in
      sym w
  inj_turbo (turbo a0) y q =
      let w = as_turbo (gcons (stored_writtens a0) gnil) y q in
      let p : stored_turbo (turbo a0) ≡ stored_turbo (turbo w.0) = q ∙ ap stored_turbo (w.1) in
      (λ i. turbo (inj_writtens a0 w.0 (ap (λ g. head (tail g)) p) i)) ∙ sym (w.1)

  pub inj_path : (x y : Path) → stored_path x ≡ stored_path y → x ≡ y
  inj_path (one a0) y q =
      let w = as_one (gcons (ident_row.the_row.coded.code a0) gnil) y q in
      let p : stored_path (one a0) ≡ stored_path (one w.0) = q ∙ ap stored_path (w.1) in
      (λ i. one (ident_row.the_row.coded.inj a0 w.0 (ap (λ g. head (tail g)) p) i)) ∙ sym (w.1)
  inj_path (two a0 a1 a2) y q =
      let w = as_two (gcons (ident_row.the_row.coded.code a0) (gcons (stored_turbo a1) (gcons (ident_row.the_row.coded.code a2) gnil))) y q in
      let p : stored_path (two a0 a1 a2) ≡ stored_path (two w.0 w.1.0 w.1.1.0) = q ∙ ap stored_path (w.1.1.1) in
      (λ i. two (ident_row.the_row.coded.inj a0 w.0 (ap (λ g. head (tail g)) p) i) (inj_turbo a1 w.1.0 (ap (λ g. head (tail (tail g))) p) i) (ident_row.the_row.coded.inj a2 w.1.1.0 (ap (λ g. head (tail (tail (tail g)))) p) i)) ∙ sym (w.1.1.1)
  inj_path (box_new a0) y q =
      let w = as_box_new (gcons (span_row.the_row.coded.code a0) gnil) y q in
      let p : stored_path (box_new a0) ≡ stored_path (box_new w.0) = q ∙ ap stored_path (w.1) in
      (λ i. box_new (span_row.the_row.coded.inj a0 w.0 (ap (λ g. head (tail g)) p) i)) ∙ sym (w.1)
  inj_path (mem_replace a0 a1 a2) y q =
      let w = as_mem_replace (gcons (span_row.the_row.coded.code a0) (gcons (span_row.the_row.coded.code a1) (gcons (coded_bool.code a2) gnil))) y q in
      let p : stored_path (mem_replace a0 a1 a2) ≡ stored_path (mem_replace w.0 w.1.0 w.1.1.0) = q ∙ ap stored_path (w.1.1.1) in
      (λ i. mem_replace (span_row.the_row.coded.inj a0 w.0 (ap (λ g. head (tail g)) p) i) (span_row.the_row.coded.inj a1 w.1.0 (ap (λ g. head (tail (tail g))) p) i) (coded_bool.inj a2 w.1.1.0 (ap (λ g. head (tail (tail (tail g)))) p) i)) ∙ sym (w.1.1.1)
  inj_path (mem_swap a0 a1 a2) y q =
      let w = as_mem_swap (gcons (span_row.the_row.coded.code a0) (gcons (span_row.the_row.coded.code a1) (gcons (coded_bool.code a2) gnil))) y q in
      let p : stored_path (mem_swap a0 a1 a2) ≡ stored_path (mem_swap w.0 w.1.0 w.1.1.0) = q ∙ ap stored_path (w.1.1.1) in
      (λ i. mem_swap (span_row.the_row.coded.inj a0 w.0 (ap (λ g. head (tail g)) p) i) (span_row.the_row.coded.inj a1 w.1.0 (ap (λ g. head (tail (tail g))) p) i) (coded_bool.inj a2 w.1.1.0 (ap (λ g. head (tail (tail (tail g)))) p) i)) ∙ sym (w.1.1.1)

  pub inj_written : (x y : Written) → stored_written x ≡ stored_written y → x ≡ y
  inj_written (int a0 a1) y q =
      let w = as_int (gcons (span_row.the_row.coded.code a0) (gcons (intty_row.the_row.coded.code a1) gnil)) y q in
      let p : stored_written (int a0 a1) ≡ stored_written (int w.0 w.1.0) = q ∙ ap stored_written (w.1.1) in
      (λ i. int (span_row.the_row.coded.inj a0 w.0 (ap (λ g. head (tail g)) p) i) (intty_row.the_row.coded.inj a1 w.1.0 (ap (λ g. head (tail (tail g))) p) i)) ∙ sym (w.1.1)
  inj_written (bool a0) y q =
      let w = as_bool (gcons (span_row.the_row.coded.code a0) gnil) y q in
      let p : stored_written (bool a0) ≡ stored_written (bool w.0) = q ∙ ap stored_written (w.1) in
      (λ i. bool (span_row.the_row.coded.inj a0 w.0 (ap (λ g. head (tail g)) p) i)) ∙ sym (w.1)
  inj_written (unit a0) y q =
      let w = as_unit (gcons (span_row.the_row.coded.code a0) gnil) y q in
      let p : stored_written (unit a0) ≡ stored_written (unit w.0) = q ∙ ap stored_written (w.1) in
      (λ i. unit (span_row.the_row.coded.inj a0 w.0 (ap (λ g. head (tail g)) p) i)) ∙ sym (w.1)
  inj_written (tuple a0 a1) y q =
      let w = as_tuple (gcons (span_row.the_row.coded.code a0) (gcons (stored_writtens a1) gnil)) y q in
      let p : stored_written (tuple a0 a1) ≡ stored_written (tuple w.0 w.1.0) = q ∙ ap stored_written (w.1.1) in
      (λ i. tuple (span_row.the_row.coded.inj a0 w.0 (ap (λ g. head (tail g)) p) i) (inj_writtens a1 w.1.0 (ap (λ g. head (tail (tail g))) p) i)) ∙ sym (w.1.1)
  inj_written (ref a0 a1 a2 a3) y q =
      let w = as_ref (gcons (span_row.the_row.coded.code a0) (gcons (stored_lifetime a1) (gcons (coded_bool.code a2) (gcons (stored_written a3) gnil)))) y q in
      let p : stored_written (ref a0 a1 a2 a3) ≡ stored_written (ref w.0 w.1.0 w.1.1.0 w.1.1.1.0) = q ∙ ap stored_written (w.1.1.1.1) in
      (λ i. ref (span_row.the_row.coded.inj a0 w.0 (ap (λ g. head (tail g)) p) i) (inj_lifetime a1 w.1.0 (ap (λ g. head (tail (tail g))) p) i) (coded_bool.inj a2 w.1.1.0 (ap (λ g. head (tail (tail (tail g)))) p) i) (inj_written a3 w.1.1.1.0 (ap (λ g. head (tail (tail (tail (tail g))))) p) i)) ∙ sym (w.1.1.1.1)
  inj_written (boxed a0 a1) y q =
      let w = as_boxed (gcons (span_row.the_row.coded.code a0) (gcons (stored_written a1) gnil)) y q in
      let p : stored_written (boxed a0 a1) ≡ stored_written (boxed w.0 w.1.0) = q ∙ ap stored_written (w.1.1) in
      (λ i. boxed (span_row.the_row.coded.inj a0 w.0 (ap (λ g. head (tail g)) p) i) (inj_written a1 w.1.0 (ap (λ g. head (tail (tail g))) p) i)) ∙ sym (w.1.1)
  inj_written (named a0 a1 a2) y q =
      let w = as_named (gcons (span_row.the_row.coded.code a0) (gcons (ident_row.the_row.coded.code a1) (gcons (stored_writtens a2) gnil))) y q in
      let p : stored_written (named a0 a1 a2) ≡ stored_written (named w.0 w.1.0 w.1.1.0) = q ∙ ap stored_written (w.1.1.1) in
      (λ i. named (span_row.the_row.coded.inj a0 w.0 (ap (λ g. head (tail g)) p) i) (ident_row.the_row.coded.inj a1 w.1.0 (ap (λ g. head (tail (tail g))) p) i) (inj_writtens a2 w.1.1.0 (ap (λ g. head (tail (tail (tail g)))) p) i)) ∙ sym (w.1.1.1)

  pub inj_writtens : (x y : Writtens) → stored_writtens x ≡ stored_writtens y → x ≡ y
  inj_writtens no_writtens y q =
      let w = as_no_writtens (gnil) y q in
      sym w
  inj_writtens (more_writtens a0 a1) y q =
      let w = as_more_writtens (gcons (stored_written a0) (gcons (stored_writtens a1) gnil)) y q in
      let p : stored_writtens (more_writtens a0 a1) ≡ stored_writtens (more_writtens w.0 w.1.0) = q ∙ ap stored_writtens (w.1.1) in
      (λ i. more_writtens (inj_written a0 w.0 (ap (λ g. head (tail g)) p) i) (inj_writtens a1 w.1.0 (ap (λ g. head (tail (tail g))) p) i)) ∙ sym (w.1.1)

  pub inj_maybewritten : (x y : MaybeWritten) → stored_maybewritten x ≡ stored_maybewritten y → x ≡ y
  inj_maybewritten no_maybewritten y q =
      let w = as_no_maybewritten (gnil) y q in
      sym w
  inj_maybewritten (some_maybewritten a0) y q =
      let w = as_some_maybewritten (gcons (stored_written a0) gnil) y q in
      let p : stored_maybewritten (some_maybewritten a0) ≡ stored_maybewritten (some_maybewritten w.0) = q ∙ ap stored_maybewritten (w.1) in
      (λ i. some_maybewritten (inj_written a0 w.0 (ap (λ g. head (tail g)) p) i)) ∙ sym (w.1)

abbrev pub coded_lifetime : Coded Lifetime
coded_lifetime = record { code = stored_lifetime; inj = inj_lifetime }

abbrev pub coded_turbo : Coded Turbo
coded_turbo = record { code = stored_turbo; inj = inj_turbo }

abbrev pub coded_path : Coded Path
coded_path = record { code = stored_path; inj = inj_path }

abbrev pub coded_written : Coded Written
coded_written = record { code = stored_written; inj = inj_written }

abbrev pub coded_writtens : Coded Writtens
coded_writtens = record { code = stored_writtens; inj = inj_writtens }

abbrev pub coded_maybewritten : Coded MaybeWritten
coded_maybewritten = record { code = stored_maybewritten; inj = inj_maybewritten }

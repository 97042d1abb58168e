-- Patterns of a source, names resolved (LANGUAGE.md, "Grammar").
-- Made by tools/trees.py from tools/rust_ast.desc.py.
use Rattle.std.specs.Prelude.{◌≡◌, ℕ, zero, suc, ◌+◌, Bool, List, [], ◌∷◌, Option, Some, None, refl}
use Rattle.std.specs.Coded.{Coded, coded_ℕ, coded_bool, coded_list}
use Rattle.std.proofs.Common.{ap, sym, ◌∙◌, subst}
use base.Stored.{Gv, gnil, gnum, gcons, num}
use Rattle.aen_base.specs.declared.span.Span.{Span}
use Rattle.aen_base.specs.contracts.span.Span as span_row
use Rattle.aen_base.specs.declared.int_ty.IntTy.{IntTy}
use Rattle.aen_base.specs.contracts.int_ty.IntTy as intty_row
use Rattle.aen_base.specs.declared.ids.TypeId.{TypeId}
use Rattle.aen_base.specs.contracts.ids.TypeId as typeid_row
use Rattle.rust_ast.specs.Written.{Turbos, coded_turbos}

-- the bytes of a name
abbrev pub Name : Type 0
Name = List ℕ

-- a number as it is written, below 2^128
abbrev pub Magnitude : Type 0
Magnitude = ℕ

abbrev head : Gv → Gv
head gnil = gnil
head (gnum n) = gnil
head (gcons a b) = a

abbrev tail : Gv → Gv
tail gnil = gnil
tail (gnum n) = gnil
tail (gcons a b) = b

mutual
  pub data Pat : Type 0 where
    wild : Span → Pat
    bind : Span → Span → Bool → ℕ → Pat
    number : Span → Bool → Magnitude → Suffix → Pat
    truth : Span → Bool → Pat
    tuple : Span → Pats → Pat
    construct : Span → TypeId → ℕ → Turbos → Pats → Pat
    literal : Span → TypeId → ℕ → Turbos → FieldPats → Pat

  pub data Pats : Type 0 where
    no_pats : Pats
    more_pats : Pat → Pats → Pats

  pub data FieldPats : Type 0 where
    no_fieldpats : FieldPats
    more_fieldpats : Span → Name → Pat → FieldPats → FieldPats

  pub data Suffix : Type 0 where
    no_suffix : Suffix
    some_suffix : IntTy → Suffix

abbrev pub pats : List (Pat) → Pats
pats [] = no_pats
pats (x ∷ xs) = more_pats x (pats xs)

abbrev pub pats_list : Pats → List (Pat)
pats_list no_pats = []
pats_list (more_pats a0 r) = a0 ∷ pats_list r

pub pats_back : (xs : List (Pat)) → pats_list (pats xs) ≡ xs
pats_back [] = refl
pats_back (x ∷ xs) = ap (λ r. x ∷ r) (pats_back xs)

abbrev pub fieldpats : List (Span × Name × Pat) → FieldPats
fieldpats [] = no_fieldpats
fieldpats (x ∷ xs) = more_fieldpats x.0 x.1 x.2 (fieldpats xs)

abbrev pub fieldpats_list : FieldPats → List (Span × Name × Pat)
fieldpats_list no_fieldpats = []
fieldpats_list (more_fieldpats a0 a1 a2 r) = (a0, a1, a2) ∷ fieldpats_list r

pub fieldpats_back : (xs : List (Span × Name × Pat)) → fieldpats_list (fieldpats xs) ≡ xs
fieldpats_back [] = refl
fieldpats_back (x ∷ xs) = ap (λ r. x ∷ r) (fieldpats_back xs)

abbrev pub suffix : Option IntTy → Suffix
suffix None = no_suffix
suffix (Some x) = some_suffix x

abbrev pub suffix_option : Suffix → Option IntTy
suffix_option no_suffix = None
suffix_option (some_suffix x) = Some x

pub suffix_back : (o : Option IntTy) → suffix_option (suffix o) ≡ o
suffix_back None = refl
suffix_back (Some x) = refl

pub pats_inj : (xs ys : List (Pat)) → pats xs ≡ pats ys → xs ≡ ys
pats_inj xs ys p = sym (pats_back xs) ∙ ap pats_list p ∙ pats_back ys

pub fieldpats_inj : (xs ys : List (Span × Name × Pat)) → fieldpats xs ≡ fieldpats ys → xs ≡ ys
fieldpats_inj xs ys p = sym (fieldpats_back xs) ∙ ap fieldpats_list p ∙ fieldpats_back ys

pub suffix_inj : (x y : Option IntTy) → suffix x ≡ suffix y → x ≡ y
suffix_inj x y p = sym (suffix_back x) ∙ ap suffix_option p ∙ suffix_back y

abbrev mutual
  pub nodes_pat : Pat → ℕ
  nodes_pat (wild a0) = 1
  nodes_pat (bind a0 a1 a2 a3) = 1
  nodes_pat (number a0 a1 a2 a3) = nodes_suffix a3 + 1
  nodes_pat (truth a0 a1) = 1
  nodes_pat (tuple a0 a1) = nodes_pats a1 + 1
  nodes_pat (construct a0 a1 a2 a3 a4) = nodes_pats a4 + 1
  nodes_pat (literal a0 a1 a2 a3 a4) = nodes_fieldpats a4 + 1

  pub nodes_pats : Pats → ℕ
  nodes_pats no_pats = 1
  nodes_pats (more_pats a0 a1) = nodes_pat a0 + nodes_pats a1 + 1

  pub nodes_fieldpats : FieldPats → ℕ
  nodes_fieldpats no_fieldpats = 1
  nodes_fieldpats (more_fieldpats a0 a1 a2 a3) = nodes_pat a2 + nodes_fieldpats a3 + 1

  pub nodes_suffix : Suffix → ℕ
  nodes_suffix no_suffix = 1
  nodes_suffix (some_suffix a0) = 1

abbrev mutual
  pub stored_pat : Pat → Gv
  stored_pat (wild a0) = gcons (gnum 0) (gcons (span_row.the_row.coded.code a0) gnil)
  stored_pat (bind a0 a1 a2 a3) = gcons (gnum 1) (gcons (span_row.the_row.coded.code a0) (gcons (span_row.the_row.coded.code a1) (gcons (coded_bool.code a2) (gcons (coded_ℕ.code a3) gnil))))
  stored_pat (number a0 a1 a2 a3) = gcons (gnum 2) (gcons (span_row.the_row.coded.code a0) (gcons (coded_bool.code a1) (gcons (coded_ℕ.code a2) (gcons (stored_suffix a3) gnil))))
  stored_pat (truth a0 a1) = gcons (gnum 3) (gcons (span_row.the_row.coded.code a0) (gcons (coded_bool.code a1) gnil))
  stored_pat (tuple a0 a1) = gcons (gnum 4) (gcons (span_row.the_row.coded.code a0) (gcons (stored_pats a1) gnil))
  stored_pat (construct a0 a1 a2 a3 a4) = gcons (gnum 5) (gcons (span_row.the_row.coded.code a0) (gcons (typeid_row.the_row.coded.code a1) (gcons (coded_ℕ.code a2) (gcons (coded_turbos.code a3) (gcons (stored_pats a4) gnil)))))
  stored_pat (literal a0 a1 a2 a3 a4) = gcons (gnum 6) (gcons (span_row.the_row.coded.code a0) (gcons (typeid_row.the_row.coded.code a1) (gcons (coded_ℕ.code a2) (gcons (coded_turbos.code a3) (gcons (stored_fieldpats a4) gnil)))))

  pub stored_pats : Pats → Gv
  stored_pats no_pats = gcons (gnum 0) (gnil)
  stored_pats (more_pats a0 a1) = gcons (gnum 1) (gcons (stored_pat a0) (gcons (stored_pats a1) gnil))

  pub stored_fieldpats : FieldPats → Gv
  stored_fieldpats no_fieldpats = gcons (gnum 0) (gnil)
  stored_fieldpats (more_fieldpats a0 a1 a2 a3) = gcons (gnum 1) (gcons (span_row.the_row.coded.code a0) (gcons ((coded_list coded_ℕ).code a1) (gcons (stored_pat a2) (gcons (stored_fieldpats a3) gnil))))

  pub stored_suffix : Suffix → Gv
  stored_suffix no_suffix = gcons (gnum 0) (gnil)
  stored_suffix (some_suffix a0) = gcons (gnum 1) (gcons (intty_row.the_row.coded.code a0) gnil)

abbrev Is_wild : Pat → Type 0
Is_wild y = (a0 : Span) × (y ≡ wild a0)

abbrev Is_bind : Pat → Type 0
Is_bind y = (a0 : Span) × ((a1 : Span) × ((a2 : Bool) × ((a3 : ℕ) × (y ≡ bind a0 a1 a2 a3))))

abbrev Is_number : Pat → Type 0
Is_number y = (a0 : Span) × ((a1 : Bool) × ((a2 : Magnitude) × ((a3 : Suffix) × (y ≡ number a0 a1 a2 a3))))

abbrev Is_truth : Pat → Type 0
Is_truth y = (a0 : Span) × ((a1 : Bool) × (y ≡ truth a0 a1))

abbrev Is_tuple : Pat → Type 0
Is_tuple y = (a0 : Span) × ((a1 : Pats) × (y ≡ tuple a0 a1))

abbrev Is_construct : Pat → Type 0
Is_construct y = (a0 : Span) × ((a1 : TypeId) × ((a2 : ℕ) × ((a3 : Turbos) × ((a4 : Pats) × (y ≡ construct a0 a1 a2 a3 a4)))))

abbrev Is_literal : Pat → Type 0
Is_literal y = (a0 : Span) × ((a1 : TypeId) × ((a2 : ℕ) × ((a3 : Turbos) × ((a4 : FieldPats) × (y ≡ literal a0 a1 a2 a3 a4)))))

abbrev Shape_pat : ℕ → Pat → Type 0
Shape_pat zero y = Is_wild y
Shape_pat (suc zero) y = Is_bind y
Shape_pat (suc (suc zero)) y = Is_number y
Shape_pat (suc (suc (suc zero))) y = Is_truth y
Shape_pat (suc (suc (suc (suc zero)))) y = Is_tuple y
Shape_pat (suc (suc (suc (suc (suc zero))))) y = Is_construct y
Shape_pat (suc (suc (suc (suc (suc (suc zero)))))) y = Is_literal y
Shape_pat (suc (suc (suc (suc (suc (suc (suc n))))))) y = ⊥

shape_pat : (y : Pat) → Shape_pat (num (head (stored_pat y))) y
shape_pat (wild a0) = (a0, refl)
shape_pat (bind a0 a1 a2 a3) = (a0, (a1, (a2, (a3, refl))))
shape_pat (number a0 a1 a2 a3) = (a0, (a1, (a2, (a3, refl))))
shape_pat (truth a0 a1) = (a0, (a1, refl))
shape_pat (tuple a0 a1) = (a0, (a1, refl))
shape_pat (construct a0 a1 a2 a3 a4) = (a0, (a1, (a2, (a3, (a4, refl)))))
shape_pat (literal a0 a1 a2 a3 a4) = (a0, (a1, (a2, (a3, (a4, refl)))))

as_wild : (g : Gv) (y : Pat) → gcons (gnum 0) g ≡ stored_pat y → Is_wild y
as_wild g y p = subst (λ n. Shape_pat n y) (sym (ap (λ g. num (head g)) p)) (shape_pat y)

as_bind : (g : Gv) (y : Pat) → gcons (gnum 1) g ≡ stored_pat y → Is_bind y
as_bind g y p = subst (λ n. Shape_pat n y) (sym (ap (λ g. num (head g)) p)) (shape_pat y)

as_number : (g : Gv) (y : Pat) → gcons (gnum 2) g ≡ stored_pat y → Is_number y
as_number g y p = subst (λ n. Shape_pat n y) (sym (ap (λ g. num (head g)) p)) (shape_pat y)

as_truth : (g : Gv) (y : Pat) → gcons (gnum 3) g ≡ stored_pat y → Is_truth y
as_truth g y p = subst (λ n. Shape_pat n y) (sym (ap (λ g. num (head g)) p)) (shape_pat y)

as_tuple : (g : Gv) (y : Pat) → gcons (gnum 4) g ≡ stored_pat y → Is_tuple y
as_tuple g y p = subst (λ n. Shape_pat n y) (sym (ap (λ g. num (head g)) p)) (shape_pat y)

as_construct : (g : Gv) (y : Pat) → gcons (gnum 5) g ≡ stored_pat y → Is_construct y
as_construct g y p = subst (λ n. Shape_pat n y) (sym (ap (λ g. num (head g)) p)) (shape_pat y)

as_literal : (g : Gv) (y : Pat) → gcons (gnum 6) g ≡ stored_pat y → Is_literal y
as_literal g y p = subst (λ n. Shape_pat n y) (sym (ap (λ g. num (head g)) p)) (shape_pat y)

abbrev Is_no_pats : Pats → Type 0
Is_no_pats y = y ≡ no_pats

abbrev Is_more_pats : Pats → Type 0
Is_more_pats y = (a0 : Pat) × ((a1 : Pats) × (y ≡ more_pats a0 a1))

abbrev Shape_pats : ℕ → Pats → Type 0
Shape_pats zero y = Is_no_pats y
Shape_pats (suc zero) y = Is_more_pats y
Shape_pats (suc (suc n)) y = ⊥

shape_pats : (y : Pats) → Shape_pats (num (head (stored_pats y))) y
shape_pats no_pats = refl
shape_pats (more_pats a0 a1) = (a0, (a1, refl))

as_no_pats : (g : Gv) (y : Pats) → gcons (gnum 0) g ≡ stored_pats y → Is_no_pats y
as_no_pats g y p = subst (λ n. Shape_pats n y) (sym (ap (λ g. num (head g)) p)) (shape_pats y)

as_more_pats : (g : Gv) (y : Pats) → gcons (gnum 1) g ≡ stored_pats y → Is_more_pats y
as_more_pats g y p = subst (λ n. Shape_pats n y) (sym (ap (λ g. num (head g)) p)) (shape_pats y)

abbrev Is_no_fieldpats : FieldPats → Type 0
Is_no_fieldpats y = y ≡ no_fieldpats

abbrev Is_more_fieldpats : FieldPats → Type 0
Is_more_fieldpats y = (a0 : Span) × ((a1 : Name) × ((a2 : Pat) × ((a3 : FieldPats) × (y ≡ more_fieldpats a0 a1 a2 a3))))

abbrev Shape_fieldpats : ℕ → FieldPats → Type 0
Shape_fieldpats zero y = Is_no_fieldpats y
Shape_fieldpats (suc zero) y = Is_more_fieldpats y
Shape_fieldpats (suc (suc n)) y = ⊥

shape_fieldpats : (y : FieldPats) → Shape_fieldpats (num (head (stored_fieldpats y))) y
shape_fieldpats no_fieldpats = refl
shape_fieldpats (more_fieldpats a0 a1 a2 a3) = (a0, (a1, (a2, (a3, refl))))

as_no_fieldpats : (g : Gv) (y : FieldPats) → gcons (gnum 0) g ≡ stored_fieldpats y → Is_no_fieldpats y
as_no_fieldpats g y p = subst (λ n. Shape_fieldpats n y) (sym (ap (λ g. num (head g)) p)) (shape_fieldpats y)

as_more_fieldpats : (g : Gv) (y : FieldPats) → gcons (gnum 1) g ≡ stored_fieldpats y → Is_more_fieldpats y
as_more_fieldpats g y p = subst (λ n. Shape_fieldpats n y) (sym (ap (λ g. num (head g)) p)) (shape_fieldpats y)

abbrev Is_no_suffix : Suffix → Type 0
Is_no_suffix y = y ≡ no_suffix

abbrev Is_some_suffix : Suffix → Type 0
Is_some_suffix y = (a0 : IntTy) × (y ≡ some_suffix a0)

abbrev Shape_suffix : ℕ → Suffix → Type 0
Shape_suffix zero y = Is_no_suffix y
Shape_suffix (suc zero) y = Is_some_suffix y
Shape_suffix (suc (suc n)) y = ⊥

shape_suffix : (y : Suffix) → Shape_suffix (num (head (stored_suffix y))) y
shape_suffix no_suffix = refl
shape_suffix (some_suffix a0) = (a0, refl)

as_no_suffix : (g : Gv) (y : Suffix) → gcons (gnum 0) g ≡ stored_suffix y → Is_no_suffix y
as_no_suffix g y p = subst (λ n. Shape_suffix n y) (sym (ap (λ g. num (head g)) p)) (shape_suffix y)

as_some_suffix : (g : Gv) (y : Suffix) → gcons (gnum 1) g ≡ stored_suffix y → Is_some_suffix y
as_some_suffix g y p = subst (λ n. Shape_suffix n y) (sym (ap (λ g. num (head g)) p)) (shape_suffix y)

mutual
  pub inj_pat : (x y : Pat) → stored_pat x ≡ stored_pat y → x ≡ y
  inj_pat (wild a0) y q =
      let w = as_wild (gcons (span_row.the_row.coded.code a0) gnil) y q in
      let p : stored_pat (wild a0) ≡ stored_pat (wild w.0) = q ∙ ap stored_pat (w.1) in
      (λ i. wild (span_row.the_row.coded.inj a0 w.0 (ap (λ g. head (tail g)) p) i)) ∙ sym (w.1)
  inj_pat (bind a0 a1 a2 a3) y q =
      let w = as_bind (gcons (span_row.the_row.coded.code a0) (gcons (span_row.the_row.coded.code a1) (gcons (coded_bool.code a2) (gcons (coded_ℕ.code a3) gnil)))) y q in
      let p : stored_pat (bind a0 a1 a2 a3) ≡ stored_pat (bind w.0 w.1.0 w.1.1.0 w.1.1.1.0) = q ∙ ap stored_pat (w.1.1.1.1) in
      (λ i. bind (span_row.the_row.coded.inj a0 w.0 (ap (λ g. head (tail g)) p) i) (span_row.the_row.coded.inj a1 w.1.0 (ap (λ g. head (tail (tail g))) p) i) (coded_bool.inj a2 w.1.1.0 (ap (λ g. head (tail (tail (tail g)))) p) i) (coded_ℕ.inj a3 w.1.1.1.0 (ap (λ g. head (tail (tail (tail (tail g))))) p) i)) ∙ sym (w.1.1.1.1)
  inj_pat (number a0 a1 a2 a3) y q =
      let w = as_number (gcons (span_row.the_row.coded.code a0) (gcons (coded_bool.code a1) (gcons (coded_ℕ.code a2) (gcons (stored_suffix a3) gnil)))) y q in
      let p : stored_pat (number a0 a1 a2 a3) ≡ stored_pat (number w.0 w.1.0 w.1.1.0 w.1.1.1.0) = q ∙ ap stored_pat (w.1.1.1.1) in
      (λ i. number (span_row.the_row.coded.inj a0 w.0 (ap (λ g. head (tail g)) p) i) (coded_bool.inj a1 w.1.0 (ap (λ g. head (tail (tail g))) p) i) (coded_ℕ.inj a2 w.1.1.0 (ap (λ g. head (tail (tail (tail g)))) p) i) (inj_suffix a3 w.1.1.1.0 (ap (λ g. head (tail (tail (tail (tail g))))) p) i)) ∙ sym (w.1.1.1.1)
  inj_pat (truth a0 a1) y q =
      let w = as_truth (gcons (span_row.the_row.coded.code a0) (gcons (coded_bool.code a1) gnil)) y q in
      let p : stored_pat (truth a0 a1) ≡ stored_pat (truth w.0 w.1.0) = q ∙ ap stored_pat (w.1.1) in
      (λ i. truth (span_row.the_row.coded.inj a0 w.0 (ap (λ g. head (tail g)) p) i) (coded_bool.inj a1 w.1.0 (ap (λ g. head (tail (tail g))) p) i)) ∙ sym (w.1.1)
  inj_pat (tuple a0 a1) y q =
      let w = as_tuple (gcons (span_row.the_row.coded.code a0) (gcons (stored_pats a1) gnil)) y q in
      let p : stored_pat (tuple a0 a1) ≡ stored_pat (tuple w.0 w.1.0) = q ∙ ap stored_pat (w.1.1) in
      (λ i. tuple (span_row.the_row.coded.inj a0 w.0 (ap (λ g. head (tail g)) p) i) (inj_pats a1 w.1.0 (ap (λ g. head (tail (tail g))) p) i)) ∙ sym (w.1.1)
  inj_pat (construct a0 a1 a2 a3 a4) y q =
      let w = as_construct (gcons (span_row.the_row.coded.code a0) (gcons (typeid_row.the_row.coded.code a1) (gcons (coded_ℕ.code a2) (gcons (coded_turbos.code a3) (gcons (stored_pats a4) gnil))))) y q in
      let p : stored_pat (construct a0 a1 a2 a3 a4) ≡ stored_pat (construct w.0 w.1.0 w.1.1.0 w.1.1.1.0 w.1.1.1.1.0) = q ∙ ap stored_pat (w.1.1.1.1.1) in
      (λ i. construct (span_row.the_row.coded.inj a0 w.0 (ap (λ g. head (tail g)) p) i) (typeid_row.the_row.coded.inj a1 w.1.0 (ap (λ g. head (tail (tail g))) p) i) (coded_ℕ.inj a2 w.1.1.0 (ap (λ g. head (tail (tail (tail g)))) p) i) (coded_turbos.inj a3 w.1.1.1.0 (ap (λ g. head (tail (tail (tail (tail g))))) p) i) (inj_pats a4 w.1.1.1.1.0 (ap (λ g. head (tail (tail (tail (tail (tail g)))))) p) i)) ∙ sym (w.1.1.1.1.1)
  inj_pat (literal a0 a1 a2 a3 a4) y q =
      let w = as_literal (gcons (span_row.the_row.coded.code a0) (gcons (typeid_row.the_row.coded.code a1) (gcons (coded_ℕ.code a2) (gcons (coded_turbos.code a3) (gcons (stored_fieldpats a4) gnil))))) y q in
      let p : stored_pat (literal a0 a1 a2 a3 a4) ≡ stored_pat (literal w.0 w.1.0 w.1.1.0 w.1.1.1.0 w.1.1.1.1.0) = q ∙ ap stored_pat (w.1.1.1.1.1) in
      (λ i. literal (span_row.the_row.coded.inj a0 w.0 (ap (λ g. head (tail g)) p) i) (typeid_row.the_row.coded.inj a1 w.1.0 (ap (λ g. head (tail (tail g))) p) i) (coded_ℕ.inj a2 w.1.1.0 (ap (λ g. head (tail (tail (tail g)))) p) i) (coded_turbos.inj a3 w.1.1.1.0 (ap (λ g. head (tail (tail (tail (tail g))))) p) i) (inj_fieldpats a4 w.1.1.1.1.0 (ap (λ g. head (tail (tail (tail (tail (tail g)))))) p) i)) ∙ sym (w.1.1.1.1.1)

  pub inj_pats : (x y : Pats) → stored_pats x ≡ stored_pats y → x ≡ y
  inj_pats no_pats y q =
      let w = as_no_pats (gnil) y q in
      sym w
  inj_pats (more_pats a0 a1) y q =
      let w = as_more_pats (gcons (stored_pat a0) (gcons (stored_pats a1) gnil)) y q in
      let p : stored_pats (more_pats a0 a1) ≡ stored_pats (more_pats w.0 w.1.0) = q ∙ ap stored_pats (w.1.1) in
      (λ i. more_pats (inj_pat a0 w.0 (ap (λ g. head (tail g)) p) i) (inj_pats a1 w.1.0 (ap (λ g. head (tail (tail g))) p) i)) ∙ sym (w.1.1)

  pub inj_fieldpats : (x y : FieldPats) → stored_fieldpats x ≡ stored_fieldpats y → x ≡ y
  inj_fieldpats no_fieldpats y q =
      let w = as_no_fieldpats (gnil) y q in
      sym w
  inj_fieldpats (more_fieldpats a0 a1 a2 a3) y q =
      let w = as_more_fieldpats (gcons (span_row.the_row.coded.code a0) (gcons ((coded_list coded_ℕ).code a1) (gcons (stored_pat a2) (gcons (stored_fieldpats a3) gnil)))) y q in
      let p : stored_fieldpats (more_fieldpats a0 a1 a2 a3) ≡ stored_fieldpats (more_fieldpats w.0 w.1.0 w.1.1.0 w.1.1.1.0) = q ∙ ap stored_fieldpats (w.1.1.1.1) in
      (λ i. more_fieldpats (span_row.the_row.coded.inj a0 w.0 (ap (λ g. head (tail g)) p) i) ((coded_list coded_ℕ).inj a1 w.1.0 (ap (λ g. head (tail (tail g))) p) i) (inj_pat a2 w.1.1.0 (ap (λ g. head (tail (tail (tail g)))) p) i) (inj_fieldpats a3 w.1.1.1.0 (ap (λ g. head (tail (tail (tail (tail g))))) p) i)) ∙ sym (w.1.1.1.1)

  pub inj_suffix : (x y : Suffix) → stored_suffix x ≡ stored_suffix y → x ≡ y
  inj_suffix no_suffix y q =
      let w = as_no_suffix (gnil) y q in
      sym w
  inj_suffix (some_suffix a0) y q =
      let w = as_some_suffix (gcons (intty_row.the_row.coded.code a0) gnil) y q in
      let p : stored_suffix (some_suffix a0) ≡ stored_suffix (some_suffix w.0) = q ∙ ap stored_suffix (w.1) in
      (λ i. some_suffix (intty_row.the_row.coded.inj a0 w.0 (ap (λ g. head (tail g)) p) i)) ∙ sym (w.1)

abbrev pub coded_pat : Coded Pat
coded_pat = record { code = stored_pat; inj = inj_pat }

abbrev pub coded_pats : Coded Pats
coded_pats = record { code = stored_pats; inj = inj_pats }

abbrev pub coded_fieldpats : Coded FieldPats
coded_fieldpats = record { code = stored_fieldpats; inj = inj_fieldpats }

abbrev pub coded_suffix : Coded Suffix
coded_suffix = record { code = stored_suffix; inj = inj_suffix }

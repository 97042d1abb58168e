-- Patterns of a source (LANGUAGE.md, "Grammar").
-- Made by tools/trees.py from tools/rust_ast.desc.py.
use Rattle.std.specs.Prelude.{◌≡◌, ℕ, zero, suc, ◌+◌, Bool, List, [], ◌∷◌, refl}
use Rattle.std.specs.Coded.{Coded, coded_ℕ, coded_bool, coded_list}
use Rattle.std.proofs.Common.{ap, sym, ◌∙◌, subst}
use base.Stored.{Gv, gnil, gnum, gcons, num}
use Rattle.aen_base.specs.declared.span.Span.{Span}
use Rattle.aen_base.specs.contracts.span.Span as span_row
use Rattle.rust_ast.specs.declared.ident.Ident.{Ident}
use Rattle.rust_ast.specs.contracts.ident.Ident as ident_row
use Rattle.rust_ast.specs.SourceTypes.{Path, coded_path}
use Rattle.rust_ast.specs.Patterns.{Suffix, coded_suffix, Name, Magnitude}

abbrev head : Gv → Gv
head gnil = gnil
head (gnum n) = gnil
head (gcons a b) = a

abbrev tail : Gv → Gv
tail gnil = gnil
tail (gnum n) = gnil
tail (gcons a b) = b

mutual
  pub data Pat : Type 0 where
    wild : Span → Pat
    lone : Ident → Pat
    mut_bind : Span → Ident → Pat
    number : Span → Bool → Magnitude → Suffix → Pat
    truth : Span → Bool → Pat
    tuple : Span → Pats → Pat
    construct : Span → Path → Pats → Pat
    literal : Span → Path → FieldPats → Pat

  pub data FieldPat : Type 0 where
    short : Ident → FieldPat
    given : Span → Name → Pat → FieldPat

  pub data Pats : Type 0 where
    no_pats : Pats
    more_pats : Pat → Pats → Pats

  pub data FieldPats : Type 0 where
    no_fieldpats : FieldPats
    more_fieldpats : FieldPat → FieldPats → FieldPats

abbrev pub pats : List (Pat) → Pats
pats [] = no_pats
pats (x ∷ xs) = more_pats x (pats xs)

abbrev pub pats_list : Pats → List (Pat)
pats_list no_pats = []
pats_list (more_pats a0 r) = a0 ∷ pats_list r

pub pats_back : (xs : List (Pat)) → pats_list (pats xs) ≡ xs
pats_back [] = refl
pats_back (x ∷ xs) = ap (λ r. x ∷ r) (pats_back xs)

abbrev pub fieldpats : List (FieldPat) → FieldPats
fieldpats [] = no_fieldpats
fieldpats (x ∷ xs) = more_fieldpats x (fieldpats xs)

abbrev pub fieldpats_list : FieldPats → List (FieldPat)
fieldpats_list no_fieldpats = []
fieldpats_list (more_fieldpats a0 r) = a0 ∷ fieldpats_list r

pub fieldpats_back : (xs : List (FieldPat)) → fieldpats_list (fieldpats xs) ≡ xs
fieldpats_back [] = refl
fieldpats_back (x ∷ xs) = ap (λ r. x ∷ r) (fieldpats_back xs)

pub pats_inj : (xs ys : List (Pat)) → pats xs ≡ pats ys → xs ≡ ys
pats_inj xs ys p = sym (pats_back xs) ∙ ap pats_list p ∙ pats_back ys

pub fieldpats_inj : (xs ys : List (FieldPat)) → fieldpats xs ≡ fieldpats ys → xs ≡ ys
fieldpats_inj xs ys p = sym (fieldpats_back xs) ∙ ap fieldpats_list p ∙ fieldpats_back ys

abbrev mutual
  pub nodes_pat : Pat → ℕ
  nodes_pat (wild a0) = 1
  nodes_pat (lone a0) = 1
  nodes_pat (mut_bind a0 a1) = 1
  nodes_pat (number a0 a1 a2 a3) = 1
  nodes_pat (truth a0 a1) = 1
  nodes_pat (tuple a0 a1) = nodes_pats a1 + 1
  nodes_pat (construct a0 a1 a2) = nodes_pats a2 + 1
  nodes_pat (literal a0 a1 a2) = nodes_fieldpats a2 + 1

  pub nodes_fieldpat : FieldPat → ℕ
  nodes_fieldpat (short a0) = 1
  nodes_fieldpat (given a0 a1 a2) = nodes_pat a2 + 1

  pub nodes_pats : Pats → ℕ
  nodes_pats no_pats = 1
  nodes_pats (more_pats a0 a1) = nodes_pat a0 + nodes_pats a1 + 1

  pub nodes_fieldpats : FieldPats → ℕ
  nodes_fieldpats no_fieldpats = 1
  nodes_fieldpats (more_fieldpats a0 a1) = nodes_fieldpat a0 + nodes_fieldpats a1 + 1

abbrev mutual
  pub stored_pat : Pat → Gv
  stored_pat (wild a0) = gcons (gnum 0) (gcons (span_row.the_row.coded.code a0) gnil)
  stored_pat (lone a0) = gcons (gnum 1) (gcons (ident_row.the_row.coded.code a0) gnil)
  stored_pat (mut_bind a0 a1) = gcons (gnum 2) (gcons (span_row.the_row.coded.code a0) (gcons (ident_row.the_row.coded.code a1) gnil))
  stored_pat (number a0 a1 a2 a3) = gcons (gnum 3) (gcons (span_row.the_row.coded.code a0) (gcons (coded_bool.code a1) (gcons (coded_ℕ.code a2) (gcons (coded_suffix.code a3) gnil))))
  stored_pat (truth a0 a1) = gcons (gnum 4) (gcons (span_row.the_row.coded.code a0) (gcons (coded_bool.code a1) gnil))
  stored_pat (tuple a0 a1) = gcons (gnum 5) (gcons (span_row.the_row.coded.code a0) (gcons (stored_pats a1) gnil))
  stored_pat (construct a0 a1 a2) = gcons (gnum 6) (gcons (span_row.the_row.coded.code a0) (gcons (coded_path.code a1) (gcons (stored_pats a2) gnil)))
  stored_pat (literal a0 a1 a2) = gcons (gnum 7) (gcons (span_row.the_row.coded.code a0) (gcons (coded_path.code a1) (gcons (stored_fieldpats a2) gnil)))

  pub stored_fieldpat : FieldPat → Gv
  stored_fieldpat (short a0) = gcons (gnum 0) (gcons (ident_row.the_row.coded.code a0) gnil)
  stored_fieldpat (given a0 a1 a2) = gcons (gnum 1) (gcons (span_row.the_row.coded.code a0) (gcons ((coded_list coded_ℕ).code a1) (gcons (stored_pat a2) gnil)))

  pub stored_pats : Pats → Gv
  stored_pats no_pats = gcons (gnum 0) (gnil)
  stored_pats (more_pats a0 a1) = gcons (gnum 1) (gcons (stored_pat a0) (gcons (stored_pats a1) gnil))

  pub stored_fieldpats : FieldPats → Gv
  stored_fieldpats no_fieldpats = gcons (gnum 0) (gnil)
  stored_fieldpats (more_fieldpats a0 a1) = gcons (gnum 1) (gcons (stored_fieldpat a0) (gcons (stored_fieldpats a1) gnil))

abbrev Is_wild : Pat → Type 0
Is_wild y = (a0 : Span) × (y ≡ wild a0)

abbrev Is_lone : Pat → Type 0
Is_lone y = (a0 : Ident) × (y ≡ lone a0)

abbrev Is_mut_bind : Pat → Type 0
Is_mut_bind y = (a0 : Span) × ((a1 : Ident) × (y ≡ mut_bind a0 a1))

abbrev Is_number : Pat → Type 0
Is_number y = (a0 : Span) × ((a1 : Bool) × ((a2 : Magnitude) × ((a3 : Suffix) × (y ≡ number a0 a1 a2 a3))))

abbrev Is_truth : Pat → Type 0
Is_truth y = (a0 : Span) × ((a1 : Bool) × (y ≡ truth a0 a1))

abbrev Is_tuple : Pat → Type 0
Is_tuple y = (a0 : Span) × ((a1 : Pats) × (y ≡ tuple a0 a1))

abbrev Is_construct : Pat → Type 0
Is_construct y = (a0 : Span) × ((a1 : Path) × ((a2 : Pats) × (y ≡ construct a0 a1 a2)))

abbrev Is_literal : Pat → Type 0
Is_literal y = (a0 : Span) × ((a1 : Path) × ((a2 : FieldPats) × (y ≡ literal a0 a1 a2)))

abbrev Shape_pat : ℕ → Pat → Type 0
Shape_pat zero y = Is_wild y
Shape_pat (suc zero) y = Is_lone y
Shape_pat (suc (suc zero)) y = Is_mut_bind y
Shape_pat (suc (suc (suc zero))) y = Is_number y
Shape_pat (suc (suc (suc (suc zero)))) y = Is_truth y
Shape_pat (suc (suc (suc (suc (suc zero))))) y = Is_tuple y
Shape_pat (suc (suc (suc (suc (suc (suc zero)))))) y = Is_construct y
Shape_pat (suc (suc (suc (suc (suc (suc (suc zero))))))) y = Is_literal y
Shape_pat (suc (suc (suc (suc (suc (suc (suc (suc n)))))))) y = ⊥

shape_pat : (y : Pat) → Shape_pat (num (head (stored_pat y))) y
shape_pat (wild a0) = (a0, refl)
shape_pat (lone a0) = (a0, refl)
shape_pat (mut_bind a0 a1) = (a0, (a1, refl))
shape_pat (number a0 a1 a2 a3) = (a0, (a1, (a2, (a3, refl))))
shape_pat (truth a0 a1) = (a0, (a1, refl))
shape_pat (tuple a0 a1) = (a0, (a1, refl))
shape_pat (construct a0 a1 a2) = (a0, (a1, (a2, refl)))
shape_pat (literal a0 a1 a2) = (a0, (a1, (a2, refl)))

as_wild : (g : Gv) (y : Pat) → gcons (gnum 0) g ≡ stored_pat y → Is_wild y
as_wild g y p = subst (λ n. Shape_pat n y) (sym (ap (λ g. num (head g)) p)) (shape_pat y)

as_lone : (g : Gv) (y : Pat) → gcons (gnum 1) g ≡ stored_pat y → Is_lone y
as_lone g y p = subst (λ n. Shape_pat n y) (sym (ap (λ g. num (head g)) p)) (shape_pat y)

as_mut_bind : (g : Gv) (y : Pat) → gcons (gnum 2) g ≡ stored_pat y → Is_mut_bind y
as_mut_bind g y p = subst (λ n. Shape_pat n y) (sym (ap (λ g. num (head g)) p)) (shape_pat y)

as_number : (g : Gv) (y : Pat) → gcons (gnum 3) g ≡ stored_pat y → Is_number y
as_number g y p = subst (λ n. Shape_pat n y) (sym (ap (λ g. num (head g)) p)) (shape_pat y)

as_truth : (g : Gv) (y : Pat) → gcons (gnum 4) g ≡ stored_pat y → Is_truth y
as_truth g y p = subst (λ n. Shape_pat n y) (sym (ap (λ g. num (head g)) p)) (shape_pat y)

as_tuple : (g : Gv) (y : Pat) → gcons (gnum 5) g ≡ stored_pat y → Is_tuple y
as_tuple g y p = subst (λ n. Shape_pat n y) (sym (ap (λ g. num (head g)) p)) (shape_pat y)

as_construct : (g : Gv) (y : Pat) → gcons (gnum 6) g ≡ stored_pat y → Is_construct y
as_construct g y p = subst (λ n. Shape_pat n y) (sym (ap (λ g. num (head g)) p)) (shape_pat y)

as_literal : (g : Gv) (y : Pat) → gcons (gnum 7) g ≡ stored_pat y → Is_literal y
as_literal g y p = subst (λ n. Shape_pat n y) (sym (ap (λ g. num (head g)) p)) (shape_pat y)

abbrev Is_short : FieldPat → Type 0
Is_short y = (a0 : Ident) × (y ≡ short a0)

abbrev Is_given : FieldPat → Type 0
Is_given y = (a0 : Span) × ((a1 : Name) × ((a2 : Pat) × (y ≡ given a0 a1 a2)))

abbrev Shape_fieldpat : ℕ → FieldPat → Type 0
Shape_fieldpat zero y = Is_short y
Shape_fieldpat (suc zero) y = Is_given y
Shape_fieldpat (suc (suc n)) y = ⊥

shape_fieldpat : (y : FieldPat) → Shape_fieldpat (num (head (stored_fieldpat y))) y
shape_fieldpat (short a0) = (a0, refl)
shape_fieldpat (given a0 a1 a2) = (a0, (a1, (a2, refl)))

as_short : (g : Gv) (y : FieldPat) → gcons (gnum 0) g ≡ stored_fieldpat y → Is_short y
as_short g y p = subst (λ n. Shape_fieldpat n y) (sym (ap (λ g. num (head g)) p)) (shape_fieldpat y)

as_given : (g : Gv) (y : FieldPat) → gcons (gnum 1) g ≡ stored_fieldpat y → Is_given y
as_given g y p = subst (λ n. Shape_fieldpat n y) (sym (ap (λ g. num (head g)) p)) (shape_fieldpat y)

abbrev Is_no_pats : Pats → Type 0
Is_no_pats y = y ≡ no_pats

abbrev Is_more_pats : Pats → Type 0
Is_more_pats y = (a0 : Pat) × ((a1 : Pats) × (y ≡ more_pats a0 a1))

abbrev Shape_pats : ℕ → Pats → Type 0
Shape_pats zero y = Is_no_pats y
Shape_pats (suc zero) y = Is_more_pats y
Shape_pats (suc (suc n)) y = ⊥

shape_pats : (y : Pats) → Shape_pats (num (head (stored_pats y))) y
shape_pats no_pats = refl
shape_pats (more_pats a0 a1) = (a0, (a1, refl))

as_no_pats : (g : Gv) (y : Pats) → gcons (gnum 0) g ≡ stored_pats y → Is_no_pats y
as_no_pats g y p = subst (λ n. Shape_pats n y) (sym (ap (λ g. num (head g)) p)) (shape_pats y)

as_more_pats : (g : Gv) (y : Pats) → gcons (gnum 1) g ≡ stored_pats y → Is_more_pats y
as_more_pats g y p = subst (λ n. Shape_pats n y) (sym (ap (λ g. num (head g)) p)) (shape_pats y)

abbrev Is_no_fieldpats : FieldPats → Type 0
Is_no_fieldpats y = y ≡ no_fieldpats

abbrev Is_more_fieldpats : FieldPats → Type 0
Is_more_fieldpats y = (a0 : FieldPat) × ((a1 : FieldPats) × (y ≡ more_fieldpats a0 a1))

abbrev Shape_fieldpats : ℕ → FieldPats → Type 0
Shape_fieldpats zero y = Is_no_fieldpats y
Shape_fieldpats (suc zero) y = Is_more_fieldpats y
Shape_fieldpats (suc (suc n)) y = ⊥

shape_fieldpats : (y : FieldPats) → Shape_fieldpats (num (head (stored_fieldpats y))) y
shape_fieldpats no_fieldpats = refl
shape_fieldpats (more_fieldpats a0 a1) = (a0, (a1, refl))

as_no_fieldpats : (g : Gv) (y : FieldPats) → gcons (gnum 0) g ≡ stored_fieldpats y → Is_no_fieldpats y
as_no_fieldpats g y p = subst (λ n. Shape_fieldpats n y) (sym (ap (λ g. num (head g)) p)) (shape_fieldpats y)

as_more_fieldpats : (g : Gv) (y : FieldPats) → gcons (gnum 1) g ≡ stored_fieldpats y → Is_more_fieldpats y
as_more_fieldpats g y p = subst (λ n. Shape_fieldpats n y) (sym (ap (λ g. num (head g)) p)) (shape_fieldpats y)

mutual
  pub inj_pat : (x y : Pat) → stored_pat x ≡ stored_pat y → x ≡ y
  inj_pat (wild a0) y q =
      let w = as_wild (gcons (span_row.the_row.coded.code a0) gnil) y q in
      let p : stored_pat (wild a0) ≡ stored_pat (wild w.0) = q ∙ ap stored_pat (w.1) in
      (λ i. wild (span_row.the_row.coded.inj a0 w.0 (ap (λ g. head (tail g)) p) i)) ∙ sym (w.1)
  inj_pat (lone a0) y q =
      let w = as_lone (gcons (ident_row.the_row.coded.code a0) gnil) y q in
      let p : stored_pat (lone a0) ≡ stored_pat (lone w.0) = q ∙ ap stored_pat (w.1) in
      (λ i. lone (ident_row.the_row.coded.inj a0 w.0 (ap (λ g. head (tail g)) p) i)) ∙ sym (w.1)
  inj_pat (mut_bind a0 a1) y q =
      let w = as_mut_bind (gcons (span_row.the_row.coded.code a0) (gcons (ident_row.the_row.coded.code a1) gnil)) y q in
      let p : stored_pat (mut_bind a0 a1) ≡ stored_pat (mut_bind w.0 w.1.0) = q ∙ ap stored_pat (w.1.1) in
      (λ i. mut_bind (span_row.the_row.coded.inj a0 w.0 (ap (λ g. head (tail g)) p) i) (ident_row.the_row.coded.inj a1 w.1.0 (ap (λ g. head (tail (tail g))) p) i)) ∙ sym (w.1.1)
  inj_pat (number a0 a1 a2 a3) y q =
      let w = as_number (gcons (span_row.the_row.coded.code a0) (gcons (coded_bool.code a1) (gcons (coded_ℕ.code a2) (gcons (coded_suffix.code a3) gnil)))) y q in
      let p : stored_pat (number a0 a1 a2 a3) ≡ stored_pat (number w.0 w.1.0 w.1.1.0 w.1.1.1.0) = q ∙ ap stored_pat (w.1.1.1.1) in
      (λ i. number (span_row.the_row.coded.inj a0 w.0 (ap (λ g. head (tail g)) p) i) (coded_bool.inj a1 w.1.0 (ap (λ g. head (tail (tail g))) p) i) (coded_ℕ.inj a2 w.1.1.0 (ap (λ g. head (tail (tail (tail g)))) p) i) (coded_suffix.inj a3 w.1.1.1.0 (ap (λ g. head (tail (tail (tail (tail g))))) p) i)) ∙ sym (w.1.1.1.1)
  inj_pat (truth a0 a1) y q =
      let w = as_truth (gcons (span_row.the_row.coded.code a0) (gcons (coded_bool.code a1) gnil)) y q in
      let p : stored_pat (truth a0 a1) ≡ stored_pat (truth w.0 w.1.0) = q ∙ ap stored_pat (w.1.1) in
      (λ i. truth (span_row.the_row.coded.inj a0 w.0 (ap (λ g. head (tail g)) p) i) (coded_bool.inj a1 w.1.0 (ap (λ g. head (tail (tail g))) p) i)) ∙ sym (w.1.1)
  inj_pat (tuple a0 a1) y q =
      let w = as_tuple (gcons (span_row.the_row.coded.code a0) (gcons (stored_pats a1) gnil)) y q in
      let p : stored_pat (tuple a0 a1) ≡ stored_pat (tuple w.0 w.1.0) = q ∙ ap stored_pat (w.1.1) in
      (λ i. tuple (span_row.the_row.coded.inj a0 w.0 (ap (λ g. head (tail g)) p) i) (inj_pats a1 w.1.0 (ap (λ g. head (tail (tail g))) p) i)) ∙ sym (w.1.1)
  inj_pat (construct a0 a1 a2) y q =
      let w = as_construct (gcons (span_row.the_row.coded.code a0) (gcons (coded_path.code a1) (gcons (stored_pats a2) gnil))) y q in
      let p : stored_pat (construct a0 a1 a2) ≡ stored_pat (construct w.0 w.1.0 w.1.1.0) = q ∙ ap stored_pat (w.1.1.1) in
      (λ i. construct (span_row.the_row.coded.inj a0 w.0 (ap (λ g. head (tail g)) p) i) (coded_path.inj a1 w.1.0 (ap (λ g. head (tail (tail g))) p) i) (inj_pats a2 w.1.1.0 (ap (λ g. head (tail (tail (tail g)))) p) i)) ∙ sym (w.1.1.1)
  inj_pat (literal a0 a1 a2) y q =
      let w = as_literal (gcons (span_row.the_row.coded.code a0) (gcons (coded_path.code a1) (gcons (stored_fieldpats a2) gnil))) y q in
      let p : stored_pat (literal a0 a1 a2) ≡ stored_pat (literal w.0 w.1.0 w.1.1.0) = q ∙ ap stored_pat (w.1.1.1) in
      (λ i. literal (span_row.the_row.coded.inj a0 w.0 (ap (λ g. head (tail g)) p) i) (coded_path.inj a1 w.1.0 (ap (λ g. head (tail (tail g))) p) i) (inj_fieldpats a2 w.1.1.0 (ap (λ g. head (tail (tail (tail g)))) p) i)) ∙ sym (w.1.1.1)

  pub inj_fieldpat : (x y : FieldPat) → stored_fieldpat x ≡ stored_fieldpat y → x ≡ y
  inj_fieldpat (short a0) y q =
      let w = as_short (gcons (ident_row.the_row.coded.code a0) gnil) y q in
      let p : stored_fieldpat (short a0) ≡ stored_fieldpat (short w.0) = q ∙ ap stored_fieldpat (w.1) in
      (λ i. short (ident_row.the_row.coded.inj a0 w.0 (ap (λ g. head (tail g)) p) i)) ∙ sym (w.1)
  inj_fieldpat (given a0 a1 a2) y q =
      let w = as_given (gcons (span_row.the_row.coded.code a0) (gcons ((coded_list coded_ℕ).code a1) (gcons (stored_pat a2) gnil))) y q in
      let p : stored_fieldpat (given a0 a1 a2) ≡ stored_fieldpat (given w.0 w.1.0 w.1.1.0) = q ∙ ap stored_fieldpat (w.1.1.1) in
      (λ i. given (span_row.the_row.coded.inj a0 w.0 (ap (λ g. head (tail g)) p) i) ((coded_list coded_ℕ).inj a1 w.1.0 (ap (λ g. head (tail (tail g))) p) i) (inj_pat a2 w.1.1.0 (ap (λ g. head (tail (tail (tail g)))) p) i)) ∙ sym (w.1.1.1)

  pub inj_pats : (x y : Pats) → stored_pats x ≡ stored_pats y → x ≡ y
  inj_pats no_pats y q =
      let w = as_no_pats (gnil) y q in
      sym w
  inj_pats (more_pats a0 a1) y q =
      let w = as_more_pats (gcons (stored_pat a0) (gcons (stored_pats a1) gnil)) y q in
      let p : stored_pats (more_pats a0 a1) ≡ stored_pats (more_pats w.0 w.1.0) = q ∙ ap stored_pats (w.1.1) in
      (λ i. more_pats (inj_pat a0 w.0 (ap (λ g. head (tail g)) p) i) (inj_pats a1 w.1.0 (ap (λ g. head (tail (tail g))) p) i)) ∙ sym (w.1.1)

  pub inj_fieldpats : (x y : FieldPats) → stored_fieldpats x ≡ stored_fieldpats y → x ≡ y
  inj_fieldpats no_fieldpats y q =
      let w = as_no_fieldpats (gnil) y q in
      sym w
  inj_fieldpats (more_fieldpats a0 a1) y q =
      let w = as_more_fieldpats (gcons (stored_fieldpat a0) (gcons (stored_fieldpats a1) gnil)) y q in
      let p : stored_fieldpats (more_fieldpats a0 a1) ≡ stored_fieldpats (more_fieldpats w.0 w.1.0) = q ∙ ap stored_fieldpats (w.1.1) in
      (λ i. more_fieldpats (inj_fieldpat a0 w.0 (ap (λ g. head (tail g)) p) i) (inj_fieldpats a1 w.1.0 (ap (λ g. head (tail (tail g))) p) i)) ∙ sym (w.1.1)

abbrev pub coded_pat : Coded Pat
coded_pat = record { code = stored_pat; inj = inj_pat }

abbrev pub coded_fieldpat : Coded FieldPat
coded_fieldpat = record { code = stored_fieldpat; inj = inj_fieldpat }

abbrev pub coded_pats : Coded Pats
coded_pats = record { code = stored_pats; inj = inj_pats }

abbrev pub coded_fieldpats : Coded FieldPats
coded_fieldpats = record { code = stored_fieldpats; inj = inj_fieldpats }

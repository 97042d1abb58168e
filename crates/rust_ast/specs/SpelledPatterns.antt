-- Patterns with what they look through and how their names bind (LANGUAGE.md, "Types").
-- Made by tools/trees.py from tools/rust_ast.desc.py.
use Rattle.std.specs.Prelude.{◌≡◌, ℕ, zero, suc, ◌+◌, Bool, List, [], ◌∷◌, refl}
use Rattle.std.specs.Coded.{Coded, coded_ℕ, coded_bool}
use Rattle.std.proofs.Common.{ap, sym, ◌∙◌, subst}
use base.Stored.{Gv, gnil, gnum, gcons, num}
use Rattle.aen_base.specs.declared.span.Span.{Span}
use Rattle.aen_base.specs.contracts.span.Span as span_row
use Rattle.aen_base.specs.declared.ids.TypeId.{TypeId}
use Rattle.aen_base.specs.contracts.ids.TypeId as typeid_row
use Rattle.aen_base.specs.Numbers.{Number, coded_number}

abbrev head : Gv → Gv
head gnil = gnil
head (gnum n) = gnil
head (gcons a b) = a

abbrev tail : Gv → Gv
tail gnil = gnil
tail (gnum n) = gnil
tail (gcons a b) = b

mutual
  pub data Mode : Type 0 where
    copy : Mode
    move : Mode
    refer : Bool → Mode

  pub data Pat : Type 0 where
    wild : Pat
    bind : Span → ℕ → Mode → Pat
    number : Number → Pat
    truth : Bool → Pat
    tuple : Pats → Pat
    construct : TypeId → ℕ → FieldPats → Pat
    through : Bool → Pat → Pat

  pub data Pats : Type 0 where
    no_pats : Pats
    more_pats : Pat → Pats → Pats

  pub data FieldPats : Type 0 where
    no_fieldpats : FieldPats
    more_fieldpats : ℕ → Pat → FieldPats → FieldPats

abbrev pub pats : List (Pat) → Pats
pats [] = no_pats
pats (x ∷ xs) = more_pats x (pats xs)

abbrev pub pats_list : Pats → List (Pat)
pats_list no_pats = []
pats_list (more_pats a0 r) = a0 ∷ pats_list r

pub pats_back : (xs : List (Pat)) → pats_list (pats xs) ≡ xs
pats_back [] = refl
pats_back (x ∷ xs) = ap (λ r. x ∷ r) (pats_back xs)

abbrev pub fieldpats : List (ℕ × Pat) → FieldPats
fieldpats [] = no_fieldpats
fieldpats (x ∷ xs) = more_fieldpats x.0 x.1 (fieldpats xs)

abbrev pub fieldpats_list : FieldPats → List (ℕ × Pat)
fieldpats_list no_fieldpats = []
fieldpats_list (more_fieldpats a0 a1 r) = (a0, a1) ∷ fieldpats_list r

pub fieldpats_back : (xs : List (ℕ × Pat)) → fieldpats_list (fieldpats xs) ≡ xs
fieldpats_back [] = refl
fieldpats_back (x ∷ xs) = ap (λ r. x ∷ r) (fieldpats_back xs)

pub pats_inj : (xs ys : List (Pat)) → pats xs ≡ pats ys → xs ≡ ys
pats_inj xs ys p = sym (pats_back xs) ∙ ap pats_list p ∙ pats_back ys

pub fieldpats_inj : (xs ys : List (ℕ × Pat)) → fieldpats xs ≡ fieldpats ys → xs ≡ ys
fieldpats_inj xs ys p = sym (fieldpats_back xs) ∙ ap fieldpats_list p ∙ fieldpats_back ys

abbrev mutual
  pub nodes_mode : Mode → ℕ
  nodes_mode copy = 1
  nodes_mode move = 1
  nodes_mode (refer a0) = 1

  pub nodes_pat : Pat → ℕ
  nodes_pat wild = 1
  nodes_pat (bind a0 a1 a2) = nodes_mode a2 + 1
  nodes_pat (number a0) = 1
  nodes_pat (truth a0) = 1
  nodes_pat (tuple a0) = nodes_pats a0 + 1
  nodes_pat (construct a0 a1 a2) = nodes_fieldpats a2 + 1
  nodes_pat (through a0 a1) = nodes_pat a1 + 1

  pub nodes_pats : Pats → ℕ
  nodes_pats no_pats = 1
  nodes_pats (more_pats a0 a1) = nodes_pat a0 + nodes_pats a1 + 1

  pub nodes_fieldpats : FieldPats → ℕ
  nodes_fieldpats no_fieldpats = 1
  nodes_fieldpats (more_fieldpats a0 a1 a2) = nodes_pat a1 + nodes_fieldpats a2 + 1

abbrev mutual
  pub stored_mode : Mode → Gv
  stored_mode copy = gcons (gnum 0) (gnil)
  stored_mode move = gcons (gnum 1) (gnil)
  stored_mode (refer a0) = gcons (gnum 2) (gcons (coded_bool.code a0) gnil)

  pub stored_pat : Pat → Gv
  stored_pat wild = gcons (gnum 0) (gnil)
  stored_pat (bind a0 a1 a2) = gcons (gnum 1) (gcons (span_row.the_row.coded.code a0) (gcons (coded_ℕ.code a1) (gcons (stored_mode a2) gnil)))
  stored_pat (number a0) = gcons (gnum 2) (gcons (coded_number.code a0) gnil)
  stored_pat (truth a0) = gcons (gnum 3) (gcons (coded_bool.code a0) gnil)
  stored_pat (tuple a0) = gcons (gnum 4) (gcons (stored_pats a0) gnil)
  stored_pat (construct a0 a1 a2) = gcons (gnum 5) (gcons (typeid_row.the_row.coded.code a0) (gcons (coded_ℕ.code a1) (gcons (stored_fieldpats a2) gnil)))
  stored_pat (through a0 a1) = gcons (gnum 6) (gcons (coded_bool.code a0) (gcons (stored_pat a1) gnil))

  pub stored_pats : Pats → Gv
  stored_pats no_pats = gcons (gnum 0) (gnil)
  stored_pats (more_pats a0 a1) = gcons (gnum 1) (gcons (stored_pat a0) (gcons (stored_pats a1) gnil))

  pub stored_fieldpats : FieldPats → Gv
  stored_fieldpats no_fieldpats = gcons (gnum 0) (gnil)
  stored_fieldpats (more_fieldpats a0 a1 a2) = gcons (gnum 1) (gcons (coded_ℕ.code a0) (gcons (stored_pat a1) (gcons (stored_fieldpats a2) gnil)))

abbrev Is_copy : Mode → Type 0
Is_copy y = y ≡ copy

abbrev Is_move : Mode → Type 0
Is_move y = y ≡ move

abbrev Is_refer : Mode → Type 0
Is_refer y = (a0 : Bool) × (y ≡ refer a0)

abbrev Shape_mode : ℕ → Mode → Type 0
Shape_mode zero y = Is_copy y
Shape_mode (suc zero) y = Is_move y
Shape_mode (suc (suc zero)) y = Is_refer y
Shape_mode (suc (suc (suc n))) y = ⊥

shape_mode : (y : Mode) → Shape_mode (num (head (stored_mode y))) y
shape_mode copy = refl
shape_mode move = refl
shape_mode (refer a0) = (a0, refl)

as_copy : (g : Gv) (y : Mode) → gcons (gnum 0) g ≡ stored_mode y → Is_copy y
as_copy g y p = subst (λ n. Shape_mode n y) (sym (ap (λ g. num (head g)) p)) (shape_mode y)

as_move : (g : Gv) (y : Mode) → gcons (gnum 1) g ≡ stored_mode y → Is_move y
as_move g y p = subst (λ n. Shape_mode n y) (sym (ap (λ g. num (head g)) p)) (shape_mode y)

as_refer : (g : Gv) (y : Mode) → gcons (gnum 2) g ≡ stored_mode y → Is_refer y
as_refer g y p = subst (λ n. Shape_mode n y) (sym (ap (λ g. num (head g)) p)) (shape_mode y)

abbrev Is_wild : Pat → Type 0
Is_wild y = y ≡ wild

abbrev Is_bind : Pat → Type 0
Is_bind y = (a0 : Span) × ((a1 : ℕ) × ((a2 : Mode) × (y ≡ bind a0 a1 a2)))

abbrev Is_number : Pat → Type 0
Is_number y = (a0 : Number) × (y ≡ number a0)

abbrev Is_truth : Pat → Type 0
Is_truth y = (a0 : Bool) × (y ≡ truth a0)

abbrev Is_tuple : Pat → Type 0
Is_tuple y = (a0 : Pats) × (y ≡ tuple a0)

abbrev Is_construct : Pat → Type 0
Is_construct y = (a0 : TypeId) × ((a1 : ℕ) × ((a2 : FieldPats) × (y ≡ construct a0 a1 a2)))

abbrev Is_through : Pat → Type 0
Is_through y = (a0 : Bool) × ((a1 : Pat) × (y ≡ through a0 a1))

abbrev Shape_pat : ℕ → Pat → Type 0
Shape_pat zero y = Is_wild y
Shape_pat (suc zero) y = Is_bind y
Shape_pat (suc (suc zero)) y = Is_number y
Shape_pat (suc (suc (suc zero))) y = Is_truth y
Shape_pat (suc (suc (suc (suc zero)))) y = Is_tuple y
Shape_pat (suc (suc (suc (suc (suc zero))))) y = Is_construct y
Shape_pat (suc (suc (suc (suc (suc (suc zero)))))) y = Is_through y
Shape_pat (suc (suc (suc (suc (suc (suc (suc n))))))) y = ⊥

shape_pat : (y : Pat) → Shape_pat (num (head (stored_pat y))) y
shape_pat wild = refl
shape_pat (bind a0 a1 a2) = (a0, (a1, (a2, refl)))
shape_pat (number a0) = (a0, refl)
shape_pat (truth a0) = (a0, refl)
shape_pat (tuple a0) = (a0, refl)
shape_pat (construct a0 a1 a2) = (a0, (a1, (a2, refl)))
shape_pat (through a0 a1) = (a0, (a1, refl))

as_wild : (g : Gv) (y : Pat) → gcons (gnum 0) g ≡ stored_pat y → Is_wild y
as_wild g y p = subst (λ n. Shape_pat n y) (sym (ap (λ g. num (head g)) p)) (shape_pat y)

as_bind : (g : Gv) (y : Pat) → gcons (gnum 1) g ≡ stored_pat y → Is_bind y
as_bind g y p = subst (λ n. Shape_pat n y) (sym (ap (λ g. num (head g)) p)) (shape_pat y)

as_number : (g : Gv) (y : Pat) → gcons (gnum 2) g ≡ stored_pat y → Is_number y
as_number g y p = subst (λ n. Shape_pat n y) (sym (ap (λ g. num (head g)) p)) (shape_pat y)

as_truth : (g : Gv) (y : Pat) → gcons (gnum 3) g ≡ stored_pat y → Is_truth y
as_truth g y p = subst (λ n. Shape_pat n y) (sym (ap (λ g. num (head g)) p)) (shape_pat y)

as_tuple : (g : Gv) (y : Pat) → gcons (gnum 4) g ≡ stored_pat y → Is_tuple y
as_tuple g y p = subst (λ n. Shape_pat n y) (sym (ap (λ g. num (head g)) p)) (shape_pat y)

as_construct : (g : Gv) (y : Pat) → gcons (gnum 5) g ≡ stored_pat y → Is_construct y
as_construct g y p = subst (λ n. Shape_pat n y) (sym (ap (λ g. num (head g)) p)) (shape_pat y)

as_through : (g : Gv) (y : Pat) → gcons (gnum 6) g ≡ stored_pat y → Is_through y
as_through g y p = subst (λ n. Shape_pat n y) (sym (ap (λ g. num (head g)) p)) (shape_pat y)

abbrev Is_no_pats : Pats → Type 0
Is_no_pats y = y ≡ no_pats

abbrev Is_more_pats : Pats → Type 0
Is_more_pats y = (a0 : Pat) × ((a1 : Pats) × (y ≡ more_pats a0 a1))

abbrev Shape_pats : ℕ → Pats → Type 0
Shape_pats zero y = Is_no_pats y
Shape_pats (suc zero) y = Is_more_pats y
Shape_pats (suc (suc n)) y = ⊥

shape_pats : (y : Pats) → Shape_pats (num (head (stored_pats y))) y
shape_pats no_pats = refl
shape_pats (more_pats a0 a1) = (a0, (a1, refl))

as_no_pats : (g : Gv) (y : Pats) → gcons (gnum 0) g ≡ stored_pats y → Is_no_pats y
as_no_pats g y p = subst (λ n. Shape_pats n y) (sym (ap (λ g. num (head g)) p)) (shape_pats y)

as_more_pats : (g : Gv) (y : Pats) → gcons (gnum 1) g ≡ stored_pats y → Is_more_pats y
as_more_pats g y p = subst (λ n. Shape_pats n y) (sym (ap (λ g. num (head g)) p)) (shape_pats y)

abbrev Is_no_fieldpats : FieldPats → Type 0
Is_no_fieldpats y = y ≡ no_fieldpats

abbrev Is_more_fieldpats : FieldPats → Type 0
Is_more_fieldpats y = (a0 : ℕ) × ((a1 : Pat) × ((a2 : FieldPats) × (y ≡ more_fieldpats a0 a1 a2)))

abbrev Shape_fieldpats : ℕ → FieldPats → Type 0
Shape_fieldpats zero y = Is_no_fieldpats y
Shape_fieldpats (suc zero) y = Is_more_fieldpats y
Shape_fieldpats (suc (suc n)) y = ⊥

shape_fieldpats : (y : FieldPats) → Shape_fieldpats (num (head (stored_fieldpats y))) y
shape_fieldpats no_fieldpats = refl
shape_fieldpats (more_fieldpats a0 a1 a2) = (a0, (a1, (a2, refl)))

as_no_fieldpats : (g : Gv) (y : FieldPats) → gcons (gnum 0) g ≡ stored_fieldpats y → Is_no_fieldpats y
as_no_fieldpats g y p = subst (λ n. Shape_fieldpats n y) (sym (ap (λ g. num (head g)) p)) (shape_fieldpats y)

as_more_fieldpats : (g : Gv) (y : FieldPats) → gcons (gnum 1) g ≡ stored_fieldpats y → Is_more_fieldpats y
as_more_fieldpats g y p = subst (λ n. Shape_fieldpats n y) (sym (ap (λ g. num (head g)) p)) (shape_fieldpats y)

mutual
  pub inj_mode : (x y : Mode) → stored_mode x ≡ stored_mode y → x ≡ y
  inj_mode copy y q =
      let w = as_copy (gnil) y q in
      sym w
  inj_mode move y q =
      let w = as_move (gnil) y q in
      sym w
  inj_mode (refer a0) y q =
      let w = as_refer (gcons (coded_bool.code a0) gnil) y q in
      let p : stored_mode (refer a0) ≡ stored_mode (refer w.0) = q ∙ ap stored_mode (w.1) in
      (λ i. refer (coded_bool.inj a0 w.0 (ap (λ g. head (tail g)) p) i)) ∙ sym (w.1)

  pub inj_pat : (x y : Pat) → stored_pat x ≡ stored_pat y → x ≡ y
  inj_pat wild y q =
      let w = as_wild (gnil) y q in
      sym w
  inj_pat (bind a0 a1 a2) y q =
      let w = as_bind (gcons (span_row.the_row.coded.code a0) (gcons (coded_ℕ.code a1) (gcons (stored_mode a2) gnil))) y q in
      let p : stored_pat (bind a0 a1 a2) ≡ stored_pat (bind w.0 w.1.0 w.1.1.0) = q ∙ ap stored_pat (w.1.1.1) in
      (λ i. bind (span_row.the_row.coded.inj a0 w.0 (ap (λ g. head (tail g)) p) i) (coded_ℕ.inj a1 w.1.0 (ap (λ g. head (tail (tail g))) p) i) (inj_mode a2 w.1.1.0 (ap (λ g. head (tail (tail (tail g)))) p) i)) ∙ sym (w.1.1.1)
  inj_pat (number a0) y q =
      let w = as_number (gcons (coded_number.code a0) gnil) y q in
      let p : stored_pat (number a0) ≡ stored_pat (number w.0) = q ∙ ap stored_pat (w.1) in
      (λ i. number (coded_number.inj a0 w.0 (ap (λ g. head (tail g)) p) i)) ∙ sym (w.1)
  inj_pat (truth a0) y q =
      let w = as_truth (gcons (coded_bool.code a0) gnil) y q in
      let p : stored_pat (truth a0) ≡ stored_pat (truth w.0) = q ∙ ap stored_pat (w.1) in
      (λ i. truth (coded_bool.inj a0 w.0 (ap (λ g. head (tail g)) p) i)) ∙ sym (w.1)
  inj_pat (tuple a0) y q =
      let w = as_tuple (gcons (stored_pats a0) gnil) y q in
      let p : stored_pat (tuple a0) ≡ stored_pat (tuple w.0) = q ∙ ap stored_pat (w.1) in
      (λ i. tuple (inj_pats a0 w.0 (ap (λ g. head (tail g)) p) i)) ∙ sym (w.1)
  inj_pat (construct a0 a1 a2) y q =
      let w = as_construct (gcons (typeid_row.the_row.coded.code a0) (gcons (coded_ℕ.code a1) (gcons (stored_fieldpats a2) gnil))) y q in
      let p : stored_pat (construct a0 a1 a2) ≡ stored_pat (construct w.0 w.1.0 w.1.1.0) = q ∙ ap stored_pat (w.1.1.1) in
      (λ i. construct (typeid_row.the_row.coded.inj a0 w.0 (ap (λ g. head (tail g)) p) i) (coded_ℕ.inj a1 w.1.0 (ap (λ g. head (tail (tail g))) p) i) (inj_fieldpats a2 w.1.1.0 (ap (λ g. head (tail (tail (tail g)))) p) i)) ∙ sym (w.1.1.1)
  inj_pat (through a0 a1) y q =
      let w = as_through (gcons (coded_bool.code a0) (gcons (stored_pat a1) gnil)) y q in
      let p : stored_pat (through a0 a1) ≡ stored_pat (through w.0 w.1.0) = q ∙ ap stored_pat (w.1.1) in
      (λ i. through (coded_bool.inj a0 w.0 (ap (λ g. head (tail g)) p) i) (inj_pat a1 w.1.0 (ap (λ g. head (tail (tail g))) p) i)) ∙ sym (w.1.1)

  pub inj_pats : (x y : Pats) → stored_pats x ≡ stored_pats y → x ≡ y
  inj_pats no_pats y q =
      let w = as_no_pats (gnil) y q in
      sym w
  inj_pats (more_pats a0 a1) y q =
      let w = as_more_pats (gcons (stored_pat a0) (gcons (stored_pats a1) gnil)) y q in
      let p : stored_pats (more_pats a0 a1) ≡ stored_pats (more_pats w.0 w.1.0) = q ∙ ap stored_pats (w.1.1) in
      (λ i. more_pats (inj_pat a0 w.0 (ap (λ g. head (tail g)) p) i) (inj_pats a1 w.1.0 (ap (λ g. head (tail (tail g))) p) i)) ∙ sym (w.1.1)

  pub inj_fieldpats : (x y : FieldPats) → stored_fieldpats x ≡ stored_fieldpats y → x ≡ y
  inj_fieldpats no_fieldpats y q =
      let w = as_no_fieldpats (gnil) y q in
      sym w
  inj_fieldpats (more_fieldpats a0 a1 a2) y q =
      let w = as_more_fieldpats (gcons (coded_ℕ.code a0) (gcons (stored_pat a1) (gcons (stored_fieldpats a2) gnil))) y q in
      let p : stored_fieldpats (more_fieldpats a0 a1 a2) ≡ stored_fieldpats (more_fieldpats w.0 w.1.0 w.1.1.0) = q ∙ ap stored_fieldpats (w.1.1.1) in
      (λ i. more_fieldpats (coded_ℕ.inj a0 w.0 (ap (λ g. head (tail g)) p) i) (inj_pat a1 w.1.0 (ap (λ g. head (tail (tail g))) p) i) (inj_fieldpats a2 w.1.1.0 (ap (λ g. head (tail (tail (tail g)))) p) i)) ∙ sym (w.1.1.1)

abbrev pub coded_mode : Coded Mode
coded_mode = record { code = stored_mode; inj = inj_mode }

abbrev pub coded_pat : Coded Pat
coded_pat = record { code = stored_pat; inj = inj_pat }

abbrev pub coded_pats : Coded Pats
coded_pats = record { code = stored_pats; inj = inj_pats }

abbrev pub coded_fieldpats : Coded FieldPats
coded_fieldpats = record { code = stored_fieldpats; inj = inj_fieldpats }

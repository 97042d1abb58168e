-- Made by tools/trees.py from tools/sums_ast.desc.py: expressions, statements and blocks of a source.
use Rattle.std.specs.Prelude.{◌≡◌, ℕ, zero, suc, ◌+◌, List, [], ◌∷◌, Option, Some, None, refl}
use Rattle.std.specs.Coded.{Coded, coded_ℕ}
use Rattle.std.proofs.Common.{ap, sym, ◌∙◌, subst}
use base.Stored.{Gv, gnil, gnum, gcons, num}
use Rattle.aen_base.specs.Numbers.{Number, coded_number}
use Rattle.aen_base.specs.declared.span.Span.{Span}
use Rattle.aen_base.specs.contracts.span.Span as span
use Rattle.aen_base.specs.declared.operators.BinOp.{BinOp}
use Rattle.aen_base.specs.contracts.operators.BinOp as op

abbrev head : Gv → Gv
head gnil = gnil
head (gnum n) = gnil
head (gcons a b) = a

abbrev tail : Gv → Gv
tail gnil = gnil
tail (gnum n) = gnil
tail (gcons a b) = b

mutual
  pub data Expr : Type 0 where
    number : Span → Number → Expr
    variable : Span → ℕ → Expr
    binary : Span → BinOp → Expr → Expr → Expr
    call : Span → ℕ → Exprs → Expr

  pub data Stmt : Type 0 where
    bind : Span → ℕ → Expr → Stmt

  pub data Block : Type 0 where
    block : Span → Stmts → MaybeExpr → Block

  pub data Exprs : Type 0 where
    no_exprs : Exprs
    more_exprs : Expr → Exprs → Exprs

  pub data Stmts : Type 0 where
    no_stmts : Stmts
    more_stmts : Stmt → Stmts → Stmts

  pub data MaybeExpr : Type 0 where
    no_maybeexpr : MaybeExpr
    some_maybeexpr : Expr → MaybeExpr

abbrev pub exprs : List (Expr) → Exprs
exprs [] = no_exprs
exprs (x ∷ xs) = more_exprs x (exprs xs)

abbrev pub exprs_list : Exprs → List (Expr)
exprs_list no_exprs = []
exprs_list (more_exprs a0 r) = a0 ∷ exprs_list r

pub exprs_back : (xs : List (Expr)) → exprs_list (exprs xs) ≡ xs
exprs_back [] = refl
exprs_back (x ∷ xs) = ap (λ r. x ∷ r) (exprs_back xs)

abbrev pub stmts : List (Stmt) → Stmts
stmts [] = no_stmts
stmts (x ∷ xs) = more_stmts x (stmts xs)

abbrev pub stmts_list : Stmts → List (Stmt)
stmts_list no_stmts = []
stmts_list (more_stmts a0 r) = a0 ∷ stmts_list r

pub stmts_back : (xs : List (Stmt)) → stmts_list (stmts xs) ≡ xs
stmts_back [] = refl
stmts_back (x ∷ xs) = ap (λ r. x ∷ r) (stmts_back xs)

abbrev pub maybeexpr : Option Expr → MaybeExpr
maybeexpr None = no_maybeexpr
maybeexpr (Some x) = some_maybeexpr x

abbrev pub maybeexpr_option : MaybeExpr → Option Expr
maybeexpr_option no_maybeexpr = None
maybeexpr_option (some_maybeexpr x) = Some x

pub maybeexpr_back : (o : Option Expr) → maybeexpr_option (maybeexpr o) ≡ o
maybeexpr_back None = refl
maybeexpr_back (Some x) = refl

pub exprs_inj : (xs ys : List (Expr)) → exprs xs ≡ exprs ys → xs ≡ ys
exprs_inj xs ys p = sym (exprs_back xs) ∙ ap exprs_list p ∙ exprs_back ys

pub stmts_inj : (xs ys : List (Stmt)) → stmts xs ≡ stmts ys → xs ≡ ys
stmts_inj xs ys p = sym (stmts_back xs) ∙ ap stmts_list p ∙ stmts_back ys

pub maybeexpr_inj : (x y : Option Expr) → maybeexpr x ≡ maybeexpr y → x ≡ y
maybeexpr_inj x y p = sym (maybeexpr_back x) ∙ ap maybeexpr_option p ∙ maybeexpr_back y

abbrev mutual
  pub nodes_expr : Expr → ℕ
  nodes_expr (number a0 a1) = 1
  nodes_expr (variable a0 a1) = 1
  nodes_expr (binary a0 a1 a2 a3) = nodes_expr a2 + nodes_expr a3 + 1
  nodes_expr (call a0 a1 a2) = nodes_exprs a2 + 1

  pub nodes_stmt : Stmt → ℕ
  nodes_stmt (bind a0 a1 a2) = nodes_expr a2 + 1

  pub nodes_block : Block → ℕ
  nodes_block (block a0 a1 a2) = nodes_stmts a1 + nodes_maybeexpr a2 + 1

  pub nodes_exprs : Exprs → ℕ
  nodes_exprs no_exprs = 1
  nodes_exprs (more_exprs a0 a1) = nodes_expr a0 + nodes_exprs a1 + 1

  pub nodes_stmts : Stmts → ℕ
  nodes_stmts no_stmts = 1
  nodes_stmts (more_stmts a0 a1) = nodes_stmt a0 + nodes_stmts a1 + 1

  pub nodes_maybeexpr : MaybeExpr → ℕ
  nodes_maybeexpr no_maybeexpr = 1
  nodes_maybeexpr (some_maybeexpr a0) = nodes_expr a0 + 1

abbrev mutual
  pub stored_expr : Expr → Gv
  stored_expr (number a0 a1) = gcons (gnum 0) (gcons (span.the_row.coded.code a0) (gcons (coded_number.code a1) gnil))
  stored_expr (variable a0 a1) = gcons (gnum 1) (gcons (span.the_row.coded.code a0) (gcons (coded_ℕ.code a1) gnil))
  stored_expr (binary a0 a1 a2 a3) = gcons (gnum 2) (gcons (span.the_row.coded.code a0) (gcons (op.the_row.coded.code a1) (gcons (stored_expr a2) (gcons (stored_expr a3) gnil))))
  stored_expr (call a0 a1 a2) = gcons (gnum 3) (gcons (span.the_row.coded.code a0) (gcons (coded_ℕ.code a1) (gcons (stored_exprs a2) gnil)))

  pub stored_stmt : Stmt → Gv
  stored_stmt (bind a0 a1 a2) = gcons (gnum 0) (gcons (span.the_row.coded.code a0) (gcons (coded_ℕ.code a1) (gcons (stored_expr a2) gnil)))

  pub stored_block : Block → Gv
  stored_block (block a0 a1 a2) = gcons (gnum 0) (gcons (span.the_row.coded.code a0) (gcons (stored_stmts a1) (gcons (stored_maybeexpr a2) gnil)))

  pub stored_exprs : Exprs → Gv
  stored_exprs no_exprs = gcons (gnum 0) (gnil)
  stored_exprs (more_exprs a0 a1) = gcons (gnum 1) (gcons (stored_expr a0) (gcons (stored_exprs a1) gnil))

  pub stored_stmts : Stmts → Gv
  stored_stmts no_stmts = gcons (gnum 0) (gnil)
  stored_stmts (more_stmts a0 a1) = gcons (gnum 1) (gcons (stored_stmt a0) (gcons (stored_stmts a1) gnil))

  pub stored_maybeexpr : MaybeExpr → Gv
  stored_maybeexpr no_maybeexpr = gcons (gnum 0) (gnil)
  stored_maybeexpr (some_maybeexpr a0) = gcons (gnum 1) (gcons (stored_expr a0) gnil)

abbrev Is_number : Expr → Type 0
Is_number y = (a0 : Span) × ((a1 : Number) × (y ≡ number a0 a1))

abbrev Is_variable : Expr → Type 0
Is_variable y = (a0 : Span) × ((a1 : ℕ) × (y ≡ variable a0 a1))

abbrev Is_binary : Expr → Type 0
Is_binary y = (a0 : Span) × ((a1 : BinOp) × ((a2 : Expr) × ((a3 : Expr) × (y ≡ binary a0 a1 a2 a3))))

abbrev Is_call : Expr → Type 0
Is_call y = (a0 : Span) × ((a1 : ℕ) × ((a2 : Exprs) × (y ≡ call a0 a1 a2)))

abbrev Shape_expr : ℕ → Expr → Type 0
Shape_expr zero y = Is_number y
Shape_expr (suc zero) y = Is_variable y
Shape_expr (suc (suc zero)) y = Is_binary y
Shape_expr (suc (suc (suc zero))) y = Is_call y
Shape_expr (suc (suc (suc (suc n)))) y = ⊥

shape_expr : (y : Expr) → Shape_expr (num (head (stored_expr y))) y
shape_expr (number a0 a1) = (a0, (a1, refl))
shape_expr (variable a0 a1) = (a0, (a1, refl))
shape_expr (binary a0 a1 a2 a3) = (a0, (a1, (a2, (a3, refl))))
shape_expr (call a0 a1 a2) = (a0, (a1, (a2, refl)))

as_number : (g : Gv) (y : Expr) → gcons (gnum 0) g ≡ stored_expr y → Is_number y
as_number g y p = subst (λ n. Shape_expr n y) (sym (ap (λ g. num (head g)) p)) (shape_expr y)

as_variable : (g : Gv) (y : Expr) → gcons (gnum 1) g ≡ stored_expr y → Is_variable y
as_variable g y p = subst (λ n. Shape_expr n y) (sym (ap (λ g. num (head g)) p)) (shape_expr y)

as_binary : (g : Gv) (y : Expr) → gcons (gnum 2) g ≡ stored_expr y → Is_binary y
as_binary g y p = subst (λ n. Shape_expr n y) (sym (ap (λ g. num (head g)) p)) (shape_expr y)

as_call : (g : Gv) (y : Expr) → gcons (gnum 3) g ≡ stored_expr y → Is_call y
as_call g y p = subst (λ n. Shape_expr n y) (sym (ap (λ g. num (head g)) p)) (shape_expr y)

abbrev Is_bind : Stmt → Type 0
Is_bind y = (a0 : Span) × ((a1 : ℕ) × ((a2 : Expr) × (y ≡ bind a0 a1 a2)))

abbrev Shape_stmt : ℕ → Stmt → Type 0
Shape_stmt zero y = Is_bind y
Shape_stmt (suc n) y = ⊥

shape_stmt : (y : Stmt) → Shape_stmt (num (head (stored_stmt y))) y
shape_stmt (bind a0 a1 a2) = (a0, (a1, (a2, refl)))

as_bind : (g : Gv) (y : Stmt) → gcons (gnum 0) g ≡ stored_stmt y → Is_bind y
as_bind g y p = subst (λ n. Shape_stmt n y) (sym (ap (λ g. num (head g)) p)) (shape_stmt y)

abbrev Is_block : Block → Type 0
Is_block y = (a0 : Span) × ((a1 : Stmts) × ((a2 : MaybeExpr) × (y ≡ block a0 a1 a2)))

abbrev Shape_block : ℕ → Block → Type 0
Shape_block zero y = Is_block y
Shape_block (suc n) y = ⊥

shape_block : (y : Block) → Shape_block (num (head (stored_block y))) y
shape_block (block a0 a1 a2) = (a0, (a1, (a2, refl)))

as_block : (g : Gv) (y : Block) → gcons (gnum 0) g ≡ stored_block y → Is_block y
as_block g y p = subst (λ n. Shape_block n y) (sym (ap (λ g. num (head g)) p)) (shape_block y)

abbrev Is_no_exprs : Exprs → Type 0
Is_no_exprs y = y ≡ no_exprs

abbrev Is_more_exprs : Exprs → Type 0
Is_more_exprs y = (a0 : Expr) × ((a1 : Exprs) × (y ≡ more_exprs a0 a1))

abbrev Shape_exprs : ℕ → Exprs → Type 0
Shape_exprs zero y = Is_no_exprs y
Shape_exprs (suc zero) y = Is_more_exprs y
Shape_exprs (suc (suc n)) y = ⊥

shape_exprs : (y : Exprs) → Shape_exprs (num (head (stored_exprs y))) y
shape_exprs no_exprs = refl
shape_exprs (more_exprs a0 a1) = (a0, (a1, refl))

as_no_exprs : (g : Gv) (y : Exprs) → gcons (gnum 0) g ≡ stored_exprs y → Is_no_exprs y
as_no_exprs g y p = subst (λ n. Shape_exprs n y) (sym (ap (λ g. num (head g)) p)) (shape_exprs y)

as_more_exprs : (g : Gv) (y : Exprs) → gcons (gnum 1) g ≡ stored_exprs y → Is_more_exprs y
as_more_exprs g y p = subst (λ n. Shape_exprs n y) (sym (ap (λ g. num (head g)) p)) (shape_exprs y)

abbrev Is_no_stmts : Stmts → Type 0
Is_no_stmts y = y ≡ no_stmts

abbrev Is_more_stmts : Stmts → Type 0
Is_more_stmts y = (a0 : Stmt) × ((a1 : Stmts) × (y ≡ more_stmts a0 a1))

abbrev Shape_stmts : ℕ → Stmts → Type 0
Shape_stmts zero y = Is_no_stmts y
Shape_stmts (suc zero) y = Is_more_stmts y
Shape_stmts (suc (suc n)) y = ⊥

shape_stmts : (y : Stmts) → Shape_stmts (num (head (stored_stmts y))) y
shape_stmts no_stmts = refl
shape_stmts (more_stmts a0 a1) = (a0, (a1, refl))

as_no_stmts : (g : Gv) (y : Stmts) → gcons (gnum 0) g ≡ stored_stmts y → Is_no_stmts y
as_no_stmts g y p = subst (λ n. Shape_stmts n y) (sym (ap (λ g. num (head g)) p)) (shape_stmts y)

as_more_stmts : (g : Gv) (y : Stmts) → gcons (gnum 1) g ≡ stored_stmts y → Is_more_stmts y
as_more_stmts g y p = subst (λ n. Shape_stmts n y) (sym (ap (λ g. num (head g)) p)) (shape_stmts y)

abbrev Is_no_maybeexpr : MaybeExpr → Type 0
Is_no_maybeexpr y = y ≡ no_maybeexpr

abbrev Is_some_maybeexpr : MaybeExpr → Type 0
Is_some_maybeexpr y = (a0 : Expr) × (y ≡ some_maybeexpr a0)

abbrev Shape_maybeexpr : ℕ → MaybeExpr → Type 0
Shape_maybeexpr zero y = Is_no_maybeexpr y
Shape_maybeexpr (suc zero) y = Is_some_maybeexpr y
Shape_maybeexpr (suc (suc n)) y = ⊥

shape_maybeexpr : (y : MaybeExpr) → Shape_maybeexpr (num (head (stored_maybeexpr y))) y
shape_maybeexpr no_maybeexpr = refl
shape_maybeexpr (some_maybeexpr a0) = (a0, refl)

as_no_maybeexpr : (g : Gv) (y : MaybeExpr) → gcons (gnum 0) g ≡ stored_maybeexpr y → Is_no_maybeexpr y
as_no_maybeexpr g y p = subst (λ n. Shape_maybeexpr n y) (sym (ap (λ g. num (head g)) p)) (shape_maybeexpr y)

as_some_maybeexpr : (g : Gv) (y : MaybeExpr) → gcons (gnum 1) g ≡ stored_maybeexpr y → Is_some_maybeexpr y
as_some_maybeexpr g y p = subst (λ n. Shape_maybeexpr n y) (sym (ap (λ g. num (head g)) p)) (shape_maybeexpr y)

mutual
  pub inj_expr : (x y : Expr) → stored_expr x ≡ stored_expr y → x ≡ y
  inj_expr (number a0 a1) y q =
      let w = as_number (gcons (span.the_row.coded.code a0) (gcons (coded_number.code a1) gnil)) y q in
      let p : stored_expr (number a0 a1) ≡ stored_expr (number w.0 w.1.0) = q ∙ ap stored_expr (w.1.1) in
      (λ i. number (span.the_row.coded.inj a0 w.0 (ap (λ g. head (tail g)) p) i) (coded_number.inj a1 w.1.0 (ap (λ g. head (tail (tail g))) p) i)) ∙ sym (w.1.1)
  inj_expr (variable a0 a1) y q =
      let w = as_variable (gcons (span.the_row.coded.code a0) (gcons (coded_ℕ.code a1) gnil)) y q in
      let p : stored_expr (variable a0 a1) ≡ stored_expr (variable w.0 w.1.0) = q ∙ ap stored_expr (w.1.1) in
      (λ i. variable (span.the_row.coded.inj a0 w.0 (ap (λ g. head (tail g)) p) i) (coded_ℕ.inj a1 w.1.0 (ap (λ g. head (tail (tail g))) p) i)) ∙ sym (w.1.1)
  inj_expr (binary a0 a1 a2 a3) y q =
      let w = as_binary (gcons (span.the_row.coded.code a0) (gcons (op.the_row.coded.code a1) (gcons (stored_expr a2) (gcons (stored_expr a3) gnil)))) y q in
      let p : stored_expr (binary a0 a1 a2 a3) ≡ stored_expr (binary w.0 w.1.0 w.1.1.0 w.1.1.1.0) = q ∙ ap stored_expr (w.1.1.1.1) in
      (λ i. binary (span.the_row.coded.inj a0 w.0 (ap (λ g. head (tail g)) p) i) (op.the_row.coded.inj a1 w.1.0 (ap (λ g. head (tail (tail g))) p) i) (inj_expr a2 w.1.1.0 (ap (λ g. head (tail (tail (tail g)))) p) i) (inj_expr a3 w.1.1.1.0 (ap (λ g. head (tail (tail (tail (tail g))))) p) i)) ∙ sym (w.1.1.1.1)
  inj_expr (call a0 a1 a2) y q =
      let w = as_call (gcons (span.the_row.coded.code a0) (gcons (coded_ℕ.code a1) (gcons (stored_exprs a2) gnil))) y q in
      let p : stored_expr (call a0 a1 a2) ≡ stored_expr (call w.0 w.1.0 w.1.1.0) = q ∙ ap stored_expr (w.1.1.1) in
      (λ i. call (span.the_row.coded.inj a0 w.0 (ap (λ g. head (tail g)) p) i) (coded_ℕ.inj a1 w.1.0 (ap (λ g. head (tail (tail g))) p) i) (inj_exprs a2 w.1.1.0 (ap (λ g. head (tail (tail (tail g)))) p) i)) ∙ sym (w.1.1.1)

  pub inj_stmt : (x y : Stmt) → stored_stmt x ≡ stored_stmt y → x ≡ y
  inj_stmt (bind a0 a1 a2) y q =
      let w = as_bind (gcons (span.the_row.coded.code a0) (gcons (coded_ℕ.code a1) (gcons (stored_expr a2) gnil))) y q in
      let p : stored_stmt (bind a0 a1 a2) ≡ stored_stmt (bind w.0 w.1.0 w.1.1.0) = q ∙ ap stored_stmt (w.1.1.1) in
      (λ i. bind (span.the_row.coded.inj a0 w.0 (ap (λ g. head (tail g)) p) i) (coded_ℕ.inj a1 w.1.0 (ap (λ g. head (tail (tail g))) p) i) (inj_expr a2 w.1.1.0 (ap (λ g. head (tail (tail (tail g)))) p) i)) ∙ sym (w.1.1.1)

  pub inj_block : (x y : Block) → stored_block x ≡ stored_block y → x ≡ y
  inj_block (block a0 a1 a2) y q =
      let w = as_block (gcons (span.the_row.coded.code a0) (gcons (stored_stmts a1) (gcons (stored_maybeexpr a2) gnil))) y q in
      let p : stored_block (block a0 a1 a2) ≡ stored_block (block w.0 w.1.0 w.1.1.0) = q ∙ ap stored_block (w.1.1.1) in
      (λ i. block (span.the_row.coded.inj a0 w.0 (ap (λ g. head (tail g)) p) i) (inj_stmts a1 w.1.0 (ap (λ g. head (tail (tail g))) p) i) (inj_maybeexpr a2 w.1.1.0 (ap (λ g. head (tail (tail (tail g)))) p) i)) ∙ sym (w.1.1.1)

  pub inj_exprs : (x y : Exprs) → stored_exprs x ≡ stored_exprs y → x ≡ y
  inj_exprs no_exprs y q =
      let w = as_no_exprs (gnil) y q in
      sym w
  inj_exprs (more_exprs a0 a1) y q =
      let w = as_more_exprs (gcons (stored_expr a0) (gcons (stored_exprs a1) gnil)) y q in
      let p : stored_exprs (more_exprs a0 a1) ≡ stored_exprs (more_exprs w.0 w.1.0) = q ∙ ap stored_exprs (w.1.1) in
      (λ i. more_exprs (inj_expr a0 w.0 (ap (λ g. head (tail g)) p) i) (inj_exprs a1 w.1.0 (ap (λ g. head (tail (tail g))) p) i)) ∙ sym (w.1.1)

  pub inj_stmts : (x y : Stmts) → stored_stmts x ≡ stored_stmts y → x ≡ y
  inj_stmts no_stmts y q =
      let w = as_no_stmts (gnil) y q in
      sym w
  inj_stmts (more_stmts a0 a1) y q =
      let w = as_more_stmts (gcons (stored_stmt a0) (gcons (stored_stmts a1) gnil)) y q in
      let p : stored_stmts (more_stmts a0 a1) ≡ stored_stmts (more_stmts w.0 w.1.0) = q ∙ ap stored_stmts (w.1.1) in
      (λ i. more_stmts (inj_stmt a0 w.0 (ap (λ g. head (tail g)) p) i) (inj_stmts a1 w.1.0 (ap (λ g. head (tail (tail g))) p) i)) ∙ sym (w.1.1)

  pub inj_maybeexpr : (x y : MaybeExpr) → stored_maybeexpr x ≡ stored_maybeexpr y → x ≡ y
  inj_maybeexpr no_maybeexpr y q =
      let w = as_no_maybeexpr (gnil) y q in
      sym w
  inj_maybeexpr (some_maybeexpr a0) y q =
      let w = as_some_maybeexpr (gcons (stored_expr a0) gnil) y q in
      let p : stored_maybeexpr (some_maybeexpr a0) ≡ stored_maybeexpr (some_maybeexpr w.0) = q ∙ ap stored_maybeexpr (w.1) in
      (λ i. some_maybeexpr (inj_expr a0 w.0 (ap (λ g. head (tail g)) p) i)) ∙ sym (w.1)

abbrev pub coded_expr : Coded Expr
coded_expr = record { code = stored_expr; inj = inj_expr }

abbrev pub coded_stmt : Coded Stmt
coded_stmt = record { code = stored_stmt; inj = inj_stmt }

abbrev pub coded_block : Coded Block
coded_block = record { code = stored_block; inj = inj_block }

abbrev pub coded_exprs : Coded Exprs
coded_exprs = record { code = stored_exprs; inj = inj_exprs }

abbrev pub coded_stmts : Coded Stmts
coded_stmts = record { code = stored_stmts; inj = inj_stmts }

abbrev pub coded_maybeexpr : Coded MaybeExpr
coded_maybeexpr = record { code = stored_maybeexpr; inj = inj_maybeexpr }

-- Expressions, statements and blocks of a source (LANGUAGE.md, "Grammar").
-- Made by tools/trees.py from tools/rust_ast.desc.py.
use Rattle.std.specs.Prelude.{◌≡◌, ℕ, zero, suc, ◌+◌, Bool, List, [], ◌∷◌, Option, Some, None, refl}
use Rattle.std.specs.Coded.{Coded, coded_ℕ, coded_bool, coded_list}
use Rattle.std.proofs.Common.{ap, sym, ◌∙◌, subst}
use base.Stored.{Gv, gnil, gnum, gcons, num}
use Rattle.aen_base.specs.declared.span.Span.{Span}
use Rattle.aen_base.specs.contracts.span.Span as span_row
use Rattle.aen_base.specs.declared.int_ty.IntTy.{IntTy}
use Rattle.aen_base.specs.contracts.int_ty.IntTy as intty_row
use Rattle.aen_base.specs.declared.operators.BinOp.{BinOp}
use Rattle.aen_base.specs.contracts.operators.BinOp as binop_row
use Rattle.aen_base.specs.declared.operators.CmpOp.{CmpOp}
use Rattle.aen_base.specs.contracts.operators.CmpOp as cmpop_row
use Rattle.rust_ast.specs.declared.ident.Ident.{Ident}
use Rattle.rust_ast.specs.contracts.ident.Ident as ident_row
use Rattle.rust_ast.specs.SourceTypes.{MaybeWritten, coded_maybewritten, Turbo, coded_turbo, Path, coded_path}
use Rattle.rust_ast.specs.SourcePatterns.{Pat, coded_pat}
use Rattle.rust_ast.specs.Patterns.{Suffix, coded_suffix, Name, Magnitude}

abbrev head : Gv → Gv
head gnil = gnil
head (gnum n) = gnil
head (gcons a b) = a

abbrev tail : Gv → Gv
tail gnil = gnil
tail (gnum n) = gnil
tail (gcons a b) = b

mutual
  pub data Expr : Type 0 where
    number : Span → Bool → Magnitude → Suffix → Expr
    truth : Span → Bool → Expr
    tuple : Span → Exprs → Expr
    inner : Block → Expr
    branch : Span → Expr → Block → Expr → Expr
    select : Span → Expr → Arms → Expr
    let_branch : Span → Pat → Expr → Expr → Expr → Expr
    forever : Span → Bool → Block → Expr
    panic : Span → Expr
    path : Span → Path → Expr
    call : Span → Path → Turbo → Exprs → Expr
    literal : Span → Ident → Turbo → Inits → Expr
    field : Span → Expr → Span → Name → Expr
    minus : Span → Expr → Expr
    negation : Span → Expr → Expr
    deref : Span → Expr → Expr
    borrow : Span → Bool → Expr → Expr
    binary : Span → BinOp → Expr → Expr → Expr
    compare : Span → CmpOp → Expr → Expr → Expr
    both : Span → Expr → Expr → Expr
    either : Span → Expr → Expr → Expr
    cast : Span → Expr → IntTy → Expr
    assign : Span → Expr → Expr → Expr
    update : Span → BinOp → Expr → Expr → Expr
    give : Span → MaybeExpr → Expr
    leave : Span → MaybeExpr → Expr
    go_on : Span → Expr

  pub data Stmt : Type 0 where
    run : Expr → Bool → Stmt
    bind : Span → Pat → MaybeWritten → MaybeExpr → Stmt

  pub data Block : Type 0 where
    block : Span → Stmts → MaybeExpr → Block

  pub data Exprs : Type 0 where
    no_exprs : Exprs
    more_exprs : Expr → Exprs → Exprs

  pub data Arms : Type 0 where
    no_arms : Arms
    more_arms : Pat → Expr → Arms → Arms

  pub data Inits : Type 0 where
    no_inits : Inits
    more_inits : Span → Name → Expr → Inits → Inits

  pub data Stmts : Type 0 where
    no_stmts : Stmts
    more_stmts : Stmt → Stmts → Stmts

  pub data MaybeExpr : Type 0 where
    no_maybeexpr : MaybeExpr
    some_maybeexpr : Expr → MaybeExpr

abbrev pub exprs : List (Expr) → Exprs
exprs [] = no_exprs
exprs (x ∷ xs) = more_exprs x (exprs xs)

abbrev pub exprs_list : Exprs → List (Expr)
exprs_list no_exprs = []
exprs_list (more_exprs a0 r) = a0 ∷ exprs_list r

pub exprs_back : (xs : List (Expr)) → exprs_list (exprs xs) ≡ xs
exprs_back [] = refl
exprs_back (x ∷ xs) = ap (λ r. x ∷ r) (exprs_back xs)

abbrev pub arms : List (Pat × Expr) → Arms
arms [] = no_arms
arms (x ∷ xs) = more_arms x.0 x.1 (arms xs)

abbrev pub arms_list : Arms → List (Pat × Expr)
arms_list no_arms = []
arms_list (more_arms a0 a1 r) = (a0, a1) ∷ arms_list r

pub arms_back : (xs : List (Pat × Expr)) → arms_list (arms xs) ≡ xs
arms_back [] = refl
arms_back (x ∷ xs) = ap (λ r. x ∷ r) (arms_back xs)

abbrev pub inits : List (Span × Name × Expr) → Inits
inits [] = no_inits
inits (x ∷ xs) = more_inits x.0 x.1 x.2 (inits xs)

abbrev pub inits_list : Inits → List (Span × Name × Expr)
inits_list no_inits = []
inits_list (more_inits a0 a1 a2 r) = (a0, a1, a2) ∷ inits_list r

pub inits_back : (xs : List (Span × Name × Expr)) → inits_list (inits xs) ≡ xs
inits_back [] = refl
inits_back (x ∷ xs) = ap (λ r. x ∷ r) (inits_back xs)

abbrev pub stmts : List (Stmt) → Stmts
stmts [] = no_stmts
stmts (x ∷ xs) = more_stmts x (stmts xs)

abbrev pub stmts_list : Stmts → List (Stmt)
stmts_list no_stmts = []
stmts_list (more_stmts a0 r) = a0 ∷ stmts_list r

pub stmts_back : (xs : List (Stmt)) → stmts_list (stmts xs) ≡ xs
stmts_back [] = refl
stmts_back (x ∷ xs) = ap (λ r. x ∷ r) (stmts_back xs)

abbrev pub maybeexpr : Option Expr → MaybeExpr
maybeexpr None = no_maybeexpr
maybeexpr (Some x) = some_maybeexpr x

abbrev pub maybeexpr_option : MaybeExpr → Option Expr
maybeexpr_option no_maybeexpr = None
maybeexpr_option (some_maybeexpr x) = Some x

pub maybeexpr_back : (o : Option Expr) → maybeexpr_option (maybeexpr o) ≡ o
maybeexpr_back None = refl
maybeexpr_back (Some x) = refl

pub exprs_inj : (xs ys : List (Expr)) → exprs xs ≡ exprs ys → xs ≡ ys
exprs_inj xs ys p = sym (exprs_back xs) ∙ ap exprs_list p ∙ exprs_back ys

pub arms_inj : (xs ys : List (Pat × Expr)) → arms xs ≡ arms ys → xs ≡ ys
arms_inj xs ys p = sym (arms_back xs) ∙ ap arms_list p ∙ arms_back ys

pub inits_inj : (xs ys : List (Span × Name × Expr)) → inits xs ≡ inits ys → xs ≡ ys
inits_inj xs ys p = sym (inits_back xs) ∙ ap inits_list p ∙ inits_back ys

pub stmts_inj : (xs ys : List (Stmt)) → stmts xs ≡ stmts ys → xs ≡ ys
stmts_inj xs ys p = sym (stmts_back xs) ∙ ap stmts_list p ∙ stmts_back ys

pub maybeexpr_inj : (x y : Option Expr) → maybeexpr x ≡ maybeexpr y → x ≡ y
maybeexpr_inj x y p = sym (maybeexpr_back x) ∙ ap maybeexpr_option p ∙ maybeexpr_back y

abbrev mutual
  pub nodes_expr : Expr → ℕ
  nodes_expr (number a0 a1 a2 a3) = 1
  nodes_expr (truth a0 a1) = 1
  nodes_expr (tuple a0 a1) = nodes_exprs a1 + 1
  nodes_expr (inner a0) = nodes_block a0 + 1
  nodes_expr (branch a0 a1 a2 a3) = nodes_expr a1 + nodes_block a2 + nodes_expr a3 + 1
  nodes_expr (select a0 a1 a2) = nodes_expr a1 + nodes_arms a2 + 1
  nodes_expr (let_branch a0 a1 a2 a3 a4) = nodes_expr a2 + nodes_expr a3 + nodes_expr a4 + 1
  nodes_expr (forever a0 a1 a2) = nodes_block a2 + 1
  nodes_expr (panic a0) = 1
  nodes_expr (path a0 a1) = 1
  nodes_expr (call a0 a1 a2 a3) = nodes_exprs a3 + 1
  nodes_expr (literal a0 a1 a2 a3) = nodes_inits a3 + 1
  nodes_expr (field a0 a1 a2 a3) = nodes_expr a1 + 1
  nodes_expr (minus a0 a1) = nodes_expr a1 + 1
  nodes_expr (negation a0 a1) = nodes_expr a1 + 1
  nodes_expr (deref a0 a1) = nodes_expr a1 + 1
  nodes_expr (borrow a0 a1 a2) = nodes_expr a2 + 1
  nodes_expr (binary a0 a1 a2 a3) = nodes_expr a2 + nodes_expr a3 + 1
  nodes_expr (compare a0 a1 a2 a3) = nodes_expr a2 + nodes_expr a3 + 1
  nodes_expr (both a0 a1 a2) = nodes_expr a1 + nodes_expr a2 + 1
  nodes_expr (either a0 a1 a2) = nodes_expr a1 + nodes_expr a2 + 1
  nodes_expr (cast a0 a1 a2) = nodes_expr a1 + 1
  nodes_expr (assign a0 a1 a2) = nodes_expr a1 + nodes_expr a2 + 1
  nodes_expr (update a0 a1 a2 a3) = nodes_expr a2 + nodes_expr a3 + 1
  nodes_expr (give a0 a1) = nodes_maybeexpr a1 + 1
  nodes_expr (leave a0 a1) = nodes_maybeexpr a1 + 1
  nodes_expr (go_on a0) = 1

  pub nodes_stmt : Stmt → ℕ
  nodes_stmt (run a0 a1) = nodes_expr a0 + 1
  nodes_stmt (bind a0 a1 a2 a3) = nodes_maybeexpr a3 + 1

  pub nodes_block : Block → ℕ
  nodes_block (block a0 a1 a2) = nodes_stmts a1 + nodes_maybeexpr a2 + 1

  pub nodes_exprs : Exprs → ℕ
  nodes_exprs no_exprs = 1
  nodes_exprs (more_exprs a0 a1) = nodes_expr a0 + nodes_exprs a1 + 1

  pub nodes_arms : Arms → ℕ
  nodes_arms no_arms = 1
  nodes_arms (more_arms a0 a1 a2) = nodes_expr a1 + nodes_arms a2 + 1

  pub nodes_inits : Inits → ℕ
  nodes_inits no_inits = 1
  nodes_inits (more_inits a0 a1 a2 a3) = nodes_expr a2 + nodes_inits a3 + 1

  pub nodes_stmts : Stmts → ℕ
  nodes_stmts no_stmts = 1
  nodes_stmts (more_stmts a0 a1) = nodes_stmt a0 + nodes_stmts a1 + 1

  pub nodes_maybeexpr : MaybeExpr → ℕ
  nodes_maybeexpr no_maybeexpr = 1
  nodes_maybeexpr (some_maybeexpr a0) = nodes_expr a0 + 1

abbrev mutual
  pub stored_expr : Expr → Gv
  stored_expr (number a0 a1 a2 a3) = gcons (gnum 0) (gcons (span_row.the_row.coded.code a0) (gcons (coded_bool.code a1) (gcons (coded_ℕ.code a2) (gcons (coded_suffix.code a3) gnil))))
  stored_expr (truth a0 a1) = gcons (gnum 1) (gcons (span_row.the_row.coded.code a0) (gcons (coded_bool.code a1) gnil))
  stored_expr (tuple a0 a1) = gcons (gnum 2) (gcons (span_row.the_row.coded.code a0) (gcons (stored_exprs a1) gnil))
  stored_expr (inner a0) = gcons (gnum 3) (gcons (stored_block a0) gnil)
  stored_expr (branch a0 a1 a2 a3) = gcons (gnum 4) (gcons (span_row.the_row.coded.code a0) (gcons (stored_expr a1) (gcons (stored_block a2) (gcons (stored_expr a3) gnil))))
  stored_expr (select a0 a1 a2) = gcons (gnum 5) (gcons (span_row.the_row.coded.code a0) (gcons (stored_expr a1) (gcons (stored_arms a2) gnil)))
  stored_expr (let_branch a0 a1 a2 a3 a4) = gcons (gnum 6) (gcons (span_row.the_row.coded.code a0) (gcons (coded_pat.code a1) (gcons (stored_expr a2) (gcons (stored_expr a3) (gcons (stored_expr a4) gnil)))))
  stored_expr (forever a0 a1 a2) = gcons (gnum 7) (gcons (span_row.the_row.coded.code a0) (gcons (coded_bool.code a1) (gcons (stored_block a2) gnil)))
  stored_expr (panic a0) = gcons (gnum 8) (gcons (span_row.the_row.coded.code a0) gnil)
  stored_expr (path a0 a1) = gcons (gnum 9) (gcons (span_row.the_row.coded.code a0) (gcons (coded_path.code a1) gnil))
  stored_expr (call a0 a1 a2 a3) = gcons (gnum 10) (gcons (span_row.the_row.coded.code a0) (gcons (coded_path.code a1) (gcons (coded_turbo.code a2) (gcons (stored_exprs a3) gnil))))
  stored_expr (literal a0 a1 a2 a3) = gcons (gnum 11) (gcons (span_row.the_row.coded.code a0) (gcons (ident_row.the_row.coded.code a1) (gcons (coded_turbo.code a2) (gcons (stored_inits a3) gnil))))
  stored_expr (field a0 a1 a2 a3) = gcons (gnum 12) (gcons (span_row.the_row.coded.code a0) (gcons (stored_expr a1) (gcons (span_row.the_row.coded.code a2) (gcons ((coded_list coded_ℕ).code a3) gnil))))
  stored_expr (minus a0 a1) = gcons (gnum 13) (gcons (span_row.the_row.coded.code a0) (gcons (stored_expr a1) gnil))
  stored_expr (negation a0 a1) = gcons (gnum 14) (gcons (span_row.the_row.coded.code a0) (gcons (stored_expr a1) gnil))
  stored_expr (deref a0 a1) = gcons (gnum 15) (gcons (span_row.the_row.coded.code a0) (gcons (stored_expr a1) gnil))
  stored_expr (borrow a0 a1 a2) = gcons (gnum 16) (gcons (span_row.the_row.coded.code a0) (gcons (coded_bool.code a1) (gcons (stored_expr a2) gnil)))
  stored_expr (binary a0 a1 a2 a3) = gcons (gnum 17) (gcons (span_row.the_row.coded.code a0) (gcons (binop_row.the_row.coded.code a1) (gcons (stored_expr a2) (gcons (stored_expr a3) gnil))))
  stored_expr (compare a0 a1 a2 a3) = gcons (gnum 18) (gcons (span_row.the_row.coded.code a0) (gcons (cmpop_row.the_row.coded.code a1) (gcons (stored_expr a2) (gcons (stored_expr a3) gnil))))
  stored_expr (both a0 a1 a2) = gcons (gnum 19) (gcons (span_row.the_row.coded.code a0) (gcons (stored_expr a1) (gcons (stored_expr a2) gnil)))
  stored_expr (either a0 a1 a2) = gcons (gnum 20) (gcons (span_row.the_row.coded.code a0) (gcons (stored_expr a1) (gcons (stored_expr a2) gnil)))
  stored_expr (cast a0 a1 a2) = gcons (gnum 21) (gcons (span_row.the_row.coded.code a0) (gcons (stored_expr a1) (gcons (intty_row.the_row.coded.code a2) gnil)))
  stored_expr (assign a0 a1 a2) = gcons (gnum 22) (gcons (span_row.the_row.coded.code a0) (gcons (stored_expr a1) (gcons (stored_expr a2) gnil)))
  stored_expr (update a0 a1 a2 a3) = gcons (gnum 23) (gcons (span_row.the_row.coded.code a0) (gcons (binop_row.the_row.coded.code a1) (gcons (stored_expr a2) (gcons (stored_expr a3) gnil))))
  stored_expr (give a0 a1) = gcons (gnum 24) (gcons (span_row.the_row.coded.code a0) (gcons (stored_maybeexpr a1) gnil))
  stored_expr (leave a0 a1) = gcons (gnum 25) (gcons (span_row.the_row.coded.code a0) (gcons (stored_maybeexpr a1) gnil))
  stored_expr (go_on a0) = gcons (gnum 26) (gcons (span_row.the_row.coded.code a0) gnil)

  pub stored_stmt : Stmt → Gv
  stored_stmt (run a0 a1) = gcons (gnum 0) (gcons (stored_expr a0) (gcons (coded_bool.code a1) gnil))
  stored_stmt (bind a0 a1 a2 a3) = gcons (gnum 1) (gcons (span_row.the_row.coded.code a0) (gcons (coded_pat.code a1) (gcons (coded_maybewritten.code a2) (gcons (stored_maybeexpr a3) gnil))))

  pub stored_block : Block → Gv
  stored_block (block a0 a1 a2) = gcons (gnum 0) (gcons (span_row.the_row.coded.code a0) (gcons (stored_stmts a1) (gcons (stored_maybeexpr a2) gnil)))

  pub stored_exprs : Exprs → Gv
  stored_exprs no_exprs = gcons (gnum 0) (gnil)
  stored_exprs (more_exprs a0 a1) = gcons (gnum 1) (gcons (stored_expr a0) (gcons (stored_exprs a1) gnil))

  pub stored_arms : Arms → Gv
  stored_arms no_arms = gcons (gnum 0) (gnil)
  stored_arms (more_arms a0 a1 a2) = gcons (gnum 1) (gcons (coded_pat.code a0) (gcons (stored_expr a1) (gcons (stored_arms a2) gnil)))

  pub stored_inits : Inits → Gv
  stored_inits no_inits = gcons (gnum 0) (gnil)
  stored_inits (more_inits a0 a1 a2 a3) = gcons (gnum 1) (gcons (span_row.the_row.coded.code a0) (gcons ((coded_list coded_ℕ).code a1) (gcons (stored_expr a2) (gcons (stored_inits a3) gnil))))

  pub stored_stmts : Stmts → Gv
  stored_stmts no_stmts = gcons (gnum 0) (gnil)
  stored_stmts (more_stmts a0 a1) = gcons (gnum 1) (gcons (stored_stmt a0) (gcons (stored_stmts a1) gnil))

  pub stored_maybeexpr : MaybeExpr → Gv
  stored_maybeexpr no_maybeexpr = gcons (gnum 0) (gnil)
  stored_maybeexpr (some_maybeexpr a0) = gcons (gnum 1) (gcons (stored_expr a0) gnil)

abbrev Is_number : Expr → Type 0
Is_number y = (a0 : Span) × ((a1 : Bool) × ((a2 : Magnitude) × ((a3 : Suffix) × (y ≡ number a0 a1 a2 a3))))

abbrev Is_truth : Expr → Type 0
Is_truth y = (a0 : Span) × ((a1 : Bool) × (y ≡ truth a0 a1))

abbrev Is_tuple : Expr → Type 0
Is_tuple y = (a0 : Span) × ((a1 : Exprs) × (y ≡ tuple a0 a1))

abbrev Is_inner : Expr → Type 0
Is_inner y = (a0 : Block) × (y ≡ inner a0)

abbrev Is_branch : Expr → Type 0
Is_branch y = (a0 : Span) × ((a1 : Expr) × ((a2 : Block) × ((a3 : Expr) × (y ≡ branch a0 a1 a2 a3))))

abbrev Is_select : Expr → Type 0
Is_select y = (a0 : Span) × ((a1 : Expr) × ((a2 : Arms) × (y ≡ select a0 a1 a2)))

abbrev Is_let_branch : Expr → Type 0
Is_let_branch y = (a0 : Span) × ((a1 : Pat) × ((a2 : Expr) × ((a3 : Expr) × ((a4 : Expr) × (y ≡ let_branch a0 a1 a2 a3 a4)))))

abbrev Is_forever : Expr → Type 0
Is_forever y = (a0 : Span) × ((a1 : Bool) × ((a2 : Block) × (y ≡ forever a0 a1 a2)))

abbrev Is_panic : Expr → Type 0
Is_panic y = (a0 : Span) × (y ≡ panic a0)

abbrev Is_path : Expr → Type 0
Is_path y = (a0 : Span) × ((a1 : Path) × (y ≡ path a0 a1))

abbrev Is_call : Expr → Type 0
Is_call y = (a0 : Span) × ((a1 : Path) × ((a2 : Turbo) × ((a3 : Exprs) × (y ≡ call a0 a1 a2 a3))))

abbrev Is_literal : Expr → Type 0
Is_literal y = (a0 : Span) × ((a1 : Ident) × ((a2 : Turbo) × ((a3 : Inits) × (y ≡ literal a0 a1 a2 a3))))

abbrev Is_field : Expr → Type 0
Is_field y = (a0 : Span) × ((a1 : Expr) × ((a2 : Span) × ((a3 : Name) × (y ≡ field a0 a1 a2 a3))))

abbrev Is_minus : Expr → Type 0
Is_minus y = (a0 : Span) × ((a1 : Expr) × (y ≡ minus a0 a1))

abbrev Is_negation : Expr → Type 0
Is_negation y = (a0 : Span) × ((a1 : Expr) × (y ≡ negation a0 a1))

abbrev Is_deref : Expr → Type 0
Is_deref y = (a0 : Span) × ((a1 : Expr) × (y ≡ deref a0 a1))

abbrev Is_borrow : Expr → Type 0
Is_borrow y = (a0 : Span) × ((a1 : Bool) × ((a2 : Expr) × (y ≡ borrow a0 a1 a2)))

abbrev Is_binary : Expr → Type 0
Is_binary y = (a0 : Span) × ((a1 : BinOp) × ((a2 : Expr) × ((a3 : Expr) × (y ≡ binary a0 a1 a2 a3))))

abbrev Is_compare : Expr → Type 0
Is_compare y = (a0 : Span) × ((a1 : CmpOp) × ((a2 : Expr) × ((a3 : Expr) × (y ≡ compare a0 a1 a2 a3))))

abbrev Is_both : Expr → Type 0
Is_both y = (a0 : Span) × ((a1 : Expr) × ((a2 : Expr) × (y ≡ both a0 a1 a2)))

abbrev Is_either : Expr → Type 0
Is_either y = (a0 : Span) × ((a1 : Expr) × ((a2 : Expr) × (y ≡ either a0 a1 a2)))

abbrev Is_cast : Expr → Type 0
Is_cast y = (a0 : Span) × ((a1 : Expr) × ((a2 : IntTy) × (y ≡ cast a0 a1 a2)))

abbrev Is_assign : Expr → Type 0
Is_assign y = (a0 : Span) × ((a1 : Expr) × ((a2 : Expr) × (y ≡ assign a0 a1 a2)))

abbrev Is_update : Expr → Type 0
Is_update y = (a0 : Span) × ((a1 : BinOp) × ((a2 : Expr) × ((a3 : Expr) × (y ≡ update a0 a1 a2 a3))))

abbrev Is_give : Expr → Type 0
Is_give y = (a0 : Span) × ((a1 : MaybeExpr) × (y ≡ give a0 a1))

abbrev Is_leave : Expr → Type 0
Is_leave y = (a0 : Span) × ((a1 : MaybeExpr) × (y ≡ leave a0 a1))

abbrev Is_go_on : Expr → Type 0
Is_go_on y = (a0 : Span) × (y ≡ go_on a0)

abbrev Shape_expr : ℕ → Expr → Type 0
Shape_expr zero y = Is_number y
Shape_expr (suc zero) y = Is_truth y
Shape_expr (suc (suc zero)) y = Is_tuple y
Shape_expr (suc (suc (suc zero))) y = Is_inner y
Shape_expr (suc (suc (suc (suc zero)))) y = Is_branch y
Shape_expr (suc (suc (suc (suc (suc zero))))) y = Is_select y
Shape_expr (suc (suc (suc (suc (suc (suc zero)))))) y = Is_let_branch y
Shape_expr (suc (suc (suc (suc (suc (suc (suc zero))))))) y = Is_forever y
Shape_expr (suc (suc (suc (suc (suc (suc (suc (suc zero)))))))) y = Is_panic y
Shape_expr (suc (suc (suc (suc (suc (suc (suc (suc (suc zero))))))))) y = Is_path y
Shape_expr (suc (suc (suc (suc (suc (suc (suc (suc (suc (suc zero)))))))))) y = Is_call y
Shape_expr (suc (suc (suc (suc (suc (suc (suc (suc (suc (suc (suc zero))))))))))) y = Is_literal y
Shape_expr (suc (suc (suc (suc (suc (suc (suc (suc (suc (suc (suc (suc zero)))))))))))) y = Is_field y
Shape_expr (suc (suc (suc (suc (suc (suc (suc (suc (suc (suc (suc (suc (suc zero))))))))))))) y = Is_minus y
Shape_expr (suc (suc (suc (suc (suc (suc (suc (suc (suc (suc (suc (suc (suc (suc zero)))))))))))))) y = Is_negation y
Shape_expr (suc (suc (suc (suc (suc (suc (suc (suc (suc (suc (suc (suc (suc (suc (suc zero))))))))))))))) y = Is_deref y
Shape_expr (suc (suc (suc (suc (suc (suc (suc (suc (suc (suc (suc (suc (suc (suc (suc (suc zero)))))))))))))))) y = Is_borrow y
Shape_expr (suc (suc (suc (suc (suc (suc (suc (suc (suc (suc (suc (suc (suc (suc (suc (suc (suc zero))))))))))))))))) y = Is_binary y
Shape_expr (suc (suc (suc (suc (suc (suc (suc (suc (suc (suc (suc (suc (suc (suc (suc (suc (suc (suc zero)))))))))))))))))) y = Is_compare y
Shape_expr (suc (suc (suc (suc (suc (suc (suc (suc (suc (suc (suc (suc (suc (suc (suc (suc (suc (suc (suc zero))))))))))))))))))) y = Is_both y
Shape_expr (suc (suc (suc (suc (suc (suc (suc (suc (suc (suc (suc (suc (suc (suc (suc (suc (suc (suc (suc (suc zero)))))))))))))))))))) y = Is_either y
Shape_expr (suc (suc (suc (suc (suc (suc (suc (suc (suc (suc (suc (suc (suc (suc (suc (suc (suc (suc (suc (suc (suc zero))))))))))))))))))))) y = Is_cast y
Shape_expr (suc (suc (suc (suc (suc (suc (suc (suc (suc (suc (suc (suc (suc (suc (suc (suc (suc (suc (suc (suc (suc (suc zero)))))))))))))))))))))) y = Is_assign y
Shape_expr (suc (suc (suc (suc (suc (suc (suc (suc (suc (suc (suc (suc (suc (suc (suc (suc (suc (suc (suc (suc (suc (suc (suc zero))))))))))))))))))))))) y = Is_update y
Shape_expr (suc (suc (suc (suc (suc (suc (suc (suc (suc (suc (suc (suc (suc (suc (suc (suc (suc (suc (suc (suc (suc (suc (suc (suc zero)))))))))))))))))))))))) y = Is_give y
Shape_expr (suc (suc (suc (suc (suc (suc (suc (suc (suc (suc (suc (suc (suc (suc (suc (suc (suc (suc (suc (suc (suc (suc (suc (suc (suc zero))))))))))))))))))))))))) y = Is_leave y
Shape_expr (suc (suc (suc (suc (suc (suc (suc (suc (suc (suc (suc (suc (suc (suc (suc (suc (suc (suc (suc (suc (suc (suc (suc (suc (suc (suc zero)))))))))))))))))))))))))) y = Is_go_on y
Shape_expr (suc (suc (suc (suc (suc (suc (suc (suc (suc (suc (suc (suc (suc (suc (suc (suc (suc (suc (suc (suc (suc (suc (suc (suc (suc (suc (suc n))))))))))))))))))))))))))) y = ⊥

shape_expr : (y : Expr) → Shape_expr (num (head (stored_expr y))) y
shape_expr (number a0 a1 a2 a3) = (a0, (a1, (a2, (a3, refl))))
shape_expr (truth a0 a1) = (a0, (a1, refl))
shape_expr (tuple a0 a1) = (a0, (a1, refl))
shape_expr (inner a0) = (a0, refl)
shape_expr (branch a0 a1 a2 a3) = (a0, (a1, (a2, (a3, refl))))
shape_expr (select a0 a1 a2) = (a0, (a1, (a2, refl)))
shape_expr (let_branch a0 a1 a2 a3 a4) = (a0, (a1, (a2, (a3, (a4, refl)))))
shape_expr (forever a0 a1 a2) = (a0, (a1, (a2, refl)))
shape_expr (panic a0) = (a0, refl)
shape_expr (path a0 a1) = (a0, (a1, refl))
shape_expr (call a0 a1 a2 a3) = (a0, (a1, (a2, (a3, refl))))
shape_expr (literal a0 a1 a2 a3) = (a0, (a1, (a2, (a3, refl))))
shape_expr (field a0 a1 a2 a3) = (a0, (a1, (a2, (a3, refl))))
shape_expr (minus a0 a1) = (a0, (a1, refl))
shape_expr (negation a0 a1) = (a0, (a1, refl))
shape_expr (deref a0 a1) = (a0, (a1, refl))
shape_expr (borrow a0 a1 a2) = (a0, (a1, (a2, refl)))
shape_expr (binary a0 a1 a2 a3) = (a0, (a1, (a2, (a3, refl))))
shape_expr (compare a0 a1 a2 a3) = (a0, (a1, (a2, (a3, refl))))
shape_expr (both a0 a1 a2) = (a0, (a1, (a2, refl)))
shape_expr (either a0 a1 a2) = (a0, (a1, (a2, refl)))
shape_expr (cast a0 a1 a2) = (a0, (a1, (a2, refl)))
shape_expr (assign a0 a1 a2) = (a0, (a1, (a2, refl)))
shape_expr (update a0 a1 a2 a3) = (a0, (a1, (a2, (a3, refl))))
shape_expr (give a0 a1) = (a0, (a1, refl))
shape_expr (leave a0 a1) = (a0, (a1, refl))
shape_expr (go_on a0) = (a0, refl)

as_number : (g : Gv) (y : Expr) → gcons (gnum 0) g ≡ stored_expr y → Is_number y
as_number g y p = subst (λ n. Shape_expr n y) (sym (ap (λ g. num (head g)) p)) (shape_expr y)

as_truth : (g : Gv) (y : Expr) → gcons (gnum 1) g ≡ stored_expr y → Is_truth y
as_truth g y p = subst (λ n. Shape_expr n y) (sym (ap (λ g. num (head g)) p)) (shape_expr y)

as_tuple : (g : Gv) (y : Expr) → gcons (gnum 2) g ≡ stored_expr y → Is_tuple y
as_tuple g y p = subst (λ n. Shape_expr n y) (sym (ap (λ g. num (head g)) p)) (shape_expr y)

as_inner : (g : Gv) (y : Expr) → gcons (gnum 3) g ≡ stored_expr y → Is_inner y
as_inner g y p = subst (λ n. Shape_expr n y) (sym (ap (λ g. num (head g)) p)) (shape_expr y)

as_branch : (g : Gv) (y : Expr) → gcons (gnum 4) g ≡ stored_expr y → Is_branch y
as_branch g y p = subst (λ n. Shape_expr n y) (sym (ap (λ g. num (head g)) p)) (shape_expr y)

as_select : (g : Gv) (y : Expr) → gcons (gnum 5) g ≡ stored_expr y → Is_select y
as_select g y p = subst (λ n. Shape_expr n y) (sym (ap (λ g. num (head g)) p)) (shape_expr y)

as_let_branch : (g : Gv) (y : Expr) → gcons (gnum 6) g ≡ stored_expr y → Is_let_branch y
as_let_branch g y p = subst (λ n. Shape_expr n y) (sym (ap (λ g. num (head g)) p)) (shape_expr y)

as_forever : (g : Gv) (y : Expr) → gcons (gnum 7) g ≡ stored_expr y → Is_forever y
as_forever g y p = subst (λ n. Shape_expr n y) (sym (ap (λ g. num (head g)) p)) (shape_expr y)

as_panic : (g : Gv) (y : Expr) → gcons (gnum 8) g ≡ stored_expr y → Is_panic y
as_panic g y p = subst (λ n. Shape_expr n y) (sym (ap (λ g. num (head g)) p)) (shape_expr y)

as_path : (g : Gv) (y : Expr) → gcons (gnum 9) g ≡ stored_expr y → Is_path y
as_path g y p = subst (λ n. Shape_expr n y) (sym (ap (λ g. num (head g)) p)) (shape_expr y)

as_call : (g : Gv) (y : Expr) → gcons (gnum 10) g ≡ stored_expr y → Is_call y
as_call g y p = subst (λ n. Shape_expr n y) (sym (ap (λ g. num (head g)) p)) (shape_expr y)

as_literal : (g : Gv) (y : Expr) → gcons (gnum 11) g ≡ stored_expr y → Is_literal y
as_literal g y p = subst (λ n. Shape_expr n y) (sym (ap (λ g. num (head g)) p)) (shape_expr y)

as_field : (g : Gv) (y : Expr) → gcons (gnum 12) g ≡ stored_expr y → Is_field y
as_field g y p = subst (λ n. Shape_expr n y) (sym (ap (λ g. num (head g)) p)) (shape_expr y)

as_minus : (g : Gv) (y : Expr) → gcons (gnum 13) g ≡ stored_expr y → Is_minus y
as_minus g y p = subst (λ n. Shape_expr n y) (sym (ap (λ g. num (head g)) p)) (shape_expr y)

as_negation : (g : Gv) (y : Expr) → gcons (gnum 14) g ≡ stored_expr y → Is_negation y
as_negation g y p = subst (λ n. Shape_expr n y) (sym (ap (λ g. num (head g)) p)) (shape_expr y)

as_deref : (g : Gv) (y : Expr) → gcons (gnum 15) g ≡ stored_expr y → Is_deref y
as_deref g y p = subst (λ n. Shape_expr n y) (sym (ap (λ g. num (head g)) p)) (shape_expr y)

as_borrow : (g : Gv) (y : Expr) → gcons (gnum 16) g ≡ stored_expr y → Is_borrow y
as_borrow g y p = subst (λ n. Shape_expr n y) (sym (ap (λ g. num (head g)) p)) (shape_expr y)

as_binary : (g : Gv) (y : Expr) → gcons (gnum 17) g ≡ stored_expr y → Is_binary y
as_binary g y p = subst (λ n. Shape_expr n y) (sym (ap (λ g. num (head g)) p)) (shape_expr y)

as_compare : (g : Gv) (y : Expr) → gcons (gnum 18) g ≡ stored_expr y → Is_compare y
as_compare g y p = subst (λ n. Shape_expr n y) (sym (ap (λ g. num (head g)) p)) (shape_expr y)

as_both : (g : Gv) (y : Expr) → gcons (gnum 19) g ≡ stored_expr y → Is_both y
as_both g y p = subst (λ n. Shape_expr n y) (sym (ap (λ g. num (head g)) p)) (shape_expr y)

as_either : (g : Gv) (y : Expr) → gcons (gnum 20) g ≡ stored_expr y → Is_either y
as_either g y p = subst (λ n. Shape_expr n y) (sym (ap (λ g. num (head g)) p)) (shape_expr y)

as_cast : (g : Gv) (y : Expr) → gcons (gnum 21) g ≡ stored_expr y → Is_cast y
as_cast g y p = subst (λ n. Shape_expr n y) (sym (ap (λ g. num (head g)) p)) (shape_expr y)

as_assign : (g : Gv) (y : Expr) → gcons (gnum 22) g ≡ stored_expr y → Is_assign y
as_assign g y p = subst (λ n. Shape_expr n y) (sym (ap (λ g. num (head g)) p)) (shape_expr y)

as_update : (g : Gv) (y : Expr) → gcons (gnum 23) g ≡ stored_expr y → Is_update y
as_update g y p = subst (λ n. Shape_expr n y) (sym (ap (λ g. num (head g)) p)) (shape_expr y)

as_give : (g : Gv) (y : Expr) → gcons (gnum 24) g ≡ stored_expr y → Is_give y
as_give g y p = subst (λ n. Shape_expr n y) (sym (ap (λ g. num (head g)) p)) (shape_expr y)

as_leave : (g : Gv) (y : Expr) → gcons (gnum 25) g ≡ stored_expr y → Is_leave y
as_leave g y p = subst (λ n. Shape_expr n y) (sym (ap (λ g. num (head g)) p)) (shape_expr y)

as_go_on : (g : Gv) (y : Expr) → gcons (gnum 26) g ≡ stored_expr y → Is_go_on y
as_go_on g y p = subst (λ n. Shape_expr n y) (sym (ap (λ g. num (head g)) p)) (shape_expr y)

abbrev Is_run : Stmt → Type 0
Is_run y = (a0 : Expr) × ((a1 : Bool) × (y ≡ run a0 a1))

abbrev Is_bind : Stmt → Type 0
Is_bind y = (a0 : Span) × ((a1 : Pat) × ((a2 : MaybeWritten) × ((a3 : MaybeExpr) × (y ≡ bind a0 a1 a2 a3))))

abbrev Shape_stmt : ℕ → Stmt → Type 0
Shape_stmt zero y = Is_run y
Shape_stmt (suc zero) y = Is_bind y
Shape_stmt (suc (suc n)) y = ⊥

shape_stmt : (y : Stmt) → Shape_stmt (num (head (stored_stmt y))) y
shape_stmt (run a0 a1) = (a0, (a1, refl))
shape_stmt (bind a0 a1 a2 a3) = (a0, (a1, (a2, (a3, refl))))

as_run : (g : Gv) (y : Stmt) → gcons (gnum 0) g ≡ stored_stmt y → Is_run y
as_run g y p = subst (λ n. Shape_stmt n y) (sym (ap (λ g. num (head g)) p)) (shape_stmt y)

as_bind : (g : Gv) (y : Stmt) → gcons (gnum 1) g ≡ stored_stmt y → Is_bind y
as_bind g y p = subst (λ n. Shape_stmt n y) (sym (ap (λ g. num (head g)) p)) (shape_stmt y)

abbrev Is_block : Block → Type 0
Is_block y = (a0 : Span) × ((a1 : Stmts) × ((a2 : MaybeExpr) × (y ≡ block a0 a1 a2)))

abbrev Shape_block : ℕ → Block → Type 0
Shape_block zero y = Is_block y
Shape_block (suc n) y = ⊥

shape_block : (y : Block) → Shape_block (num (head (stored_block y))) y
shape_block (block a0 a1 a2) = (a0, (a1, (a2, refl)))

as_block : (g : Gv) (y : Block) → gcons (gnum 0) g ≡ stored_block y → Is_block y
as_block g y p = subst (λ n. Shape_block n y) (sym (ap (λ g. num (head g)) p)) (shape_block y)

abbrev Is_no_exprs : Exprs → Type 0
Is_no_exprs y = y ≡ no_exprs

abbrev Is_more_exprs : Exprs → Type 0
Is_more_exprs y = (a0 : Expr) × ((a1 : Exprs) × (y ≡ more_exprs a0 a1))

abbrev Shape_exprs : ℕ → Exprs → Type 0
Shape_exprs zero y = Is_no_exprs y
Shape_exprs (suc zero) y = Is_more_exprs y
Shape_exprs (suc (suc n)) y = ⊥

shape_exprs : (y : Exprs) → Shape_exprs (num (head (stored_exprs y))) y
shape_exprs no_exprs = refl
shape_exprs (more_exprs a0 a1) = (a0, (a1, refl))

as_no_exprs : (g : Gv) (y : Exprs) → gcons (gnum 0) g ≡ stored_exprs y → Is_no_exprs y
as_no_exprs g y p = subst (λ n. Shape_exprs n y) (sym (ap (λ g. num (head g)) p)) (shape_exprs y)

as_more_exprs : (g : Gv) (y : Exprs) → gcons (gnum 1) g ≡ stored_exprs y → Is_more_exprs y
as_more_exprs g y p = subst (λ n. Shape_exprs n y) (sym (ap (λ g. num (head g)) p)) (shape_exprs y)

abbrev Is_no_arms : Arms → Type 0
Is_no_arms y = y ≡ no_arms

abbrev Is_more_arms : Arms → Type 0
Is_more_arms y = (a0 : Pat) × ((a1 : Expr) × ((a2 : Arms) × (y ≡ more_arms a0 a1 a2)))

abbrev Shape_arms : ℕ → Arms → Type 0
Shape_arms zero y = Is_no_arms y
Shape_arms (suc zero) y = Is_more_arms y
Shape_arms (suc (suc n)) y = ⊥

shape_arms : (y : Arms) → Shape_arms (num (head (stored_arms y))) y
shape_arms no_arms = refl
shape_arms (more_arms a0 a1 a2) = (a0, (a1, (a2, refl)))

as_no_arms : (g : Gv) (y : Arms) → gcons (gnum 0) g ≡ stored_arms y → Is_no_arms y
as_no_arms g y p = subst (λ n. Shape_arms n y) (sym (ap (λ g. num (head g)) p)) (shape_arms y)

as_more_arms : (g : Gv) (y : Arms) → gcons (gnum 1) g ≡ stored_arms y → Is_more_arms y
as_more_arms g y p = subst (λ n. Shape_arms n y) (sym (ap (λ g. num (head g)) p)) (shape_arms y)

abbrev Is_no_inits : Inits → Type 0
Is_no_inits y = y ≡ no_inits

abbrev Is_more_inits : Inits → Type 0
Is_more_inits y = (a0 : Span) × ((a1 : Name) × ((a2 : Expr) × ((a3 : Inits) × (y ≡ more_inits a0 a1 a2 a3))))

abbrev Shape_inits : ℕ → Inits → Type 0
Shape_inits zero y = Is_no_inits y
Shape_inits (suc zero) y = Is_more_inits y
Shape_inits (suc (suc n)) y = ⊥

shape_inits : (y : Inits) → Shape_inits (num (head (stored_inits y))) y
shape_inits no_inits = refl
shape_inits (more_inits a0 a1 a2 a3) = (a0, (a1, (a2, (a3, refl))))

as_no_inits : (g : Gv) (y : Inits) → gcons (gnum 0) g ≡ stored_inits y → Is_no_inits y
as_no_inits g y p = subst (λ n. Shape_inits n y) (sym (ap (λ g. num (head g)) p)) (shape_inits y)

as_more_inits : (g : Gv) (y : Inits) → gcons (gnum 1) g ≡ stored_inits y → Is_more_inits y
as_more_inits g y p = subst (λ n. Shape_inits n y) (sym (ap (λ g. num (head g)) p)) (shape_inits y)

abbrev Is_no_stmts : Stmts → Type 0
Is_no_stmts y = y ≡ no_stmts

abbrev Is_more_stmts : Stmts → Type 0
Is_more_stmts y = (a0 : Stmt) × ((a1 : Stmts) × (y ≡ more_stmts a0 a1))

abbrev Shape_stmts : ℕ → Stmts → Type 0
Shape_stmts zero y = Is_no_stmts y
Shape_stmts (suc zero) y = Is_more_stmts y
Shape_stmts (suc (suc n)) y = ⊥

shape_stmts : (y : Stmts) → Shape_stmts (num (head (stored_stmts y))) y
shape_stmts no_stmts = refl
shape_stmts (more_stmts a0 a1) = (a0, (a1, refl))

as_no_stmts : (g : Gv) (y : Stmts) → gcons (gnum 0) g ≡ stored_stmts y → Is_no_stmts y
as_no_stmts g y p = subst (λ n. Shape_stmts n y) (sym (ap (λ g. num (head g)) p)) (shape_stmts y)

as_more_stmts : (g : Gv) (y : Stmts) → gcons (gnum 1) g ≡ stored_stmts y → Is_more_stmts y
as_more_stmts g y p = subst (λ n. Shape_stmts n y) (sym (ap (λ g. num (head g)) p)) (shape_stmts y)

abbrev Is_no_maybeexpr : MaybeExpr → Type 0
Is_no_maybeexpr y = y ≡ no_maybeexpr

abbrev Is_some_maybeexpr : MaybeExpr → Type 0
Is_some_maybeexpr y = (a0 : Expr) × (y ≡ some_maybeexpr a0)

abbrev Shape_maybeexpr : ℕ → MaybeExpr → Type 0
Shape_maybeexpr zero y = Is_no_maybeexpr y
Shape_maybeexpr (suc zero) y = Is_some_maybeexpr y
Shape_maybeexpr (suc (suc n)) y = ⊥

shape_maybeexpr : (y : MaybeExpr) → Shape_maybeexpr (num (head (stored_maybeexpr y))) y
shape_maybeexpr no_maybeexpr = refl
shape_maybeexpr (some_maybeexpr a0) = (a0, refl)

as_no_maybeexpr : (g : Gv) (y : MaybeExpr) → gcons (gnum 0) g ≡ stored_maybeexpr y → Is_no_maybeexpr y
as_no_maybeexpr g y p = subst (λ n. Shape_maybeexpr n y) (sym (ap (λ g. num (head g)) p)) (shape_maybeexpr y)

as_some_maybeexpr : (g : Gv) (y : MaybeExpr) → gcons (gnum 1) g ≡ stored_maybeexpr y → Is_some_maybeexpr y
as_some_maybeexpr g y p = subst (λ n. Shape_maybeexpr n y) (sym (ap (λ g. num (head g)) p)) (shape_maybeexpr y)

mutual
  pub inj_expr : (x y : Expr) → stored_expr x ≡ stored_expr y → x ≡ y
  inj_expr (number a0 a1 a2 a3) y q =
      let w = as_number (gcons (span_row.the_row.coded.code a0) (gcons (coded_bool.code a1) (gcons (coded_ℕ.code a2) (gcons (coded_suffix.code a3) gnil)))) y q in
      let p : stored_expr (number a0 a1 a2 a3) ≡ stored_expr (number w.0 w.1.0 w.1.1.0 w.1.1.1.0) = q ∙ ap stored_expr (w.1.1.1.1) in
      (λ i. number (span_row.the_row.coded.inj a0 w.0 (ap (λ g. head (tail g)) p) i) (coded_bool.inj a1 w.1.0 (ap (λ g. head (tail (tail g))) p) i) (coded_ℕ.inj a2 w.1.1.0 (ap (λ g. head (tail (tail (tail g)))) p) i) (coded_suffix.inj a3 w.1.1.1.0 (ap (λ g. head (tail (tail (tail (tail g))))) p) i)) ∙ sym (w.1.1.1.1)
  inj_expr (truth a0 a1) y q =
      let w = as_truth (gcons (span_row.the_row.coded.code a0) (gcons (coded_bool.code a1) gnil)) y q in
      let p : stored_expr (truth a0 a1) ≡ stored_expr (truth w.0 w.1.0) = q ∙ ap stored_expr (w.1.1) in
      (λ i. truth (span_row.the_row.coded.inj a0 w.0 (ap (λ g. head (tail g)) p) i) (coded_bool.inj a1 w.1.0 (ap (λ g. head (tail (tail g))) p) i)) ∙ sym (w.1.1)
  inj_expr (tuple a0 a1) y q =
      let w = as_tuple (gcons (span_row.the_row.coded.code a0) (gcons (stored_exprs a1) gnil)) y q in
      let p : stored_expr (tuple a0 a1) ≡ stored_expr (tuple w.0 w.1.0) = q ∙ ap stored_expr (w.1.1) in
      (λ i. tuple (span_row.the_row.coded.inj a0 w.0 (ap (λ g. head (tail g)) p) i) (inj_exprs a1 w.1.0 (ap (λ g. head (tail (tail g))) p) i)) ∙ sym (w.1.1)
  inj_expr (inner a0) y q =
      let w = as_inner (gcons (stored_block a0) gnil) y q in
      let p : stored_expr (inner a0) ≡ stored_expr (inner w.0) = q ∙ ap stored_expr (w.1) in
      (λ i. inner (inj_block a0 w.0 (ap (λ g. head (tail g)) p) i)) ∙ sym (w.1)
  inj_expr (branch a0 a1 a2 a3) y q =
      let w = as_branch (gcons (span_row.the_row.coded.code a0) (gcons (stored_expr a1) (gcons (stored_block a2) (gcons (stored_expr a3) gnil)))) y q in
      let p : stored_expr (branch a0 a1 a2 a3) ≡ stored_expr (branch w.0 w.1.0 w.1.1.0 w.1.1.1.0) = q ∙ ap stored_expr (w.1.1.1.1) in
      (λ i. branch (span_row.the_row.coded.inj a0 w.0 (ap (λ g. head (tail g)) p) i) (inj_expr a1 w.1.0 (ap (λ g. head (tail (tail g))) p) i) (inj_block a2 w.1.1.0 (ap (λ g. head (tail (tail (tail g)))) p) i) (inj_expr a3 w.1.1.1.0 (ap (λ g. head (tail (tail (tail (tail g))))) p) i)) ∙ sym (w.1.1.1.1)
  inj_expr (select a0 a1 a2) y q =
      let w = as_select (gcons (span_row.the_row.coded.code a0) (gcons (stored_expr a1) (gcons (stored_arms a2) gnil))) y q in
      let p : stored_expr (select a0 a1 a2) ≡ stored_expr (select w.0 w.1.0 w.1.1.0) = q ∙ ap stored_expr (w.1.1.1) in
      (λ i. select (span_row.the_row.coded.inj a0 w.0 (ap (λ g. head (tail g)) p) i) (inj_expr a1 w.1.0 (ap (λ g. head (tail (tail g))) p) i) (inj_arms a2 w.1.1.0 (ap (λ g. head (tail (tail (tail g)))) p) i)) ∙ sym (w.1.1.1)
  inj_expr (let_branch a0 a1 a2 a3 a4) y q =
      let w = as_let_branch (gcons (span_row.the_row.coded.code a0) (gcons (coded_pat.code a1) (gcons (stored_expr a2) (gcons (stored_expr a3) (gcons (stored_expr a4) gnil))))) y q in
      let p : stored_expr (let_branch a0 a1 a2 a3 a4) ≡ stored_expr (let_branch w.0 w.1.0 w.1.1.0 w.1.1.1.0 w.1.1.1.1.0) = q ∙ ap stored_expr (w.1.1.1.1.1) in
      (λ i. let_branch (span_row.the_row.coded.inj a0 w.0 (ap (λ g. head (tail g)) p) i) (coded_pat.inj a1 w.1.0 (ap (λ g. head (tail (tail g))) p) i) (inj_expr a2 w.1.1.0 (ap (λ g. head (tail (tail (tail g)))) p) i) (inj_expr a3 w.1.1.1.0 (ap (λ g. head (tail (tail (tail (tail g))))) p) i) (inj_expr a4 w.1.1.1.1.0 (ap (λ g. head (tail (tail (tail (tail (tail g)))))) p) i)) ∙ sym (w.1.1.1.1.1)
  inj_expr (forever a0 a1 a2) y q =
      let w = as_forever (gcons (span_row.the_row.coded.code a0) (gcons (coded_bool.code a1) (gcons (stored_block a2) gnil))) y q in
      let p : stored_expr (forever a0 a1 a2) ≡ stored_expr (forever w.0 w.1.0 w.1.1.0) = q ∙ ap stored_expr (w.1.1.1) in
      (λ i. forever (span_row.the_row.coded.inj a0 w.0 (ap (λ g. head (tail g)) p) i) (coded_bool.inj a1 w.1.0 (ap (λ g. head (tail (tail g))) p) i) (inj_block a2 w.1.1.0 (ap (λ g. head (tail (tail (tail g)))) p) i)) ∙ sym (w.1.1.1)
  inj_expr (panic a0) y q =
      let w = as_panic (gcons (span_row.the_row.coded.code a0) gnil) y q in
      let p : stored_expr (panic a0) ≡ stored_expr (panic w.0) = q ∙ ap stored_expr (w.1) in
      (λ i. panic (span_row.the_row.coded.inj a0 w.0 (ap (λ g. head (tail g)) p) i)) ∙ sym (w.1)
  inj_expr (path a0 a1) y q =
      let w = as_path (gcons (span_row.the_row.coded.code a0) (gcons (coded_path.code a1) gnil)) y q in
      let p : stored_expr (path a0 a1) ≡ stored_expr (path w.0 w.1.0) = q ∙ ap stored_expr (w.1.1) in
      (λ i. path (span_row.the_row.coded.inj a0 w.0 (ap (λ g. head (tail g)) p) i) (coded_path.inj a1 w.1.0 (ap (λ g. head (tail (tail g))) p) i)) ∙ sym (w.1.1)
  inj_expr (call a0 a1 a2 a3) y q =
      let w = as_call (gcons (span_row.the_row.coded.code a0) (gcons (coded_path.code a1) (gcons (coded_turbo.code a2) (gcons (stored_exprs a3) gnil)))) y q in
      let p : stored_expr (call a0 a1 a2 a3) ≡ stored_expr (call w.0 w.1.0 w.1.1.0 w.1.1.1.0) = q ∙ ap stored_expr (w.1.1.1.1) in
      (λ i. call (span_row.the_row.coded.inj a0 w.0 (ap (λ g. head (tail g)) p) i) (coded_path.inj a1 w.1.0 (ap (λ g. head (tail (tail g))) p) i) (coded_turbo.inj a2 w.1.1.0 (ap (λ g. head (tail (tail (tail g)))) p) i) (inj_exprs a3 w.1.1.1.0 (ap (λ g. head (tail (tail (tail (tail g))))) p) i)) ∙ sym (w.1.1.1.1)
  inj_expr (literal a0 a1 a2 a3) y q =
      let w = as_literal (gcons (span_row.the_row.coded.code a0) (gcons (ident_row.the_row.coded.code a1) (gcons (coded_turbo.code a2) (gcons (stored_inits a3) gnil)))) y q in
      let p : stored_expr (literal a0 a1 a2 a3) ≡ stored_expr (literal w.0 w.1.0 w.1.1.0 w.1.1.1.0) = q ∙ ap stored_expr (w.1.1.1.1) in
      (λ i. literal (span_row.the_row.coded.inj a0 w.0 (ap (λ g. head (tail g)) p) i) (ident_row.the_row.coded.inj a1 w.1.0 (ap (λ g. head (tail (tail g))) p) i) (coded_turbo.inj a2 w.1.1.0 (ap (λ g. head (tail (tail (tail g)))) p) i) (inj_inits a3 w.1.1.1.0 (ap (λ g. head (tail (tail (tail (tail g))))) p) i)) ∙ sym (w.1.1.1.1)
  inj_expr (field a0 a1 a2 a3) y q =
      let w = as_field (gcons (span_row.the_row.coded.code a0) (gcons (stored_expr a1) (gcons (span_row.the_row.coded.code a2) (gcons ((coded_list coded_ℕ).code a3) gnil)))) y q in
      let p : stored_expr (field a0 a1 a2 a3) ≡ stored_expr (field w.0 w.1.0 w.1.1.0 w.1.1.1.0) = q ∙ ap stored_expr (w.1.1.1.1) in
      (λ i. field (span_row.the_row.coded.inj a0 w.0 (ap (λ g. head (tail g)) p) i) (inj_expr a1 w.1.0 (ap (λ g. head (tail (tail g))) p) i) (span_row.the_row.coded.inj a2 w.1.1.0 (ap (λ g. head (tail (tail (tail g)))) p) i) ((coded_list coded_ℕ).inj a3 w.1.1.1.0 (ap (λ g. head (tail (tail (tail (tail g))))) p) i)) ∙ sym (w.1.1.1.1)
  inj_expr (minus a0 a1) y q =
      let w = as_minus (gcons (span_row.the_row.coded.code a0) (gcons (stored_expr a1) gnil)) y q in
      let p : stored_expr (minus a0 a1) ≡ stored_expr (minus w.0 w.1.0) = q ∙ ap stored_expr (w.1.1) in
      (λ i. minus (span_row.the_row.coded.inj a0 w.0 (ap (λ g. head (tail g)) p) i) (inj_expr a1 w.1.0 (ap (λ g. head (tail (tail g))) p) i)) ∙ sym (w.1.1)
  inj_expr (negation a0 a1) y q =
      let w = as_negation (gcons (span_row.the_row.coded.code a0) (gcons (stored_expr a1) gnil)) y q in
      let p : stored_expr (negation a0 a1) ≡ stored_expr (negation w.0 w.1.0) = q ∙ ap stored_expr (w.1.1) in
      (λ i. negation (span_row.the_row.coded.inj a0 w.0 (ap (λ g. head (tail g)) p) i) (inj_expr a1 w.1.0 (ap (λ g. head (tail (tail g))) p) i)) ∙ sym (w.1.1)
  inj_expr (deref a0 a1) y q =
      let w = as_deref (gcons (span_row.the_row.coded.code a0) (gcons (stored_expr a1) gnil)) y q in
      let p : stored_expr (deref a0 a1) ≡ stored_expr (deref w.0 w.1.0) = q ∙ ap stored_expr (w.1.1) in
      (λ i. deref (span_row.the_row.coded.inj a0 w.0 (ap (λ g. head (tail g)) p) i) (inj_expr a1 w.1.0 (ap (λ g. head (tail (tail g))) p) i)) ∙ sym (w.1.1)
  inj_expr (borrow a0 a1 a2) y q =
      let w = as_borrow (gcons (span_row.the_row.coded.code a0) (gcons (coded_bool.code a1) (gcons (stored_expr a2) gnil))) y q in
      let p : stored_expr (borrow a0 a1 a2) ≡ stored_expr (borrow w.0 w.1.0 w.1.1.0) = q ∙ ap stored_expr (w.1.1.1) in
      (λ i. borrow (span_row.the_row.coded.inj a0 w.0 (ap (λ g. head (tail g)) p) i) (coded_bool.inj a1 w.1.0 (ap (λ g. head (tail (tail g))) p) i) (inj_expr a2 w.1.1.0 (ap (λ g. head (tail (tail (tail g)))) p) i)) ∙ sym (w.1.1.1)
  inj_expr (binary a0 a1 a2 a3) y q =
      let w = as_binary (gcons (span_row.the_row.coded.code a0) (gcons (binop_row.the_row.coded.code a1) (gcons (stored_expr a2) (gcons (stored_expr a3) gnil)))) y q in
      let p : stored_expr (binary a0 a1 a2 a3) ≡ stored_expr (binary w.0 w.1.0 w.1.1.0 w.1.1.1.0) = q ∙ ap stored_expr (w.1.1.1.1) in
      (λ i. binary (span_row.the_row.coded.inj a0 w.0 (ap (λ g. head (tail g)) p) i) (binop_row.the_row.coded.inj a1 w.1.0 (ap (λ g. head (tail (tail g))) p) i) (inj_expr a2 w.1.1.0 (ap (λ g. head (tail (tail (tail g)))) p) i) (inj_expr a3 w.1.1.1.0 (ap (λ g. head (tail (tail (tail (tail g))))) p) i)) ∙ sym (w.1.1.1.1)
  inj_expr (compare a0 a1 a2 a3) y q =
      let w = as_compare (gcons (span_row.the_row.coded.code a0) (gcons (cmpop_row.the_row.coded.code a1) (gcons (stored_expr a2) (gcons (stored_expr a3) gnil)))) y q in
      let p : stored_expr (compare a0 a1 a2 a3) ≡ stored_expr (compare w.0 w.1.0 w.1.1.0 w.1.1.1.0) = q ∙ ap stored_expr (w.1.1.1.1) in
      (λ i. compare (span_row.the_row.coded.inj a0 w.0 (ap (λ g. head (tail g)) p) i) (cmpop_row.the_row.coded.inj a1 w.1.0 (ap (λ g. head (tail (tail g))) p) i) (inj_expr a2 w.1.1.0 (ap (λ g. head (tail (tail (tail g)))) p) i) (inj_expr a3 w.1.1.1.0 (ap (λ g. head (tail (tail (tail (tail g))))) p) i)) ∙ sym (w.1.1.1.1)
  inj_expr (both a0 a1 a2) y q =
      let w = as_both (gcons (span_row.the_row.coded.code a0) (gcons (stored_expr a1) (gcons (stored_expr a2) gnil))) y q in
      let p : stored_expr (both a0 a1 a2) ≡ stored_expr (both w.0 w.1.0 w.1.1.0) = q ∙ ap stored_expr (w.1.1.1) in
      (λ i. both (span_row.the_row.coded.inj a0 w.0 (ap (λ g. head (tail g)) p) i) (inj_expr a1 w.1.0 (ap (λ g. head (tail (tail g))) p) i) (inj_expr a2 w.1.1.0 (ap (λ g. head (tail (tail (tail g)))) p) i)) ∙ sym (w.1.1.1)
  inj_expr (either a0 a1 a2) y q =
      let w = as_either (gcons (span_row.the_row.coded.code a0) (gcons (stored_expr a1) (gcons (stored_expr a2) gnil))) y q in
      let p : stored_expr (either a0 a1 a2) ≡ stored_expr (either w.0 w.1.0 w.1.1.0) = q ∙ ap stored_expr (w.1.1.1) in
      (λ i. either (span_row.the_row.coded.inj a0 w.0 (ap (λ g. head (tail g)) p) i) (inj_expr a1 w.1.0 (ap (λ g. head (tail (tail g))) p) i) (inj_expr a2 w.1.1.0 (ap (λ g. head (tail (tail (tail g)))) p) i)) ∙ sym (w.1.1.1)
  inj_expr (cast a0 a1 a2) y q =
      let w = as_cast (gcons (span_row.the_row.coded.code a0) (gcons (stored_expr a1) (gcons (intty_row.the_row.coded.code a2) gnil))) y q in
      let p : stored_expr (cast a0 a1 a2) ≡ stored_expr (cast w.0 w.1.0 w.1.1.0) = q ∙ ap stored_expr (w.1.1.1) in
      (λ i. cast (span_row.the_row.coded.inj a0 w.0 (ap (λ g. head (tail g)) p) i) (inj_expr a1 w.1.0 (ap (λ g. head (tail (tail g))) p) i) (intty_row.the_row.coded.inj a2 w.1.1.0 (ap (λ g. head (tail (tail (tail g)))) p) i)) ∙ sym (w.1.1.1)
  inj_expr (assign a0 a1 a2) y q =
      let w = as_assign (gcons (span_row.the_row.coded.code a0) (gcons (stored_expr a1) (gcons (stored_expr a2) gnil))) y q in
      let p : stored_expr (assign a0 a1 a2) ≡ stored_expr (assign w.0 w.1.0 w.1.1.0) = q ∙ ap stored_expr (w.1.1.1) in
      (λ i. assign (span_row.the_row.coded.inj a0 w.0 (ap (λ g. head (tail g)) p) i) (inj_expr a1 w.1.0 (ap (λ g. head (tail (tail g))) p) i) (inj_expr a2 w.1.1.0 (ap (λ g. head (tail (tail (tail g)))) p) i)) ∙ sym (w.1.1.1)
  inj_expr (update a0 a1 a2 a3) y q =
      let w = as_update (gcons (span_row.the_row.coded.code a0) (gcons (binop_row.the_row.coded.code a1) (gcons (stored_expr a2) (gcons (stored_expr a3) gnil)))) y q in
      let p : stored_expr (update a0 a1 a2 a3) ≡ stored_expr (update w.0 w.1.0 w.1.1.0 w.1.1.1.0) = q ∙ ap stored_expr (w.1.1.1.1) in
      (λ i. update (span_row.the_row.coded.inj a0 w.0 (ap (λ g. head (tail g)) p) i) (binop_row.the_row.coded.inj a1 w.1.0 (ap (λ g. head (tail (tail g))) p) i) (inj_expr a2 w.1.1.0 (ap (λ g. head (tail (tail (tail g)))) p) i) (inj_expr a3 w.1.1.1.0 (ap (λ g. head (tail (tail (tail (tail g))))) p) i)) ∙ sym (w.1.1.1.1)
  inj_expr (give a0 a1) y q =
      let w = as_give (gcons (span_row.the_row.coded.code a0) (gcons (stored_maybeexpr a1) gnil)) y q in
      let p : stored_expr (give a0 a1) ≡ stored_expr (give w.0 w.1.0) = q ∙ ap stored_expr (w.1.1) in
      (λ i. give (span_row.the_row.coded.inj a0 w.0 (ap (λ g. head (tail g)) p) i) (inj_maybeexpr a1 w.1.0 (ap (λ g. head (tail (tail g))) p) i)) ∙ sym (w.1.1)
  inj_expr (leave a0 a1) y q =
      let w = as_leave (gcons (span_row.the_row.coded.code a0) (gcons (stored_maybeexpr a1) gnil)) y q in
      let p : stored_expr (leave a0 a1) ≡ stored_expr (leave w.0 w.1.0) = q ∙ ap stored_expr (w.1.1) in
      (λ i. leave (span_row.the_row.coded.inj a0 w.0 (ap (λ g. head (tail g)) p) i) (inj_maybeexpr a1 w.1.0 (ap (λ g. head (tail (tail g))) p) i)) ∙ sym (w.1.1)
  inj_expr (go_on a0) y q =
      let w = as_go_on (gcons (span_row.the_row.coded.code a0) gnil) y q in
      let p : stored_expr (go_on a0) ≡ stored_expr (go_on w.0) = q ∙ ap stored_expr (w.1) in
      (λ i. go_on (span_row.the_row.coded.inj a0 w.0 (ap (λ g. head (tail g)) p) i)) ∙ sym (w.1)

  pub inj_stmt : (x y : Stmt) → stored_stmt x ≡ stored_stmt y → x ≡ y
  inj_stmt (run a0 a1) y q =
      let w = as_run (gcons (stored_expr a0) (gcons (coded_bool.code a1) gnil)) y q in
      let p : stored_stmt (run a0 a1) ≡ stored_stmt (run w.0 w.1.0) = q ∙ ap stored_stmt (w.1.1) in
      (λ i. run (inj_expr a0 w.0 (ap (λ g. head (tail g)) p) i) (coded_bool.inj a1 w.1.0 (ap (λ g. head (tail (tail g))) p) i)) ∙ sym (w.1.1)
  inj_stmt (bind a0 a1 a2 a3) y q =
      let w = as_bind (gcons (span_row.the_row.coded.code a0) (gcons (coded_pat.code a1) (gcons (coded_maybewritten.code a2) (gcons (stored_maybeexpr a3) gnil)))) y q in
      let p : stored_stmt (bind a0 a1 a2 a3) ≡ stored_stmt (bind w.0 w.1.0 w.1.1.0 w.1.1.1.0) = q ∙ ap stored_stmt (w.1.1.1.1) in
      (λ i. bind (span_row.the_row.coded.inj a0 w.0 (ap (λ g. head (tail g)) p) i) (coded_pat.inj a1 w.1.0 (ap (λ g. head (tail (tail g))) p) i) (coded_maybewritten.inj a2 w.1.1.0 (ap (λ g. head (tail (tail (tail g)))) p) i) (inj_maybeexpr a3 w.1.1.1.0 (ap (λ g. head (tail (tail (tail (tail g))))) p) i)) ∙ sym (w.1.1.1.1)

  pub inj_block : (x y : Block) → stored_block x ≡ stored_block y → x ≡ y
  inj_block (block a0 a1 a2) y q =
      let w = as_block (gcons (span_row.the_row.coded.code a0) (gcons (stored_stmts a1) (gcons (stored_maybeexpr a2) gnil))) y q in
      let p : stored_block (block a0 a1 a2) ≡ stored_block (block w.0 w.1.0 w.1.1.0) = q ∙ ap stored_block (w.1.1.1) in
      (λ i. block (span_row.the_row.coded.inj a0 w.0 (ap (λ g. head (tail g)) p) i) (inj_stmts a1 w.1.0 (ap (λ g. head (tail (tail g))) p) i) (inj_maybeexpr a2 w.1.1.0 (ap (λ g. head (tail (tail (tail g)))) p) i)) ∙ sym (w.1.1.1)

  pub inj_exprs : (x y : Exprs) → stored_exprs x ≡ stored_exprs y → x ≡ y
  inj_exprs no_exprs y q =
      let w = as_no_exprs (gnil) y q in
      sym w
  inj_exprs (more_exprs a0 a1) y q =
      let w = as_more_exprs (gcons (stored_expr a0) (gcons (stored_exprs a1) gnil)) y q in
      let p : stored_exprs (more_exprs a0 a1) ≡ stored_exprs (more_exprs w.0 w.1.0) = q ∙ ap stored_exprs (w.1.1) in
      (λ i. more_exprs (inj_expr a0 w.0 (ap (λ g. head (tail g)) p) i) (inj_exprs a1 w.1.0 (ap (λ g. head (tail (tail g))) p) i)) ∙ sym (w.1.1)

  pub inj_arms : (x y : Arms) → stored_arms x ≡ stored_arms y → x ≡ y
  inj_arms no_arms y q =
      let w = as_no_arms (gnil) y q in
      sym w
  inj_arms (more_arms a0 a1 a2) y q =
      let w = as_more_arms (gcons (coded_pat.code a0) (gcons (stored_expr a1) (gcons (stored_arms a2) gnil))) y q in
      let p : stored_arms (more_arms a0 a1 a2) ≡ stored_arms (more_arms w.0 w.1.0 w.1.1.0) = q ∙ ap stored_arms (w.1.1.1) in
      (λ i. more_arms (coded_pat.inj a0 w.0 (ap (λ g. head (tail g)) p) i) (inj_expr a1 w.1.0 (ap (λ g. head (tail (tail g))) p) i) (inj_arms a2 w.1.1.0 (ap (λ g. head (tail (tail (tail g)))) p) i)) ∙ sym (w.1.1.1)

  pub inj_inits : (x y : Inits) → stored_inits x ≡ stored_inits y → x ≡ y
  inj_inits no_inits y q =
      let w = as_no_inits (gnil) y q in
      sym w
  inj_inits (more_inits a0 a1 a2 a3) y q =
      let w = as_more_inits (gcons (span_row.the_row.coded.code a0) (gcons ((coded_list coded_ℕ).code a1) (gcons (stored_expr a2) (gcons (stored_inits a3) gnil)))) y q in
      let p : stored_inits (more_inits a0 a1 a2 a3) ≡ stored_inits (more_inits w.0 w.1.0 w.1.1.0 w.1.1.1.0) = q ∙ ap stored_inits (w.1.1.1.1) in
      (λ i. more_inits (span_row.the_row.coded.inj a0 w.0 (ap (λ g. head (tail g)) p) i) ((coded_list coded_ℕ).inj a1 w.1.0 (ap (λ g. head (tail (tail g))) p) i) (inj_expr a2 w.1.1.0 (ap (λ g. head (tail (tail (tail g)))) p) i) (inj_inits a3 w.1.1.1.0 (ap (λ g. head (tail (tail (tail (tail g))))) p) i)) ∙ sym (w.1.1.1.1)

  pub inj_stmts : (x y : Stmts) → stored_stmts x ≡ stored_stmts y → x ≡ y
  inj_stmts no_stmts y q =
      let w = as_no_stmts (gnil) y q in
      sym w
  inj_stmts (more_stmts a0 a1) y q =
      let w = as_more_stmts (gcons (stored_stmt a0) (gcons (stored_stmts a1) gnil)) y q in
      let p : stored_stmts (more_stmts a0 a1) ≡ stored_stmts (more_stmts w.0 w.1.0) = q ∙ ap stored_stmts (w.1.1) in
      (λ i. more_stmts (inj_stmt a0 w.0 (ap (λ g. head (tail g)) p) i) (inj_stmts a1 w.1.0 (ap (λ g. head (tail (tail g))) p) i)) ∙ sym (w.1.1)

  pub inj_maybeexpr : (x y : MaybeExpr) → stored_maybeexpr x ≡ stored_maybeexpr y → x ≡ y
  inj_maybeexpr no_maybeexpr y q =
      let w = as_no_maybeexpr (gnil) y q in
      sym w
  inj_maybeexpr (some_maybeexpr a0) y q =
      let w = as_some_maybeexpr (gcons (stored_expr a0) gnil) y q in
      let p : stored_maybeexpr (some_maybeexpr a0) ≡ stored_maybeexpr (some_maybeexpr w.0) = q ∙ ap stored_maybeexpr (w.1) in
      (λ i. some_maybeexpr (inj_expr a0 w.0 (ap (λ g. head (tail g)) p) i)) ∙ sym (w.1)

abbrev pub coded_expr : Coded Expr
coded_expr = record { code = stored_expr; inj = inj_expr }

abbrev pub coded_stmt : Coded Stmt
coded_stmt = record { code = stored_stmt; inj = inj_stmt }

abbrev pub coded_block : Coded Block
coded_block = record { code = stored_block; inj = inj_block }

abbrev pub coded_exprs : Coded Exprs
coded_exprs = record { code = stored_exprs; inj = inj_exprs }

abbrev pub coded_arms : Coded Arms
coded_arms = record { code = stored_arms; inj = inj_arms }

abbrev pub coded_inits : Coded Inits
coded_inits = record { code = stored_inits; inj = inj_inits }

abbrev pub coded_stmts : Coded Stmts
coded_stmts = record { code = stored_stmts; inj = inj_stmts }

abbrev pub coded_maybeexpr : Coded MaybeExpr
coded_maybeexpr = record { code = stored_maybeexpr; inj = inj_maybeexpr }

-- Expressions with types, reborrows and dereferences written out (LANGUAGE.md, "Types").
-- Made by tools/trees.py from tools/rust_ast.desc.py.
use Rattle.std.specs.Prelude.{◌≡◌, ℕ, zero, suc, ◌+◌, Bool, List, [], ◌∷◌, Option, Some, None, refl}
use Rattle.std.specs.Coded.{Coded, coded_ℕ, coded_bool}
use Rattle.std.proofs.Common.{ap, sym, ◌∙◌, subst}
use base.Stored.{Gv, gnil, gnum, gcons, num}
use Rattle.aen_base.specs.declared.span.Span.{Span}
use Rattle.aen_base.specs.contracts.span.Span as span_row
use Rattle.aen_base.specs.declared.ids.TypeId.{TypeId}
use Rattle.aen_base.specs.contracts.ids.TypeId as typeid_row
use Rattle.aen_base.specs.declared.int_ty.IntTy.{IntTy}
use Rattle.aen_base.specs.contracts.int_ty.IntTy as intty_row
use Rattle.aen_base.specs.declared.operators.BinOp.{BinOp}
use Rattle.aen_base.specs.contracts.operators.BinOp as binop_row
use Rattle.aen_base.specs.declared.operators.CmpOp.{CmpOp}
use Rattle.aen_base.specs.contracts.operators.CmpOp as cmpop_row
use Rattle.aen_base.specs.declared.operators.Builtin.{Builtin}
use Rattle.aen_base.specs.contracts.operators.Builtin as builtin_row
use Rattle.aen_base.specs.Numbers.{Number, coded_number}
use Rattle.core_ty.specs.Types.{Ty, coded_ty, Tys, coded_tys}
use Rattle.rust_ast.specs.SpelledPatterns.{Pat, coded_pat}

abbrev head : Gv → Gv
head gnil = gnil
head (gnum n) = gnil
head (gcons a b) = a

abbrev tail : Gv → Gv
tail gnil = gnil
tail (gnum n) = gnil
tail (gcons a b) = b

mutual
  pub data Val : Type 0 where
    value : Ty → Bool → Span → Form → Val

  pub data Callee : Type 0 where
    function : ℕ → Callee
    builtin_of : Builtin → Callee

  pub data Form : Type 0 where
    number : Number → Form
    truth : Bool → Form
    tuple : Values → Form
    construct : TypeId → ℕ → Parts → Form
    use_of : Place → Bool → Form
    field_of : Val → ℕ → Bool → Form
    unbox_of : Val → Bool → Form
    borrow : Bool → Place → Form
    minus : Val → Form
    negation : Val → Form
    binary : BinOp → Val → Val → Form
    compare : CmpOp → Val → Val → Form
    cast : Val → IntTy → Form
    both : Val → Val → Form
    either : Val → Val → Form
    call : Callee → Tys → Values → Form
    assign : Place → Val → Form
    update : Ty → BinOp → Place → Val → Form
    inner : Block → Form
    select : Scrutinee → Arms → Form
    forever : ℕ → Bool → Bool → Block → Form
    leave : ℕ → MaybeValue → Form
    go_on : ℕ → Form
    give : MaybeValue → Form
    panic : Form

  pub data Place : Type 0 where
    variable : ℕ → Place
    field : Place → ℕ → Place
    unbox : Place → Place
    through : Place → Place
    through_value : Val → Place

  pub data Scrutinee : Type 0 where
    stands : Ty → Span → Place → Scrutinee
    held : Val → Scrutinee

  pub data Stmt : Type 0 where
    run : Val → Stmt
    put : Span → ℕ → Val → Stmt
    pass : Span → Val → Stmt
    open_up : Span → Scrutinee → Pat → Stmt
    later : Span → Variables → Stmt

  pub data Block : Type 0 where
    block : Ty → Bool → Span → Stmts → MaybeValue → Block

  pub data Values : Type 0 where
    no_values : Values
    more_values : Val → Values → Values

  pub data Parts : Type 0 where
    no_parts : Parts
    more_parts : ℕ → Val → Parts → Parts

  pub data Arms : Type 0 where
    no_arms : Arms
    more_arms : Pat → Val → Arms → Arms

  pub data Stmts : Type 0 where
    no_stmts : Stmts
    more_stmts : Stmt → Stmts → Stmts

  pub data Variables : Type 0 where
    no_variables : Variables
    more_variables : ℕ → Variables → Variables

  pub data MaybeValue : Type 0 where
    no_maybevalue : MaybeValue
    some_maybevalue : Val → MaybeValue

abbrev pub values : List (Val) → Values
values [] = no_values
values (x ∷ xs) = more_values x (values xs)

abbrev pub values_list : Values → List (Val)
values_list no_values = []
values_list (more_values a0 r) = a0 ∷ values_list r

pub values_back : (xs : List (Val)) → values_list (values xs) ≡ xs
values_back [] = refl
values_back (x ∷ xs) = ap (λ r. x ∷ r) (values_back xs)

abbrev pub parts : List (ℕ × Val) → Parts
parts [] = no_parts
parts (x ∷ xs) = more_parts x.0 x.1 (parts xs)

abbrev pub parts_list : Parts → List (ℕ × Val)
parts_list no_parts = []
parts_list (more_parts a0 a1 r) = (a0, a1) ∷ parts_list r

pub parts_back : (xs : List (ℕ × Val)) → parts_list (parts xs) ≡ xs
parts_back [] = refl
parts_back (x ∷ xs) = ap (λ r. x ∷ r) (parts_back xs)

abbrev pub arms : List (Pat × Val) → Arms
arms [] = no_arms
arms (x ∷ xs) = more_arms x.0 x.1 (arms xs)

abbrev pub arms_list : Arms → List (Pat × Val)
arms_list no_arms = []
arms_list (more_arms a0 a1 r) = (a0, a1) ∷ arms_list r

pub arms_back : (xs : List (Pat × Val)) → arms_list (arms xs) ≡ xs
arms_back [] = refl
arms_back (x ∷ xs) = ap (λ r. x ∷ r) (arms_back xs)

abbrev pub stmts : List (Stmt) → Stmts
stmts [] = no_stmts
stmts (x ∷ xs) = more_stmts x (stmts xs)

abbrev pub stmts_list : Stmts → List (Stmt)
stmts_list no_stmts = []
stmts_list (more_stmts a0 r) = a0 ∷ stmts_list r

pub stmts_back : (xs : List (Stmt)) → stmts_list (stmts xs) ≡ xs
stmts_back [] = refl
stmts_back (x ∷ xs) = ap (λ r. x ∷ r) (stmts_back xs)

abbrev pub variables : List (ℕ) → Variables
variables [] = no_variables
variables (x ∷ xs) = more_variables x (variables xs)

abbrev pub variables_list : Variables → List (ℕ)
variables_list no_variables = []
variables_list (more_variables a0 r) = a0 ∷ variables_list r

pub variables_back : (xs : List (ℕ)) → variables_list (variables xs) ≡ xs
variables_back [] = refl
variables_back (x ∷ xs) = ap (λ r. x ∷ r) (variables_back xs)

abbrev pub maybevalue : Option Val → MaybeValue
maybevalue None = no_maybevalue
maybevalue (Some x) = some_maybevalue x

abbrev pub maybevalue_option : MaybeValue → Option Val
maybevalue_option no_maybevalue = None
maybevalue_option (some_maybevalue x) = Some x

pub maybevalue_back : (o : Option Val) → maybevalue_option (maybevalue o) ≡ o
maybevalue_back None = refl
maybevalue_back (Some x) = refl

pub values_inj : (xs ys : List (Val)) → values xs ≡ values ys → xs ≡ ys
values_inj xs ys p = sym (values_back xs) ∙ ap values_list p ∙ values_back ys

pub parts_inj : (xs ys : List (ℕ × Val)) → parts xs ≡ parts ys → xs ≡ ys
parts_inj xs ys p = sym (parts_back xs) ∙ ap parts_list p ∙ parts_back ys

pub arms_inj : (xs ys : List (Pat × Val)) → arms xs ≡ arms ys → xs ≡ ys
arms_inj xs ys p = sym (arms_back xs) ∙ ap arms_list p ∙ arms_back ys

pub stmts_inj : (xs ys : List (Stmt)) → stmts xs ≡ stmts ys → xs ≡ ys
stmts_inj xs ys p = sym (stmts_back xs) ∙ ap stmts_list p ∙ stmts_back ys

pub variables_inj : (xs ys : List (ℕ)) → variables xs ≡ variables ys → xs ≡ ys
variables_inj xs ys p = sym (variables_back xs) ∙ ap variables_list p ∙ variables_back ys

pub maybevalue_inj : (x y : Option Val) → maybevalue x ≡ maybevalue y → x ≡ y
maybevalue_inj x y p = sym (maybevalue_back x) ∙ ap maybevalue_option p ∙ maybevalue_back y

abbrev mutual
  pub nodes_val : Val → ℕ
  nodes_val (value a0 a1 a2 a3) = nodes_form a3 + 1

  pub nodes_callee : Callee → ℕ
  nodes_callee (function a0) = 1
  nodes_callee (builtin_of a0) = 1

  pub nodes_form : Form → ℕ
  nodes_form (number a0) = 1
  nodes_form (truth a0) = 1
  nodes_form (tuple a0) = nodes_values a0 + 1
  nodes_form (construct a0 a1 a2) = nodes_parts a2 + 1
  nodes_form (use_of a0 a1) = nodes_place a0 + 1
  nodes_form (field_of a0 a1 a2) = nodes_val a0 + 1
  nodes_form (unbox_of a0 a1) = nodes_val a0 + 1
  nodes_form (borrow a0 a1) = nodes_place a1 + 1
  nodes_form (minus a0) = nodes_val a0 + 1
  nodes_form (negation a0) = nodes_val a0 + 1
  nodes_form (binary a0 a1 a2) = nodes_val a1 + nodes_val a2 + 1
  nodes_form (compare a0 a1 a2) = nodes_val a1 + nodes_val a2 + 1
  nodes_form (cast a0 a1) = nodes_val a0 + 1
  nodes_form (both a0 a1) = nodes_val a0 + nodes_val a1 + 1
  nodes_form (either a0 a1) = nodes_val a0 + nodes_val a1 + 1
  nodes_form (call a0 a1 a2) = nodes_callee a0 + nodes_values a2 + 1
  nodes_form (assign a0 a1) = nodes_place a0 + nodes_val a1 + 1
  nodes_form (update a0 a1 a2 a3) = nodes_place a2 + nodes_val a3 + 1
  nodes_form (inner a0) = nodes_block a0 + 1
  nodes_form (select a0 a1) = nodes_scrutinee a0 + nodes_arms a1 + 1
  nodes_form (forever a0 a1 a2 a3) = nodes_block a3 + 1
  nodes_form (leave a0 a1) = nodes_maybevalue a1 + 1
  nodes_form (go_on a0) = 1
  nodes_form (give a0) = nodes_maybevalue a0 + 1
  nodes_form panic = 1

  pub nodes_place : Place → ℕ
  nodes_place (variable a0) = 1
  nodes_place (field a0 a1) = nodes_place a0 + 1
  nodes_place (unbox a0) = nodes_place a0 + 1
  nodes_place (through a0) = nodes_place a0 + 1
  nodes_place (through_value a0) = nodes_val a0 + 1

  pub nodes_scrutinee : Scrutinee → ℕ
  nodes_scrutinee (stands a0 a1 a2) = nodes_place a2 + 1
  nodes_scrutinee (held a0) = nodes_val a0 + 1

  pub nodes_stmt : Stmt → ℕ
  nodes_stmt (run a0) = nodes_val a0 + 1
  nodes_stmt (put a0 a1 a2) = nodes_val a2 + 1
  nodes_stmt (pass a0 a1) = nodes_val a1 + 1
  nodes_stmt (open_up a0 a1 a2) = nodes_scrutinee a1 + 1
  nodes_stmt (later a0 a1) = nodes_variables a1 + 1

  pub nodes_block : Block → ℕ
  nodes_block (block a0 a1 a2 a3 a4) = nodes_stmts a3 + nodes_maybevalue a4 + 1

  pub nodes_values : Values → ℕ
  nodes_values no_values = 1
  nodes_values (more_values a0 a1) = nodes_val a0 + nodes_values a1 + 1

  pub nodes_parts : Parts → ℕ
  nodes_parts no_parts = 1
  nodes_parts (more_parts a0 a1 a2) = nodes_val a1 + nodes_parts a2 + 1

  pub nodes_arms : Arms → ℕ
  nodes_arms no_arms = 1
  nodes_arms (more_arms a0 a1 a2) = nodes_val a1 + nodes_arms a2 + 1

  pub nodes_stmts : Stmts → ℕ
  nodes_stmts no_stmts = 1
  nodes_stmts (more_stmts a0 a1) = nodes_stmt a0 + nodes_stmts a1 + 1

  pub nodes_variables : Variables → ℕ
  nodes_variables no_variables = 1
  nodes_variables (more_variables a0 a1) = nodes_variables a1 + 1

  pub nodes_maybevalue : MaybeValue → ℕ
  nodes_maybevalue no_maybevalue = 1
  nodes_maybevalue (some_maybevalue a0) = nodes_val a0 + 1

abbrev mutual
  pub stored_val : Val → Gv
  stored_val (value a0 a1 a2 a3) = gcons (gnum 0) (gcons (coded_ty.code a0) (gcons (coded_bool.code a1) (gcons (span_row.the_row.coded.code a2) (gcons (stored_form a3) gnil))))

  pub stored_callee : Callee → Gv
  stored_callee (function a0) = gcons (gnum 0) (gcons (coded_ℕ.code a0) gnil)
  stored_callee (builtin_of a0) = gcons (gnum 1) (gcons (builtin_row.the_row.coded.code a0) gnil)

  pub stored_form : Form → Gv
  stored_form (number a0) = gcons (gnum 0) (gcons (coded_number.code a0) gnil)
  stored_form (truth a0) = gcons (gnum 1) (gcons (coded_bool.code a0) gnil)
  stored_form (tuple a0) = gcons (gnum 2) (gcons (stored_values a0) gnil)
  stored_form (construct a0 a1 a2) = gcons (gnum 3) (gcons (typeid_row.the_row.coded.code a0) (gcons (coded_ℕ.code a1) (gcons (stored_parts a2) gnil)))
  stored_form (use_of a0 a1) = gcons (gnum 4) (gcons (stored_place a0) (gcons (coded_bool.code a1) gnil))
  stored_form (field_of a0 a1 a2) = gcons (gnum 5) (gcons (stored_val a0) (gcons (coded_ℕ.code a1) (gcons (coded_bool.code a2) gnil)))
  stored_form (unbox_of a0 a1) = gcons (gnum 6) (gcons (stored_val a0) (gcons (coded_bool.code a1) gnil))
  stored_form (borrow a0 a1) = gcons (gnum 7) (gcons (coded_bool.code a0) (gcons (stored_place a1) gnil))
  stored_form (minus a0) = gcons (gnum 8) (gcons (stored_val a0) gnil)
  stored_form (negation a0) = gcons (gnum 9) (gcons (stored_val a0) gnil)
  stored_form (binary a0 a1 a2) = gcons (gnum 10) (gcons (binop_row.the_row.coded.code a0) (gcons (stored_val a1) (gcons (stored_val a2) gnil)))
  stored_form (compare a0 a1 a2) = gcons (gnum 11) (gcons (cmpop_row.the_row.coded.code a0) (gcons (stored_val a1) (gcons (stored_val a2) gnil)))
  stored_form (cast a0 a1) = gcons (gnum 12) (gcons (stored_val a0) (gcons (intty_row.the_row.coded.code a1) gnil))
  stored_form (both a0 a1) = gcons (gnum 13) (gcons (stored_val a0) (gcons (stored_val a1) gnil))
  stored_form (either a0 a1) = gcons (gnum 14) (gcons (stored_val a0) (gcons (stored_val a1) gnil))
  stored_form (call a0 a1 a2) = gcons (gnum 15) (gcons (stored_callee a0) (gcons (coded_tys.code a1) (gcons (stored_values a2) gnil)))
  stored_form (assign a0 a1) = gcons (gnum 16) (gcons (stored_place a0) (gcons (stored_val a1) gnil))
  stored_form (update a0 a1 a2 a3) = gcons (gnum 17) (gcons (coded_ty.code a0) (gcons (binop_row.the_row.coded.code a1) (gcons (stored_place a2) (gcons (stored_val a3) gnil))))
  stored_form (inner a0) = gcons (gnum 18) (gcons (stored_block a0) gnil)
  stored_form (select a0 a1) = gcons (gnum 19) (gcons (stored_scrutinee a0) (gcons (stored_arms a1) gnil))
  stored_form (forever a0 a1 a2 a3) = gcons (gnum 20) (gcons (coded_ℕ.code a0) (gcons (coded_bool.code a1) (gcons (coded_bool.code a2) (gcons (stored_block a3) gnil))))
  stored_form (leave a0 a1) = gcons (gnum 21) (gcons (coded_ℕ.code a0) (gcons (stored_maybevalue a1) gnil))
  stored_form (go_on a0) = gcons (gnum 22) (gcons (coded_ℕ.code a0) gnil)
  stored_form (give a0) = gcons (gnum 23) (gcons (stored_maybevalue a0) gnil)
  stored_form panic = gcons (gnum 24) (gnil)

  pub stored_place : Place → Gv
  stored_place (variable a0) = gcons (gnum 0) (gcons (coded_ℕ.code a0) gnil)
  stored_place (field a0 a1) = gcons (gnum 1) (gcons (stored_place a0) (gcons (coded_ℕ.code a1) gnil))
  stored_place (unbox a0) = gcons (gnum 2) (gcons (stored_place a0) gnil)
  stored_place (through a0) = gcons (gnum 3) (gcons (stored_place a0) gnil)
  stored_place (through_value a0) = gcons (gnum 4) (gcons (stored_val a0) gnil)

  pub stored_scrutinee : Scrutinee → Gv
  stored_scrutinee (stands a0 a1 a2) = gcons (gnum 0) (gcons (coded_ty.code a0) (gcons (span_row.the_row.coded.code a1) (gcons (stored_place a2) gnil)))
  stored_scrutinee (held a0) = gcons (gnum 1) (gcons (stored_val a0) gnil)

  pub stored_stmt : Stmt → Gv
  stored_stmt (run a0) = gcons (gnum 0) (gcons (stored_val a0) gnil)
  stored_stmt (put a0 a1 a2) = gcons (gnum 1) (gcons (span_row.the_row.coded.code a0) (gcons (coded_ℕ.code a1) (gcons (stored_val a2) gnil)))
  stored_stmt (pass a0 a1) = gcons (gnum 2) (gcons (span_row.the_row.coded.code a0) (gcons (stored_val a1) gnil))
  stored_stmt (open_up a0 a1 a2) = gcons (gnum 3) (gcons (span_row.the_row.coded.code a0) (gcons (stored_scrutinee a1) (gcons (coded_pat.code a2) gnil)))
  stored_stmt (later a0 a1) = gcons (gnum 4) (gcons (span_row.the_row.coded.code a0) (gcons (stored_variables a1) gnil))

  pub stored_block : Block → Gv
  stored_block (block a0 a1 a2 a3 a4) = gcons (gnum 0) (gcons (coded_ty.code a0) (gcons (coded_bool.code a1) (gcons (span_row.the_row.coded.code a2) (gcons (stored_stmts a3) (gcons (stored_maybevalue a4) gnil)))))

  pub stored_values : Values → Gv
  stored_values no_values = gcons (gnum 0) (gnil)
  stored_values (more_values a0 a1) = gcons (gnum 1) (gcons (stored_val a0) (gcons (stored_values a1) gnil))

  pub stored_parts : Parts → Gv
  stored_parts no_parts = gcons (gnum 0) (gnil)
  stored_parts (more_parts a0 a1 a2) = gcons (gnum 1) (gcons (coded_ℕ.code a0) (gcons (stored_val a1) (gcons (stored_parts a2) gnil)))

  pub stored_arms : Arms → Gv
  stored_arms no_arms = gcons (gnum 0) (gnil)
  stored_arms (more_arms a0 a1 a2) = gcons (gnum 1) (gcons (coded_pat.code a0) (gcons (stored_val a1) (gcons (stored_arms a2) gnil)))

  pub stored_stmts : Stmts → Gv
  stored_stmts no_stmts = gcons (gnum 0) (gnil)
  stored_stmts (more_stmts a0 a1) = gcons (gnum 1) (gcons (stored_stmt a0) (gcons (stored_stmts a1) gnil))

  pub stored_variables : Variables → Gv
  stored_variables no_variables = gcons (gnum 0) (gnil)
  stored_variables (more_variables a0 a1) = gcons (gnum 1) (gcons (coded_ℕ.code a0) (gcons (stored_variables a1) gnil))

  pub stored_maybevalue : MaybeValue → Gv
  stored_maybevalue no_maybevalue = gcons (gnum 0) (gnil)
  stored_maybevalue (some_maybevalue a0) = gcons (gnum 1) (gcons (stored_val a0) gnil)

abbrev Is_value : Val → Type 0
Is_value y = (a0 : Ty) × ((a1 : Bool) × ((a2 : Span) × ((a3 : Form) × (y ≡ value a0 a1 a2 a3))))

abbrev Shape_val : ℕ → Val → Type 0
Shape_val zero y = Is_value y
Shape_val (suc n) y = ⊥

shape_val : (y : Val) → Shape_val (num (head (stored_val y))) y
shape_val (value a0 a1 a2 a3) = (a0, (a1, (a2, (a3, refl))))

as_value : (g : Gv) (y : Val) → gcons (gnum 0) g ≡ stored_val y → Is_value y
as_value g y p = subst (λ n. Shape_val n y) (sym (ap (λ g. num (head g)) p)) (shape_val y)

abbrev Is_function : Callee → Type 0
Is_function y = (a0 : ℕ) × (y ≡ function a0)

abbrev Is_builtin_of : Callee → Type 0
Is_builtin_of y = (a0 : Builtin) × (y ≡ builtin_of a0)

abbrev Shape_callee : ℕ → Callee → Type 0
Shape_callee zero y = Is_function y
Shape_callee (suc zero) y = Is_builtin_of y
Shape_callee (suc (suc n)) y = ⊥

shape_callee : (y : Callee) → Shape_callee (num (head (stored_callee y))) y
shape_callee (function a0) = (a0, refl)
shape_callee (builtin_of a0) = (a0, refl)

as_function : (g : Gv) (y : Callee) → gcons (gnum 0) g ≡ stored_callee y → Is_function y
as_function g y p = subst (λ n. Shape_callee n y) (sym (ap (λ g. num (head g)) p)) (shape_callee y)

as_builtin_of : (g : Gv) (y : Callee) → gcons (gnum 1) g ≡ stored_callee y → Is_builtin_of y
as_builtin_of g y p = subst (λ n. Shape_callee n y) (sym (ap (λ g. num (head g)) p)) (shape_callee y)

abbrev Is_number : Form → Type 0
Is_number y = (a0 : Number) × (y ≡ number a0)

abbrev Is_truth : Form → Type 0
Is_truth y = (a0 : Bool) × (y ≡ truth a0)

abbrev Is_tuple : Form → Type 0
Is_tuple y = (a0 : Values) × (y ≡ tuple a0)

abbrev Is_construct : Form → Type 0
Is_construct y = (a0 : TypeId) × ((a1 : ℕ) × ((a2 : Parts) × (y ≡ construct a0 a1 a2)))

abbrev Is_use_of : Form → Type 0
Is_use_of y = (a0 : Place) × ((a1 : Bool) × (y ≡ use_of a0 a1))

abbrev Is_field_of : Form → Type 0
Is_field_of y = (a0 : Val) × ((a1 : ℕ) × ((a2 : Bool) × (y ≡ field_of a0 a1 a2)))

abbrev Is_unbox_of : Form → Type 0
Is_unbox_of y = (a0 : Val) × ((a1 : Bool) × (y ≡ unbox_of a0 a1))

abbrev Is_borrow : Form → Type 0
Is_borrow y = (a0 : Bool) × ((a1 : Place) × (y ≡ borrow a0 a1))

abbrev Is_minus : Form → Type 0
Is_minus y = (a0 : Val) × (y ≡ minus a0)

abbrev Is_negation : Form → Type 0
Is_negation y = (a0 : Val) × (y ≡ negation a0)

abbrev Is_binary : Form → Type 0
Is_binary y = (a0 : BinOp) × ((a1 : Val) × ((a2 : Val) × (y ≡ binary a0 a1 a2)))

abbrev Is_compare : Form → Type 0
Is_compare y = (a0 : CmpOp) × ((a1 : Val) × ((a2 : Val) × (y ≡ compare a0 a1 a2)))

abbrev Is_cast : Form → Type 0
Is_cast y = (a0 : Val) × ((a1 : IntTy) × (y ≡ cast a0 a1))

abbrev Is_both : Form → Type 0
Is_both y = (a0 : Val) × ((a1 : Val) × (y ≡ both a0 a1))

abbrev Is_either : Form → Type 0
Is_either y = (a0 : Val) × ((a1 : Val) × (y ≡ either a0 a1))

abbrev Is_call : Form → Type 0
Is_call y = (a0 : Callee) × ((a1 : Tys) × ((a2 : Values) × (y ≡ call a0 a1 a2)))

abbrev Is_assign : Form → Type 0
Is_assign y = (a0 : Place) × ((a1 : Val) × (y ≡ assign a0 a1))

abbrev Is_update : Form → Type 0
Is_update y = (a0 : Ty) × ((a1 : BinOp) × ((a2 : Place) × ((a3 : Val) × (y ≡ update a0 a1 a2 a3))))

abbrev Is_inner : Form → Type 0
Is_inner y = (a0 : Block) × (y ≡ inner a0)

abbrev Is_select : Form → Type 0
Is_select y = (a0 : Scrutinee) × ((a1 : Arms) × (y ≡ select a0 a1))

abbrev Is_forever : Form → Type 0
Is_forever y = (a0 : ℕ) × ((a1 : Bool) × ((a2 : Bool) × ((a3 : Block) × (y ≡ forever a0 a1 a2 a3))))

abbrev Is_leave : Form → Type 0
Is_leave y = (a0 : ℕ) × ((a1 : MaybeValue) × (y ≡ leave a0 a1))

abbrev Is_go_on : Form → Type 0
Is_go_on y = (a0 : ℕ) × (y ≡ go_on a0)

abbrev Is_give : Form → Type 0
Is_give y = (a0 : MaybeValue) × (y ≡ give a0)

abbrev Is_panic : Form → Type 0
Is_panic y = y ≡ panic

abbrev Shape_form : ℕ → Form → Type 0
Shape_form zero y = Is_number y
Shape_form (suc zero) y = Is_truth y
Shape_form (suc (suc zero)) y = Is_tuple y
Shape_form (suc (suc (suc zero))) y = Is_construct y
Shape_form (suc (suc (suc (suc zero)))) y = Is_use_of y
Shape_form (suc (suc (suc (suc (suc zero))))) y = Is_field_of y
Shape_form (suc (suc (suc (suc (suc (suc zero)))))) y = Is_unbox_of y
Shape_form (suc (suc (suc (suc (suc (suc (suc zero))))))) y = Is_borrow y
Shape_form (suc (suc (suc (suc (suc (suc (suc (suc zero)))))))) y = Is_minus y
Shape_form (suc (suc (suc (suc (suc (suc (suc (suc (suc zero))))))))) y = Is_negation y
Shape_form (suc (suc (suc (suc (suc (suc (suc (suc (suc (suc zero)))))))))) y = Is_binary y
Shape_form (suc (suc (suc (suc (suc (suc (suc (suc (suc (suc (suc zero))))))))))) y = Is_compare y
Shape_form (suc (suc (suc (suc (suc (suc (suc (suc (suc (suc (suc (suc zero)))))))))))) y = Is_cast y
Shape_form (suc (suc (suc (suc (suc (suc (suc (suc (suc (suc (suc (suc (suc zero))))))))))))) y = Is_both y
Shape_form (suc (suc (suc (suc (suc (suc (suc (suc (suc (suc (suc (suc (suc (suc zero)))))))))))))) y = Is_either y
Shape_form (suc (suc (suc (suc (suc (suc (suc (suc (suc (suc (suc (suc (suc (suc (suc zero))))))))))))))) y = Is_call y
Shape_form (suc (suc (suc (suc (suc (suc (suc (suc (suc (suc (suc (suc (suc (suc (suc (suc zero)))))))))))))))) y = Is_assign y
Shape_form (suc (suc (suc (suc (suc (suc (suc (suc (suc (suc (suc (suc (suc (suc (suc (suc (suc zero))))))))))))))))) y = Is_update y
Shape_form (suc (suc (suc (suc (suc (suc (suc (suc (suc (suc (suc (suc (suc (suc (suc (suc (suc (suc zero)))))))))))))))))) y = Is_inner y
Shape_form (suc (suc (suc (suc (suc (suc (suc (suc (suc (suc (suc (suc (suc (suc (suc (suc (suc (suc (suc zero))))))))))))))))))) y = Is_select y
Shape_form (suc (suc (suc (suc (suc (suc (suc (suc (suc (suc (suc (suc (suc (suc (suc (suc (suc (suc (suc (suc zero)))))))))))))))))))) y = Is_forever y
Shape_form (suc (suc (suc (suc (suc (suc (suc (suc (suc (suc (suc (suc (suc (suc (suc (suc (suc (suc (suc (suc (suc zero))))))))))))))))))))) y = Is_leave y
Shape_form (suc (suc (suc (suc (suc (suc (suc (suc (suc (suc (suc (suc (suc (suc (suc (suc (suc (suc (suc (suc (suc (suc zero)))))))))))))))))))))) y = Is_go_on y
Shape_form (suc (suc (suc (suc (suc (suc (suc (suc (suc (suc (suc (suc (suc (suc (suc (suc (suc (suc (suc (suc (suc (suc (suc zero))))))))))))))))))))))) y = Is_give y
Shape_form (suc (suc (suc (suc (suc (suc (suc (suc (suc (suc (suc (suc (suc (suc (suc (suc (suc (suc (suc (suc (suc (suc (suc (suc zero)))))))))))))))))))))))) y = Is_panic y
Shape_form (suc (suc (suc (suc (suc (suc (suc (suc (suc (suc (suc (suc (suc (suc (suc (suc (suc (suc (suc (suc (suc (suc (suc (suc (suc n))))))))))))))))))))))))) y = ⊥

shape_form : (y : Form) → Shape_form (num (head (stored_form y))) y
shape_form (number a0) = (a0, refl)
shape_form (truth a0) = (a0, refl)
shape_form (tuple a0) = (a0, refl)
shape_form (construct a0 a1 a2) = (a0, (a1, (a2, refl)))
shape_form (use_of a0 a1) = (a0, (a1, refl))
shape_form (field_of a0 a1 a2) = (a0, (a1, (a2, refl)))
shape_form (unbox_of a0 a1) = (a0, (a1, refl))
shape_form (borrow a0 a1) = (a0, (a1, refl))
shape_form (minus a0) = (a0, refl)
shape_form (negation a0) = (a0, refl)
shape_form (binary a0 a1 a2) = (a0, (a1, (a2, refl)))
shape_form (compare a0 a1 a2) = (a0, (a1, (a2, refl)))
shape_form (cast a0 a1) = (a0, (a1, refl))
shape_form (both a0 a1) = (a0, (a1, refl))
shape_form (either a0 a1) = (a0, (a1, refl))
shape_form (call a0 a1 a2) = (a0, (a1, (a2, refl)))
shape_form (assign a0 a1) = (a0, (a1, refl))
shape_form (update a0 a1 a2 a3) = (a0, (a1, (a2, (a3, refl))))
shape_form (inner a0) = (a0, refl)
shape_form (select a0 a1) = (a0, (a1, refl))
shape_form (forever a0 a1 a2 a3) = (a0, (a1, (a2, (a3, refl))))
shape_form (leave a0 a1) = (a0, (a1, refl))
shape_form (go_on a0) = (a0, refl)
shape_form (give a0) = (a0, refl)
shape_form panic = refl

as_number : (g : Gv) (y : Form) → gcons (gnum 0) g ≡ stored_form y → Is_number y
as_number g y p = subst (λ n. Shape_form n y) (sym (ap (λ g. num (head g)) p)) (shape_form y)

as_truth : (g : Gv) (y : Form) → gcons (gnum 1) g ≡ stored_form y → Is_truth y
as_truth g y p = subst (λ n. Shape_form n y) (sym (ap (λ g. num (head g)) p)) (shape_form y)

as_tuple : (g : Gv) (y : Form) → gcons (gnum 2) g ≡ stored_form y → Is_tuple y
as_tuple g y p = subst (λ n. Shape_form n y) (sym (ap (λ g. num (head g)) p)) (shape_form y)

as_construct : (g : Gv) (y : Form) → gcons (gnum 3) g ≡ stored_form y → Is_construct y
as_construct g y p = subst (λ n. Shape_form n y) (sym (ap (λ g. num (head g)) p)) (shape_form y)

as_use_of : (g : Gv) (y : Form) → gcons (gnum 4) g ≡ stored_form y → Is_use_of y
as_use_of g y p = subst (λ n. Shape_form n y) (sym (ap (λ g. num (head g)) p)) (shape_form y)

as_field_of : (g : Gv) (y : Form) → gcons (gnum 5) g ≡ stored_form y → Is_field_of y
as_field_of g y p = subst (λ n. Shape_form n y) (sym (ap (λ g. num (head g)) p)) (shape_form y)

as_unbox_of : (g : Gv) (y : Form) → gcons (gnum 6) g ≡ stored_form y → Is_unbox_of y
as_unbox_of g y p = subst (λ n. Shape_form n y) (sym (ap (λ g. num (head g)) p)) (shape_form y)

as_borrow : (g : Gv) (y : Form) → gcons (gnum 7) g ≡ stored_form y → Is_borrow y
as_borrow g y p = subst (λ n. Shape_form n y) (sym (ap (λ g. num (head g)) p)) (shape_form y)

as_minus : (g : Gv) (y : Form) → gcons (gnum 8) g ≡ stored_form y → Is_minus y
as_minus g y p = subst (λ n. Shape_form n y) (sym (ap (λ g. num (head g)) p)) (shape_form y)

as_negation : (g : Gv) (y : Form) → gcons (gnum 9) g ≡ stored_form y → Is_negation y
as_negation g y p = subst (λ n. Shape_form n y) (sym (ap (λ g. num (head g)) p)) (shape_form y)

as_binary : (g : Gv) (y : Form) → gcons (gnum 10) g ≡ stored_form y → Is_binary y
as_binary g y p = subst (λ n. Shape_form n y) (sym (ap (λ g. num (head g)) p)) (shape_form y)

as_compare : (g : Gv) (y : Form) → gcons (gnum 11) g ≡ stored_form y → Is_compare y
as_compare g y p = subst (λ n. Shape_form n y) (sym (ap (λ g. num (head g)) p)) (shape_form y)

as_cast : (g : Gv) (y : Form) → gcons (gnum 12) g ≡ stored_form y → Is_cast y
as_cast g y p = subst (λ n. Shape_form n y) (sym (ap (λ g. num (head g)) p)) (shape_form y)

as_both : (g : Gv) (y : Form) → gcons (gnum 13) g ≡ stored_form y → Is_both y
as_both g y p = subst (λ n. Shape_form n y) (sym (ap (λ g. num (head g)) p)) (shape_form y)

as_either : (g : Gv) (y : Form) → gcons (gnum 14) g ≡ stored_form y → Is_either y
as_either g y p = subst (λ n. Shape_form n y) (sym (ap (λ g. num (head g)) p)) (shape_form y)

as_call : (g : Gv) (y : Form) → gcons (gnum 15) g ≡ stored_form y → Is_call y
as_call g y p = subst (λ n. Shape_form n y) (sym (ap (λ g. num (head g)) p)) (shape_form y)

as_assign : (g : Gv) (y : Form) → gcons (gnum 16) g ≡ stored_form y → Is_assign y
as_assign g y p = subst (λ n. Shape_form n y) (sym (ap (λ g. num (head g)) p)) (shape_form y)

as_update : (g : Gv) (y : Form) → gcons (gnum 17) g ≡ stored_form y → Is_update y
as_update g y p = subst (λ n. Shape_form n y) (sym (ap (λ g. num (head g)) p)) (shape_form y)

as_inner : (g : Gv) (y : Form) → gcons (gnum 18) g ≡ stored_form y → Is_inner y
as_inner g y p = subst (λ n. Shape_form n y) (sym (ap (λ g. num (head g)) p)) (shape_form y)

as_select : (g : Gv) (y : Form) → gcons (gnum 19) g ≡ stored_form y → Is_select y
as_select g y p = subst (λ n. Shape_form n y) (sym (ap (λ g. num (head g)) p)) (shape_form y)

as_forever : (g : Gv) (y : Form) → gcons (gnum 20) g ≡ stored_form y → Is_forever y
as_forever g y p = subst (λ n. Shape_form n y) (sym (ap (λ g. num (head g)) p)) (shape_form y)

as_leave : (g : Gv) (y : Form) → gcons (gnum 21) g ≡ stored_form y → Is_leave y
as_leave g y p = subst (λ n. Shape_form n y) (sym (ap (λ g. num (head g)) p)) (shape_form y)

as_go_on : (g : Gv) (y : Form) → gcons (gnum 22) g ≡ stored_form y → Is_go_on y
as_go_on g y p = subst (λ n. Shape_form n y) (sym (ap (λ g. num (head g)) p)) (shape_form y)

as_give : (g : Gv) (y : Form) → gcons (gnum 23) g ≡ stored_form y → Is_give y
as_give g y p = subst (λ n. Shape_form n y) (sym (ap (λ g. num (head g)) p)) (shape_form y)

as_panic : (g : Gv) (y : Form) → gcons (gnum 24) g ≡ stored_form y → Is_panic y
as_panic g y p = subst (λ n. Shape_form n y) (sym (ap (λ g. num (head g)) p)) (shape_form y)

abbrev Is_variable : Place → Type 0
Is_variable y = (a0 : ℕ) × (y ≡ variable a0)

abbrev Is_field : Place → Type 0
Is_field y = (a0 : Place) × ((a1 : ℕ) × (y ≡ field a0 a1))

abbrev Is_unbox : Place → Type 0
Is_unbox y = (a0 : Place) × (y ≡ unbox a0)

abbrev Is_through : Place → Type 0
Is_through y = (a0 : Place) × (y ≡ through a0)

abbrev Is_through_value : Place → Type 0
Is_through_value y = (a0 : Val) × (y ≡ through_value a0)

abbrev Shape_place : ℕ → Place → Type 0
Shape_place zero y = Is_variable y
Shape_place (suc zero) y = Is_field y
Shape_place (suc (suc zero)) y = Is_unbox y
Shape_place (suc (suc (suc zero))) y = Is_through y
Shape_place (suc (suc (suc (suc zero)))) y = Is_through_value y
Shape_place (suc (suc (suc (suc (suc n))))) y = ⊥

shape_place : (y : Place) → Shape_place (num (head (stored_place y))) y
shape_place (variable a0) = (a0, refl)
shape_place (field a0 a1) = (a0, (a1, refl))
shape_place (unbox a0) = (a0, refl)
shape_place (through a0) = (a0, refl)
shape_place (through_value a0) = (a0, refl)

as_variable : (g : Gv) (y : Place) → gcons (gnum 0) g ≡ stored_place y → Is_variable y
as_variable g y p = subst (λ n. Shape_place n y) (sym (ap (λ g. num (head g)) p)) (shape_place y)

as_field : (g : Gv) (y : Place) → gcons (gnum 1) g ≡ stored_place y → Is_field y
as_field g y p = subst (λ n. Shape_place n y) (sym (ap (λ g. num (head g)) p)) (shape_place y)

as_unbox : (g : Gv) (y : Place) → gcons (gnum 2) g ≡ stored_place y → Is_unbox y
as_unbox g y p = subst (λ n. Shape_place n y) (sym (ap (λ g. num (head g)) p)) (shape_place y)

as_through : (g : Gv) (y : Place) → gcons (gnum 3) g ≡ stored_place y → Is_through y
as_through g y p = subst (λ n. Shape_place n y) (sym (ap (λ g. num (head g)) p)) (shape_place y)

as_through_value : (g : Gv) (y : Place) → gcons (gnum 4) g ≡ stored_place y → Is_through_value y
as_through_value g y p = subst (λ n. Shape_place n y) (sym (ap (λ g. num (head g)) p)) (shape_place y)

abbrev Is_stands : Scrutinee → Type 0
Is_stands y = (a0 : Ty) × ((a1 : Span) × ((a2 : Place) × (y ≡ stands a0 a1 a2)))

abbrev Is_held : Scrutinee → Type 0
Is_held y = (a0 : Val) × (y ≡ held a0)

abbrev Shape_scrutinee : ℕ → Scrutinee → Type 0
Shape_scrutinee zero y = Is_stands y
Shape_scrutinee (suc zero) y = Is_held y
Shape_scrutinee (suc (suc n)) y = ⊥

shape_scrutinee : (y : Scrutinee) → Shape_scrutinee (num (head (stored_scrutinee y))) y
shape_scrutinee (stands a0 a1 a2) = (a0, (a1, (a2, refl)))
shape_scrutinee (held a0) = (a0, refl)

as_stands : (g : Gv) (y : Scrutinee) → gcons (gnum 0) g ≡ stored_scrutinee y → Is_stands y
as_stands g y p = subst (λ n. Shape_scrutinee n y) (sym (ap (λ g. num (head g)) p)) (shape_scrutinee y)

as_held : (g : Gv) (y : Scrutinee) → gcons (gnum 1) g ≡ stored_scrutinee y → Is_held y
as_held g y p = subst (λ n. Shape_scrutinee n y) (sym (ap (λ g. num (head g)) p)) (shape_scrutinee y)

abbrev Is_run : Stmt → Type 0
Is_run y = (a0 : Val) × (y ≡ run a0)

abbrev Is_put : Stmt → Type 0
Is_put y = (a0 : Span) × ((a1 : ℕ) × ((a2 : Val) × (y ≡ put a0 a1 a2)))

abbrev Is_pass : Stmt → Type 0
Is_pass y = (a0 : Span) × ((a1 : Val) × (y ≡ pass a0 a1))

abbrev Is_open_up : Stmt → Type 0
Is_open_up y = (a0 : Span) × ((a1 : Scrutinee) × ((a2 : Pat) × (y ≡ open_up a0 a1 a2)))

abbrev Is_later : Stmt → Type 0
Is_later y = (a0 : Span) × ((a1 : Variables) × (y ≡ later a0 a1))

abbrev Shape_stmt : ℕ → Stmt → Type 0
Shape_stmt zero y = Is_run y
Shape_stmt (suc zero) y = Is_put y
Shape_stmt (suc (suc zero)) y = Is_pass y
Shape_stmt (suc (suc (suc zero))) y = Is_open_up y
Shape_stmt (suc (suc (suc (suc zero)))) y = Is_later y
Shape_stmt (suc (suc (suc (suc (suc n))))) y = ⊥

shape_stmt : (y : Stmt) → Shape_stmt (num (head (stored_stmt y))) y
shape_stmt (run a0) = (a0, refl)
shape_stmt (put a0 a1 a2) = (a0, (a1, (a2, refl)))
shape_stmt (pass a0 a1) = (a0, (a1, refl))
shape_stmt (open_up a0 a1 a2) = (a0, (a1, (a2, refl)))
shape_stmt (later a0 a1) = (a0, (a1, refl))

as_run : (g : Gv) (y : Stmt) → gcons (gnum 0) g ≡ stored_stmt y → Is_run y
as_run g y p = subst (λ n. Shape_stmt n y) (sym (ap (λ g. num (head g)) p)) (shape_stmt y)

as_put : (g : Gv) (y : Stmt) → gcons (gnum 1) g ≡ stored_stmt y → Is_put y
as_put g y p = subst (λ n. Shape_stmt n y) (sym (ap (λ g. num (head g)) p)) (shape_stmt y)

as_pass : (g : Gv) (y : Stmt) → gcons (gnum 2) g ≡ stored_stmt y → Is_pass y
as_pass g y p = subst (λ n. Shape_stmt n y) (sym (ap (λ g. num (head g)) p)) (shape_stmt y)

as_open_up : (g : Gv) (y : Stmt) → gcons (gnum 3) g ≡ stored_stmt y → Is_open_up y
as_open_up g y p = subst (λ n. Shape_stmt n y) (sym (ap (λ g. num (head g)) p)) (shape_stmt y)

as_later : (g : Gv) (y : Stmt) → gcons (gnum 4) g ≡ stored_stmt y → Is_later y
as_later g y p = subst (λ n. Shape_stmt n y) (sym (ap (λ g. num (head g)) p)) (shape_stmt y)

abbrev Is_block : Block → Type 0
Is_block y = (a0 : Ty) × ((a1 : Bool) × ((a2 : Span) × ((a3 : Stmts) × ((a4 : MaybeValue) × (y ≡ block a0 a1 a2 a3 a4)))))

abbrev Shape_block : ℕ → Block → Type 0
Shape_block zero y = Is_block y
Shape_block (suc n) y = ⊥

shape_block : (y : Block) → Shape_block (num (head (stored_block y))) y
shape_block (block a0 a1 a2 a3 a4) = (a0, (a1, (a2, (a3, (a4, refl)))))

as_block : (g : Gv) (y : Block) → gcons (gnum 0) g ≡ stored_block y → Is_block y
as_block g y p = subst (λ n. Shape_block n y) (sym (ap (λ g. num (head g)) p)) (shape_block y)

abbrev Is_no_values : Values → Type 0
Is_no_values y = y ≡ no_values

abbrev Is_more_values : Values → Type 0
Is_more_values y = (a0 : Val) × ((a1 : Values) × (y ≡ more_values a0 a1))

abbrev Shape_values : ℕ → Values → Type 0
Shape_values zero y = Is_no_values y
Shape_values (suc zero) y = Is_more_values y
Shape_values (suc (suc n)) y = ⊥

shape_values : (y : Values) → Shape_values (num (head (stored_values y))) y
shape_values no_values = refl
shape_values (more_values a0 a1) = (a0, (a1, refl))

as_no_values : (g : Gv) (y : Values) → gcons (gnum 0) g ≡ stored_values y → Is_no_values y
as_no_values g y p = subst (λ n. Shape_values n y) (sym (ap (λ g. num (head g)) p)) (shape_values y)

as_more_values : (g : Gv) (y : Values) → gcons (gnum 1) g ≡ stored_values y → Is_more_values y
as_more_values g y p = subst (λ n. Shape_values n y) (sym (ap (λ g. num (head g)) p)) (shape_values y)

abbrev Is_no_parts : Parts → Type 0
Is_no_parts y = y ≡ no_parts

abbrev Is_more_parts : Parts → Type 0
Is_more_parts y = (a0 : ℕ) × ((a1 : Val) × ((a2 : Parts) × (y ≡ more_parts a0 a1 a2)))

abbrev Shape_parts : ℕ → Parts → Type 0
Shape_parts zero y = Is_no_parts y
Shape_parts (suc zero) y = Is_more_parts y
Shape_parts (suc (suc n)) y = ⊥

shape_parts : (y : Parts) → Shape_parts (num (head (stored_parts y))) y
shape_parts no_parts = refl
shape_parts (more_parts a0 a1 a2) = (a0, (a1, (a2, refl)))

as_no_parts : (g : Gv) (y : Parts) → gcons (gnum 0) g ≡ stored_parts y → Is_no_parts y
as_no_parts g y p = subst (λ n. Shape_parts n y) (sym (ap (λ g. num (head g)) p)) (shape_parts y)

as_more_parts : (g : Gv) (y : Parts) → gcons (gnum 1) g ≡ stored_parts y → Is_more_parts y
as_more_parts g y p = subst (λ n. Shape_parts n y) (sym (ap (λ g. num (head g)) p)) (shape_parts y)

abbrev Is_no_arms : Arms → Type 0
Is_no_arms y = y ≡ no_arms

abbrev Is_more_arms : Arms → Type 0
Is_more_arms y = (a0 : Pat) × ((a1 : Val) × ((a2 : Arms) × (y ≡ more_arms a0 a1 a2)))

abbrev Shape_arms : ℕ → Arms → Type 0
Shape_arms zero y = Is_no_arms y
Shape_arms (suc zero) y = Is_more_arms y
Shape_arms (suc (suc n)) y = ⊥

shape_arms : (y : Arms) → Shape_arms (num (head (stored_arms y))) y
shape_arms no_arms = refl
shape_arms (more_arms a0 a1 a2) = (a0, (a1, (a2, refl)))

as_no_arms : (g : Gv) (y : Arms) → gcons (gnum 0) g ≡ stored_arms y → Is_no_arms y
as_no_arms g y p = subst (λ n. Shape_arms n y) (sym (ap (λ g. num (head g)) p)) (shape_arms y)

as_more_arms : (g : Gv) (y : Arms) → gcons (gnum 1) g ≡ stored_arms y → Is_more_arms y
as_more_arms g y p = subst (λ n. Shape_arms n y) (sym (ap (λ g. num (head g)) p)) (shape_arms y)

abbrev Is_no_stmts : Stmts → Type 0
Is_no_stmts y = y ≡ no_stmts

abbrev Is_more_stmts : Stmts → Type 0
Is_more_stmts y = (a0 : Stmt) × ((a1 : Stmts) × (y ≡ more_stmts a0 a1))

abbrev Shape_stmts : ℕ → Stmts → Type 0
Shape_stmts zero y = Is_no_stmts y
Shape_stmts (suc zero) y = Is_more_stmts y
Shape_stmts (suc (suc n)) y = ⊥

shape_stmts : (y : Stmts) → Shape_stmts (num (head (stored_stmts y))) y
shape_stmts no_stmts = refl
shape_stmts (more_stmts a0 a1) = (a0, (a1, refl))

as_no_stmts : (g : Gv) (y : Stmts) → gcons (gnum 0) g ≡ stored_stmts y → Is_no_stmts y
as_no_stmts g y p = subst (λ n. Shape_stmts n y) (sym (ap (λ g. num (head g)) p)) (shape_stmts y)

as_more_stmts : (g : Gv) (y : Stmts) → gcons (gnum 1) g ≡ stored_stmts y → Is_more_stmts y
as_more_stmts g y p = subst (λ n. Shape_stmts n y) (sym (ap (λ g. num (head g)) p)) (shape_stmts y)

abbrev Is_no_variables : Variables → Type 0
Is_no_variables y = y ≡ no_variables

abbrev Is_more_variables : Variables → Type 0
Is_more_variables y = (a0 : ℕ) × ((a1 : Variables) × (y ≡ more_variables a0 a1))

abbrev Shape_variables : ℕ → Variables → Type 0
Shape_variables zero y = Is_no_variables y
Shape_variables (suc zero) y = Is_more_variables y
Shape_variables (suc (suc n)) y = ⊥

shape_variables : (y : Variables) → Shape_variables (num (head (stored_variables y))) y
shape_variables no_variables = refl
shape_variables (more_variables a0 a1) = (a0, (a1, refl))

as_no_variables : (g : Gv) (y : Variables) → gcons (gnum 0) g ≡ stored_variables y → Is_no_variables y
as_no_variables g y p = subst (λ n. Shape_variables n y) (sym (ap (λ g. num (head g)) p)) (shape_variables y)

as_more_variables : (g : Gv) (y : Variables) → gcons (gnum 1) g ≡ stored_variables y → Is_more_variables y
as_more_variables g y p = subst (λ n. Shape_variables n y) (sym (ap (λ g. num (head g)) p)) (shape_variables y)

abbrev Is_no_maybevalue : MaybeValue → Type 0
Is_no_maybevalue y = y ≡ no_maybevalue

abbrev Is_some_maybevalue : MaybeValue → Type 0
Is_some_maybevalue y = (a0 : Val) × (y ≡ some_maybevalue a0)

abbrev Shape_maybevalue : ℕ → MaybeValue → Type 0
Shape_maybevalue zero y = Is_no_maybevalue y
Shape_maybevalue (suc zero) y = Is_some_maybevalue y
Shape_maybevalue (suc (suc n)) y = ⊥

shape_maybevalue : (y : MaybeValue) → Shape_maybevalue (num (head (stored_maybevalue y))) y
shape_maybevalue no_maybevalue = refl
shape_maybevalue (some_maybevalue a0) = (a0, refl)

as_no_maybevalue : (g : Gv) (y : MaybeValue) → gcons (gnum 0) g ≡ stored_maybevalue y → Is_no_maybevalue y
as_no_maybevalue g y p = subst (λ n. Shape_maybevalue n y) (sym (ap (λ g. num (head g)) p)) (shape_maybevalue y)

as_some_maybevalue : (g : Gv) (y : MaybeValue) → gcons (gnum 1) g ≡ stored_maybevalue y → Is_some_maybevalue y
as_some_maybevalue g y p = subst (λ n. Shape_maybevalue n y) (sym (ap (λ g. num (head g)) p)) (shape_maybevalue y)

mutual
  pub inj_val : (x y : Val) → stored_val x ≡ stored_val y → x ≡ y
  inj_val (value a0 a1 a2 a3) y q =
      let w = as_value (gcons (coded_ty.code a0) (gcons (coded_bool.code a1) (gcons (span_row.the_row.coded.code a2) (gcons (stored_form a3) gnil)))) y q in
      let p : stored_val (value a0 a1 a2 a3) ≡ stored_val (value w.0 w.1.0 w.1.1.0 w.1.1.1.0) = q ∙ ap stored_val (w.1.1.1.1) in
      (λ i. value (coded_ty.inj a0 w.0 (ap (λ g. head (tail g)) p) i) (coded_bool.inj a1 w.1.0 (ap (λ g. head (tail (tail g))) p) i) (span_row.the_row.coded.inj a2 w.1.1.0 (ap (λ g. head (tail (tail (tail g)))) p) i) (inj_form a3 w.1.1.1.0 (ap (λ g. head (tail (tail (tail (tail g))))) p) i)) ∙ sym (w.1.1.1.1)

  pub inj_callee : (x y : Callee) → stored_callee x ≡ stored_callee y → x ≡ y
  inj_callee (function a0) y q =
      let w = as_function (gcons (coded_ℕ.code a0) gnil) y q in
      let p : stored_callee (function a0) ≡ stored_callee (function w.0) = q ∙ ap stored_callee (w.1) in
      (λ i. function (coded_ℕ.inj a0 w.0 (ap (λ g. head (tail g)) p) i)) ∙ sym (w.1)
  inj_callee (builtin_of a0) y q =
      let w = as_builtin_of (gcons (builtin_row.the_row.coded.code a0) gnil) y q in
      let p : stored_callee (builtin_of a0) ≡ stored_callee (builtin_of w.0) = q ∙ ap stored_callee (w.1) in
      (λ i. builtin_of (builtin_row.the_row.coded.inj a0 w.0 (ap (λ g. head (tail g)) p) i)) ∙ sym (w.1)

  pub inj_form : (x y : Form) → stored_form x ≡ stored_form y → x ≡ y
  inj_form (number a0) y q =
      let w = as_number (gcons (coded_number.code a0) gnil) y q in
      let p : stored_form (number a0) ≡ stored_form (number w.0) = q ∙ ap stored_form (w.1) in
      (λ i. number (coded_number.inj a0 w.0 (ap (λ g. head (tail g)) p) i)) ∙ sym (w.1)
  inj_form (truth a0) y q =
      let w = as_truth (gcons (coded_bool.code a0) gnil) y q in
      let p : stored_form (truth a0) ≡ stored_form (truth w.0) = q ∙ ap stored_form (w.1) in
      (λ i. truth (coded_bool.inj a0 w.0 (ap (λ g. head (tail g)) p) i)) ∙ sym (w.1)
  inj_form (tuple a0) y q =
      let w = as_tuple (gcons (stored_values a0) gnil) y q in
      let p : stored_form (tuple a0) ≡ stored_form (tuple w.0) = q ∙ ap stored_form (w.1) in
      (λ i. tuple (inj_values a0 w.0 (ap (λ g. head (tail g)) p) i)) ∙ sym (w.1)
  inj_form (construct a0 a1 a2) y q =
      let w = as_construct (gcons (typeid_row.the_row.coded.code a0) (gcons (coded_ℕ.code a1) (gcons (stored_parts a2) gnil))) y q in
      let p : stored_form (construct a0 a1 a2) ≡ stored_form (construct w.0 w.1.0 w.1.1.0) = q ∙ ap stored_form (w.1.1.1) in
      (λ i. construct (typeid_row.the_row.coded.inj a0 w.0 (ap (λ g. head (tail g)) p) i) (coded_ℕ.inj a1 w.1.0 (ap (λ g. head (tail (tail g))) p) i) (inj_parts a2 w.1.1.0 (ap (λ g. head (tail (tail (tail g)))) p) i)) ∙ sym (w.1.1.1)
  inj_form (use_of a0 a1) y q =
      let w = as_use_of (gcons (stored_place a0) (gcons (coded_bool.code a1) gnil)) y q in
      let p : stored_form (use_of a0 a1) ≡ stored_form (use_of w.0 w.1.0) = q ∙ ap stored_form (w.1.1) in
      (λ i. use_of (inj_place a0 w.0 (ap (λ g. head (tail g)) p) i) (coded_bool.inj a1 w.1.0 (ap (λ g. head (tail (tail g))) p) i)) ∙ sym (w.1.1)
  inj_form (field_of a0 a1 a2) y q =
      let w = as_field_of (gcons (stored_val a0) (gcons (coded_ℕ.code a1) (gcons (coded_bool.code a2) gnil))) y q in
      let p : stored_form (field_of a0 a1 a2) ≡ stored_form (field_of w.0 w.1.0 w.1.1.0) = q ∙ ap stored_form (w.1.1.1) in
      (λ i. field_of (inj_val a0 w.0 (ap (λ g. head (tail g)) p) i) (coded_ℕ.inj a1 w.1.0 (ap (λ g. head (tail (tail g))) p) i) (coded_bool.inj a2 w.1.1.0 (ap (λ g. head (tail (tail (tail g)))) p) i)) ∙ sym (w.1.1.1)
  inj_form (unbox_of a0 a1) y q =
      let w = as_unbox_of (gcons (stored_val a0) (gcons (coded_bool.code a1) gnil)) y q in
      let p : stored_form (unbox_of a0 a1) ≡ stored_form (unbox_of w.0 w.1.0) = q ∙ ap stored_form (w.1.1) in
      (λ i. unbox_of (inj_val a0 w.0 (ap (λ g. head (tail g)) p) i) (coded_bool.inj a1 w.1.0 (ap (λ g. head (tail (tail g))) p) i)) ∙ sym (w.1.1)
  inj_form (borrow a0 a1) y q =
      let w = as_borrow (gcons (coded_bool.code a0) (gcons (stored_place a1) gnil)) y q in
      let p : stored_form (borrow a0 a1) ≡ stored_form (borrow w.0 w.1.0) = q ∙ ap stored_form (w.1.1) in
      (λ i. borrow (coded_bool.inj a0 w.0 (ap (λ g. head (tail g)) p) i) (inj_place a1 w.1.0 (ap (λ g. head (tail (tail g))) p) i)) ∙ sym (w.1.1)
  inj_form (minus a0) y q =
      let w = as_minus (gcons (stored_val a0) gnil) y q in
      let p : stored_form (minus a0) ≡ stored_form (minus w.0) = q ∙ ap stored_form (w.1) in
      (λ i. minus (inj_val a0 w.0 (ap (λ g. head (tail g)) p) i)) ∙ sym (w.1)
  inj_form (negation a0) y q =
      let w = as_negation (gcons (stored_val a0) gnil) y q in
      let p : stored_form (negation a0) ≡ stored_form (negation w.0) = q ∙ ap stored_form (w.1) in
      (λ i. negation (inj_val a0 w.0 (ap (λ g. head (tail g)) p) i)) ∙ sym (w.1)
  inj_form (binary a0 a1 a2) y q =
      let w = as_binary (gcons (binop_row.the_row.coded.code a0) (gcons (stored_val a1) (gcons (stored_val a2) gnil))) y q in
      let p : stored_form (binary a0 a1 a2) ≡ stored_form (binary w.0 w.1.0 w.1.1.0) = q ∙ ap stored_form (w.1.1.1) in
      (λ i. binary (binop_row.the_row.coded.inj a0 w.0 (ap (λ g. head (tail g)) p) i) (inj_val a1 w.1.0 (ap (λ g. head (tail (tail g))) p) i) (inj_val a2 w.1.1.0 (ap (λ g. head (tail (tail (tail g)))) p) i)) ∙ sym (w.1.1.1)
  inj_form (compare a0 a1 a2) y q =
      let w = as_compare (gcons (cmpop_row.the_row.coded.code a0) (gcons (stored_val a1) (gcons (stored_val a2) gnil))) y q in
      let p : stored_form (compare a0 a1 a2) ≡ stored_form (compare w.0 w.1.0 w.1.1.0) = q ∙ ap stored_form (w.1.1.1) in
      (λ i. compare (cmpop_row.the_row.coded.inj a0 w.0 (ap (λ g. head (tail g)) p) i) (inj_val a1 w.1.0 (ap (λ g. head (tail (tail g))) p) i) (inj_val a2 w.1.1.0 (ap (λ g. head (tail (tail (tail g)))) p) i)) ∙ sym (w.1.1.1)
  inj_form (cast a0 a1) y q =
      let w = as_cast (gcons (stored_val a0) (gcons (intty_row.the_row.coded.code a1) gnil)) y q in
      let p : stored_form (cast a0 a1) ≡ stored_form (cast w.0 w.1.0) = q ∙ ap stored_form (w.1.1) in
      (λ i. cast (inj_val a0 w.0 (ap (λ g. head (tail g)) p) i) (intty_row.the_row.coded.inj a1 w.1.0 (ap (λ g. head (tail (tail g))) p) i)) ∙ sym (w.1.1)
  inj_form (both a0 a1) y q =
      let w = as_both (gcons (stored_val a0) (gcons (stored_val a1) gnil)) y q in
      let p : stored_form (both a0 a1) ≡ stored_form (both w.0 w.1.0) = q ∙ ap stored_form (w.1.1) in
      (λ i. both (inj_val a0 w.0 (ap (λ g. head (tail g)) p) i) (inj_val a1 w.1.0 (ap (λ g. head (tail (tail g))) p) i)) ∙ sym (w.1.1)
  inj_form (either a0 a1) y q =
      let w = as_either (gcons (stored_val a0) (gcons (stored_val a1) gnil)) y q in
      let p : stored_form (either a0 a1) ≡ stored_form (either w.0 w.1.0) = q ∙ ap stored_form (w.1.1) in
      (λ i. either (inj_val a0 w.0 (ap (λ g. head (tail g)) p) i) (inj_val a1 w.1.0 (ap (λ g. head (tail (tail g))) p) i)) ∙ sym (w.1.1)
  inj_form (call a0 a1 a2) y q =
      let w = as_call (gcons (stored_callee a0) (gcons (coded_tys.code a1) (gcons (stored_values a2) gnil))) y q in
      let p : stored_form (call a0 a1 a2) ≡ stored_form (call w.0 w.1.0 w.1.1.0) = q ∙ ap stored_form (w.1.1.1) in
      (λ i. call (inj_callee a0 w.0 (ap (λ g. head (tail g)) p) i) (coded_tys.inj a1 w.1.0 (ap (λ g. head (tail (tail g))) p) i) (inj_values a2 w.1.1.0 (ap (λ g. head (tail (tail (tail g)))) p) i)) ∙ sym (w.1.1.1)
  inj_form (assign a0 a1) y q =
      let w = as_assign (gcons (stored_place a0) (gcons (stored_val a1) gnil)) y q in
      let p : stored_form (assign a0 a1) ≡ stored_form (assign w.0 w.1.0) = q ∙ ap stored_form (w.1.1) in
      (λ i. assign (inj_place a0 w.0 (ap (λ g. head (tail g)) p) i) (inj_val a1 w.1.0 (ap (λ g. head (tail (tail g))) p) i)) ∙ sym (w.1.1)
  inj_form (update a0 a1 a2 a3) y q =
      let w = as_update (gcons (coded_ty.code a0) (gcons (binop_row.the_row.coded.code a1) (gcons (stored_place a2) (gcons (stored_val a3) gnil)))) y q in
      let p : stored_form (update a0 a1 a2 a3) ≡ stored_form (update w.0 w.1.0 w.1.1.0 w.1.1.1.0) = q ∙ ap stored_form (w.1.1.1.1) in
      (λ i. update (coded_ty.inj a0 w.0 (ap (λ g. head (tail g)) p) i) (binop_row.the_row.coded.inj a1 w.1.0 (ap (λ g. head (tail (tail g))) p) i) (inj_place a2 w.1.1.0 (ap (λ g. head (tail (tail (tail g)))) p) i) (inj_val a3 w.1.1.1.0 (ap (λ g. head (tail (tail (tail (tail g))))) p) i)) ∙ sym (w.1.1.1.1)
  inj_form (inner a0) y q =
      let w = as_inner (gcons (stored_block a0) gnil) y q in
      let p : stored_form (inner a0) ≡ stored_form (inner w.0) = q ∙ ap stored_form (w.1) in
      (λ i. inner (inj_block a0 w.0 (ap (λ g. head (tail g)) p) i)) ∙ sym (w.1)
  inj_form (select a0 a1) y q =
      let w = as_select (gcons (stored_scrutinee a0) (gcons (stored_arms a1) gnil)) y q in
      let p : stored_form (select a0 a1) ≡ stored_form (select w.0 w.1.0) = q ∙ ap stored_form (w.1.1) in
      (λ i. select (inj_scrutinee a0 w.0 (ap (λ g. head (tail g)) p) i) (inj_arms a1 w.1.0 (ap (λ g. head (tail (tail g))) p) i)) ∙ sym (w.1.1)
  inj_form (forever a0 a1 a2 a3) y q =
      let w = as_forever (gcons (coded_ℕ.code a0) (gcons (coded_bool.code a1) (gcons (coded_bool.code a2) (gcons (stored_block a3) gnil)))) y q in
      let p : stored_form (forever a0 a1 a2 a3) ≡ stored_form (forever w.0 w.1.0 w.1.1.0 w.1.1.1.0) = q ∙ ap stored_form (w.1.1.1.1) in
      (λ i. forever (coded_ℕ.inj a0 w.0 (ap (λ g. head (tail g)) p) i) (coded_bool.inj a1 w.1.0 (ap (λ g. head (tail (tail g))) p) i) (coded_bool.inj a2 w.1.1.0 (ap (λ g. head (tail (tail (tail g)))) p) i) (inj_block a3 w.1.1.1.0 (ap (λ g. head (tail (tail (tail (tail g))))) p) i)) ∙ sym (w.1.1.1.1)
  inj_form (leave a0 a1) y q =
      let w = as_leave (gcons (coded_ℕ.code a0) (gcons (stored_maybevalue a1) gnil)) y q in
      let p : stored_form (leave a0 a1) ≡ stored_form (leave w.0 w.1.0) = q ∙ ap stored_form (w.1.1) in
      (λ i. leave (coded_ℕ.inj a0 w.0 (ap (λ g. head (tail g)) p) i) (inj_maybevalue a1 w.1.0 (ap (λ g. head (tail (tail g))) p) i)) ∙ sym (w.1.1)
  inj_form (go_on a0) y q =
      let w = as_go_on (gcons (coded_ℕ.code a0) gnil) y q in
      let p : stored_form (go_on a0) ≡ stored_form (go_on w.0) = q ∙ ap stored_form (w.1) in
      (λ i. go_on (coded_ℕ.inj a0 w.0 (ap (λ g. head (tail g)) p) i)) ∙ sym (w.1)
  inj_form (give a0) y q =
      let w = as_give (gcons (stored_maybevalue a0) gnil) y q in
      let p : stored_form (give a0) ≡ stored_form (give w.0) = q ∙ ap stored_form (w.1) in
      (λ i. give (inj_maybevalue a0 w.0 (ap (λ g. head (tail g)) p) i)) ∙ sym (w.1)
  inj_form panic y q =
      let w = as_panic (gnil) y q in
      sym w

  pub inj_place : (x y : Place) → stored_place x ≡ stored_place y → x ≡ y
  inj_place (variable a0) y q =
      let w = as_variable (gcons (coded_ℕ.code a0) gnil) y q in
      let p : stored_place (variable a0) ≡ stored_place (variable w.0) = q ∙ ap stored_place (w.1) in
      (λ i. variable (coded_ℕ.inj a0 w.0 (ap (λ g. head (tail g)) p) i)) ∙ sym (w.1)
  inj_place (field a0 a1) y q =
      let w = as_field (gcons (stored_place a0) (gcons (coded_ℕ.code a1) gnil)) y q in
      let p : stored_place (field a0 a1) ≡ stored_place (field w.0 w.1.0) = q ∙ ap stored_place (w.1.1) in
      (λ i. field (inj_place a0 w.0 (ap (λ g. head (tail g)) p) i) (coded_ℕ.inj a1 w.1.0 (ap (λ g. head (tail (tail g))) p) i)) ∙ sym (w.1.1)
  inj_place (unbox a0) y q =
      let w = as_unbox (gcons (stored_place a0) gnil) y q in
      let p : stored_place (unbox a0) ≡ stored_place (unbox w.0) = q ∙ ap stored_place (w.1) in
      (λ i. unbox (inj_place a0 w.0 (ap (λ g. head (tail g)) p) i)) ∙ sym (w.1)
  inj_place (through a0) y q =
      let w = as_through (gcons (stored_place a0) gnil) y q in
      let p : stored_place (through a0) ≡ stored_place (through w.0) = q ∙ ap stored_place (w.1) in
      (λ i. through (inj_place a0 w.0 (ap (λ g. head (tail g)) p) i)) ∙ sym (w.1)
  inj_place (through_value a0) y q =
      let w = as_through_value (gcons (stored_val a0) gnil) y q in
      let p : stored_place (through_value a0) ≡ stored_place (through_value w.0) = q ∙ ap stored_place (w.1) in
      (λ i. through_value (inj_val a0 w.0 (ap (λ g. head (tail g)) p) i)) ∙ sym (w.1)

  pub inj_scrutinee : (x y : Scrutinee) → stored_scrutinee x ≡ stored_scrutinee y → x ≡ y
  inj_scrutinee (stands a0 a1 a2) y q =
      let w = as_stands (gcons (coded_ty.code a0) (gcons (span_row.the_row.coded.code a1) (gcons (stored_place a2) gnil))) y q in
      let p : stored_scrutinee (stands a0 a1 a2) ≡ stored_scrutinee (stands w.0 w.1.0 w.1.1.0) = q ∙ ap stored_scrutinee (w.1.1.1) in
      (λ i. stands (coded_ty.inj a0 w.0 (ap (λ g. head (tail g)) p) i) (span_row.the_row.coded.inj a1 w.1.0 (ap (λ g. head (tail (tail g))) p) i) (inj_place a2 w.1.1.0 (ap (λ g. head (tail (tail (tail g)))) p) i)) ∙ sym (w.1.1.1)
  inj_scrutinee (held a0) y q =
      let w = as_held (gcons (stored_val a0) gnil) y q in
      let p : stored_scrutinee (held a0) ≡ stored_scrutinee (held w.0) = q ∙ ap stored_scrutinee (w.1) in
      (λ i. held (inj_val a0 w.0 (ap (λ g. head (tail g)) p) i)) ∙ sym (w.1)

  pub inj_stmt : (x y : Stmt) → stored_stmt x ≡ stored_stmt y → x ≡ y
  inj_stmt (run a0) y q =
      let w = as_run (gcons (stored_val a0) gnil) y q in
      let p : stored_stmt (run a0) ≡ stored_stmt (run w.0) = q ∙ ap stored_stmt (w.1) in
      (λ i. run (inj_val a0 w.0 (ap (λ g. head (tail g)) p) i)) ∙ sym (w.1)
  inj_stmt (put a0 a1 a2) y q =
      let w = as_put (gcons (span_row.the_row.coded.code a0) (gcons (coded_ℕ.code a1) (gcons (stored_val a2) gnil))) y q in
      let p : stored_stmt (put a0 a1 a2) ≡ stored_stmt (put w.0 w.1.0 w.1.1.0) = q ∙ ap stored_stmt (w.1.1.1) in
      (λ i. put (span_row.the_row.coded.inj a0 w.0 (ap (λ g. head (tail g)) p) i) (coded_ℕ.inj a1 w.1.0 (ap (λ g. head (tail (tail g))) p) i) (inj_val a2 w.1.1.0 (ap (λ g. head (tail (tail (tail g)))) p) i)) ∙ sym (w.1.1.1)
  inj_stmt (pass a0 a1) y q =
      let w = as_pass (gcons (span_row.the_row.coded.code a0) (gcons (stored_val a1) gnil)) y q in
      let p : stored_stmt (pass a0 a1) ≡ stored_stmt (pass w.0 w.1.0) = q ∙ ap stored_stmt (w.1.1) in
      (λ i. pass (span_row.the_row.coded.inj a0 w.0 (ap (λ g. head (tail g)) p) i) (inj_val a1 w.1.0 (ap (λ g. head (tail (tail g))) p) i)) ∙ sym (w.1.1)
  inj_stmt (open_up a0 a1 a2) y q =
      let w = as_open_up (gcons (span_row.the_row.coded.code a0) (gcons (stored_scrutinee a1) (gcons (coded_pat.code a2) gnil))) y q in
      let p : stored_stmt (open_up a0 a1 a2) ≡ stored_stmt (open_up w.0 w.1.0 w.1.1.0) = q ∙ ap stored_stmt (w.1.1.1) in
      (λ i. open_up (span_row.the_row.coded.inj a0 w.0 (ap (λ g. head (tail g)) p) i) (inj_scrutinee a1 w.1.0 (ap (λ g. head (tail (tail g))) p) i) (coded_pat.inj a2 w.1.1.0 (ap (λ g. head (tail (tail (tail g)))) p) i)) ∙ sym (w.1.1.1)
  inj_stmt (later a0 a1) y q =
      let w = as_later (gcons (span_row.the_row.coded.code a0) (gcons (stored_variables a1) gnil)) y q in
      let p : stored_stmt (later a0 a1) ≡ stored_stmt (later w.0 w.1.0) = q ∙ ap stored_stmt (w.1.1) in
      (λ i. later (span_row.the_row.coded.inj a0 w.0 (ap (λ g. head (tail g)) p) i) (inj_variables a1 w.1.0 (ap (λ g. head (tail (tail g))) p) i)) ∙ sym (w.1.1)

  pub inj_block : (x y : Block) → stored_block x ≡ stored_block y → x ≡ y
  inj_block (block a0 a1 a2 a3 a4) y q =
      let w = as_block (gcons (coded_ty.code a0) (gcons (coded_bool.code a1) (gcons (span_row.the_row.coded.code a2) (gcons (stored_stmts a3) (gcons (stored_maybevalue a4) gnil))))) y q in
      let p : stored_block (block a0 a1 a2 a3 a4) ≡ stored_block (block w.0 w.1.0 w.1.1.0 w.1.1.1.0 w.1.1.1.1.0) = q ∙ ap stored_block (w.1.1.1.1.1) in
      (λ i. block (coded_ty.inj a0 w.0 (ap (λ g. head (tail g)) p) i) (coded_bool.inj a1 w.1.0 (ap (λ g. head (tail (tail g))) p) i) (span_row.the_row.coded.inj a2 w.1.1.0 (ap (λ g. head (tail (tail (tail g)))) p) i) (inj_stmts a3 w.1.1.1.0 (ap (λ g. head (tail (tail (tail (tail g))))) p) i) (inj_maybevalue a4 w.1.1.1.1.0 (ap (λ g. head (tail (tail (tail (tail (tail g)))))) p) i)) ∙ sym (w.1.1.1.1.1)

  pub inj_values : (x y : Values) → stored_values x ≡ stored_values y → x ≡ y
  inj_values no_values y q =
      let w = as_no_values (gnil) y q in
      sym w
  inj_values (more_values a0 a1) y q =
      let w = as_more_values (gcons (stored_val a0) (gcons (stored_values a1) gnil)) y q in
      let p : stored_values (more_values a0 a1) ≡ stored_values (more_values w.0 w.1.0) = q ∙ ap stored_values (w.1.1) in
      (λ i. more_values (inj_val a0 w.0 (ap (λ g. head (tail g)) p) i) (inj_values a1 w.1.0 (ap (λ g. head (tail (tail g))) p) i)) ∙ sym (w.1.1)

  pub inj_parts : (x y : Parts) → stored_parts x ≡ stored_parts y → x ≡ y
  inj_parts no_parts y q =
      let w = as_no_parts (gnil) y q in
      sym w
  inj_parts (more_parts a0 a1 a2) y q =
      let w = as_more_parts (gcons (coded_ℕ.code a0) (gcons (stored_val a1) (gcons (stored_parts a2) gnil))) y q in
      let p : stored_parts (more_parts a0 a1 a2) ≡ stored_parts (more_parts w.0 w.1.0 w.1.1.0) = q ∙ ap stored_parts (w.1.1.1) in
      (λ i. more_parts (coded_ℕ.inj a0 w.0 (ap (λ g. head (tail g)) p) i) (inj_val a1 w.1.0 (ap (λ g. head (tail (tail g))) p) i) (inj_parts a2 w.1.1.0 (ap (λ g. head (tail (tail (tail g)))) p) i)) ∙ sym (w.1.1.1)

  pub inj_arms : (x y : Arms) → stored_arms x ≡ stored_arms y → x ≡ y
  inj_arms no_arms y q =
      let w = as_no_arms (gnil) y q in
      sym w
  inj_arms (more_arms a0 a1 a2) y q =
      let w = as_more_arms (gcons (coded_pat.code a0) (gcons (stored_val a1) (gcons (stored_arms a2) gnil))) y q in
      let p : stored_arms (more_arms a0 a1 a2) ≡ stored_arms (more_arms w.0 w.1.0 w.1.1.0) = q ∙ ap stored_arms (w.1.1.1) in
      (λ i. more_arms (coded_pat.inj a0 w.0 (ap (λ g. head (tail g)) p) i) (inj_val a1 w.1.0 (ap (λ g. head (tail (tail g))) p) i) (inj_arms a2 w.1.1.0 (ap (λ g. head (tail (tail (tail g)))) p) i)) ∙ sym (w.1.1.1)

  pub inj_stmts : (x y : Stmts) → stored_stmts x ≡ stored_stmts y → x ≡ y
  inj_stmts no_stmts y q =
      let w = as_no_stmts (gnil) y q in
      sym w
  inj_stmts (more_stmts a0 a1) y q =
      let w = as_more_stmts (gcons (stored_stmt a0) (gcons (stored_stmts a1) gnil)) y q in
      let p : stored_stmts (more_stmts a0 a1) ≡ stored_stmts (more_stmts w.0 w.1.0) = q ∙ ap stored_stmts (w.1.1) in
      (λ i. more_stmts (inj_stmt a0 w.0 (ap (λ g. head (tail g)) p) i) (inj_stmts a1 w.1.0 (ap (λ g. head (tail (tail g))) p) i)) ∙ sym (w.1.1)

  pub inj_variables : (x y : Variables) → stored_variables x ≡ stored_variables y → x ≡ y
  inj_variables no_variables y q =
      let w = as_no_variables (gnil) y q in
      sym w
  inj_variables (more_variables a0 a1) y q =
      let w = as_more_variables (gcons (coded_ℕ.code a0) (gcons (stored_variables a1) gnil)) y q in
      let p : stored_variables (more_variables a0 a1) ≡ stored_variables (more_variables w.0 w.1.0) = q ∙ ap stored_variables (w.1.1) in
      (λ i. more_variables (coded_ℕ.inj a0 w.0 (ap (λ g. head (tail g)) p) i) (inj_variables a1 w.1.0 (ap (λ g. head (tail (tail g))) p) i)) ∙ sym (w.1.1)

  pub inj_maybevalue : (x y : MaybeValue) → stored_maybevalue x ≡ stored_maybevalue y → x ≡ y
  inj_maybevalue no_maybevalue y q =
      let w = as_no_maybevalue (gnil) y q in
      sym w
  inj_maybevalue (some_maybevalue a0) y q =
      let w = as_some_maybevalue (gcons (stored_val a0) gnil) y q in
      let p : stored_maybevalue (some_maybevalue a0) ≡ stored_maybevalue (some_maybevalue w.0) = q ∙ ap stored_maybevalue (w.1) in
      (λ i. some_maybevalue (inj_val a0 w.0 (ap (λ g. head (tail g)) p) i)) ∙ sym (w.1)

abbrev pub coded_val : Coded Val
coded_val = record { code = stored_val; inj = inj_val }

abbrev pub coded_callee : Coded Callee
coded_callee = record { code = stored_callee; inj = inj_callee }

abbrev pub coded_form : Coded Form
coded_form = record { code = stored_form; inj = inj_form }

abbrev pub coded_place : Coded Place
coded_place = record { code = stored_place; inj = inj_place }

abbrev pub coded_scrutinee : Coded Scrutinee
coded_scrutinee = record { code = stored_scrutinee; inj = inj_scrutinee }

abbrev pub coded_stmt : Coded Stmt
coded_stmt = record { code = stored_stmt; inj = inj_stmt }

abbrev pub coded_block : Coded Block
coded_block = record { code = stored_block; inj = inj_block }

abbrev pub coded_values : Coded Values
coded_values = record { code = stored_values; inj = inj_values }

abbrev pub coded_parts : Coded Parts
coded_parts = record { code = stored_parts; inj = inj_parts }

abbrev pub coded_arms : Coded Arms
coded_arms = record { code = stored_arms; inj = inj_arms }

abbrev pub coded_stmts : Coded Stmts
coded_stmts = record { code = stored_stmts; inj = inj_stmts }

abbrev pub coded_variables : Coded Variables
coded_variables = record { code = stored_variables; inj = inj_variables }

abbrev pub coded_maybevalue : Coded MaybeValue
coded_maybevalue = record { code = stored_maybevalue; inj = inj_maybevalue }

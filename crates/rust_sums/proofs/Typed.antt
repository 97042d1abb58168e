-- A program of sums that is found is typed.
use Rattle.std.proofs.Common.{◌≡◌, refl, sym, subst, ap, ◌∙◌, ℕ, ◌+◌, ◌<◌, ◌≤◌, ◌^◌, Bool, true, false, List, [], ◌∷◌, ◌++◌, length, map, Option, Some, None, arith, append_assoc, eqb-true, leb-true}
use Rattle.std.proofs.lemmas.Bool.{ltb-true}
use Rattle.std.proofs.lemmas.List.{append-nil, length-map}
use Rattle.std.proofs.lemmas.Bool.{and_parts}
use Rattle.std.proofs.lemmas.Option.{same_Some}
use Rattle.std.specs.List.{list_all}
use Rattle.std.specs.Prelude.{not, ◌&&◌, ◌==◌, nat_lt, nat_le, slice_get, pos}
use Rattle.aen_base.specs.Arithmetic.{number as number_of}
use Rattle.aen_base.specs.Numbers.{limit, in_range}
use Rattle.aen_base.specs.declared.int_ty.IntTy.TheVariants.{U32}
use Rattle.aen_base.specs.declared.operators.BinOp.TheVariants.{Add}
use Rattle.aen_base.specs.declared.span.Span.{Span}
use Rattle.rust_ast.specs.Patterns as p
use Rattle.rust_ast.specs.Resolved as r
use Rattle.rust_ast.specs.Written as w
use Rattle.rust_ast.specs.declared.resolution.Function as resolved
use Rattle.rust_ast.specs.declared.resolution.Variable.{Variable}
use Rattle.sums_ast.specs.Tree as t
use Rattle.sums_ast.specs.declared.function.Function as sums
use Rattle.source_meaning.specs.Typing.{IsU32, IsCallee, IsTypedExpr, AreTypedExprs, IsTypedBody, IsTypedBlock, IsTypedFunction, AreTyped, IsTyped}
use Rattle.rust_sums.specs.Gets.{and_then, where_}
use Rattle.text_tokens.specs.Naming.{is_name}
use Rattle.rust_sums.specs.Sums as spec
use Rattle.rust_sums.proofs.Steps.{found_after, found_where}

-- a list that is found behind another
abbrev Behind : {A : Type 0} → (List A → Type 0) → List A → List A → Type 0
Behind P before all = (rest : List _) × (all ≡ before ++ rest) × P rest

behind_more : {A : Type 0} (before rest all : List A) (x : A) → all ≡ (before ++ x ∷ []) ++ rest → all ≡ before ++ x ∷ rest
behind_more before rest all x e = e ∙ append_assoc before (x ∷ []) rest

small : (n : ℕ) → in_range U32 (pos n) ≡ true → n < 2 ^ 32
unfolding limit
small n h = ltb-true n (2 ^ 32) h

literal_typed : (earlier : List sums.Function) (count : ℕ) (s : Span) (expected negative : Bool) (n : ℕ) (x : p.Suffix) (e : t.Expr) →
    spec.literal s expected negative n x ≡ Some e → IsTypedExpr earlier count e
literal_typed earlier count s expected negative n x e h =
    let made = Some (t.number s (number_of U32 (pos n))) in
    let one = found_where (not negative && spec.is_u32_typed expected x) (where_ (in_range U32 (pos n)) made) e h in
    let two = found_where (in_range U32 (pos n)) made e one.1 in
    let is : IsU32 (number_of U32 (pos n)) = record { mag = n; small = small n two.0; same = refl } in
    subst (IsTypedExpr earlier count) (same_Some (t.number s (number_of U32 (pos n))) e two.1) is

callee_is : (earlier : List sums.Function) (f n : ℕ) (o : Option sums.Function) → slice_get earlier f ≡ o → spec.takes n o ≡ true → IsCallee earlier f n
callee_is earlier f n None is h = absurd cc
callee_is earlier f n (Some g) is h = record { callee = g; found = is; arity = eqb-true g.parameters n h }

module _ (earlier : List sums.Function) (count : ℕ) where
  mutual
    expr_typed : (expected : Bool) (a : r.Expr) (e : t.Expr) → spec.expr earlier count expected a ≡ Some e → IsTypedExpr earlier count e
    expr_typed expected (r.number s negative n x) e h = literal_typed earlier count s expected negative n x e h
    expr_typed expected (r.variable s k) e h =
        let one = found_where (nat_lt k count) (Some (t.variable s k)) e h in
        let lt : k < count = ltb-true k count one.0 in
        subst (IsTypedExpr earlier count) (same_Some (t.variable s k) e one.1) lt
    expr_typed expected (r.binary s op a b) e h =
        let le = spec.left_expected expected a in
        let re = spec.right_expected expected a in
        let last = λ (x y : t.Expr). Some (t.binary s Add x y) in
        let next = λ (x : t.Expr). and_then (spec.expr earlier count re b) (last x) in
        let one = found_where (spec.is_addition op) (and_then (spec.expr earlier count le a) next) e h in
        let (x, left, h2) = found_after (spec.expr earlier count le a) next e one.1 in
        let (y, right, h3) = found_after (spec.expr earlier count re b) (last x) e h2 in
        let typed : IsTypedExpr earlier count (t.binary s Add x y) = (refl, expr_typed le a x left, expr_typed re b y right) in
        subst (IsTypedExpr earlier count) (same_Some (t.binary s Add x y) e h3) typed
    expr_typed expected (r.call s c ts args) e h =
        let last = λ (f : ℕ) (xs : List t.Expr). where_ (spec.takes (length xs) (slice_get earlier f)) (Some (t.call s f (t.exprs xs))) in
        let next = λ (f : ℕ). and_then (spec.exprs earlier count [] args) (last f) in
        let (f, is, h2) = found_after (spec.called c ts) next e h in
        let (xs, parts, h3) = found_after (spec.exprs earlier count [] args) (last f) e h2 in
        let four = found_where (spec.takes (length xs) (slice_get earlier f)) (Some (t.call s f (t.exprs xs))) e h3 in
        let (rest, all, typed) = exprs_typed [] args xs parts in
        let same : xs ≡ t.exprs_list (t.exprs xs) = sym (t.exprs_back xs) in
        let whole : IsTypedExpr earlier count (t.call s f (t.exprs xs)) = (
          subst (λ (l : List t.Expr). IsCallee earlier f (length l)) same (callee_is earlier f (length xs) (slice_get earlier f) refl four.0),
          subst (λ (l : List t.Expr). AreTypedExprs earlier count (t.exprs l)) (sym all) typed,
        ) in
        subst (IsTypedExpr earlier count) (same_Some (t.call s f (t.exprs xs)) e four.1) whole
    expr_typed expected (r.truth s b) e h = absurd cc
    expr_typed expected (r.tuple s xs) e h = absurd cc
    expr_typed expected (r.inner b) e h = absurd cc
    expr_typed expected (r.branch s a b c) e h = absurd cc
    expr_typed expected (r.select s a arms) e h = absurd cc
    expr_typed expected (r.forever s k m b) e h = absurd cc
    expr_typed expected (r.panic s) e h = absurd cc
    expr_typed expected (r.literal s d k ts xs) e h = absurd cc
    expr_typed expected (r.field s a f n) e h = absurd cc
    expr_typed expected (r.minus s a) e h = absurd cc
    expr_typed expected (r.negation s a) e h = absurd cc
    expr_typed expected (r.deref s a) e h = absurd cc
    expr_typed expected (r.borrow s m a) e h = absurd cc
    expr_typed expected (r.compare s op a b) e h = absurd cc
    expr_typed expected (r.both s a b) e h = absurd cc
    expr_typed expected (r.either s a b) e h = absurd cc
    expr_typed expected (r.cast s a i) e h = absurd cc
    expr_typed expected (r.assign s a b) e h = absurd cc
    expr_typed expected (r.update s op a b) e h = absurd cc
    expr_typed expected (r.give s o) e h = absurd cc
    expr_typed expected (r.leave s o) e h = absurd cc
    expr_typed expected (r.go_on s) e h = absurd cc

    exprs_typed : (before : List t.Expr) (args : r.Exprs) (all : List t.Expr) → spec.exprs earlier count before args ≡ Some all →
        (rest : List t.Expr) × (all ≡ before ++ rest) × AreTypedExprs earlier count (t.exprs rest)
    exprs_typed before r.no_exprs all h = ([], sym (same_Some before all h) ∙ sym (append-nil before), tt)
    exprs_typed before (r.more_exprs a args) all h =
        let (x, is, h2) = found_after (spec.expr earlier count true a) (λ x. spec.exprs earlier count (before ++ x ∷ []) args) all h in
        let (rest, e, typed) = exprs_typed (before ++ x ∷ []) args all h2 in
        (x ∷ rest, behind_more before rest all x e, (expr_typed true a x is, typed))

module _ (earlier : List sums.Function) (total : ℕ) where
  value_typed : (count : ℕ) (ty : w.MaybeWritten) (o : r.MaybeExpr) (e : t.Expr) → spec.value_of earlier count ty o ≡ Some e → IsTypedExpr earlier count e
  value_typed count ty r.no_maybeexpr e h = absurd cc
  value_typed count ty (r.some_maybeexpr a) e h =
      let (expected, is, h2) = found_after (spec.expected_by ty) (λ expected. spec.expr earlier count expected a) e h in
      expr_typed earlier count expected a e h2

  stmt_typed : (count : ℕ) (x : r.Stmt) (y : t.Stmt) → spec.stmt earlier count total x ≡ Some y →
      (s : Span) × (e : t.Expr) × (y ≡ t.bind s count e) × IsTypedExpr earlier count e
  stmt_typed count (r.run e semicolon) y h = absurd cc
  stmt_typed count (r.bind s x ty o) y h =
      let made = λ (e : t.Expr). Some (t.bind s count e) in
      let one = found_where (spec.is_next count x && nat_lt count total) (and_then (spec.value_of earlier count ty o) made) y h in
      let (e, is, h2) = found_after (spec.value_of earlier count ty o) made y one.1 in
      (s, e, sym (same_Some (t.bind s count e) y h2), value_typed count ty o e is)

  stmts_typed : (count : ℕ) (before : List t.Stmt) (ss : r.Stmts) (all : List t.Stmt) → spec.stmts earlier count total before ss ≡ Some all →
      (rest : List t.Stmt) × (all ≡ before ++ rest)
      × ((e : t.Expr) → IsTypedExpr earlier total e → IsTypedBody earlier total count (t.stmts rest) (t.some_maybeexpr e))
  stmts_typed count before r.no_stmts all h =
      let one = found_where (count == total) (Some before) all h in
      ([], sym (same_Some before all one.1) ∙ sym (append-nil before), λ e typed. (eqb-true count total one.0, typed))
  stmts_typed count before (r.more_stmts x ss) all h =
      let (y, is, h2) = found_after (spec.stmt earlier count total x) (λ y. spec.stmts earlier (count + 1) total (before ++ y ∷ []) ss) all h in
      let (s, v, same, typed_value) = stmt_typed count x y is in
      let (rest, e, typed) = stmts_typed (count + 1) (before ++ y ∷ []) ss all h2 in (
        y ∷ rest,
        behind_more before rest all y e,
        λ z typed_z.
            let one : IsTypedBody earlier total count (t.more_stmts (t.bind s count v) (t.stmts rest)) (t.some_maybeexpr z) = (refl, typed_value, typed z typed_z) in
            subst (λ (q : t.Stmt). IsTypedBody earlier total count (t.more_stmts q (t.stmts rest)) (t.some_maybeexpr z)) (sym same) one,
      )

  last_typed : (o : r.MaybeExpr) (e : t.Expr) → spec.last earlier total o ≡ Some e → IsTypedExpr earlier total e
  last_typed r.no_maybeexpr e h = absurd cc
  last_typed (r.some_maybeexpr a) e h = expr_typed earlier total true a e h

  body_typed : (count : ℕ) (x : r.Block) (b : t.Block) → spec.body earlier count total x ≡ Some b → IsTypedBlock earlier total count b
  body_typed count (r.block s ss o) b h =
      let made = λ (ys : List t.Stmt) (e : t.Expr). Some (t.block s (t.stmts ys) (t.some_maybeexpr e)) in
      let (ys, is, h2) = found_after (spec.stmts earlier count total [] ss) (λ ys. and_then (spec.last earlier total o) (made ys)) b h in
      let (e, value, h3) = found_after (spec.last earlier total o) (made ys) b h2 in
      let (rest, all, typed) = stmts_typed count [] ss ys is in
      subst (IsTypedBlock earlier total count) (same_Some (t.block s (t.stmts ys) (t.some_maybeexpr e)) b h3)
      (subst (λ (l : List t.Stmt). IsTypedBody earlier total count (t.stmts l) (t.some_maybeexpr e)) (sym all) (typed e (last_typed o e value)))

pub within : (f : resolved.Function) → spec.has_plain_signature f ≡ true → length f.params ≤ length f.variables
unfolding spec.has_plain_signature
within f h =
    let forms = spec.is_nil f.lifetimes && spec.is_nil f.type_params in
    let types = list_all spec.is_u32 f.params && spec.gives_u32 f.result in
    let count = nat_le (length f.params) (length f.variables) in
    leb-true (length f.params) (length f.variables) (and_parts types count (and_parts forms (types && count) h).1).1

-- a function that is found: its name is one, the same, and it is typed
pub record IsFound (earlier : List sums.Function) (f : resolved.Function) (g : sums.Function) : Type 0 where
  pub named : is_name f.name ≡ true
  pub same : g.name ≡ f.name
  pub typed : IsTypedFunction earlier g

pub function_found : (earlier : List sums.Function) (f : resolved.Function) (g : sums.Function) → spec.function earlier f ≡ Some g → IsFound earlier f g
unfolding spec.function
function_found earlier f g h =
    let found = spec.body earlier (length f.params) (length f.variables) f.body in
    let make = λ (b : t.Block). Some (spec.with_body f b) in
    let one = found_where (is_name f.name && spec.has_plain_signature f) (and_then found make) g h in
    let tests = and_parts (is_name f.name) (spec.has_plain_signature f) one.0 in
    let (b, is, h2) = found_after found make g one.1 in
    let made : spec.with_body f b ≡ g = same_Some (spec.with_body f b) g h2 in
    let count : length (spec.variable_names f.variables) ≡ length f.variables = length-map f.variables (λ (v : Variable). v.name) in
    record {
      named = tests.0;
      same = sym (ap (λ (x : sums.Function). x.name) made);
      typed = subst (IsTypedFunction earlier) made (record {
        within = subst (λ n. length f.params ≤ n) (sym count) (within f tests.1);
        body = subst (λ n. IsTypedBlock earlier n (length f.params) b) (sym count) (body_typed earlier (length f.variables) (length f.params) f.body b is);
      });
    }

functions_typed : (before : List sums.Function) (fs : List resolved.Function) (all : List sums.Function) → spec.functions before fs ≡ Some all →
    (rest : List sums.Function) × (all ≡ before ++ rest) × AreTyped before rest
functions_typed before [] all h = ([], sym (same_Some before all h) ∙ sym (append-nil before), tt)
functions_typed before (f ∷ fs) all h =
    let (g, is, h2) = found_after (spec.function before f) (λ g. spec.functions (before ++ g ∷ []) fs) all h in
    let (rest, e, typed) = functions_typed (before ++ g ∷ []) fs all h2 in
    (g ∷ rest, behind_more before rest all g e, ((function_found before f g is).typed, typed))

pub functions_are_typed : (fs : List resolved.Function) (all : List sums.Function) → spec.functions [] fs ≡ Some all → IsTyped (spec.as_program all)
functions_are_typed fs all h =
    let (rest, e, typed) = functions_typed [] fs all h in
    subst (AreTyped []) (sym e) typed

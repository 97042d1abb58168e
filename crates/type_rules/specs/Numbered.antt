-- A program with names resolved in which each number is that of something that is there: a declared
-- type's variant, a function, a variable, a type parameter, a lifetime (LANGUAGE.md, "Names").
use Rattle.std.specs.Prelude.{◌≡◌, ℕ, ◌+◌, Bool, true, false, ◌&&◌, Option, Some, None, List, length, map, nat_lt, slice_get, is_some}
use Rattle.std.specs.List.{list_all}
use Rattle.aen_base.specs.declared.ids.TypeId.{TypeId}
use Rattle.rust_ast.specs.Patterns as p
use Rattle.rust_ast.specs.Resolved as e
use Rattle.rust_ast.specs.Written as w
use Rattle.rust_ast.specs.declared.resolution.Declared.{Declared}
use Rattle.rust_ast.specs.declared.resolution.Function.{Function}
use Rattle.rust_ast.specs.declared.resolution.Resolved.{Resolved}

-- how many there are where a part stands; of variants, in each declared type
pub record Counts : Type 0 where
  pub variants : List ℕ
  pub functions : ℕ
  pub lifetimes : ℕ
  pub type_params : ℕ
  pub variables : ℕ

abbrev pub has_variant : Option ℕ → ℕ → Bool
has_variant None v = false
has_variant (Some n) v = nat_lt v n

abbrev pub is_constructor : Counts → TypeId → ℕ → Bool
is_constructor c d v = has_variant (slice_get c.variants d.0) v

-- ---- types

abbrev pub lifetime_is : Counts → w.Lifetime → Bool
lifetime_is c w.elided = true
lifetime_is c (w.declared k) = nat_lt k c.lifetimes
lifetime_is c w.undeclared = true

abbrev mutual
  pub type_is : Counts → w.Written → Bool
  type_is c (w.int r i) = true
  type_is c (w.bool r) = true
  type_is c (w.unit r) = true
  type_is c (w.tuple r xs) = types_are c xs
  type_is c (w.ref r l m x) = lifetime_is c l && type_is c x
  type_is c (w.boxed r x) = type_is c x
  type_is c (w.named r d xs) = is_some (slice_get c.variants d.0) && types_are c xs
  type_is c (w.param r k xs) = nat_lt k c.type_params && types_are c xs

  pub types_are : Counts → w.Writtens → Bool
  types_are c w.no_writtens = true
  types_are c (w.more_writtens x xs) = type_is c x && types_are c xs

abbrev pub maybe_type_is : Counts → w.MaybeWritten → Bool
maybe_type_is c w.no_maybewritten = true
maybe_type_is c (w.some_maybewritten x) = type_is c x

abbrev pub turbos_are : Counts → w.Turbos → Bool
turbos_are c w.no_turbo = true
turbos_are c (w.one_turbo xs) = types_are c xs
turbos_are c (w.two_turbos xs ys) = types_are c xs && types_are c ys

-- ---- bodies

abbrev mutual
  pub pattern_is : Counts → p.Pat → Bool
  pattern_is c (p.wild r) = true
  pattern_is c (p.bind r n m k) = nat_lt k c.variables
  pattern_is c (p.number r n m x) = true
  pattern_is c (p.truth r b) = true
  pattern_is c (p.tuple r xs) = patterns_are c xs
  pattern_is c (p.construct r d v ts xs) = is_constructor c d v && (turbos_are c ts && patterns_are c xs)
  pattern_is c (p.literal r d v ts xs) = is_constructor c d v && (turbos_are c ts && field_patterns_are c xs)

  pub patterns_are : Counts → p.Pats → Bool
  patterns_are c p.no_pats = true
  patterns_are c (p.more_pats x xs) = pattern_is c x && patterns_are c xs

  pub field_patterns_are : Counts → p.FieldPats → Bool
  field_patterns_are c p.no_fieldpats = true
  field_patterns_are c (p.more_fieldpats r n x xs) = pattern_is c x && field_patterns_are c xs

abbrev pub callee_is : Counts → e.Callee → Bool
callee_is c (e.function f) = nat_lt f c.functions
callee_is c (e.builtin_of b) = true
callee_is c (e.constructor d v) = is_constructor c d v

abbrev mutual
  pub expression_is : Counts → e.Expr → Bool
  expression_is c (e.number r n m x) = true
  expression_is c (e.truth r b) = true
  expression_is c (e.tuple r xs) = expressions_are c xs
  expression_is c (e.inner b) = block_is c b
  expression_is c (e.branch r a b x) = expression_is c a && (block_is c b && expression_is c x)
  expression_is c (e.select r a arms) = expression_is c a && arms_are c arms
  expression_is c (e.forever r n m b) = block_is c b
  expression_is c (e.panic r) = true
  expression_is c (e.variable r k) = nat_lt k c.variables
  expression_is c (e.call r f ts xs) = callee_is c f && (turbos_are c ts && expressions_are c xs)
  expression_is c (e.literal r d v ts xs) = is_constructor c d v && (turbos_are c ts && inits_are c xs)
  expression_is c (e.field r a f name) = expression_is c a
  expression_is c (e.minus r a) = expression_is c a
  expression_is c (e.negation r a) = expression_is c a
  expression_is c (e.deref r a) = expression_is c a
  expression_is c (e.borrow r m a) = expression_is c a
  expression_is c (e.binary r op a b) = expression_is c a && expression_is c b
  expression_is c (e.compare r op a b) = expression_is c a && expression_is c b
  expression_is c (e.both r a b) = expression_is c a && expression_is c b
  expression_is c (e.either r a b) = expression_is c a && expression_is c b
  expression_is c (e.cast r a i) = expression_is c a
  expression_is c (e.assign r a b) = expression_is c a && expression_is c b
  expression_is c (e.update r op a b) = expression_is c a && expression_is c b
  expression_is c (e.give r o) = maybe_expression_is c o
  expression_is c (e.leave r o) = maybe_expression_is c o
  expression_is c (e.go_on r) = true

  pub maybe_expression_is : Counts → e.MaybeExpr → Bool
  maybe_expression_is c e.no_maybeexpr = true
  maybe_expression_is c (e.some_maybeexpr a) = expression_is c a

  pub expressions_are : Counts → e.Exprs → Bool
  expressions_are c e.no_exprs = true
  expressions_are c (e.more_exprs x xs) = expression_is c x && expressions_are c xs

  pub arms_are : Counts → e.Arms → Bool
  arms_are c e.no_arms = true
  arms_are c (e.more_arms x a rest) = pattern_is c x && (expression_is c a && arms_are c rest)

  pub inits_are : Counts → e.Inits → Bool
  inits_are c e.no_inits = true
  inits_are c (e.more_inits r n a rest) = expression_is c a && inits_are c rest

  pub block_is : Counts → e.Block → Bool
  block_is c (e.block r ss o) = statements_are c ss && maybe_expression_is c o

  pub statements_are : Counts → e.Stmts → Bool
  statements_are c e.no_stmts = true
  statements_are c (e.more_stmts x rest) = statement_is c x && statements_are c rest

  pub statement_is : Counts → e.Stmt → Bool
  statement_is c (e.run a semicolon) = expression_is c a
  statement_is c (e.bind r x ty o) = pattern_is c x && (maybe_type_is c ty && maybe_expression_is c o)

-- ---- programs

abbrev pub counts_of : Resolved → ℕ → ℕ → ℕ → Counts
counts_of prog lifetimes type_params variables = record {
  variants = map (λ (d : Declared). length d.variants) prog.types;
  functions = length prog.functions;
  lifetimes = lifetimes;
  type_params = type_params;
  variables = variables;
}

abbrev pub fields_are : Counts → List (List ℕ × w.Written) → Bool
fields_are c fs = list_all (λ (f : List ℕ × w.Written). type_is c f.1) fs

abbrev pub variants_are : Counts → List (List ℕ × List (List ℕ × w.Written)) → Bool
variants_are c vs = list_all (λ (v : List ℕ × List (List ℕ × w.Written)). fields_are c v.1) vs

abbrev pub declared_is : Resolved → Declared → Bool
declared_is prog d = variants_are (counts_of prog 0 (length d.params) 0) d.variants

abbrev pub function_in : Counts → Function → Bool
function_in c f =
    nat_lt (length f.params) (length f.variables + 1)
    && (list_all (type_is c) f.params && (maybe_type_is c (w.maybewritten f.result) && block_is c f.body))

abbrev pub function_is : Resolved → Function → Bool
function_is prog f = function_in (counts_of prog (length f.lifetimes) (length f.type_params) (length f.variables)) f

unfoldable pub is_numbered : Resolved → Bool
is_numbered prog = list_all (declared_is prog) prog.types && list_all (function_is prog) prog.functions

abbrev pub IsNumbered : Resolved → Type 0
IsNumbered prog = is_numbered prog ≡ true

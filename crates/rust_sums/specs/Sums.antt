-- A program with names resolved as a program of sums: functions over `u32` with sums, `let` and calls of
-- earlier functions (LANGUAGE.md, "Sums"). None where it is no such program.
use Rattle.std.specs.Prelude.{ℕ, ◌+◌, Bool, true, false, not, ◌&&◌, ◌||◌, ◌==◌, nat_le, nat_lt, if◌then◌else◌, List, [], ◌∷◌, ◌++◌, length, map, slice_get, Option, Some, None, pos}
use Rattle.std.specs.List.{list_all}
use denote.Enum.Bare.{sameb}
use Rattle.aen_base.specs.Arithmetic.{number as number_of}
use Rattle.aen_base.specs.Numbers.{in_range}
use Rattle.aen_base.specs.contracts.int_ty.IntTy as int_row
use Rattle.aen_base.specs.contracts.operators.BinOp as op_row
use Rattle.aen_base.specs.declared.int_ty.IntTy.{IntTy}
use Rattle.aen_base.specs.declared.int_ty.IntTy.TheVariants.{U32, I32}
use Rattle.aen_base.specs.declared.operators.BinOp.{BinOp}
use Rattle.aen_base.specs.declared.operators.BinOp.TheVariants.{Add}
use Rattle.aen_base.specs.declared.span.Span.{Span}
use Rattle.rust_ast.specs.Patterns as p
use Rattle.rust_ast.specs.Resolved as r
use Rattle.rust_ast.specs.Written as w
use Rattle.rust_ast.specs.declared.resolution.Function as resolved
use Rattle.rust_ast.specs.declared.resolution.Resolved.{Resolved}
use Rattle.rust_ast.specs.declared.resolution.Variable.{Variable}
use Rattle.sums_ast.specs.Tree as t
use Rattle.sums_ast.specs.declared.function.Function as sums
use Rattle.sums_ast.specs.declared.function.Program.{Program}
use Rattle.rust_sums.specs.Gets.{and_then, where_}
use Rattle.text_tokens.specs.Naming.{is_name}

-- ---- types

abbrev pub is_u32 : w.Written → Bool
is_u32 (w.int s i) = sameb int_row.the_type i U32
is_u32 _ = false

-- whether a type is written, which is then `u32`: the value's type is expected
abbrev pub expected_by : w.MaybeWritten → Option Bool
expected_by w.no_maybewritten = Some false
expected_by (w.some_maybewritten x) = where_ (is_u32 x) (Some true)

abbrev pub gives_u32 : Option w.Written → Bool
gives_u32 None = false
gives_u32 (Some x) = is_u32 x

-- ---- expressions

-- a literal has the type of its suffix, else `u32` where that is expected, else `i32`
abbrev pub literal_type : Bool → p.Suffix → IntTy
literal_type expected p.no_suffix = if expected then U32 else I32
literal_type expected (p.some_suffix i) = i

abbrev pub is_u32_typed : Bool → p.Suffix → Bool
is_u32_typed expected x = sameb int_row.the_type (literal_type expected x) U32

abbrev pub literal : Span → Bool → Bool → ℕ → p.Suffix → Option t.Expr
literal s expected negative n x =
    where_ (not negative && is_u32_typed expected x) (where_ (in_range U32 (pos n)) (Some (t.number s (number_of U32 (pos n)))))

abbrev pub is_unsuffixed : r.Expr → Bool
is_unsuffixed (r.number s negative n p.no_suffix) = true
is_unsuffixed _ = false

-- where no type is expected, the right side gives a literal on the left its type; else the left side gives
-- the right side its type
abbrev pub left_expected : Bool → r.Expr → Bool
left_expected expected a = expected || is_unsuffixed a

abbrev pub right_expected : Bool → r.Expr → Bool
right_expected expected a = expected || not (is_unsuffixed a)

abbrev pub is_addition : BinOp → Bool
is_addition op = sameb op_row.the_type op Add

-- the function that is called, without type arguments
abbrev pub called : r.Callee → w.Turbos → Option ℕ
called (r.function f) w.no_turbo = Some f
called _ _ = None

abbrev pub takes : ℕ → Option sums.Function → Bool
takes n None = false
takes n (Some f) = f.parameters == n

-- an expression of type `u32` after these functions, where the first `count` variables are declared;
-- `expected` says whether what stands around it asks for a `u32`
abbrev mutual
  pub expr : List sums.Function → ℕ → Bool → r.Expr → Option t.Expr
  expr earlier count expected (r.number s negative n x) = literal s expected negative n x
  expr earlier count expected (r.variable s k) = where_ (nat_lt k count) (Some (t.variable s k))
  expr earlier count expected (r.binary s op a b) =
      where_ (is_addition op) (
      and_then (expr earlier count (left_expected expected a) a) (λ x.
      and_then (expr earlier count (right_expected expected a) b) (λ y. Some (t.binary s Add x y))))
  expr earlier count expected (r.call s c ts args) =
      and_then (called c ts) (λ f.
      and_then (exprs earlier count [] args) (λ xs.
      where_ (takes (length xs) (slice_get earlier f)) (Some (t.call s f (t.exprs xs)))))
  expr earlier count expected _ = None

  -- arguments, behind those before them
  pub exprs : List sums.Function → ℕ → List t.Expr → r.Exprs → Option (List t.Expr)
  exprs earlier count before r.no_exprs = Some before
  exprs earlier count before (r.more_exprs e rest) = and_then (expr earlier count true e) (λ x. exprs earlier count (before ++ x ∷ []) rest)

-- ---- statements

-- a name that is bound to the next variable; `mut` changes nothing, since nothing is assigned or borrowed
abbrev pub is_next : ℕ → p.Pat → Bool
is_next count (p.bind s q m k) = k == count
is_next count _ = false

abbrev pub value_of : List sums.Function → ℕ → w.MaybeWritten → r.MaybeExpr → Option t.Expr
value_of earlier count ty r.no_maybeexpr = None
value_of earlier count ty (r.some_maybeexpr e) = and_then (expected_by ty) (λ expected. expr earlier count expected e)

-- `let` of the next of `total` variables
abbrev pub stmt : List sums.Function → ℕ → ℕ → r.Stmt → Option t.Stmt
stmt earlier count total (r.run e semicolon) = None
stmt earlier count total (r.bind s x ty o) =
    where_ (is_next count x && nat_lt count total) (and_then (value_of earlier count ty o) (λ e. Some (t.bind s count e)))

-- statements that declare all variables from `count` on, behind the statements before them
abbrev pub stmts : List sums.Function → ℕ → ℕ → List t.Stmt → r.Stmts → Option (List t.Stmt)
stmts earlier count total before r.no_stmts = where_ (count == total) (Some before)
stmts earlier count total before (r.more_stmts x rest) =
    and_then (stmt earlier count total x) (λ y. stmts earlier (count + 1) total (before ++ y ∷ []) rest)

-- the value of the body, whose type is the result's
abbrev pub last : List sums.Function → ℕ → r.MaybeExpr → Option t.Expr
last earlier total r.no_maybeexpr = None
last earlier total (r.some_maybeexpr e) = expr earlier total true e

-- ---- functions

-- the body of a function of which the first `count` of `total` variables are parameters
abbrev pub body : List sums.Function → ℕ → ℕ → r.Block → Option t.Block
body earlier count total (r.block s ss o) =
    and_then (stmts earlier count total [] ss) (λ ys.
    and_then (last earlier total o) (λ e. Some (t.block s (t.stmts ys) (t.some_maybeexpr e))))

abbrev pub is_nil : {A : Type 0} → List A → Bool
is_nil [] = true
is_nil (x ∷ xs) = false

-- without lifetimes and type parameters, from `u32` to `u32`; its parameters are its first variables
unfoldable pub has_plain_signature : resolved.Function → Bool
has_plain_signature f =
    (is_nil f.lifetimes && is_nil f.type_params) && ((list_all is_u32 f.params && gives_u32 f.result) && nat_le (length f.params) (length f.variables))

abbrev pub variable_names : List Variable → List (List ℕ)
variable_names vs = map (λ (v : Variable). v.name) vs

abbrev pub with_body : resolved.Function → t.Block → sums.Function
with_body f b = record { name = f.name; span = f.span; parameters = length f.params; variables = variable_names f.variables; body = b }

-- a function after these, whose name is one
unfoldable pub function : List sums.Function → resolved.Function → Option sums.Function
function earlier f =
    where_ (is_name f.name && has_plain_signature f) (
    and_then (body earlier (length f.params) (length f.variables) f.body) (λ b. Some (with_body f b)))

-- functions after these
abbrev pub functions : List sums.Function → List resolved.Function → Option (List sums.Function)
functions before [] = Some before
functions before (f ∷ fs) = and_then (function before f) (λ g. functions (before ++ g ∷ []) fs)

abbrev pub as_program : List sums.Function → Program
as_program fs = record { functions = fs }

-- the program of sums that a resolved program is: no declared types, and its functions
unfoldable pub sums_of : Resolved → Option Program
sums_of x = where_ (is_nil x.types) (and_then (functions [] x.functions) (λ fs. Some (as_program fs)))

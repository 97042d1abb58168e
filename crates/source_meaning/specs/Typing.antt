-- A program's uses fit: variables are declared, calls have their callee's number of arguments,
-- numbers are in range (LANGUAGE.md, "Sums").
use Rattle.std.specs.Prelude.{◌≡◌, ℕ, ◌+◌, ◌<◌, ◌≤◌, ◌^◌, List, [], ◌∷◌, ◌++◌, length, slice_get, Some, pos}
use Rattle.aen_base.specs.Numbers.{Number}
use Rattle.aen_base.specs.Arithmetic.{number as number_of}
use Rattle.aen_base.specs.declared.int_ty.IntTy.TheVariants.{U32}
use Rattle.aen_base.specs.declared.operators.BinOp.TheVariants.{Add}
use Rattle.sums_ast.specs.Tree.{Expr, number, variable, binary, call, Exprs, no_exprs, more_exprs, exprs_list, bind, Stmts, no_stmts, more_stmts, Block, block, MaybeExpr, no_maybeexpr, some_maybeexpr}
use Rattle.sums_ast.specs.declared.function.Function.{Function}
use Rattle.sums_ast.specs.declared.function.Program.{Program}

-- a number of type u32
pub record IsU32 (n : Number) : Type 0 where
  pub mag : ℕ
  pub small : mag < 2 ^ 32
  pub same : n ≡ number_of U32 (pos mag)

-- function f is an earlier one with this number of parameters
pub record IsCallee (earlier : List Function) (f count : ℕ) : Type 0 where
  pub callee : Function
  pub found : slice_get earlier f ≡ Some callee
  pub arity : callee.parameters ≡ count

-- an expression of type u32 where so many variables are declared
abbrev mutual
  pub IsTypedExpr : List Function → ℕ → Expr → Type 0
  IsTypedExpr earlier count (number s n) = IsU32 n
  IsTypedExpr earlier count (variable s k) = k < count
  IsTypedExpr earlier count (binary s op a b) = (op ≡ Add) × IsTypedExpr earlier count a × IsTypedExpr earlier count b
  IsTypedExpr earlier count (call s f args) = IsCallee earlier f (length (exprs_list args)) × AreTypedExprs earlier count args

  pub AreTypedExprs : List Function → ℕ → Exprs → Type 0
  AreTypedExprs earlier count no_exprs = Unit {0}
  AreTypedExprs earlier count (more_exprs e es) = IsTypedExpr earlier count e × AreTypedExprs earlier count es

-- statements that declare the variables from `count` on up to `total`, and a value of type u32
abbrev pub IsTypedBody : List Function → ℕ → ℕ → Stmts → MaybeExpr → Type 0
IsTypedBody earlier total count no_stmts no_maybeexpr = ⊥
IsTypedBody earlier total count no_stmts (some_maybeexpr e) = (count ≡ total) × IsTypedExpr earlier total e
IsTypedBody earlier total count (more_stmts (bind s k e) rest) last = (k ≡ count) × IsTypedExpr earlier count e × IsTypedBody earlier total (count + 1) rest last

abbrev pub IsTypedBlock : List Function → ℕ → ℕ → Block → Type 0
IsTypedBlock earlier total count (block s stmts last) = IsTypedBody earlier total count stmts last

-- its parameters are its first variables, and its body fits
pub record IsTypedFunction (earlier : List Function) (f : Function) : Type 0 where
  pub within : f.parameters ≤ length f.variables
  pub body : IsTypedBlock earlier (length f.variables) f.parameters f.body

abbrev pub AreTyped : List Function → List Function → Type 0
AreTyped earlier [] = Unit {0}
AreTyped earlier (f ∷ fs) = IsTypedFunction earlier f × AreTyped (earlier ++ f ∷ []) fs

-- each function is typed, calling only earlier ones
abbrev pub IsTyped : Program → Type 0
IsTyped p = AreTyped [] p.functions

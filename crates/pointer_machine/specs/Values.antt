-- What a typed source comes to where its variables are numbers and no memory is kept
-- (LANGUAGE.md, "The machine").
use Rattle.std.specs.Prelude.{ℕ, zero, suc, List, [], ◌∷◌, ◌++◌, slice_get, Option, Some, None, Result, Ok, Err, if◌then◌else◌}
use Rattle.std.specs.Option.{option_map, option_and_then}
use denote.Enum.Bare.{sameb}
use Rattle.aen_base.specs.contracts.int_ty.IntTy.{the_type}
use Rattle.aen_base.specs.declared.span.Span.{Span}
use Rattle.aen_base.specs.declared.operators.BinOp.{BinOp}
use Rattle.aen_base.specs.declared.operators.PanicKind.{PanicKind}
use Rattle.aen_base.specs.Numbers.{Number}
use Rattle.aen_base.specs.Arithmetic.{apply}
use Rattle.pure_ast.specs.Values as v
use Rattle.pure_ast.specs.Values.{PValue}
use Rattle.sums_ast.specs.Tree.{Expr, number, variable, binary, call, Exprs, no_exprs, more_exprs, Stmt, bind, Stmts, no_stmts, more_stmts, Block, block, MaybeExpr, no_maybeexpr, some_maybeexpr}
use Rattle.sums_ast.specs.declared.function.Function.{Function}
use Rattle.sums_ast.specs.declared.function.Program.{Program}
use Rattle.source_meaning.specs.declared.outcome.Outcome.{Outcome}
use Rattle.source_meaning.specs.declared.outcome.Outcome.TheVariants as O
use Rattle.pointer_machine.specs.declared.halt.Halt.{Halt}
use Rattle.pointer_machine.specs.declared.halt.Halt.TheVariants.{Panic, More, Stuck}

-- a number, or why there is none
abbrev pub Valued : Type 0
Valued = Result Number Halt

abbrev pub and_then : Valued → (Number → Valued) → Valued
and_then (Ok n) f = f n
and_then (Err h) f = Err h

-- what a call means: where it stands, the function, its arguments
abbrev pub Call : Type 0
Call = Span → ℕ → List Number → Valued

abbrev pub known : Span → Option Number → Valued
known s None = Err (Stuck s)
known s (Some n) = Ok n

abbrev pub exact : Result Number PanicKind → Valued
exact (Ok n) = Ok n
exact (Err k) = Err (Panic k)

-- numbers of two types have no sum
abbrev pub operate : Span → BinOp → Number → Number → Valued
operate s op x y = if sameb the_type x.ty y.ty then exact (apply op x.ty x.value y.value) else Err (Stuck s)

-- an expression; arguments and sides from left to right
abbrev mutual
  pub value : Call → List Number → Expr → Valued
  value c vars (number s n) = Ok n
  value c vars (variable s k) = known s (slice_get vars k)
  value c vars (binary s op a b) = and_then (value c vars a) (λ x. and_then (value c vars b) (λ y. operate s op x y))
  value c vars (call s f args) = values c vars args [] (c s f)

  -- expressions in order, and then what is done with their numbers
  pub values : Call → List Number → Exprs → List Number → (List Number → Valued) → Valued
  values c vars no_exprs ns f = f ns
  values c vars (more_exprs e es) ns f = and_then (value c vars e) (λ n. values c vars es (ns ++ n ∷ []) f)

abbrev pub last_value : Call → Span → List Number → MaybeExpr → Valued
last_value c s vars no_maybeexpr = Err (Stuck s)
last_value c s vars (some_maybeexpr e) = value c vars e

-- what a `let` gives its variable
abbrev pub bound_to : Stmt → Expr
bound_to (bind s k e) = e

-- each `let` declares the next variable
abbrev pub body_value : Call → Span → List Number → Stmts → MaybeExpr → Valued
body_value c s vars no_stmts last = last_value c s vars last
body_value c s vars (more_stmts st rest) last = and_then (value c vars (bound_to st)) (λ n. body_value c s (vars ++ n ∷ []) rest last)

abbrev pub block_value : Call → List Number → Block → Valued
block_value c vars (block s stmts last) = body_value c s vars stmts last

abbrev pub entered : Call → Span → Option Function → List Number → Valued
entered c s None args = Err (Stuck s)
entered c s (Some f) args = block_value c args f.body

-- a call at a bound: at 0 the bound was too small, at k + 1 the body runs at k
unfoldable pub call_value : Program → ℕ → Call
call_value p zero s f args = Err More
call_value p (suc k) s f args = entered (call_value p k) s (slice_get p.functions f) args

abbrev pub number_of : PValue → Option Number
number_of (v.number n) = Some n
number_of _ = None

abbrev pub numbers_of : List PValue → Option (List Number)
numbers_of [] = Some []
numbers_of (a ∷ args) = option_and_then (λ n. option_map (λ ns. n ∷ ns) (numbers_of args)) (number_of a)

abbrev pub outcome : Valued → Outcome
outcome (Ok n) = O.Value (v.number n)
outcome (Err (Panic k)) = O.Panic k
outcome (Err More) = O.More
outcome (Err (Stuck s)) = O.Stuck s

abbrev pub begun : Program → ℕ → ℕ → Span → Option (List Number) → Outcome
begun p n k s None = O.Stuck s
begun p n k s (Some args) = outcome (call_value p n s k args)

-- The machine with memory: what expressions, blocks and calls do (LANGUAGE.md, "The machine").
use Rattle.std.specs.Prelude.{ℕ, zero, suc, ◌+◌, ◌==◌, List, [], ◌∷◌, ◌++◌, length, slice_get, Option, Some, None, option_and_then, Result, Ok, Err, if◌then◌else◌}
use Rattle.aen_base.specs.declared.span.Span.{Span}
use Rattle.aen_base.specs.declared.operators.BinOp.{BinOp}
use Rattle.aen_base.specs.declared.operators.PanicKind.{PanicKind}
use Rattle.aen_base.specs.Numbers.{Number}
use Rattle.aen_base.specs.Arithmetic.{apply}
use Rattle.sums_ast.specs.Tree.{Expr, number, variable, binary, call, Exprs, no_exprs, more_exprs, Stmt, bind, Stmts, no_stmts, more_stmts, Block, block, MaybeExpr, no_maybeexpr, some_maybeexpr}
use Rattle.sums_ast.specs.declared.function.Function.{Function}
use Rattle.sums_ast.specs.declared.function.Program.{Program}
use Rattle.source_meaning.specs.Memory.{MTree, num, unit, Cell, empty, holds, Memory, read_cell, write_cell, drop_frame}

-- what running gives: a tree and the memory after it, a panic, a bound that was too small, or a place
-- without a meaning
pub data Ran : Type 0 where
  gives : MTree → Memory → Ran
  panics : PanicKind → Ran
  more : Ran
  stuck : Span → Ran

abbrev pub then_do : Ran → (MTree → Memory → Ran) → Ran
then_do (gives t m) f = f t m
then_do (panics k) f = panics k
then_do more f = more
then_do (stuck s) f = stuck s

-- what a call means at the callee's bound: where it stands, the function, its arguments, the memory
abbrev pub Call : Type 0
Call = Span → ℕ → List MTree → Memory → Ran

-- the cells of a function's variables by number
abbrev pub Frame : Type 0
Frame = List ℕ

abbrev pub found : Span → Memory → Option MTree → Ran
found s m None = stuck s
found s m (Some t) = gives t m

abbrev pub operated : Memory → Result Number PanicKind → Ran
operated m (Ok n) = gives (num n) m
operated m (Err k) = panics k

-- an operator on two numbers
abbrev pub operate : Span → BinOp → MTree → MTree → Memory → Ran
operate s op (num x) (num y) m = operated m (apply op x.ty x.value y.value)
operate s op _ _ m = stuck s

-- an expression; arguments and sides run from left to right
abbrev mutual
  pub run : Call → Frame → Expr → Memory → Ran
  run c frame (number s n) m = gives (num n) m
  run c frame (variable s k) m = found s m (option_and_then (read_cell m) (slice_get frame k))
  run c frame (binary s op a b) m = then_do (run c frame a m) (λ x m1. then_do (run c frame b m1) (λ y m2. operate s op x y m2))
  run c frame (call s f args) m = run_all c frame args [] m (c s f)

  -- expressions in order, and then what is done with their trees
  pub run_all : Call → Frame → Exprs → List MTree → Memory → (List MTree → Memory → Ran) → Ran
  run_all c frame no_exprs trees m f = f trees m
  run_all c frame (more_exprs e es) trees m f = then_do (run c frame e m) (λ t m1. run_all c frame es (trees ++ t ∷ []) m1 f)

abbrev pub wrote : Span → Option Memory → Ran
wrote s None = stuck s
wrote s (Some m) = gives unit m

-- `let` writes the variable's cell
abbrev pub run_stmt : Call → Frame → Stmt → Memory → Ran
run_stmt c frame (bind s k e) m = then_do (run c frame e m) (λ t m1. wrote s (option_and_then (λ a. write_cell m1 a t) (slice_get frame k)))

abbrev pub run_last : Call → Frame → MaybeExpr → Memory → Ran
run_last c frame no_maybeexpr m = gives unit m
run_last c frame (some_maybeexpr e) m = run c frame e m

abbrev pub run_body : Call → Frame → Stmts → MaybeExpr → Memory → Ran
run_body c frame no_stmts last m = run_last c frame last m
run_body c frame (more_stmts st rest) last m = then_do (run_stmt c frame st m) (λ _ m1. run_body c frame rest last m1)

abbrev pub run_block : Call → Frame → Block → Memory → Ran
run_block c frame (block s stmts last) m = run_body c frame stmts last m

-- the cells that a call makes: one per variable, the parameters holding the arguments
abbrev pub made_cells : List (List ℕ) → List MTree → List Cell
made_cells [] args = []
made_cells (v ∷ vs) [] = empty ∷ made_cells vs []
made_cells (v ∷ vs) (a ∷ args) = holds a ∷ made_cells vs args

-- their numbers, from the first new one on
abbrev pub frame_from : ℕ → List (List ℕ) → Frame
frame_from n [] = []
frame_from n (v ∷ vs) = n ∷ frame_from (n + 1) vs

abbrev pub left : Frame → Ran → Ran
left frame r = then_do r (λ t m. gives t (drop_frame frame m))

-- a call of this function: its frame is made, its body runs, its frame goes
abbrev pub entered : Call → Span → Option Function → List MTree → Memory → Ran
entered c s None args m = stuck s
entered c s (Some f) args m =
    if length args == f.parameters
    then left (frame_from (length m) f.variables) (run_block c (frame_from (length m) f.variables) f.body (m ++ made_cells f.variables args))
    else stuck s

-- a call at a bound: at 0 the bound was too small, at k + 1 the body runs at k
unfoldable pub call_at : Program → ℕ → Call
call_at p zero s f args m = more
call_at p (suc k) s f args m = entered (call_at p k) s (slice_get p.functions f) args m

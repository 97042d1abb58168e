-- How many turns pending work can take at most: each step of code may make a call, whose code is no
-- longer than all code together and whose calls have less fuel.
use Rattle.std.specs.Prelude.{ℕ, zero, suc, ◌+◌, ◌*◌, List, [], ◌∷◌}
use Rattle.pure_ast.specs.Code.{nodes_code}
use Rattle.pure_ast.specs.declared.def.Def.{Def}
use Rattle.pure_ast.specs.declared.def.Defs.{Defs}
use Rattle.pure_eval.specs.declared.frames.State.{State}
use Rattle.pure_eval.specs.declared.frames.Frame.{Frame}
use Rattle.pure_eval.specs.declared.frames.Turn.{Turn}
use Rattle.pure_eval.specs.declared.frames.Turn.TheVariants as T

-- the size of all code together
abbrev pub size_of_all : List Def → ℕ
size_of_all [] = 0
size_of_all (d ∷ rest) = nodes_code d.code + size_of_all rest

-- no code of these definitions is longer
abbrev pub longest : Defs → ℕ
longest defs = size_of_all defs.defs

-- turns for one step of code, where code has at most k steps
unfoldable pub weight : ℕ → ℕ → ℕ
weight k zero = 1
weight k (suc n) = k * weight k n + 1

-- turns of code with its variables
abbrev pub state_cost : Defs → State → ℕ
state_cost defs s = nodes_code s.code.now * weight (longest defs) s.fuel

-- turns that a turn leaves, without the pending binds
abbrev pub turn_cost : Defs → Turn → ℕ
turn_cost defs (T.Go s) = state_cost defs s
turn_cost defs (T.Done a) = 0

-- turns of all pending binds
abbrev pub stack_cost : Defs → List Frame → ℕ
stack_cost defs [] = 0
stack_cost defs (f ∷ frames) = state_cost defs f.rest + stack_cost defs frames

-- turns that are left in all
abbrev pub whole_cost : Defs → List Frame → Turn → ℕ
whole_cost defs frames (T.Go s) = stack_cost defs frames + state_cost defs s
whole_cost defs frames (T.Done a) = 0

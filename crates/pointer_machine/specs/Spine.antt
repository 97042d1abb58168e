-- An expression along its left sides: what it comes to, and how large its parts are.
use Rattle.std.specs.Prelude.{ℕ, ◌<◌, List, [], slice_get, Ok}
use Rattle.aen_base.specs.Numbers.{Number}
use Rattle.sums_ast.specs.Tree.{Expr, exprs, nodes_exprs}
use Rattle.pointer_machine.specs.declared.spine.First.{First}
use Rattle.pointer_machine.specs.declared.spine.First.TheVariants as F
use Rattle.pointer_machine.specs.declared.spine.Right.{Right}
use Rattle.pointer_machine.specs.declared.spine.Spine.{Spine}
use Rattle.source_meaning.specs.Spine.{after_rights}
pub use Rattle.source_meaning.specs.Spine.{AreBelow}
pub use Rattle.pointer_machine.specs.Values.{value, Call}
use Rattle.pointer_machine.specs.Values.{Valued, and_then, known, operate, values}

abbrev pub first_value : Call → List Number → First → Valued
first_value c vars (F.Number n) = Ok n
first_value c vars (F.Variable s k) = known s (slice_get vars k.0)
first_value c vars (F.Call s f args) = values c vars (exprs args.now) [] (c s f.0)

-- an operator after its left side
abbrev pub with_right : Call → List Number → Right → Valued → Valued
with_right c vars r left = and_then left (λ x. and_then (value c vars r.side.now) (λ y. operate r.span r.op x y))

-- the operators after the left side, the last of them first
abbrev pub rights_value : Call → List Number → List Right → Valued → Valued
rights_value c vars rights left = after_rights (with_right c vars) left rights

abbrev pub spine_value : Call → List Number → Spine → Valued
spine_value c vars s = rights_value c vars s.rights (first_value c vars s.first)

-- how many nodes the arguments have
abbrev pub first_nodes : First → ℕ
first_nodes (F.Number n) = 0
first_nodes (F.Variable s k) = 0
first_nodes (F.Call s f args) = nodes_exprs (exprs args.now)

abbrev pub right_side : Right → Expr
right_side r = r.side.now

-- the parts are smaller than this number
pub record IsBelow (n : ℕ) (s : Spine) : Type 0 where
  pub first : first_nodes s.first < n
  pub rights : AreBelow right_side n s.rights

-- Code is larger than its parts.
use Rattle.std.specs.Prelude.{◌≤◌, ◌+◌, ◌*◌, ℕ, Option, Some, None, List, [], ◌∷◌}
use Rattle.std.proofs.Common.{arith}
use denote.Param.Weighed.{most}
use Rattle.pure_ast.specs.declared.code.CodeNode.{CodeNode}
use Rattle.pure_ast.specs.declared.code.CodeNode.TheVariants as N
use Rattle.pure_ast.specs.declared.code.Code.TheShapes as shapes
use Rattle.pure_ast.specs.declared.code.Code.TheDeep.{deep-CodeNode}
use Rattle.pure_ast.specs.declared.pat.Pat.{Pat}
use Rattle.pure_ast.specs.Code.{Code, arms, nodes_code, nodes_arms}
use Rattle.pure_ast.specs.CodeView.{code_of}

abbrev arm_weight : Pat × Code → ℕ
arm_weight = shapes.weighed-CodeNode-Match-1-at-2.weight Code (λ c. nodes_code c + 1)

most_arms : (all : List (Pat × Code)) → most arm_weight all ≤ nodes_arms (arms all) + 1
most_arms [] = omega arith
most_arms (x ∷ xs) = omega (arith, most_arms xs)

pub code_falls : (n : CodeNode) → deep-CodeNode n ≤ nodes_code (code_of n)
code_falls (N.Match t all) = omega (arith, most_arms all)
code_falls (N.BindMatch v t all rest) = omega (arith, most_arms all)
code_falls _ = omega arith

abbrev drop_weight : Pat × Code → ℕ
drop_weight = shapes.weighed-CodeNode-Match-1-at-2.weight Code (λ c. 2 * (nodes_code c + 1) + 0)

-- the arms of a match are smaller than the match
pub most_dropped : (all : List (Pat × Code)) → most drop_weight all ≤ 2 * nodes_arms (arms all)
most_dropped [] = omega arith
most_dropped (x ∷ xs) = omega (arith, most_dropped xs)

-- the nodes of arms that wait
abbrev pub nodes_waiting : Option (List (Pat × Code)) → ℕ
nodes_waiting None = 0
nodes_waiting (Some all) = nodes_arms (arms all)

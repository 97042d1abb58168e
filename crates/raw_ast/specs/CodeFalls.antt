-- Code is larger than its parts.
use Rattle.std.specs.Prelude.{◌≤◌, ◌+◌, ◌*◌, ℕ, Option, Some, None, List, [], ◌∷◌}
use Rattle.std.proofs.Common.{arith}
use denote.Param.Weighed.{most}
use Rattle.raw_ast.specs.declared.code.RawCodeNode.{RawCodeNode}
use Rattle.raw_ast.specs.declared.code.RawCodeNode.TheVariants as N
use Rattle.raw_ast.specs.declared.code.RawCode.TheShapes as shapes
use Rattle.raw_ast.specs.declared.code.RawCode.TheDeep.{deep-RawCodeNode}
use Rattle.raw_ast.specs.declared.pattern.Pattern.{Pattern}
use Rattle.raw_ast.specs.Code.{RawCode, rawarms, nodes_rawcode, nodes_rawarms}
use Rattle.raw_ast.specs.CodeView.{code_of}

abbrev arm_weight : Pattern × RawCode → ℕ
arm_weight = shapes.weighed-RawCodeNode-Match-1-at-2.weight RawCode (λ c. nodes_rawcode c + 1)

most_arms : (all : List (Pattern × RawCode)) → most arm_weight all ≤ nodes_rawarms (rawarms all) + 1
most_arms [] = omega arith
most_arms (x ∷ xs) = omega (arith, most_arms xs)

pub code_falls : (n : RawCodeNode) → deep-RawCodeNode n ≤ nodes_rawcode (code_of n)
code_falls (N.Match t all) = omega (arith, most_arms all)
code_falls _ = omega arith

abbrev drop_weight : Pattern × RawCode → ℕ
drop_weight = shapes.weighed-RawCodeNode-Match-1-at-2.weight RawCode (λ c. 2 * (nodes_rawcode c + 1) + 0)

-- the arms of a match are smaller than the match
pub most_dropped : (all : List (Pattern × RawCode)) → most drop_weight all ≤ 2 * nodes_rawarms (rawarms all)
most_dropped [] = omega arith
most_dropped (x ∷ xs) = omega (arith, most_dropped xs)

-- the nodes of arms that wait
abbrev pub nodes_waiting : Option (List (Pattern × RawCode)) → ℕ
nodes_waiting None = 0
nodes_waiting (Some all) = nodes_rawarms (rawarms all)

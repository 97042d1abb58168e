-- A node's parts are smaller than the node.
-- Made by tools/code.py from tools/rust_ast.desc.py.
use Rattle.std.specs.Prelude.{ℕ, ◌+◌, ◌*◌, ◌≤◌, List, [], ◌∷◌}
use Rattle.std.proofs.Common.{arith}
use denote.Param.Weighed.{most, w_this}
use Rattle.rust_ast.specs.Written as t
use Rattle.rust_ast.specs.WrittenView.{written_of}
use Rattle.rust_ast.specs.declared.written.Written.TheDeep.{deep-WrittenNode, size-Written}
use Rattle.rust_ast.specs.declared.written.WrittenNode.{WrittenNode}
use Rattle.rust_ast.specs.declared.written.WrittenNode.TheVariants as Written_

most_writtens : (xs : List t.Written) → most (λ x. t.nodes_written x + 1) xs ≤ t.nodes_writtens (t.writtens xs) + 1
most_writtens [] = omega arith
most_writtens (x ∷ xs) = omega (arith, most_writtens xs)

abbrev size_writtens : t.Written → ℕ
size_writtens = w_this.weight t.Written size-Written

pub drop_writtens : (xs : List t.Written) → most size_writtens xs ≤ 2 * t.nodes_writtens (t.writtens xs)
drop_writtens [] = omega arith
drop_writtens (x ∷ xs) = omega (arith, drop_writtens xs)

pub written_falls : (e : WrittenNode) → deep-WrittenNode e ≤ t.nodes_written (written_of e)
written_falls (Written_.Tuple a0 a1) = omega (arith, most_writtens a1)
written_falls (Written_.Named a0 a1 a2) = omega (arith, most_writtens a2)
written_falls (Written_.Param a0 a1 a2) = omega (arith, most_writtens a2)
written_falls _ = omega arith

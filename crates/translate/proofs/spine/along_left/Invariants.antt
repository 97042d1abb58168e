use Rattle.std.proofs.Common.{◌≡◌, ℕ, ◌≤◌}
use Rattle.sums_ast.specs.Tree.{nodes_expr}
use Rattle.translate.specs.Spine as spec
use Rattle.translate.proofs.spine.along_left.Given as goal

abbrev pub invariant-loop-left : goal.invariant-loop-left
invariant-loop-left l = record {
  whole : (n : ℕ) → spec.rights_emitted n l.atoms (spec.emit n l.atoms l.left) l.rights ≡ spec.emit n l.atoms l.expr;
  left : nodes_expr l.left ≤ nodes_expr l.expr;
  rights : spec.AreBelow spec.right_side (nodes_expr l.expr) l.rights;
}

use Rattle.std.proofs.Common.{◌≡◌, ◌≤◌, List}
use Rattle.aen_base.specs.Numbers.{Number}
use Rattle.sums_ast.specs.Tree.{nodes_expr}
use Rattle.pointer_machine.specs.Spine as spec
use Rattle.pointer_machine.proofs.spine.along_left.Given as goal

abbrev pub invariant-loop-left : goal.invariant-loop-left
invariant-loop-left l = record {
  whole : (c : spec.Call) (vars : List Number) → spec.rights_value c vars l.rights (spec.value c vars l.left) ≡ spec.value c vars l.expr;
  left : nodes_expr l.left ≤ nodes_expr l.expr;
  rights : spec.AreBelow spec.right_side (nodes_expr l.expr) l.rights;
}

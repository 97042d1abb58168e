use Rattle.std.proofs.Common.{◌≡◌, replicate, map, take, length, false}
use Rattle.core_ty.proofs.marks.no_marks.Given as goal

abbrev pub invariant-loop-decl : goal.invariant-loop-decl
invariant-loop-decl l = l.rows ≡ map (λ decl. replicate (length decl.params) false) (take l.decl-index l.decls)

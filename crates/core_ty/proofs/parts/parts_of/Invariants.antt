use Rattle.std.proofs.Common.{◌≡◌, ◌++◌, drop}
use Rattle.core_ty.specs.Containment as spec
use Rattle.core_ty.specs.Marks.{marked}
use Rattle.core_ty.proofs.parts.parts_of.Given as goal

abbrev pub invariant-loop-variant : goal.invariant-loop-variant
invariant-loop-variant l =
    l.found ++ spec.parts_of_variants (marked l.marks) (drop l.variant-index l.variant-items) ≡ spec.parts_of_variants (marked l.marks) l.variant-items

use Rattle.std.proofs.Common.{◌≡◌, ◌++◌, drop}
use Rattle.core_ty.specs.Containment as spec
use Rattle.core_ty.specs.Marks.{marked}
use Rattle.core_ty.proofs.parts.add_fields.Given as goal

abbrev pub invariant-loop-field : goal.invariant-loop-field
invariant-loop-field l =
    l.found ++ spec.parts_of_fields (marked l.marks) (drop l.field-index l.fields) ≡ l.initial.found ++ spec.parts_of_fields (marked l.marks) l.fields

-- Type arguments that are written in bodies, in which no borrow may stand.
use Rattle.std.specs.Prelude.{true, Result, Ok, List}
use Rattle.core_ty.specs.declared.decl.TypeDecl.{TypeDecl}
use Rattle.type_rules.specs.Faults.{Fault, and_then}
use Rattle.type_rules.specs.TypesInBodies.{numbers}
use Rattle.type_rules.specs.WrittenTypes.{plain, written_all}
use Rattle.core_ty.specs.Types as t
use Rattle.rust_ast.specs.Written as w

abbrev pub plain_arguments : List TypeDecl → w.Writtens → Result (List t.Ty) Fault
plain_arguments ds xs = and_then (written_all (numbers ds) plain true xs 0) (λ r. Ok (t.tys_list r.0))

-- The signatures of functions, and their regions (LANGUAGE.md, "Regions").
use Rattle.std.specs.List.{list_all}
use Rattle.std.specs.Prelude.{false, Result, Ok, ℕ, ◌==◌, if◌then◌else◌, Option, Some, None, List, [], ◌∷◌, length, ◌++◌}
use Rattle.core_ty.specs.Positions.{positions_at}
use Rattle.core_ty.specs.declared.decl.Sig.{Sig}
use Rattle.core_ty.specs.declared.places.Position.{Position}
use Rattle.rust_ast.specs.declared.resolution.Function.{Function}
use Rattle.rust_ast.specs.declared.resolution.Resolved.{Resolved}
use Rattle.type_rules.specs.Declarations.{parameter_numbers}
use Rattle.type_rules.specs.Faults.{Fault, and_then}
use Rattle.type_rules.specs.WrittenTypes.{Standing, Typing, input, output, written}
use Rattle.core_ty.specs.Types as t
use Rattle.rust_ast.specs.Written as w

-- the one region of the parameters
abbrev pub one_region : List Position → Option ℕ
one_region [] = None
one_region (p ∷ ps) = if list_all (λ q. q.region.0 == p.region.0) ps then Some p.region.0 else None

abbrev pub positions_in : List t.Ty → List Position
positions_in [] = []
positions_in (x ∷ xs) = positions_at [] x ++ positions_in xs

abbrev pub parameters_written : List ℕ → List w.Written → ℕ → Result (List t.Ty × ℕ) Fault
parameters_written ns [] next = Ok ([], next)
parameters_written ns (x ∷ xs) next =
    and_then (written ns input false x next) (λ r.
    and_then (parameters_written ns xs r.1) (λ q. Ok (r.0 ∷ q.0, q.1)))

abbrev pub result_written : List ℕ → Standing → w.MaybeWritten → ℕ → Typing
result_written ns p w.no_maybewritten next = Ok (t.unit, next)
result_written ns p (w.some_maybewritten x) next = written ns p false x next

-- the signature of a function, where declared types have these numbers of parameters
abbrev pub signature : List ℕ → Function → Result Sig Fault
signature ns f =
    and_then (parameters_written ns f.params (length f.lifetimes)) (λ r.
    and_then (result_written ns (output (one_region (positions_in r.0))) (w.maybewritten f.result) r.1) (λ q.
    Ok (record { type_params = length f.type_params; regions = r.1; params = r.0; result = q.0 })))

-- the signature of a program's function, or the first fault in it
unfoldable pub signature_of : Resolved → Function → Result Sig Fault
signature_of prog f = signature (parameter_numbers prog.types) f

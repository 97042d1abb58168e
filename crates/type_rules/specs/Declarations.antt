-- The declared types of a program (LANGUAGE.md, "Types").
use Rattle.std.specs.Prelude.{true, Result, Ok, ℕ, List, [], ◌∷◌, length, map}
use Rattle.core_ty.specs.declared.decl.TypeDecl.{TypeDecl}
use Rattle.core_ty.specs.declared.decl.Variant.{Variant}
use Rattle.rust_ast.specs.declared.resolution.Declared.{Declared}
use Rattle.rust_ast.specs.declared.resolution.Resolved.{Resolved}
use Rattle.type_rules.specs.Faults.{Fault, and_then}
use Rattle.type_rules.specs.WrittenTypes.{plain, written}
use Rattle.core_ty.specs.Types as t
use Rattle.rust_ast.specs.Written as w

abbrev pub parameter_numbers : List Declared → List ℕ
parameter_numbers ds = map (λ (d : Declared). length d.params) ds

abbrev pub fields_written : List ℕ → List (List ℕ × w.Written) → Result (List (List ℕ × t.Ty)) Fault
fields_written ns [] = Ok []
fields_written ns (f ∷ fs) =
    and_then (written ns plain true f.1 0) (λ r.
    and_then (fields_written ns fs) (λ q. Ok ((f.0, r.0) ∷ q)))

abbrev pub variants_written : List ℕ → List (List ℕ × List (List ℕ × w.Written)) → Result (List Variant) Fault
variants_written ns [] = Ok []
variants_written ns (v ∷ vs) =
    and_then (fields_written ns v.1) (λ fs.
    and_then (variants_written ns vs) (λ q. Ok (record { name = v.0; fields = fs } ∷ q)))

-- the declarations, or the first fault in them but EndlessType
abbrev pub declarations : List ℕ → List Declared → Result (List TypeDecl) Fault
declarations ns [] = Ok []
declarations ns (d ∷ ds) =
    and_then (variants_written ns d.variants) (λ vs.
    and_then (declarations ns ds) (λ q.
    Ok (record { name = d.name; span = d.span; params = d.params; is_struct = d.is_struct; variants = vs } ∷ q)))

-- the declared types of a program, or the first fault in them but EndlessType
unfoldable pub declared_types : Resolved → Result (List TypeDecl) Fault
declared_types prog = declarations (parameter_numbers prog.types) prog.types

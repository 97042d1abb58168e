-- Typing of a whole program: declarations, signatures, bodies, each in source order (LANGUAGE.md,
-- "Types").
use Rattle.std.specs.Prelude.{Result, Ok, Err, ℕ, length, Some, List, [], ◌∷◌, map, slice_get, ◌≡◌, ◌<◌}
use Rattle.core_ty.specs.Containment.{IsEndless}
use Rattle.core_ty.specs.declared.decl.Sig.{Sig}
use Rattle.core_ty.specs.declared.decl.TypeDecl.{TypeDecl}
use Rattle.rust_ast.specs.declared.resolution.Function.{Function}
use Rattle.rust_ast.specs.declared.resolution.Resolved.{Resolved}
use Rattle.rust_ast.specs.declared.resolution.Variable.{Variable}
use Rattle.rust_ast.specs.declared.spelling.Spelled.{Spelled}
use Rattle.type_rules.specs.Bodies.{read_block}
use Rattle.type_rules.specs.Declarations.{declared_types}
use Rattle.type_rules.specs.Faults.{Fault, and_then, at}
use Rattle.type_rules.specs.Forms.{want}
use Rattle.type_rules.specs.Signatures.{signature_of}
use Rattle.type_rules.specs.declared.fault.KindOfFault.TheVariants.{EndlessType}
use Rattle.type_rules.specs.declared.state.Scope.{Scope}
use Rattle.type_rules.specs.declared.state.State.{State}
use Rattle.rust_ast.specs.declared.spelling.Function as spelled
use Rattle.core_ty.specs.Types as t

-- the signatures of functions in source order
abbrev pub signatures : Resolved → List Function → Result (List Sig) Fault
signatures prog [] = Ok []
signatures prog (f ∷ fs) =
    and_then (signature_of prog f) (λ g.
    and_then (signatures prog fs) (λ gs. Ok (g ∷ gs)))

abbrev pub scope_of : List TypeDecl → List Sig → List Variable → Sig → Scope
scope_of ds gs vs g = record { decls = ds; sigs = gs; variables = vs; result = g.result }

-- where a body begins: the parameters have their types
abbrev pub first_types : List t.Ty → List Variable → List t.Ty
first_types xs [] = []
first_types [] (v ∷ vs) = t.unit ∷ first_types [] vs
first_types (x ∷ xs) (v ∷ vs) = x ∷ first_types xs vs

abbrev pub beginning : List Variable → Sig → State
beginning vs g = record { types = first_types g.params vs; loops = [] }

abbrev pub variable_names : List Variable → List (List ℕ)
variable_names vs = map (λ (v : Variable). v.name) vs

-- a function: its body gives the result's type
abbrev pub typed_function : List TypeDecl → List Sig → Function → Sig → Result spelled.Function Fault
typed_function ds gs f g =
    and_then (read_block (scope_of ds gs f.variables g) f.body (want g.result) (beginning f.variables g)) (λ r.
    Ok (record {
      name = f.name;
      span = f.span;
      lifetimes = f.lifetimes;
      type_params = f.type_params;
      sig = g;
      variables = variable_names f.variables;
      types = r.1.types;
      body = r.0;
    }))

abbrev pub typed_functions : List TypeDecl → List Sig → List Function → List Sig → Result (List spelled.Function) Fault
typed_functions ds gs [] hs = Ok []
typed_functions ds gs (f ∷ fs) [] = Ok []
typed_functions ds gs (f ∷ fs) (g ∷ hs) =
    and_then (typed_function ds gs f g) (λ r.
    and_then (typed_functions ds gs fs hs) (λ rs. Ok (r ∷ rs)))

-- the bodies, where the declarations and signatures are these
unfoldable pub typed_bodies : List TypeDecl → List Sig → List Function → Result Spelled Fault
typed_bodies ds gs fs = and_then (typed_functions ds gs fs gs) (λ rs. Ok (record { decls = ds; functions = rs }))

-- all of it, where no declared type contains itself outside Box
unfoldable pub typed_program : Resolved → Result Spelled Fault
typed_program prog =
    and_then (declared_types prog) (λ ds.
    and_then (signatures prog prog.functions) (λ gs.
    typed_bodies ds gs prog.functions))

-- a declared type that contains itself outside Box, the first one
pub record IsFirstEndless (ds : List TypeDecl) (d : ℕ) : Type 0 where
  pub decl : TypeDecl
  pub found : slice_get ds d ≡ Some decl
  pub endless : IsEndless ds d
  pub first : (k : ℕ) → k < d → IsEndless ds k → ⊥

-- the answer for a program: a fault in a declaration; the name of the first type that contains itself
-- outside Box; else what signatures and bodies give
pub data Typed (prog : Resolved) : Result Spelled Fault → Type 0 where
  bad_declaration : {x : Fault} → declared_types prog ≡ Err x → Typed prog (Err x)
  endless : {ds : List TypeDecl} {d : ℕ} → declared_types prog ≡ Ok ds →
      (h : IsFirstEndless ds d) → Typed prog (Err (at h.decl.span EndlessType))
  answered : {ds : List TypeDecl} → declared_types prog ≡ Ok ds →
      ((d : ℕ) → d < length ds → IsEndless ds d → ⊥) → Typed prog (typed_program prog)

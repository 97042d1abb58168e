-- Types that are written in bodies, where lifetimes mean nothing (LANGUAGE.md, "Types").
use Rattle.std.specs.Prelude.{true, false, Result, Ok, ℕ, Option, Some, None, List, [], ◌∷◌, length, map}
use Rattle.core_ty.specs.declared.decl.TypeDecl.{TypeDecl}
use Rattle.type_rules.specs.Faults.{Fault, and_then}
use Rattle.type_rules.specs.WrittenTypes.{plain, written, written_all}
use Rattle.core_ty.specs.Types as t
use Rattle.rust_ast.specs.Written as w

-- how many parameters each declared type has
abbrev pub numbers : List TypeDecl → List ℕ
numbers ds = map (λ d. length d.params) ds

-- a type in a body, where lifetimes mean nothing
abbrev pub plain_type : List TypeDecl → w.Written → Result t.Ty Fault
plain_type ds x = and_then (written (numbers ds) plain false x 0) (λ r. Ok r.0)

-- the type that a `let` may write
abbrev pub plain_option : List TypeDecl → w.MaybeWritten → Result (Option t.Ty) Fault
plain_option ds w.no_maybewritten = Ok None
plain_option ds (w.some_maybewritten x) = and_then (plain_type ds x) (λ y. Ok (Some y))

-- the lists of type arguments in a path
abbrev pub arguments_lists : List TypeDecl → w.Turbos → Result (List (List t.Ty)) Fault
arguments_lists ds w.no_turbo = Ok []
arguments_lists ds (w.one_turbo xs) = and_then (written_all (numbers ds) plain true xs 0) (λ r. Ok (t.tys_list r.0 ∷ []))
arguments_lists ds (w.two_turbos xs ys) =
    and_then (written_all (numbers ds) plain true xs 0) (λ r.
    and_then (written_all (numbers ds) plain true ys 0) (λ q. Ok (t.tys_list r.0 ∷ t.tys_list q.0 ∷ [])))

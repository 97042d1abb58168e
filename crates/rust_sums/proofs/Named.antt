-- The names of the functions that are found.
use Rattle.std.proofs.Common.{◌≡◌, refl, sym, subst, ap, ◌∙◌, ℕ, List, [], ◌∷◌, ◌++◌, map, Some, append_assoc}
use Rattle.std.proofs.lemmas.List.{append-nil}
use Rattle.std.proofs.lemmas.Option.{same_Some}
use Rattle.rust_ast.specs.declared.resolution.Function as resolved
use Rattle.sums_ast.specs.declared.function.Function as sums
use Rattle.text_meaning.specs.Lists.{Each}
use Rattle.text_meaning.specs.Names.{IsName}
use Rattle.rust_sums.specs.Sums as spec
use Rattle.rust_sums.proofs.Naming.{name_is}
use Rattle.rust_sums.proofs.Steps.{found_after}
use Rattle.rust_sums.proofs.Typed.{function_found}

abbrev pub names : List sums.Function → List (List ℕ)
names fs = map (λ (f : sums.Function). f.name) fs

abbrev pub resolved_names : List resolved.Function → List (List ℕ)
resolved_names fs = map (λ (f : resolved.Function). f.name) fs

functions_named : (before : List sums.Function) (fs : List resolved.Function) (all : List sums.Function) → spec.functions before fs ≡ Some all →
    (rest : List sums.Function) × (all ≡ before ++ rest) × (names rest ≡ resolved_names fs) × Each IsName (names rest)
functions_named before [] all h = ([], sym (same_Some before all h) ∙ sym (append-nil before), refl, tt)
functions_named before (f ∷ fs) all h =
    let (g, is, h2) = found_after (spec.function before f) (λ g. spec.functions (before ++ g ∷ []) fs) all h in
    let found = function_found before f g is in
    let (rest, e, same, are) = functions_named (before ++ g ∷ []) fs all h2 in
    (g ∷ rest, e ∙ append_assoc before (g ∷ []) rest, (λ i. found.same i ∷ same i), (subst IsName (sym found.same) (name_is f.name found.named), are))

pub functions_are_named : (fs : List resolved.Function) (all : List sums.Function) → spec.functions [] fs ≡ Some all → Each IsName (names all)
functions_are_named fs all h =
    let (rest, e, same, are) = functions_named [] fs all h in
    subst (λ (l : List sums.Function). Each IsName (names l)) (sym e) are

pub names_are_kept : (fs : List resolved.Function) (all : List sums.Function) → spec.functions [] fs ≡ Some all → names all ≡ resolved_names fs
names_are_kept fs all h =
    let (rest, e, same, are) = functions_named [] fs all h in
    ap names e ∙ same

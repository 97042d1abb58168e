-- Going through a list: a step for each item, from left to right, behind what was found before.
use Rattle.std.specs.Prelude.{true, ℕ, List, [], ◌∷◌, ◌++◌, Result, Ok, Err}
use Rattle.core_ty.specs.declared.decl.TypeDecl.{TypeDecl}
use Rattle.core_ty.specs.declared.decl.Variant.{Variant}
use Rattle.rust_ast.specs.declared.resolution.Declared.{Declared}
use Rattle.type_rules.specs.Declarations.{fields_written, variants_written}
use Rattle.type_rules.specs.Faults.{Fault, and_then}
use Rattle.type_rules.specs.WrittenTypes.{plain, written}
use Rattle.core_ty.specs.Types as t
use Rattle.rust_ast.specs.Written as w

module _ {A B : Type 0} (step : A → Result B Fault) where
  abbrev pub each_onto : List B → List A → Result (List B) Fault
  each_onto done [] = Ok done
  each_onto done (x ∷ xs) = and_then (step x) (λ y. each_onto (done ++ y ∷ []) xs)

-- each step sees what the one before left
module _ {A B S : Type 0} (step : A → S → Result (B × S) Fault) where
  abbrev pub walk_onto : List B → List A → S → Result (List B × S) Fault
  walk_onto done [] st = Ok (done, st)
  walk_onto done (x ∷ xs) st = and_then (step x st) (λ y. walk_onto (done ++ y.0 ∷ []) xs y.1)

-- an answer in another form
abbrev pub on_ok : {A B : Type 0} → (A → B) → Result A Fault → Result B Fault
on_ok f (Ok x) = Ok (f x)
on_ok f (Err x) = Err x

-- types as a tree has them, with the next new region
abbrev pub in_tys : List t.Ty × ℕ → t.Tys × ℕ
in_tys r = (t.tys r.0, r.1)

abbrev pub field_written : List ℕ → List ℕ × w.Written → Result (List ℕ × t.Ty) Fault
field_written ns f = and_then (written ns plain true f.1 0) (λ r. Ok (f.0, r.0))

abbrev pub variant_written : List ℕ → List ℕ × List (List ℕ × w.Written) → Result Variant Fault
variant_written ns v = and_then (fields_written ns v.1) (λ fs. Ok (record { name = v.0; fields = fs }))

abbrev pub declaration : List ℕ → Declared → Result TypeDecl Fault
declaration ns d =
    and_then (variants_written ns d.variants) (λ vs.
    Ok (record { name = d.name; span = d.span; params = d.params; is_struct = d.is_struct; variants = vs }))

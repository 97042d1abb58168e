-- Types put in place of the parameters of all types of a list.
use Rattle.std.proofs.Common.{◌≡◌, refl, ap, ◌∙◌, ℕ, List, [], ◌∷◌, map, Some, None}
use Rattle.std.specs.Prelude.{◌==◌, if◌then◌else◌, slice_get}
use Rattle.std.specs.Option.{option_map, option_and_then}
use Rattle.aen_base.specs.declared.ids.TypeId.{TypeId}
use Rattle.pure_ast.specs.declared.ctor.CtorId.TheVariants.{Of}
use Rattle.pure_ast.specs.declared.def.Defs.{Defs}
use Rattle.pure_ast.specs.declared.def.PType.{PType}
use Rattle.pure_ast.specs.Types.{PTy, ptys, ptys_back, product, named, more_ptys}
use Rattle.text_meaning.specs.HasType.{put_in, put_in_all, tuple_types, part_types, field_types}
use Rattle.text_meaning.specs.Lookups.{Variant, variant}

pub put_in_each : (args xs : List PTy) → put_in_all args (ptys xs) ≡ ptys (map (put_in args) xs)
put_in_each args [] = refl
put_in_each args (x ∷ xs) = ap (more_ptys (put_in args x)) (put_in_each args xs)

-- the types of parts, where the parts of the type are a list
pub product_types : (parts : List PTy) → tuple_types (product (ptys parts)) ≡ Some parts
product_types parts = ap Some (ptys_back parts)

pub named_types : (defs : Defs) (t : ℕ) (args : List PTy) (u : TypeId) (k : ℕ) →
    part_types defs (named t (ptys args)) (Of u k) ≡ (if t == u.0 then option_map (field_types args) (variant defs t k) else None)
named_types defs t args u k =
    ap (λ xs. if t == u.0 then option_map (field_types xs) (variant defs t k) else None) (ptys_back args)

-- a variant that is there, and one that is not
pub variant_there : (types from : List PType) (variants : List Variant) (t k : ℕ) (d : PType) (v : Variant) →
    from ≡ types → Some d ≡ slice_get from t → variants ≡ d.variants → Some v ≡ slice_get variants k →
    Some v ≡ option_and_then (λ e. slice_get e.variants k) (slice_get types t)
variant_there types from variants t k d v a b c e =
    e ∙ ap (λ l. slice_get l k) c ∙ ap (option_and_then (λ x. slice_get x.variants k)) (b ∙ ap (λ l. slice_get l t) a)

pub variant_missing : (types from : List PType) (variants : List Variant) (t k : ℕ) (d : PType) →
    from ≡ types → Some d ≡ slice_get from t → variants ≡ d.variants → None ≡ slice_get variants k →
    None ≡ option_and_then (λ e. slice_get e.variants k) (slice_get types t)
variant_missing types from variants t k d a b c e =
    e ∙ ap (λ l. slice_get l k) c ∙ ap (option_and_then (λ x. slice_get x.variants k)) (b ∙ ap (λ l. slice_get l t) a)

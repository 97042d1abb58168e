-- A type has no value down to a level exactly where it has no skeleton.
use Rattle.std.proofs.Common.{◌≡◌, ℕ, zero, suc, ◌+◌, refl, sym, ◌∙◌}
use Rattle.std.specs.Prelude.{Bool, true, false, ◌&&◌, ◌||◌, Option, Some, None, List, [], ◌∷◌, map, slice_get, ℤ}
use Rattle.std.specs.List.{list_all, list_any}
use Rattle.core_ty.specs.declared.decl.TypeDecl.{TypeDecl}
use Rattle.core_ty.specs.declared.decl.Variant.{Variant}
use Rattle.type_rules.specs.Skeletons.{Skeleton, Skeletons, content, field_types, level, made, more_skeletons, of_declared, of_variants, put_before, rows, skeletons}
use Rattle.type_cover.specs.Splitting.{is_void, void_declared, void_level, void_variant}
use Rattle.type_cover.proofs.Tests.{is_nil, nil_append, nil_map}
use Rattle.core_ty.specs.Types as t

absorbed : (a b : Bool) → (b && (a || b)) ≡ b
absorbed true true = refl
absorbed true false = refl
absorbed false true = refl
absorbed false false = refl

no_pairs : (xs : List Skeleton) (more : List Skeletons) → is_nil (put_before xs more) ≡ (is_nil xs || is_nil more)
no_pairs [] more = refl
no_pairs (x ∷ xs) more =
    nil_append (map (more_skeletons x) more) (put_before xs more)
    ∙ (λ i. nil_map (more_skeletons x) more i && no_pairs xs more i) ∙ absorbed (is_nil xs) (is_nil more)

module _ (f : t.Ty → Bool) (g : t.Ty → List Skeleton) (same : (x : t.Ty) → f x ≡ is_nil (g x)) where
  no_rows : (xs : List t.Ty) → list_any f xs ≡ is_nil (rows g xs)
  no_rows [] = refl
  no_rows (x ∷ xs) = (λ i. same x i || no_rows xs i) ∙ sym (no_pairs (g x) (rows g xs))

  no_parts : (v : ℕ) (xs : List t.Ty) → list_any f xs ≡ is_nil (map (made v) (rows g xs))
  no_parts v xs = no_rows xs ∙ sym (nil_map (made v) (rows g xs))

  no_variants : (args : List t.Ty) (k : ℕ) (vs : List Variant) → list_all (void_variant f args) vs ≡ is_nil (of_variants g args k vs)
  no_variants args k [] = refl
  no_variants args k (v ∷ vs) =
      (λ i. no_parts k (field_types args v.fields) i && no_variants args (k + 1) vs i)
      ∙ sym (nil_append (map (made k) (rows g (field_types args v.fields))) (of_variants g args (k + 1) vs))

  none_declared : (args : List t.Ty) (o : Option TypeDecl) → void_declared f args o ≡ is_nil (of_declared g args o)
  none_declared args None = refl
  none_declared args (Some d) = no_variants args 0 d.variants

  no_level : (ds : List TypeDecl) (zs : List ℤ) (x : t.Ty) → void_level f ds x ≡ is_nil (level g ds zs x)
  no_level ds zs (t.int i) = refl
  no_level ds zs t.bool = refl
  no_level ds zs t.unit = refl
  no_level ds zs (t.tuple xs) = no_parts 0 (t.tys_list xs)
  no_level ds zs (t.named d args) = none_declared (t.tys_list args) (slice_get ds d.0)
  no_level ds zs (t.param k) = refl
  no_level ds zs (t.boxed x) = refl
  no_level ds zs (t.ref r m x) = refl

pub void_is : (ds : List TypeDecl) (zs : List ℤ) (n : ℕ) (x : t.Ty) → is_void ds n x ≡ is_nil (skeletons ds zs n x)
void_is ds zs zero x = refl
void_is ds zs (suc n) x = no_level (is_void ds n) (skeletons ds zs n) (λ y. void_is ds zs n y) ds zs (content x)

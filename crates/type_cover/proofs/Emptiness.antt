-- Types without values, as code finds them.
use Rattle.std.proofs.Common.{◌≡◌, ℕ, zero, suc, ◌-◌, refl, ap, sym, subst, ◌∙◌, arith}
use Rattle.std.specs.Prelude.{Bool, Result, Ok, Err, IfOk, Some, List, [], ◌∷◌, ◌++◌, slice_get}
use Rattle.std.specs.List.{All, list_all, list_any}
use Rattle.std.proofs.lemmas.List.Elements.{All-append}
use Rattle.aen_base.specs.declared.ids.TypeId.{TypeId}
use Rattle.aen_base.specs.declared.memory.NoMem.{NoMem}
use Rattle.core_ty.specs.declared.decl.TypeDecl.{TypeDecl}
use Rattle.core_ty.specs.declared.decl.Variant.{Variant}
use Rattle.type_rules.specs.Skeletons.{content}
use Rattle.type_cover.specs.Remembered.{IsRight}
use Rattle.type_cover.specs.Splitting.{is_void, void_declared, void_level, void_variant}
use Rattle.type_cover.specs.declared.void.Known.{Known}
use Rattle.core_ty.specs.Types as t

one_less : (n : ℕ) → suc n - 1 ≡ n
one_less n = omega arith

-- from the level below
pub void_above : (ds : List TypeDecl) (n : ℕ) (x y : t.Ty) (b : Bool) → (n ≡ 0 → ⊥) → y ≡ content x → b ≡ void_level (is_void ds (n - 1)) ds y → b ≡ is_void ds n x
void_above ds zero x y b z e h = absurd (z refl)
void_above ds (suc n) x y b z e h = h ∙ ap (λ (k : ℕ). void_level (is_void ds k) ds y) (one_less n) ∙ ap (void_level (is_void ds n) ds) e

only : (ds : List TypeDecl) (k : Known) → IsRight ds k → All (IsRight ds) (k ∷ [])
only ds k r zero d l = r
only ds k r (suc n) d l = absurd (omega (arith, l))

pub remembered : (ds : List TypeDecl) (known after : List Known) (k : Known) → after ≡ known ++ k ∷ [] → IsRight ds k → All (IsRight ds) known → All (IsRight ds) after
remembered ds known after k e r h = subst (λ ks. All (IsRight ds) ks) (sym e) (All-append (IsRight ds) known (k ∷ []) h (only ds k r))

module _ (f : t.Ty → Bool) (ds : List TypeDecl) (x : t.Ty) where
  pub tuple_void : (xs : List t.Ty) (r : Result Bool NoMem) → x ≡ t.tuple (t.tys xs) → IfOk r (λ b. b ≡ list_any f xs) → IfOk r (λ b. b ≡ void_level f ds x)
  tuple_void xs (Ok b) e h = h ∙ ap (list_any f) (sym (t.tys_back xs)) ∙ ap (void_level f ds) (sym e)
  tuple_void xs (Err n) e h = tt

  pub named_void : (d : TypeId) (args : List t.Ty) (decl : TypeDecl) (vs : List Variant) (r : Result Bool NoMem) → x ≡ t.named d (t.tys args) →
      Some decl ≡ slice_get ds d.0 → vs ≡ decl.variants → IfOk r (λ b. b ≡ list_all (void_variant f args) vs) → IfOk r (λ b. b ≡ void_level f ds x)
  named_void d args decl vs (Ok b) e s v h =
      h ∙ ap (list_all (void_variant f args)) v ∙ ap (void_declared f args) s
      ∙ ap (λ (ys : List t.Ty). void_declared f ys (slice_get ds d.0)) (sym (t.tys_back args)) ∙ ap (void_level f ds) (sym e)
  named_void d args decl vs (Err n) e s v h = tt

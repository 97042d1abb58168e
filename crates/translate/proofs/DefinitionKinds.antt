-- The kinds of a program's definitions differ, and are in order.
use Rattle.std.proofs.Common.{◌≡◌, ℕ, suc, ◌+◌, ◌<◌, List, [], ◌∷◌, length, map, refl, ap, subst, arith, inr}
use Rattle.pure_ast.specs.declared.def.DefKind.TheVariants as K
use Rattle.pure_ast.specs.declared.def.Def.{Def}
use Rattle.sums_ast.specs.declared.function.Function.{Function}
use Rattle.text_meaning.specs.Lists.{Each, Differ}
use Rattle.text_meaning.specs.WellFormed.{function_of, AreInOrder}
use Rattle.translate.specs.Emit.{definitions}

kind_apart : (j k : ℕ) (fs : List Function) → j < k → Each (λ y. K.Forward (record { 0 = j }) ≡ y → ⊥) (map (λ (d : Def). d.kind) (definitions k fs))
kind_apart j k [] h = tt
kind_apart j k (f ∷ fs) h = (
  λ (e : K.Forward (record { 0 = j }) ≡ K.Forward (record { 0 = k })). let same : j ≡ k = ap function_of e in omega arith,
  kind_apart j (k + 1) fs (omega arith),
)

pub kinds_differ : (k : ℕ) (fs : List Function) → Differ (map (λ (d : Def). d.kind) (definitions k fs))
kinds_differ k [] = tt
kinds_differ k (f ∷ fs) = (kind_apart k (k + 1) fs (omega arith), kinds_differ (k + 1) fs)

pub in_order : (k : ℕ) (fs : List Function) (count : ℕ) → k + length fs ≡ count → AreInOrder k (definitions k fs) count
in_order k [] count e = omega arith
in_order k (f ∷ fs) count e =
    let next : suc k ≡ k + 1 = omega arith in
    inr (refl, subst (λ (j : ℕ). AreInOrder (suc k) (definitions j fs) count) next (in_order (suc k) fs count (omega arith)))

-- One function more that has another name.
use Rattle.std.proofs.Common.{◌≡◌, ℕ, zero, suc, ◌+◌, ◌<◌, ◌≤◌, List, [], ◌∷◌, length, get_or, refl, ap, sym, ◌∙◌, arith, inl, inr, ⊎_elim, ◌⊎◌}
use Rattle.std.specs.Prelude.{slice_get, Some}
use Rattle.std.proofs.lemmas.Option.{same_Some, slice_get_within}
use Rattle.sums_ast.specs.declared.function.Function.{Function}
use Rattle.call_frame.specs.Named.{NoneNamed}

pub function_at : (fs : List Function) (i : ℕ) (f : Function) → i < length fs → f ≡ get_or fs i f → slice_get fs i ≡ Some f
function_at [] i f h e = absurd (omega arith)
function_at (g ∷ fs) zero f h e = ap Some (sym e)
function_at (g ∷ fs) (suc i) f h e = function_at fs i f (omega arith) e

below_or_last : (k n : ℕ) → k < n + 1 → (k < n) ⊎ (k ≡ n)
below_or_last zero zero h = inr refl
below_or_last zero (suc n) h = inl (omega arith)
below_or_last (suc k) zero h = absurd (omega arith)
below_or_last (suc k) (suc n) h = ⊎_elim (λ (lt : k < n). inl (omega arith)) (λ (e : k ≡ n). inr (ap suc e)) (below_or_last k n (omega arith))

pub none_next : (fs : List Function) (name : List ℕ) (i : ℕ) (f : Function) → slice_get fs i ≡ Some f → (f.name ≡ name → ⊥) → NoneNamed fs name i → NoneNamed fs name (i + 1)
none_next fs name i f found other none j g lt is same =
    ⊎_elim (λ (h : j < i). none j g h is same)
    (λ (e : j ≡ i). other (ap (λ (x : Function). x.name) (same_Some f g (sym found ∙ ap (slice_get fs) (sym e) ∙ is)) ∙ same))
    (below_or_last j i lt)

-- no function is left
pub none_left : (fs : List Function) (name : List ℕ) (i n : ℕ) → length fs ≤ i → NoneNamed fs name i → NoneNamed fs name n
none_left fs name i n le none j g lt is same =
    let within = slice_get_within fs j g is in
    none j g (omega arith) is same

-- What typing says of the functions and bodies of a program (LANGUAGE.md, "Sums").
use Rattle.std.proofs.Common.{◌≡◌, ℕ, zero, suc, ◌+◌, ◌≤◌, List, [], ◌∷◌, ◌++◌, ap, sym, subst, ◌∙◌, arith, append_assoc}
use Rattle.std.proofs.lemmas.Option.{same_Some}
use Rattle.std.specs.Prelude.{slice_get, Some}
use Rattle.sums_ast.specs.Tree.{bind, Stmts, no_stmts, more_stmts, MaybeExpr, no_maybeexpr, some_maybeexpr}
use Rattle.sums_ast.specs.declared.function.Function.{Function}
use Rattle.source_meaning.specs.Typing.{IsTypedBody, IsTypedFunction, AreTyped}
use Rattle.source_meaning.specs.PlaceLemmas.{get_left_some}

-- a typed body declares no more than the function's variables
pub typed_within : (earlier : List Function) (total count : ℕ) (stmts : Stmts) (final : MaybeExpr) → IsTypedBody earlier total count stmts final → count ≤ total
typed_within earlier total count no_stmts no_maybeexpr h = absurd h
typed_within earlier total count no_stmts (some_maybeexpr e) (same, typed) = omega arith
typed_within earlier total count (more_stmts (bind s k e) rest) final (is, typed, after) =
    let h = typed_within earlier total (count + 1) rest final after in
    omega arith

-- a function of a typed program calls functions of the program
pub typed_at : (earlier fs : List Function) (k : ℕ) (f : Function) → AreTyped earlier fs → slice_get fs k ≡ Some f →
    (before : List Function) × IsTypedFunction before f × ((j : ℕ) (g : Function) → slice_get before j ≡ Some g → slice_get (earlier ++ fs) j ≡ Some g)
typed_at earlier [] k f typed h = absurd (cc)
typed_at earlier (x ∷ fs) zero f (typed, rest) h =
    (earlier, subst (IsTypedFunction earlier) (same_Some x f h) typed, λ j g e. get_left_some earlier (x ∷ fs) j g e)
typed_at earlier (x ∷ fs) (suc k) f (typed, rest) h =
    let (before, is, known_) = typed_at (earlier ++ x ∷ []) fs k f rest h in
    (before, is, λ j g e. ap (λ l. slice_get l j) (sym (append_assoc earlier (x ∷ []) fs)) ∙ known_ j g e)

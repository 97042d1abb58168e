-- The operators along the left sides, the last of them first.
use Rattle.std.proofs.Common.{◌≡◌, List, [], ◌∷◌, ◌++◌, refl, ap, sym, subst, ◌∙◌}
use Rattle.std.specs.Prelude.{Result, Ok, Err, IsErrAnd}
use Rattle.aen_base.specs.Numbers.{Number}
use Rattle.source_meaning.specs.SpineLemmas.{rights_push}
use Rattle.pointer_machine.specs.declared.halt.Halt.{Halt}
use Rattle.pointer_machine.specs.declared.halt.Stop.{Stop}
use Rattle.pointer_machine.specs.declared.halt.Stop.TheVariants.{Halted, Memory}
use Rattle.pointer_machine.specs.Given.{Gives}
use Rattle.pointer_machine.specs.declared.spine.Right.{Right}
use Rattle.pointer_machine.specs.Values.{Valued, Call, and_then, operate, value}
use Rattle.pointer_machine.specs.Spine.{with_right, rights_value}

-- what ends early stays so
pub rights_fail : (c : Call) (vars : List Number) (h : Halt) (rights : List Right) → rights_value c vars rights (Err h) ≡ Err h
rights_fail c vars h [] = refl
rights_fail c vars h (r ∷ rights) = ap (with_right c vars r) (rights_fail c vars h rights)

-- an expression of which all but these operators is done
module _ (c : Call) (vars : List Number) (whole : Valued) (rights : List Right) where
  pub first_fails : (left : Valued) (e : Stop) → rights_value c vars rights left ≡ whole → Gives left (Err e) → Gives whole (Err e)
  first_fails left (Halted h) here g = sym here ∙ ap (rights_value c vars rights) g ∙ rights_fail c vars h rights
  first_fails left Memory here g = tt

  module _ (before : List Right) (r : Right) (x : Number) (popped : rights ≡ before ++ r ∷ []) (here : rights_value c vars rights (Ok x) ≡ whole) where
    pub stepped : rights_value c vars before (with_right c vars r (Ok x)) ≡ whole
    stepped = sym (rights_push (with_right c vars) (Ok x) before r) ∙ ap (λ (l : List Right). rights_value c vars l (Ok x)) (sym popped) ∙ here

    pub side_fails : (e : Stop) → Gives (value c vars r.side.now) (Err e) → Gives whole (Err e)
    side_fails (Halted h) g =
        sym stepped ∙ ap (λ (v : Valued). rights_value c vars before (and_then v (λ y. operate r.span r.op x y))) g ∙ rights_fail c vars h before
    side_fails Memory g = tt

    pub operated : (y : Number) → value c vars r.side.now ≡ Ok y → rights_value c vars before (operate r.span r.op x y) ≡ whole
    operated y is = ap (λ (v : Valued). rights_value c vars before (and_then v (λ y. operate r.span r.op x y))) (sym is) ∙ stepped

    pub operator_fails : (y : Number) (e : Stop) → value c vars r.side.now ≡ Ok y → Gives (operate r.span r.op x y) (Err e) → Gives whole (Err e)
    operator_fails y (Halted h) is g = sym (operated y is) ∙ ap (rights_value c vars before) g ∙ rights_fail c vars h before
    operator_fails y Memory is g = tt

    pub operator_gives : (y z : Number) → value c vars r.side.now ≡ Ok y → operate r.span r.op x y ≡ Ok z → rights_value c vars before (Ok z) ≡ whole
    operator_gives y z is g = ap (rights_value c vars before) (sym g) ∙ operated y is

-- an error that is passed on
pub passed_on : (whole : Valued) (r : Result Number Stop) (e : Stop) → IsErrAnd r (λ x. x ≡ e) → Gives whole (Err e) → Gives whole r
passed_on whole (Ok n) e h g = absurd h
passed_on whole (Err x) e h g = subst (λ (y : Stop). Gives whole (Err y)) (sym h) g

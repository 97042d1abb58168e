-- Operators on two numbers of one type.
use Rattle.std.proofs.Common.{◌≡◌, Bool, true, false, ◌&&◌, List, [], ◌∷◌, refl, ap}
use Rattle.std.specs.Prelude.{Option, Some, None, if◌then◌else◌}
use Rattle.std.specs.Option.{option_zip}
use Rattle.aen_base.specs.declared.int_ty.IntTy.{IntTy}
use Rattle.aen_base.specs.declared.operators.BinOp.{BinOp}
use Rattle.aen_base.specs.declared.operators.BinOp.TheVariants as B
use Rattle.aen_base.specs.Numbers.{Number}
use Rattle.aen_base.specs.Operators.{is_shift}
use Rattle.pure_ast.specs.Values as v
use Rattle.pure_ast.specs.Values.{PValue}
use Rattle.text_meaning.specs.declared.Answer.{Answer}
use Rattle.text_meaning.specs.declared.Answer.TheVariants as A
use Rattle.text_meaning.specs.Primitives.{same_type, on_numbers, operated, arithmetic}
use Rattle.pure_eval.specs.Operands.{of_type, two_numbers}

-- any operator but a shift is on two numbers of the type
pub no_shift : (t : IntTy) (op : BinOp) (values : List PValue) → is_shift op ≡ false → arithmetic t op values ≡ on_numbers t (operated t op) values
no_shift t B.Shl values p = absurd cc
no_shift t B.Shr values p = absurd cc
no_shift t _ values p = refl

zip_none : {A C : Type 0} (o : Option A) (x : A × C) → option_zip o None ≡ Some x → ⊥
zip_none None x p = cc
zip_none (Some y) x p = cc

module _ (f : Number → Number → Answer) (a b : Number) where
  by_types : (s r : Bool) (m n : Number) → option_zip (if s then Some m else None) (if r then Some n else None) ≡ Some (a, b) →
      (if s && r then f m n else A.Stuck) ≡ f a b
  by_types true true m n p =
      let pick : Option (Number × Number) → Answer = λ o. elim o as (λ _. Answer) [ None ↦ A.Stuck | Some x ↦ f x.0 x.1 ] in
      ap pick p
  by_types true false m n p = absurd cc
  by_types false r m n p = absurd cc

-- the answer on two numbers that are there
pub on_two : (t : IntTy) (f : Number → Number → Answer) (values : List PValue) (a b : Number) → two_numbers t values ≡ Some (a, b) → on_numbers t f values ≡ f a b
on_two t f [] a b p = absurd cc
on_two t f (x ∷ []) a b p = absurd cc
on_two t f (x ∷ y ∷ z ∷ rest) a b p = absurd cc
on_two t f (v.number m ∷ v.number n ∷ []) a b p = by_types f a b (same_type m.ty t) (same_type n.ty t) m n p
on_two t f (v.number m ∷ y ∷ []) a b p = absurd (zip_none (of_type t m) (a, b) p)
on_two t f (x ∷ y ∷ []) a b p = absurd cc

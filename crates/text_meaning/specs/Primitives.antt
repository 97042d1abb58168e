-- The answers of the primitives on values; Stuck on values of the wrong kind or of a wrong type
-- (TEXT.md, "Primitives").
use Rattle.std.specs.Prelude.{ℕ, zero, suc, Bool, not, ◌&&◌, ◌||◌, List, [], ◌∷◌, Result, Ok, Err, pos, if◌then◌else◌}
use denote.Enum.Bare.{sameb}
use Rattle.aen_base.specs.declared.int_ty.IntTy.{IntTy}
use Rattle.aen_base.specs.contracts.int_ty.IntTy.{the_type}
use Rattle.aen_base.specs.declared.operators.BinOp.{BinOp}
use Rattle.aen_base.specs.declared.operators.BinOp.TheVariants.{Shl, Shr}
use Rattle.aen_base.specs.declared.operators.Builtin.{Builtin}
use Rattle.aen_base.specs.declared.operators.Builtin.TheVariants.{BoxNew, Replace, Swap}
use Rattle.aen_base.specs.declared.operators.PanicKind.{PanicKind}
use Rattle.aen_base.specs.Numbers.{Number}
use Rattle.aen_base.specs.Arithmetic.{number, apply, negated, inverted, compared, cast_to}
use Rattle.pure_ast.specs.declared.comp.BoolOp.{BoolOp}
use Rattle.pure_ast.specs.declared.comp.BoolOp.TheVariants as O
use Rattle.pure_ast.specs.declared.comp.Primitive.{Primitive}
use Rattle.pure_ast.specs.declared.comp.Primitive.TheVariants as P
use Rattle.pure_ast.specs.Values as v
use Rattle.pure_ast.specs.Values.{PValue}
use Rattle.text_meaning.specs.declared.Answer.{Answer}
use Rattle.text_meaning.specs.declared.Answer.TheVariants as A
use Rattle.text_meaning.specs.Patterns.{same_truth}

abbrev pub same_type : IntTy → IntTy → Bool
same_type t u = sameb the_type t u

-- a number of this type, and two of them
abbrev pub on_number : IntTy → (Number → Answer) → List PValue → Answer
on_number t f (v.number a ∷ []) = if same_type a.ty t then f a else A.Stuck
on_number t f _ = A.Stuck

abbrev pub on_numbers : IntTy → (Number → Number → Answer) → List PValue → Answer
on_numbers t f (v.number a ∷ v.number b ∷ []) = if same_type a.ty t && same_type b.ty t then f a b else A.Stuck
on_numbers t f _ = A.Stuck

-- a number of this type and a number of any type
abbrev pub on_shift : IntTy → (Number → Number → Answer) → List PValue → Answer
on_shift t f (v.number a ∷ v.number b ∷ []) = if same_type a.ty t then f a b else A.Stuck
on_shift t f _ = A.Stuck

-- a number, or the kind of panic
abbrev pub answered : Result Number PanicKind → Answer
answered (Ok n) = A.Ok (v.number n)
answered (Err kind) = A.Fail kind

abbrev pub operated : IntTy → BinOp → Number → Number → Answer
operated t op a b = answered (apply op t a.value b.value)

abbrev pub arithmetic : IntTy → BinOp → List PValue → Answer
arithmetic t Shl values = on_shift t (operated t Shl) values
arithmetic t Shr values = on_shift t (operated t Shr) values
arithmetic t op values = on_numbers t (operated t op) values

abbrev pub on_truths : BoolOp → Bool → Bool → Answer
on_truths O.Eq a b = A.Ok (v.truth (same_truth a b))
on_truths O.Ne a b = A.Ok (v.truth (not (same_truth a b)))
on_truths O.And a b = A.Ok (v.truth (a && b))
on_truths O.Or a b = A.Ok (v.truth (a || b))
on_truths O.Xor a b = A.Ok (v.truth (not (same_truth a b)))
on_truths O.Not a b = A.Stuck

-- `not` takes one bool, all others take two
abbrev pub truths : BoolOp → List PValue → Answer
truths O.Not (v.truth a ∷ []) = A.Ok (v.truth (not a))
truths op (v.truth a ∷ v.truth b ∷ []) = on_truths op a b
truths op _ = A.Stuck

-- `true` is 1 and `false` is 0
abbrev pub cast_truth : IntTy → List PValue → Answer
cast_truth t (v.truth a ∷ []) = A.Ok (v.number (number t (pos (if a then 1 else 0))))
cast_truth t _ = A.Stuck

-- the first and the second of two values
abbrev pub first_of_two : List PValue → Answer
first_of_two (a ∷ b ∷ []) = A.Ok a
first_of_two _ = A.Stuck

abbrev pub second_of_two : List PValue → Answer
second_of_two (a ∷ b ∷ []) = A.Ok b
second_of_two _ = A.Stuck

-- what the built-in functions give
abbrev pub forward : Builtin → List PValue → Answer
forward BoxNew (a ∷ []) = A.Ok a
forward Replace (a ∷ b ∷ []) = A.Ok a
forward Swap (a ∷ b ∷ []) = A.Ok (v.tuple v.no_pvalues)
forward _ _ = A.Stuck

-- what a place that was lent to a built-in function then holds, by the place's region
abbrev pub backward : Builtin → ℕ → List PValue → Answer
backward Replace zero values = second_of_two values
backward Swap zero values = second_of_two values
backward Swap (suc zero) values = first_of_two values
backward _ _ values = A.Stuck

abbrev pub primitive : Primitive → List PValue → Answer
primitive (P.Arith t op) values = arithmetic t op values
primitive (P.Neg t) values = on_number t (λ a. answered (negated t a.value)) values
primitive (P.Not t) values = on_number t (λ a. A.Ok (v.number (number t (inverted t a.value)))) values
primitive (P.Compare t op) values = on_numbers t (λ a b. A.Ok (v.truth (compared op a.value b.value))) values
primitive (P.Bools op) values = truths op values
primitive (P.Cast t u) values = on_number t (λ a. A.Ok (v.number (number u (cast_to u a.value)))) values
primitive (P.CastBool t) values = cast_truth t values
primitive (P.Forward b) values = forward b values
primitive (P.Back b r) values = backward b r.0 values

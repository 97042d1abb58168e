-- The answer of a primitive on atoms is an atom: numbers are in range.
use Rattle.std.proofs.Common.{◌≡◌, ℕ, zero, suc, Bool, true, false, ◌&&◌, List, [], ◌∷◌, Result, Ok, Err, refl, subst}
use Rattle.std.specs.Prelude.{if◌then◌else◌}
use Rattle.std.proofs.lemmas.Bool.{and_parts}
use denote.Enum.Bare.{same_true}
use Rattle.aen_base.specs.declared.int_ty.IntTy.{IntTy}
use Rattle.aen_base.specs.contracts.int_ty.IntTy.{the_type}
use Rattle.aen_base.specs.declared.operators.BinOp.{BinOp}
use Rattle.aen_base.specs.declared.operators.BinOp.TheVariants as B
use Rattle.aen_base.specs.declared.operators.Builtin.{Builtin}
use Rattle.aen_base.specs.declared.operators.Builtin.TheVariants.{BoxNew, Replace, Swap}
use Rattle.aen_base.specs.declared.operators.PanicKind.{PanicKind}
use Rattle.aen_base.specs.Arithmetic.{number, apply, negated, inverted, compared, cast_to}
use Rattle.aen_base.specs.Numbers.{Number, in_range}
use Rattle.aen_base.proofs.Inside.{IsInside, apply_inside, cast_inside, inverted_inside, negated_inside}
use Rattle.aen_base.proofs.Results.{zero_inside, one_inside}
use Rattle.pure_ast.specs.declared.comp.BoolOp.{BoolOp}
use Rattle.pure_ast.specs.declared.comp.BoolOp.TheVariants as O
use Rattle.pure_ast.specs.declared.comp.Primitive.{Primitive}
use Rattle.pure_ast.specs.declared.comp.Primitive.TheVariants as P
use Rattle.pure_ast.specs.declared.def.Defs.{Defs}
use Rattle.pure_ast.specs.Values as v
use Rattle.pure_ast.specs.Values.{PValue}
use Rattle.text_meaning.specs.declared.Answer.{Answer}
use Rattle.text_meaning.specs.declared.Answer.TheVariants as A
use Rattle.text_meaning.specs.Atoms.{IsAtom}
use Rattle.text_meaning.specs.Lists.{Each}
use Rattle.text_meaning.specs.Primitives.{same_type, on_number, on_numbers, on_shift, answered, operated, arithmetic, on_truths, truths, cast_truth, first_of_two, second_of_two, forward, backward, primitive}
use Rattle.text_meaning.specs.Ranges.{IsInRange}
use Rattle.pure_eval.proofs.Kept.{GivesAtom}

module _ (d : Defs) where
  -- a number that is in range, or a panic
  answered_atom : (r : Result Number PanicKind) → IsInside r → GivesAtom d (answered r)
  answered_atom (Ok n) h = h
  answered_atom (Err kind) h = tt

  -- where a test was passed
  by_test : (test : Bool) (a : Answer) → (test ≡ true → GivesAtom d a) → GivesAtom d (if test then a else A.Stuck)
  by_test true a h = h refl
  by_test false a h = tt

  -- a number is in the range of the type that it has
  typed_inside : (t : IntTy) (n : Number) → IsInRange n → same_type n.ty t ≡ true → in_range t n.value ≡ true
  typed_inside t n h e = subst (λ u. in_range u n.value ≡ true) (same_true the_type tt n.ty t e) h

  first_inside : (t : IntTy) (a b : Number) → IsInRange a → (same_type a.ty t && same_type b.ty t) ≡ true → in_range t a.value ≡ true
  first_inside t a b h e = typed_inside t a h ((and_parts (same_type a.ty t) (same_type b.ty t) e).0)

  on_number_atom : (t : IntTy) (f : Number → Answer) (values : List PValue) → ((a : Number) → GivesAtom d (f a)) → GivesAtom d (on_number t f values)
  on_number_atom t f (v.number a ∷ []) h = by_test (same_type a.ty t) (f a) (λ e. h a)
  on_number_atom t f _ h = tt

  -- two numbers, the first of them in range
  abbrev GivesInside : IntTy → (Number → Number → Answer) → Type 0
  GivesInside t f = (a b : Number) → in_range t a.value ≡ true → GivesAtom d (f a b)

  on_numbers_atom : (t : IntTy) (f : Number → Number → Answer) (values : List PValue) → GivesInside t f →
      Each (IsAtom d) values → GivesAtom d (on_numbers t f values)
  on_numbers_atom t f (v.number a ∷ v.number b ∷ []) h g =
      by_test (same_type a.ty t && same_type b.ty t) (f a b) (λ e. h a b (first_inside t a b g.0 e))
  on_numbers_atom t f _ h g = tt

  on_shift_atom : (t : IntTy) (f : Number → Number → Answer) (values : List PValue) → GivesInside t f →
      Each (IsAtom d) values → GivesAtom d (on_shift t f values)
  on_shift_atom t f (v.number a ∷ v.number b ∷ []) h g = by_test (same_type a.ty t) (f a b) (λ e. h a b (typed_inside t a g.0 e))
  on_shift_atom t f _ h g = tt

  operated_inside : (t : IntTy) (op : BinOp) → GivesInside t (operated t op)
  operated_inside t op a b h = answered_atom (apply op t a.value b.value) (apply_inside op t a.value b.value h)

  arithmetic_atom : (t : IntTy) (op : BinOp) (values : List PValue) → Each (IsAtom d) values → GivesAtom d (arithmetic t op values)
  arithmetic_atom t B.Shl values h = on_shift_atom t (operated t B.Shl) values (operated_inside t B.Shl) h
  arithmetic_atom t B.Shr values h = on_shift_atom t (operated t B.Shr) values (operated_inside t B.Shr) h
  arithmetic_atom t op values h = on_numbers_atom t (operated t op) values (operated_inside t op) h

  -- truths are atoms
  on_truths_atom : (op : BoolOp) (a b : Bool) → GivesAtom d (on_truths op a b)
  on_truths_atom O.Eq a b = tt
  on_truths_atom O.Ne a b = tt
  on_truths_atom O.And a b = tt
  on_truths_atom O.Or a b = tt
  on_truths_atom O.Xor a b = tt
  on_truths_atom O.Not a b = tt

  truths_atom : (op : BoolOp) (values : List PValue) → GivesAtom d (truths op values)
  truths_atom O.Not (v.truth a ∷ []) = tt
  truths_atom op (v.truth a ∷ v.truth b ∷ []) = on_truths_atom op a b
  truths_atom op _ = tt

  cast_truth_atom : (t : IntTy) (values : List PValue) → GivesAtom d (cast_truth t values)
  cast_truth_atom t (v.truth true ∷ []) = one_inside t
  cast_truth_atom t (v.truth false ∷ []) = zero_inside t
  cast_truth_atom t _ = tt

  -- one of the values, or unit
  first_atom : (values : List PValue) → Each (IsAtom d) values → GivesAtom d (first_of_two values)
  first_atom (a ∷ b ∷ []) h = h.0
  first_atom _ h = tt

  second_atom : (values : List PValue) → Each (IsAtom d) values → GivesAtom d (second_of_two values)
  second_atom (a ∷ b ∷ []) h = h.1.0
  second_atom _ h = tt

  forward_atom : (b : Builtin) (values : List PValue) → Each (IsAtom d) values → GivesAtom d (forward b values)
  forward_atom BoxNew (a ∷ []) h = h.0
  forward_atom Replace (a ∷ b ∷ []) h = h.0
  forward_atom Swap (a ∷ b ∷ []) h = ((λ e. cc), tt)
  forward_atom _ _ h = tt

  backward_atom : (b : Builtin) (r : ℕ) (values : List PValue) → Each (IsAtom d) values → GivesAtom d (backward b r values)
  backward_atom Replace zero values h = second_atom values h
  backward_atom Swap zero values h = second_atom values h
  backward_atom Swap (suc zero) values h = first_atom values h
  backward_atom _ _ values h = tt

  pub primitive_atom : (p : Primitive) (values : List PValue) → Each (IsAtom d) values → GivesAtom d (primitive p values)
  primitive_atom (P.Arith t op) values h = arithmetic_atom t op values h
  primitive_atom (P.Neg t) values h =
      on_number_atom t (λ a. answered (negated t a.value)) values (λ a. answered_atom (negated t a.value) (negated_inside t a.value))
  primitive_atom (P.Not t) values h =
      on_number_atom t (λ a. A.Ok (v.number (number t (inverted t a.value)))) values (λ a. inverted_inside t a.value)
  primitive_atom (P.Compare t op) values h =
      on_numbers_atom t (λ a b. A.Ok (v.truth (compared op a.value b.value))) values (λ a b e. tt) h
  primitive_atom (P.Bools op) values h = truths_atom op values
  primitive_atom (P.Cast t u) values h =
      on_number_atom t (λ a. A.Ok (v.number (number u (cast_to u a.value)))) values (λ a. cast_inside u a.value)
  primitive_atom (P.CastBool t) values h = cast_truth_atom t values
  primitive_atom (P.Forward b) values h = forward_atom b values h
  primitive_atom (P.Back b r) values h = backward_atom b r.0 values h

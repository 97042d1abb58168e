-- The operands of a primitive on values (TEXT.md, "Primitives").
use Rattle.std.specs.Prelude.{Bool, List, [], ◌∷◌, Option, Some, None, if◌then◌else◌}
use Rattle.std.specs.Option.{option_and_then, option_zip}
use Rattle.aen_base.specs.declared.int_ty.IntTy.{IntTy}
use Rattle.aen_base.specs.Numbers.{Number}
use Rattle.pure_ast.specs.Values as v
use Rattle.pure_ast.specs.Values.{PValue}
use Rattle.text_meaning.specs.Primitives.{same_type}

-- the one value of a list
abbrev pub only : List PValue → Option PValue
only (a ∷ []) = Some a
only _ = None

-- the two values of a list
abbrev pub both : List PValue → Option (PValue × PValue)
both (a ∷ b ∷ []) = Some (a, b)
both _ = None

-- the number that a value is
abbrev pub number_in : PValue → Option Number
number_in (v.number n) = Some n
number_in _ = None

-- the bool that a value is
abbrev pub truth_in : PValue → Option Bool
truth_in (v.truth b) = Some b
truth_in _ = None

-- the number, where it has this type
abbrev pub of_type : IntTy → Number → Option Number
of_type t n = if same_type n.ty t then Some n else None

-- the number of this type that a value is
abbrev pub typed : IntTy → PValue → Option Number
typed t a = option_and_then (of_type t) (number_in a)

-- one number of this type
abbrev pub one_number : IntTy → List PValue → Option Number
one_number t values = option_and_then (typed t) (only values)

-- two numbers of this type
abbrev pub two_numbers : IntTy → List PValue → Option (Number × Number)
two_numbers t values = option_and_then (λ p. option_zip (typed t p.0) (typed t p.1)) (both values)

-- a number of this type and a number of any type
abbrev pub shift_numbers : IntTy → List PValue → Option (Number × Number)
shift_numbers t values = option_and_then (λ p. option_zip (typed t p.0) (number_in p.1)) (both values)

-- one bool
abbrev pub one_truth : List PValue → Option Bool
one_truth values = option_and_then truth_in (only values)

-- two bools
abbrev pub two_truths : List PValue → Option (Bool × Bool)
two_truths values = option_and_then (λ p. option_zip (truth_in p.0) (truth_in p.1)) (both values)

-- Places and values (LANGUAGE.md, "Places").
use Rattle.std.specs.Prelude.{Bool, true, false, Result, Ok, not, ◌&&◌}
use Rattle.aen_base.specs.declared.span.Span.{Span}
use Rattle.core_ty.specs.Shape.{is_copy}
use Rattle.type_rules.specs.Faults.{Fault, limited, refuse}
use Rattle.type_rules.specs.Forms.{Raw, stands, held}
use Rattle.type_rules.specs.TypeFacts.{is_large}
use Rattle.type_rules.specs.declared.fault.KindOfFault.TheVariants.{MoveOut}
use Rattle.type_rules.specs.declared.state.State.{State}
use Rattle.rust_ast.specs.Spelled as s
use Rattle.core_ty.specs.Types as t

abbrev pub type_of : s.Val → t.Ty
type_of (s.value x never p n) = x

abbrev pub never_ends : s.Val → Bool
never_ends (s.value x never p n) = never

abbrev pub raw_type : Raw → t.Ty
raw_type (stands p x w) = x
raw_type (held v) = type_of v

-- it has every type
abbrev pub is_endless : Raw → Bool
is_endless (stands p x w) = false
is_endless (held v) = never_ends v

abbrev pub is_place : Raw → Bool
is_place (stands p x w) = true
is_place (held v) = false

-- the place, where it is one
abbrev pub the_place : Raw → s.Place
the_place (stands p x w) = p
the_place (held v) = s.through_value v

-- the place goes through a reference
abbrev pub goes_through : s.Place → Bool
goes_through (s.variable k) = false
goes_through (s.field p k) = goes_through p
goes_through (s.unbox p) = goes_through p
goes_through (s.through p) = true
goes_through (s.through_value v) = true

-- an expression of this type, for a value that ends
abbrev pub of_type : t.Ty → Span → s.Form → Raw
of_type x p n = held (s.value x false p n)

-- what typing gives for an expression: what it is and what was found; its type is within the limit
abbrev pub Answer : Type 0
Answer = Result (Raw × State) Fault

abbrev pub gives : Raw → State → Answer
gives r st = limited (is_large (raw_type r)) (Ok (r, st))

-- MoveOut: a value that isn't Copy is taken through a reference
abbrev pub is_move_out : s.Place → t.Ty → Bool
is_move_out p x = goes_through p && not (is_copy x)

-- a place used as a value is copied or moved
abbrev pub used : Span → Raw → Result s.Val Fault
used p (stands q x w) = refuse (is_move_out q x) p MoveOut (Ok (s.value x false p (s.use_of q (is_copy x))))
used p (held v) = Ok v

abbrev pub is_writable : Raw → Bool
is_writable (stands p x w) = w
is_writable (held v) = false

-- NotPlace: an assignment or borrow needs a place
abbrev pub is_not_place : Raw → Bool
is_not_place r = not (is_place r)

-- NotMutable: the place is written or borrowed by `&mut` and not mutable
abbrev pub is_not_mutable : Raw → Bool
is_not_mutable r = not (is_writable r)

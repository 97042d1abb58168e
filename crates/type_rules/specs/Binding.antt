-- How the names of a pattern bind what they meet (LANGUAGE.md, "Patterns").
use Rattle.std.specs.Prelude.{Bool, true, false, Result, Ok, ℕ, if◌then◌else◌, Option, Some, None, List, slice_set}
use Rattle.aen_base.specs.declared.span.Span.{Span}
use Rattle.core_ty.specs.Shape.{is_copy}
use Rattle.type_rules.specs.Faults.{Fault, and_then, limited, refuse}
use Rattle.type_rules.specs.TypeFacts.{is_large, no_region}
use Rattle.type_rules.specs.declared.fault.KindOfFault.TheVariants.{MoveOut}
use Rattle.rust_ast.specs.SpelledPatterns as q
use Rattle.core_ty.specs.Types as t

-- how a part stands that a pattern meets: its type, if the patterns around are not at fault; the
-- kind of the reference that was looked through; whether it stands behind a reference
pub record Met : Type 0 where
  pub part : Option t.Ty
  pub kind : Option Bool
  pub behind : Bool

-- a part of what is met
abbrev pub inside : Met → Option t.Ty → Met
inside m o = record { part = o; kind = m.kind; behind = m.behind }

-- a pattern, and the types of the variables by number
abbrev pub Bound : Type 0
Bound = Result (q.Pat × List t.Ty) Fault

-- a name that takes what is met: it binds a reference where one was looked through and `mut` isn't
-- written, else it copies or moves
abbrev pub taken : Span → Span → ℕ → t.Ty → Bool → List t.Ty → Bound
taken s name k x behind types =
    if is_copy x
    then limited (is_large x) (Ok (q.bind s k q.copy, slice_set types k x))
    else refuse behind name MoveOut (limited (is_large x) (Ok (q.bind s k q.move, slice_set types k x)))

abbrev pub referred : Span → ℕ → t.Ty → Bool → List t.Ty → Bound
referred s k x m types = limited (is_large (t.ref no_region m x)) (Ok (q.bind s k (q.refer m), slice_set types k (t.ref no_region m x)))

abbrev pub bound_as : Span → Span → ℕ → Bool → List t.Ty → Bool → Option t.Ty → Option Bool → Bound
bound_as s name k behind types mutable None o = Ok (q.bind s k q.move, types)
bound_as s name k behind types false (Some x) (Some r) = referred s k x r types
bound_as s name k behind types mutable (Some x) o = taken s name k x behind types

unfoldable pub bound : Span → Span → Bool → ℕ → Met → List t.Ty → Bound
bound s name mutable k m types = bound_as s name k m.behind types mutable m.part m.kind

-- a pattern that tells something looks through a reference
abbrev pub looked : (Met → Bound) → Met → Option t.Ty → Bound
looked f m (Some (t.ref r k x)) = and_then (f (record { part = Some x; kind = Some k; behind = true })) (λ b. Ok (q.through k b.0, b.1))
looked f m o = f m

-- Arguments, and the type arguments that they find (LANGUAGE.md, "Calls").
use Rattle.std.specs.Prelude.{Bool, Result, Ok, Err, ℕ, suc, not, ◌&&◌, if◌then◌else◌, Option, Some, None}
use Rattle.aen_base.specs.declared.span.Span.{Span}
use Rattle.type_rules.specs.Faults.{Fault, and_then, at, refuse}
use Rattle.type_rules.specs.Forms.{Expected, none, want, Raw}
use Rattle.type_rules.specs.Matching.{Finds, Reached, finds_reference, is_bare, is_known, matched, put_found, reached}
use Rattle.type_rules.specs.Operands.{Operand, value_of}
use Rattle.type_rules.specs.Places.{raw_type, used}
use Rattle.type_rules.specs.WrittenOut.{reborrow}
use Rattle.type_rules.specs.declared.fault.KindOfFault.TheVariants.{NestedBorrow, Mismatch}
use Rattle.type_rules.specs.declared.state.State.{State}
use Rattle.rust_ast.specs.Spelled as s
use Rattle.core_ty.specs.Types as t

-- an argument, what is found with it, and the state
pub record Argument : Type 0 where
  pub value : s.Val
  pub finds : Finds
  pub state : State

-- an argument whose parameter's type is known, or that has no parameter
abbrev pub expected_argument : Expected → Operand → Finds → State → Result Argument Fault
expected_argument x a f st = and_then (value_of a x st) (λ r. Ok (record { value = r.0; finds = f; state = r.1 }))

abbrev pub Against : Type 0
Against = Result (s.Val × Finds) Fault

abbrev pub against_content : Bool → Bool → t.Ty → Span → Raw → Option Reached → Against
against_content m m2 b p r None = Err (at p Mismatch)
against_content m m2 b p r (Some h) = Ok (reborrow p m h.content m2 b r, h.finds)

-- where & or &mut to q is wanted: through boxes until q matches, then reborrowed
abbrev pub against_reference : Bool → t.Ty → Finds → Span → Raw → t.Ty → Against
against_reference m q f p r (t.ref a m2 b) =
    refuse (m && not m2) p Mismatch (against_content m m2 b p r (reached (is_bare f q) q f b))
against_reference m q f p r x = Err (at p Mismatch)

-- an argument against a parameter's type that isn't known yet
abbrev pub against_type : Finds → Span → Raw → Bool × Finds → Against
against_type f p r h =
    refuse (finds_reference f h.1) p NestedBorrow (
    refuse (not h.0) p Mismatch (
    and_then (used p r) (λ v. Ok (v, h.1))))

abbrev pub against : t.Ty → Finds → Span → Raw → Against
against (t.ref a m q) f p r = against_reference m q f p r (raw_type r)
against q f p r = against_type f p r (matched q (raw_type r) f)

abbrev pub matched_argument : t.Ty → Operand → Finds → State → Result Argument Fault
matched_argument q a f st =
    and_then (a.read none st) (λ r.
    and_then (against q f a.span r.0) (λ v. Ok (record { value = v.0; finds = v.1; state = r.1 })))

unfoldable pub argument : Option t.Ty → Operand → Finds → State → Result Argument Fault
argument None a f st = expected_argument none a f st
argument (Some q) a f st = (if is_known f q then expected_argument (want (put_found f q)) a f else matched_argument q a f) st

-- arguments with the numbers of their parameters
pub record Arguments : Type 0 where
  pub parts : s.Parts
  pub finds : Finds
  pub state : State

abbrev pub part_count : s.Parts → ℕ
part_count s.no_parts = 0
part_count (s.more_parts k v rest) = suc (part_count rest)

abbrev pub values_of : s.Parts → s.Values
values_of s.no_parts = s.no_values
values_of (s.more_parts k v rest) = s.more_values v (values_of rest)

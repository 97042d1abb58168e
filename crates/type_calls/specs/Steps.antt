-- The steps in which an argument is typed: what is expected of it, its own typing, what it gives then.
use Rattle.std.specs.Prelude.{◌≡◌, Bool, true, false, Result, Ok, Err, if◌then◌else◌, Option, Some, None, refl}
use Rattle.aen_base.specs.declared.span.Span.{Span}
use Rattle.type_rules.specs.Arguments.{Against, Argument, against, against_reference, against_type, argument, expected_argument, matched_argument}
use Rattle.type_rules.specs.Faults.{Fault, and_then}
use Rattle.type_rules.specs.Forms.{Expected, none, want, Raw}
use Rattle.type_rules.specs.Matching.{Finds, Reached, is_bare, is_known, matched, put_found, reached}
use Rattle.type_rules.specs.Operands.{Operand}
use Rattle.type_rules.specs.Places.{Answer, raw_type}
use Rattle.type_rules.specs.WrittenOut.{as_value, finished}
use Rattle.type_rules.specs.declared.state.State.{State}
use Rattle.rust_ast.specs.Spelled as s
use Rattle.core_ty.specs.Types as t

abbrev pub against_reference_at : Bool → t.Ty → Finds → Span → Raw → Against
against_reference_at m q f p r = against_reference m q f p r (raw_type r)

abbrev pub reached_from : t.Ty → Finds → t.Ty → Option Reached
reached_from q f b = reached (is_bare f q) q f b

abbrev pub against_type_at : t.Ty → Finds → Span → Raw → Against
against_type_at q f p r = against_type f p r (matched q (raw_type r) f)

-- the type of the parameter, once it is known
abbrev pub known_expected : t.Ty → Finds → Expected
known_expected q f = if is_known f q then want (put_found f q) else none

abbrev pub argument_expected : Option t.Ty → Finds → Expected
argument_expected None f = none
argument_expected (Some q) f = known_expected q f

abbrev pub kept : Finds → Result s.Val Fault → Against
kept f o = and_then o (λ v. Ok (v, f))

-- the value, and what is found with it
abbrev pub argument_value : Option t.Ty → Finds → Expected → Span → Raw → Against
argument_value None f x p r = kept f (as_value x p r)
argument_value (Some q) f x p r = if is_known f q then kept f (as_value x p r) else against q f p r

abbrev pub as_argument : s.Val → Finds → State → Argument
as_argument v f st = record { value = v; finds = f; state = st }

abbrev pub stepped : Option t.Ty → Finds → Span → Expected → Answer → Result Argument Fault
stepped o f p x answer =
    and_then answer (λ r.
    and_then (argument_value o f x p r.0) (λ v. Ok (as_argument v.0 v.1 r.1)))

abbrev in_state : State → s.Val → s.Val × State
in_state st v = (v, st)

two : (st : State) (f : Finds) (o : Result s.Val Fault) → and_then (and_then o (λ v. Ok (in_state st v))) (λ r. Ok (as_argument r.0 f r.1)) ≡ and_then (kept f o) (λ v. Ok (as_argument v.0 v.1 st))
two st f (Ok v) = refl
two st f (Err y) = refl

plain : (x : Expected) (f : Finds) (p : Span) (answer : Answer) → and_then (finished x p answer) (λ r. Ok (as_argument r.0 f r.1)) ≡ and_then answer (λ r. and_then (kept f (as_value x p r.0)) (λ v. Ok (as_argument v.0 v.1 r.1)))
plain x f p (Err y) = refl
plain x f p (Ok r) = two r.1 f (as_value x p r.0)

either : (q : t.Ty) (a : Operand) (f : Finds) (st : State) (y : t.Ty) (b : Bool) →
    (if b then expected_argument (want y) a f else matched_argument q a f) st
    ≡ and_then (a.read (if b then want y else none) st) (λ r. and_then (if b then kept f (as_value (if b then want y else none) a.span r.0) else against q f a.span r.0) (λ v. Ok (as_argument v.0 v.1 r.1)))
either q a f st y true = plain (want y) f a.span (a.read (want y) st)
either q a f st y false = refl

-- an argument is typed in these steps
pub argument_is : (o : Option t.Ty) (a : Operand) (f : Finds) (st : State) → argument o a f st ≡ stepped o f a.span (argument_expected o f) (a.read (argument_expected o f) st)
unfolding argument
argument_is None a f st = plain none f a.span (a.read none st)
argument_is (Some q) a f st = either q a f st (put_found f q) (is_known f q)

-- A call as a whole: what is found before its arguments, and what is decided after them.
use Rattle.std.specs.Prelude.{◌≡◌, Bool, true, false, Result, Ok, ℕ, List, [], map, unwrap_or, refl}
use Rattle.aen_base.specs.declared.span.Span.{Span}
use Rattle.type_calls.specs.declared.calls.Whole as code
use Rattle.type_rules.specs.Arguments.{Arguments}
use Rattle.type_rules.specs.Callees.{Callee}
use Rattle.type_rules.specs.Calls.{Whole, call_node, expected_finds, whole_of, whole_rows}
use Rattle.type_rules.specs.Expecting.{expected_type}
use Rattle.type_rules.specs.Faults.{Fault, and_then, limited, refuse}
use Rattle.type_rules.specs.Forms.{Expected}
use Rattle.type_rules.specs.Lists.{head_of}
use Rattle.type_rules.specs.Matching.{Finds, begun, is_known, put_found}
use Rattle.type_rules.specs.Places.{Answer, gives, of_type}
use Rattle.type_rules.specs.declared.fault.KindOfFault.TheVariants.{NestedBorrow, Mismatch, NoType, Arity, Field}
use Rattle.type_rules.specs.declared.state.State.{State}
use Rattle.rust_ast.specs.Resolved as e
use Rattle.rust_ast.specs.Spelled as s
use Rattle.core_ty.specs.Types as t

abbrev pub first_begun : ℕ → List (List t.Ty) → Finds
first_begun n ls = begun n (unwrap_or (head_of ls) [])

abbrev pub finds_expected : t.Ty → Finds → Expected → Finds
finds_expected y f x = expected_finds y f (expected_type x)

-- what is found before the arguments
abbrev pub finds_first : ℕ → t.Ty → List (List t.Ty) → Expected → Finds
finds_first n y ls x = finds_expected y (first_begun n ls) x

-- arguments that are read, and what is found by them; the rows depend on no state
abbrev pub as_arguments : List (ℕ × s.Val) → Finds → State → Arguments
as_arguments vs f st = record { parts = s.parts vs; finds = f; state = st }

abbrev pub nowhere : State
nowhere = record { types = []; loops = [] }

abbrev pub rows_of : code.Whole → Callee → List (ℕ × s.Val) → Finds → Whole
rows_of w g vs f = whole_of g w.nested w.wrong w.braces (as_arguments vs f nowhere)

abbrev pub seconds : List (ℕ × s.Val) → List s.Val
seconds vs = map (λ (v : ℕ × s.Val). v.1) vs

-- the type of the result after the arguments, or the first row that holds at the whole
abbrev pub result_type : code.Whole → Callee → Expected → List (ℕ × s.Val) → Finds → Result t.Ty Fault
result_type w g x vs f = whole_rows (rows_of w g vs f) (is_known f g.result) (put_found f g.result) w.span x (Ok (put_found f g.result))

abbrev pub built : code.Whole → e.Callee → List (ℕ × s.Val) → Finds → State → t.Ty → Answer
built w k vs f st y = gives (of_type y w.span (call_node k f (s.parts vs))) st

-- what a call gives after its arguments
abbrev pub finished_call : code.Whole → e.Callee → Callee → Expected → List (ℕ × s.Val) → Finds → State → Answer
finished_call w k g x vs f st = and_then (result_type w g x vs f) (built w k vs f st)

abbrev six : {A : Type 0} → Bool → Bool → Bool → Bool → Bool → Bool → Span → Result A Fault → Result A Fault
six n l m a b c p r = refuse n p NestedBorrow (limited l (refuse m p Mismatch (refuse a p NoType (refuse b p Arity (refuse c p Field r)))))

go_on : {A B : Type 0} (n l m a b c : Bool) (p : Span) (y : A) (k : A → Result B Fault) → six n l m a b c p (k y) ≡ and_then (six n l m a b c p (Ok y)) k
go_on true l m a b c p y k = refl
go_on false true m a b c p y k = refl
go_on false false true a b c p y k = refl
go_on false false false true b c p y k = refl
go_on false false false false true c p y k = refl
go_on false false false false false true p y k = refl
go_on false false false false false false p y k = refl

-- that is what the rule of calls says after the arguments
pub finished_is : (w : code.Whole) (k : e.Callee) (g : Callee) (x : Expected) (vs : List (ℕ × s.Val)) (f : Finds) (st : State) →
    whole_rows (whole_of g w.nested w.wrong w.braces (as_arguments vs f st)) (is_known f g.result) (put_found f g.result) w.span x (gives (of_type (put_found f g.result) w.span (call_node k f (s.parts vs))) st)
    ≡ finished_call w k g x vs f st
finished_is w k g x vs f st = go_on w.nested _ _ _ _ _ w.span (put_found f g.result) (built w k vs f st)

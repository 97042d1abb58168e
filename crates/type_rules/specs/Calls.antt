-- Calls and constructors (LANGUAGE.md, "Calls").
use Rattle.std.specs.Prelude.{Bool, Result, ℕ, ◌==◌, not, ◌&&◌, ◌||◌, nat_lt, Option, Some, None, List, [], unwrap_or, length}
use Rattle.aen_base.specs.declared.span.Span.{Span}
use Rattle.type_rules.specs.Arguments.{Arguments, part_count, values_of}
use Rattle.type_rules.specs.Callees.{Callee}
use Rattle.type_rules.specs.Constructors.{is_wrong_list}
use Rattle.type_rules.specs.Coverage.{parts}
use Rattle.type_rules.specs.Expecting.{expected_type, is_mismatch}
use Rattle.type_rules.specs.Faults.{Fault, and_then, limited, refuse}
use Rattle.type_rules.specs.Forms.{Expected}
use Rattle.type_rules.specs.Lists.{head_of}
use Rattle.type_rules.specs.Matching.{Finds, begun, finds_reference, found_types, is_known, lacks_type, matched, put_found}
use Rattle.type_rules.specs.Places.{Answer, gives, of_type}
use Rattle.type_rules.specs.TypeFacts.{is_large}
use Rattle.type_rules.specs.declared.fault.KindOfFault.TheVariants.{NestedBorrow, Mismatch, NoType, Arity, Field}
use Rattle.type_rules.specs.declared.state.State.{State}
use Rattle.rust_ast.specs.Resolved as e
use Rattle.rust_ast.specs.Spelled as s
use Rattle.core_ty.specs.Types as t

-- the rows that may hold at the whole, after its arguments
pub record Whole : Type 0 where
  pub nested : Bool
  pub lacks : Bool
  pub wrong : Bool
  pub missing : Bool

abbrev pub is_faulty : Whole → Bool
is_faulty w = w.lacks || (w.wrong || w.missing)

abbrev pub whole_rows : {A : Type 0} → Whole → Bool → t.Ty → Span → Expected → Result A Fault → Result A Fault
whole_rows w known y p x r =
    refuse w.nested p NestedBorrow (
    limited ((is_faulty w && known) && is_large y) (
    refuse ((is_faulty w && known) && is_mismatch x y) p Mismatch (
    refuse w.lacks p NoType (
    refuse w.wrong p Arity (
    refuse w.missing p Field r)))))

-- the result against the expected type
abbrev pub expected_finds : t.Ty → Finds → Option t.Ty → Finds
expected_finds result f None = f
expected_finds result f (Some y) = (matched result y f).1

-- what is built of the arguments
abbrev pub call_node : e.Callee → Finds → s.Parts → s.Form
call_node (e.function k) f parts = s.call (s.function k) (t.tys (found_types f)) (values_of parts)
call_node (e.builtin_of b) f parts = s.call (s.builtin_of b) (t.tys (found_types f)) (values_of parts)
call_node (e.constructor d v) f parts = s.construct d v parts

abbrev pub is_wrong_lists : ℕ → List (List t.Ty) → Bool
is_wrong_lists n ls = nat_lt 1 (length ls) || is_wrong_list n ls

-- `braces`: the arguments have names, and one may be missing; else they are counted
abbrev pub whole_of : Callee → Bool → Bool → Bool → Arguments → Whole
whole_of g nested wrong braces r = record {
  nested = nested;
  lacks = lacks_type r.finds;
  wrong = wrong || (not braces && not (part_count r.parts == length g.params));
  missing = braces && nat_lt (part_count r.parts) (length g.params);
}

abbrev pub call_from : Span → e.Callee → Callee → Bool → Bool → (Finds → State → Result Arguments Fault) → Expected → State → Finds → Finds → Answer
call_from p k g wrong braces read x st f0 f1 =
    and_then (read f1 st) (λ r.
    whole_rows (whole_of g (finds_reference f0 f1) wrong braces r) (is_known r.finds g.result) (put_found r.finds g.result) p x (
    gives (of_type (put_found r.finds g.result) p (call_node k r.finds r.parts)) r.state))

unfoldable pub call_rule : Span → e.Callee → Callee → List (List t.Ty) → Bool → (Finds → State → Result Arguments Fault) → Expected → State → Answer
call_rule p k g ls braces read x st =
    call_from p k g (is_wrong_lists g.types ls) braces read x st (begun g.types (unwrap_or (head_of ls) []))
    (expected_finds g.result (begun g.types (unwrap_or (head_of ls) [])) (expected_type x))

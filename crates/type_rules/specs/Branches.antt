-- `if` and `match` (LANGUAGE.md, "Branches").
use Rattle.std.specs.Prelude.{Bool, true, false, Result, Ok, not, ◌&&◌, if◌then◌else◌, Option, Some, None, List, [], ◌∷◌, is_none}
use Rattle.aen_base.specs.declared.span.Span.{Span}
use Rattle.type_rules.specs.Binding.{Met}
use Rattle.type_rules.specs.Coverage.{is_uncovered}
use Rattle.type_rules.specs.Expecting.{expected_type, for_arm, is_mismatch, settled}
use Rattle.type_rules.specs.Faults.{Fault, and_then, refuse}
use Rattle.type_rules.specs.Forms.{Expected, none, hint, want, Raw, stands, held}
use Rattle.type_rules.specs.Lists.{or_else}
use Rattle.type_rules.specs.Operands.{Operand, value_of}
use Rattle.type_rules.specs.Places.{Answer, gives, goes_through, is_endless, never_ends, raw_type, type_of}
use Rattle.type_rules.specs.WrittenOut.{as_value}
use Rattle.type_rules.specs.declared.fault.KindOfFault.TheVariants.{Mismatch, Uncovered}
use Rattle.type_rules.specs.declared.state.Scope.{Scope}
use Rattle.type_rules.specs.declared.state.State.{State}
use Rattle.rust_ast.specs.SpelledPatterns as q
use Rattle.rust_ast.specs.Spelled as s
use Rattle.core_ty.specs.Types as t

-- what a `match` looks at: a place stays a place
abbrev pub value_scrutinee : s.Val → s.Scrutinee
value_scrutinee (s.value x never p (s.use_of place true)) = s.stands x p place
value_scrutinee v = s.held v

abbrev pub scrutinee_of : Expected → Span → Raw → Result s.Scrutinee Fault
scrutinee_of (want (t.ref r m y)) p a = and_then (as_value (want (t.ref r m y)) p a) (λ v. Ok (value_scrutinee v))
scrutinee_of x p (stands place y w) = Ok (s.stands y p place)
scrutinee_of x p (held v) = Ok (s.held v)

unfoldable pub scrutinee : Operand → Expected → State → Result (s.Scrutinee × State) Fault
scrutinee a x st =
    and_then (a.read x st) (λ r.
    refuse (not (is_endless r.0) && is_mismatch x (raw_type r.0)) a.span Mismatch (
    and_then (scrutinee_of x a.span r.0) (λ k. Ok (k, r.1))))

abbrev pub scrutinee_type : s.Scrutinee → t.Ty
scrutinee_type (s.stands x p place) = x
scrutinee_type (s.held v) = type_of v

abbrev pub scrutinee_never_ends : s.Scrutinee → Bool
scrutinee_never_ends (s.stands x p place) = false
scrutinee_never_ends (s.held v) = never_ends v

abbrev pub is_behind : s.Scrutinee → Bool
is_behind (s.stands x p place) = goes_through place
is_behind (s.held v) = false

-- the type of the first arm that doesn't diverge
abbrev pub joined : Option t.Ty → s.Val → Option t.Ty
joined o v = if never_ends v then o else or_else o (Some (type_of v))

abbrev pub block_value : s.Block → s.Val
block_value (s.block x never p ss l) = s.value x never p (s.inner (s.block x never p ss l))

abbrev pub Blocked : Type 0
Blocked = Result (s.Block × State) Fault

-- arms that were found: what is expected, else the first type; every type where all diverge
abbrev pub select_value : Span → Expected → s.Scrutinee → s.Arms → Option t.Ty → Raw
select_value p x k arms found = held (s.value (settled (expected_type x) found) (is_none found) p (s.select k arms))

-- `if`
unfoldable pub branch_rule : Span → Operand → (Expected → State → Blocked) → Operand → Expected → State → Answer
branch_rule p a yes_block b x st =
    and_then (scrutinee a (hint t.bool) st) (λ k.
    and_then (yes_block (for_arm x None) k.1) (λ y.
    and_then (value_of b (for_arm x (joined None (block_value y.0))) y.1) (λ n.
    gives (select_value p x k.0 (s.more_arms (q.truth true) (block_value y.0) (s.more_arms (q.truth false) n.0 s.no_arms))
    (joined (joined None (block_value y.0)) n.0)) n.1)))

-- arms, the first type among them, and the state
pub record Arms : Type 0 where
  pub arms : s.Arms
  pub found : Option t.Ty
  pub state : State

abbrev pub patterns_of : s.Arms → List q.Pat
patterns_of s.no_arms = []
patterns_of (s.more_arms x v rest) = x ∷ patterns_of rest

-- `match`
unfoldable pub select_rule : Scope → Span → Operand → (s.Scrutinee → Expected → State → Result Arms Fault) → Expected → State → Answer
select_rule c p a read_arms x st =
    and_then (scrutinee a none st) (λ k.
    and_then (read_arms k.0 x k.1) (λ r.
    refuse (is_uncovered c.decls (scrutinee_type k.0) (patterns_of r.arms)) p Uncovered (
    gives (select_value p x k.0 r.arms r.found) r.state)))

-- what a pattern meets at the scrutinee
abbrev pub meeting : s.Scrutinee → Met
meeting k = record { part = Some (scrutinee_type k); kind = None; behind = is_behind k }

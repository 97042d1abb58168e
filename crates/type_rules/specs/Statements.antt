-- Statements and blocks (LANGUAGE.md, "Statements").
use Rattle.std.specs.Prelude.{Bool, false, Result, Ok, Err, not, ◌&&◌, if◌then◌else◌, Option, Some, None, [], ◌∷◌, unwrap_or}
use Rattle.aen_base.specs.declared.span.Span.{Span}
use Rattle.type_rules.specs.Binding.{Met}
use Rattle.type_rules.specs.Branches.{Blocked, meeting, scrutinee, scrutinee_never_ends, scrutinee_type}
use Rattle.type_rules.specs.Coverage.{is_uncovered}
use Rattle.type_rules.specs.Expecting.{expected_type, or_unit, want_type}
use Rattle.type_rules.specs.Faults.{Fault, and_then, at, refuse}
use Rattle.type_rules.specs.Forms.{Expected, none, hint}
use Rattle.type_rules.specs.Operands.{Operand, value_of}
use Rattle.type_rules.specs.Patterns.{is_simple, names_in, pattern, pattern_span}
use Rattle.type_rules.specs.Places.{never_ends, type_of}
use Rattle.type_rules.specs.States.{with_types}
use Rattle.type_rules.specs.TypeFacts.{same}
use Rattle.type_rules.specs.TypesInBodies.{plain_option}
use Rattle.type_rules.specs.declared.fault.KindOfFault.TheVariants.{Mismatch, NoType, Uncovered}
use Rattle.type_rules.specs.declared.state.Scope.{Scope}
use Rattle.type_rules.specs.declared.state.State.{State}
use Rattle.rust_ast.specs.Patterns as p
use Rattle.rust_ast.specs.SpelledPatterns as q
use Rattle.rust_ast.specs.Spelled as s
use Rattle.core_ty.specs.Types as t
use Rattle.rust_ast.specs.Written as w

-- a scrutinee that a `let` gives with its pattern
abbrev pub Statement : Type 0
Statement = Result ((s.Stmt × Bool) × State) Fault

-- `e;`, or a block that stands as a statement and has type unit
unfoldable pub run_rule : Operand → Bool → State → Statement
run_rule a semicolon st =
    and_then (value_of a (if semicolon then none else hint t.unit) st) (λ r.
    Ok ((s.run r.0, never_ends r.0), r.1))

-- `let x = e`, `let _ = e`
abbrev pub put_or_pass : Span → q.Pat → s.Val → s.Stmt
put_or_pass p (q.bind r k m) v = s.put p k v
put_or_pass p x v = s.pass p v

abbrev pub met_as : t.Ty → Met
met_as x = record { part = Some x; kind = None; behind = false }

abbrev pub let_simple : Scope → Span → p.Pat → Option t.Ty → Operand → State → Statement
let_simple c p x o a st =
    and_then (value_of a (want_type o) st) (λ r.
    and_then (pattern c.decls x (met_as (unwrap_or o (type_of r.0))) r.1.types) (λ b.
    Ok ((put_or_pass p b.0 r.0, never_ends r.0), with_types r.1 b.1)))

-- `let` with any other pattern
abbrev pub let_pattern : Scope → Span → p.Pat → Option t.Ty → Operand → State → Statement
let_pattern c p x o a st =
    and_then (scrutinee a (want_type o) st) (λ k.
    and_then (pattern c.decls x (meeting k.0) k.1.types) (λ b.
    refuse (is_uncovered c.decls (scrutinee_type k.0) (b.0 ∷ [])) p Uncovered (
    Ok ((s.open_up p k.0 b.0, scrutinee_never_ends k.0), with_types k.1 b.1))))

-- the written type, the value, the pattern
unfoldable pub let_rule : Scope → Span → p.Pat → w.MaybeWritten → Operand → State → Statement
let_rule c p x ty a st =
    and_then (plain_option c.decls ty) (λ o.
    (if is_simple x then let_simple c p x o a else let_pattern c p x o a) st)

-- `let` without a value
abbrev pub let_later : Scope → Span → p.Pat → Option t.Ty → State → Statement
let_later c p x None st = Err (at (pattern_span x) NoType)
let_later c p x (Some ty) st =
    and_then (pattern c.decls x (met_as ty) st.types) (λ b.
    refuse (is_uncovered c.decls ty (b.0 ∷ [])) p Uncovered (
    Ok ((s.later p (s.variables (names_in b.0)), false), with_types st b.1)))

unfoldable pub let_nothing : Scope → Span → p.Pat → w.MaybeWritten → State → Statement
let_nothing c p x ty st = and_then (plain_option c.decls ty) (λ o. let_later c p x o st)

-- statements, and whether one of them diverges
abbrev pub Statements : Type 0
Statements = Result ((s.Stmts × Bool) × State) Fault

-- a block with a last expression has its type
unfoldable pub block_with : Span → (State → Statements) → Operand → Expected → State → Blocked
block_with p read a x st =
    and_then (read st) (λ r.
    and_then (value_of a x r.1) (λ v.
    Ok (s.block (type_of v.0) (never_ends v.0) p r.0.0 (s.some_maybevalue v.0), v.1)))

-- one without has type unit, or every type where a statement diverges
abbrev pub ended_type : Bool → Expected → t.Ty
ended_type stops x = if stops then or_unit (expected_type x) else t.unit

unfoldable pub block_without : Span → (State → Statements) → Expected → State → Blocked
block_without p read x st =
    and_then (read st) (λ r.
    refuse (not r.0.1 && not (same (or_unit (expected_type x)) t.unit)) p Mismatch (
    Ok (s.block (ended_type r.0.1 x) r.0.1 p r.0.0 s.no_maybevalue, r.1)))

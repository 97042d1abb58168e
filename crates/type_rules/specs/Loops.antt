-- Loops, and what leaves them or the function (LANGUAGE.md, "Loops").
use Rattle.std.specs.Prelude.{Bool, Err, ℕ, ◌+◌, not, if◌then◌else◌, List, [], ◌∷◌}
use Rattle.aen_base.specs.declared.span.Span.{Span}
use Rattle.type_rules.specs.Branches.{Blocked}
use Rattle.type_rules.specs.Expecting.{or_unit, settled, want_type}
use Rattle.type_rules.specs.Faults.{and_then, at, refuse}
use Rattle.type_rules.specs.Forms.{Expected, none, hint, want, Raw, held}
use Rattle.type_rules.specs.Lists.{or_else}
use Rattle.type_rules.specs.Operands.{Operand, diverging, value_of}
use Rattle.type_rules.specs.Places.{Answer, gives, type_of}
use Rattle.type_rules.specs.States.{broken_out, entered, innermost, left}
use Rattle.type_rules.specs.TypeFacts.{same}
use Rattle.type_rules.specs.declared.fault.KindOfFault.TheVariants.{Mismatch, Outside}
use Rattle.type_rules.specs.declared.state.Loop.{Loop}
use Rattle.type_rules.specs.declared.state.Scope.{Scope}
use Rattle.type_rules.specs.declared.state.State.{State}
use Rattle.rust_ast.specs.Spelled as s
use Rattle.core_ty.specs.Types as t

-- `loop`, and `while` as it is read
abbrev pub loop_value : Span → Loop → s.Block → Raw
loop_value p l b = held (s.value (settled l.expected l.found) (not l.broken) p (s.forever l.number l.is_while l.broken b))

unfoldable pub loop_rule : Span → ℕ → Bool → (Expected → State → Blocked) → Expected → State → Answer
loop_rule p n w body x st =
    and_then (body (hint t.unit) (entered n w x st)) (λ b.
    gives (loop_value p (innermost b.1) b.0) (left b.1))

-- `return`
unfoldable pub give_rule : Scope → Span → Operand → Expected → State → Answer
give_rule c p a x st =
    and_then (value_of a (want c.result) st) (λ r.
    gives (diverging x p (s.give (s.some_maybevalue r.0))) r.1)

unfoldable pub give_nothing : Scope → Span → Expected → State → Answer
give_nothing c p x st =
    refuse (not (same c.result t.unit)) p Mismatch (
    gives (diverging x p (s.give s.no_maybevalue)) st)

-- the word `break`
abbrev pub word_of : Span → Span
word_of p = record { lo = p.lo; hi = p.lo + 5 }

-- what a `break` value is expected to have: what is expected of the loop, else what the first has
abbrev pub for_break : Loop → Expected
for_break l = want_type (or_else l.expected l.found)

-- `break e`: outside a loop and in a `while` its value is visited, and then it is at fault
abbrev pub leave_loop : List Loop → Span → Operand → Expected → State → Answer
leave_loop [] p a x st = and_then (value_of a none st) (λ r. Err (at (word_of p) Outside))
leave_loop (l ∷ ls) p a x st =
    and_then (value_of a (if l.is_while then none else for_break l) st) (λ r.
    refuse l.is_while (word_of p) Outside (
    gives (diverging x p (s.leave l.number (s.some_maybevalue r.0))) (broken_out (type_of r.0) r.1)))

unfoldable pub leave_rule : Span → Operand → Expected → State → Answer
leave_rule p a x st = leave_loop st.loops p a x st

abbrev pub leave_nothing_loop : List Loop → Span → Expected → State → Answer
leave_nothing_loop [] p x st = Err (at (word_of p) Outside)
leave_nothing_loop (l ∷ ls) p x st =
    refuse (not (same (or_unit (or_else l.expected l.found)) t.unit)) p Mismatch (
    gives (diverging x p (s.leave l.number s.no_maybevalue)) (broken_out t.unit st))

unfoldable pub leave_nothing : Span → Expected → State → Answer
leave_nothing p x st = leave_nothing_loop st.loops p x st

-- `continue`
abbrev pub go_on_loop : List Loop → Span → Expected → State → Answer
go_on_loop [] p x st = Err (at p Outside)
go_on_loop (l ∷ ls) p x st = gives (diverging x p (s.go_on l.number)) st

unfoldable pub go_on_rule : Span → Expected → State → Answer
go_on_rule p x st = go_on_loop st.loops p x st

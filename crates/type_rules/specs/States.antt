-- What stays the same in a function, and what was found so far: the variables' types, and the loops around
-- (LANGUAGE.md, "Types").
use Rattle.std.specs.Prelude.{Bool, true, false, ℕ, ◌||◌, if◌then◌else◌, Some, None, option_map, List, [], ◌∷◌, unwrap_or, slice_get}
use Rattle.type_rules.specs.Expecting.{expected_type}
use Rattle.type_rules.specs.Forms.{Expected}
use Rattle.type_rules.specs.Lists.{or_else, rest_of}
use Rattle.type_rules.specs.declared.state.Loop.{Loop}
use Rattle.type_rules.specs.declared.state.Scope.{Scope}
use Rattle.type_rules.specs.declared.state.State.{State}
use Rattle.core_ty.specs.Types as t

abbrev pub first_or : {A : Type 0} → List A → A → A
first_or [] d = d
first_or (x ∷ xs) d = x

abbrev pub type_of_variable : State → ℕ → t.Ty
type_of_variable st k = unwrap_or (slice_get st.types k) t.unit

abbrev pub may_be_written : Scope → ℕ → Bool
may_be_written c k = unwrap_or (option_map (λ v. v.mutable || v.late) (slice_get c.variables k)) false

abbrev pub with_types : State → List t.Ty → State
with_types st xs = record { types = xs; loops = st.loops }

abbrev pub with_loops : State → List Loop → State
with_loops st ls = record { types = st.types; loops = ls }

-- a loop is entered: of a `while` nothing is expected
abbrev pub entered : ℕ → Bool → Expected → State → State
entered n w x st =
    with_loops st (record { number = n; is_while = w; expected = if w then None else expected_type x; found = None; broken = false } ∷ st.loops)

abbrev pub left : State → State
left st = with_loops st (rest_of st.loops)

abbrev pub no_loop : Loop
no_loop = record { number = 0; is_while = false; expected = None; found = None; broken = false }

abbrev pub innermost : State → Loop
innermost st = first_or st.loops no_loop

abbrev pub break_noted : t.Ty → Loop → Loop
break_noted x l = record { number = l.number; is_while = l.is_while; expected = l.expected; found = or_else l.found (Some x); broken = true }

-- the innermost loop has a `break` whose value has this type
abbrev pub broken_first : t.Ty → List Loop → List Loop
broken_first x [] = []
broken_first x (l ∷ ls) = break_noted x l ∷ ls

abbrev pub broken_out : t.Ty → State → State
broken_out x st = with_loops st (broken_first x st.loops)

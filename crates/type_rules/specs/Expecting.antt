-- What is expected of an expression, and what a type has to be then (LANGUAGE.md, "Expected types").
use Rattle.std.specs.Prelude.{Bool, false, not, ◌&&◌, ◌||◌, if◌then◌else◌, Option, Some, None, unwrap_or}
use Rattle.type_rules.specs.Forms.{Expected, none, hint, want}
use Rattle.type_rules.specs.TypeFacts.{is_reference, reaches, same}
use Rattle.core_ty.specs.Types as t

abbrev pub expected_type : Expected → Option t.Ty
expected_type none = None
expected_type (hint x) = Some x
expected_type (want x) = Some x

-- what is expected of a part, where this is expected of the whole
abbrev pub for_part : Expected → t.Ty → Expected
for_part none x = none
for_part (hint y) x = hint x
for_part (want y) x = want x

-- what is expected of an operand: the type, unless it is a reference
abbrev pub hint_unless_reference : t.Ty → Expected
hint_unless_reference x = if is_reference x then none else hint x

abbrev pub for_operand : Expected → Expected
for_operand none = none
for_operand (hint x) = hint_unless_reference x
for_operand (want x) = hint_unless_reference x

abbrev pub want_type : Option t.Ty → Expected
want_type None = none
want_type (Some x) = want x

-- what stands where &, or &mut, to a type is wanted: a reference whose content is that type inside boxes
abbrev pub fits_wanted : t.Ty → t.Ty → Bool
fits_wanted (t.ref r m q) (t.ref r2 m2 b) = (not m || m2) && reaches b q
fits_wanted x y = same y x

-- Mismatch: a type isn't the expected one
abbrev pub is_mismatch : Expected → t.Ty → Bool
is_mismatch none y = false
is_mismatch (hint x) y = not (same y x)
is_mismatch (want x) y = not (fits_wanted x y)

-- the type of what has every type
abbrev pub or_unit : Option t.Ty → t.Ty
or_unit o = unwrap_or o t.unit

-- what an arm is expected to have: later arms are compared with the first that doesn't diverge
abbrev pub for_arm : Expected → Option t.Ty → Expected
for_arm none None = none
for_arm none (Some x) = hint x
for_arm (hint y) o = hint y
for_arm (want y) o = want y

-- the type of a loop, or of arms: what is expected, else what was found first, else unit
abbrev pub settled : Option t.Ty → Option t.Ty → t.Ty
settled (Some x) found = x
settled None found = or_unit found

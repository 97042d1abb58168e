-- The innermost loop, as a `break` sees it.
use Rattle.std.specs.Prelude.{◌≡◌, Bool, ℕ, if◌then◌else◌, List, ◌∷◌}
use Rattle.type_forms.specs.declared.loops.Break.{Break}
use Rattle.type_rules.specs.Expecting.{or_unit}
use Rattle.type_rules.specs.Forms.{Expected, none}
use Rattle.type_rules.specs.Lists.{or_else, rest_of}
use Rattle.type_rules.specs.Loops.{for_break}
use Rattle.type_rules.specs.TypeFacts.{same}
use Rattle.type_rules.specs.declared.state.Loop.{Loop}
use Rattle.core_ty.specs.Types as t

abbrev pub expected_of : Loop → Expected
expected_of l = if l.is_while then none else for_break l

-- the innermost of these loops
pub record IsBreak (b : Break) (ls : List Loop) : Type 0 where
  pub around : Loop
  pub first : ls ≡ around ∷ rest_of ls
  pub number : b.number ≡ around.number
  pub is_while : b.is_while ≡ around.is_while
  pub expected : b.expected ≡ expected_of around

-- its number, and whether unit fits
pub record IsUnitBreak (b : ℕ × Bool) (ls : List Loop) : Type 0 where
  pub around : Loop
  pub first : ls ≡ around ∷ rest_of ls
  pub number : b.0 ≡ around.number
  pub fits : b.1 ≡ same (or_unit (or_else around.expected around.found)) t.unit

-- A loop that was just entered.
use Rattle.std.specs.Prelude.{Bool, false, ℕ, None, if◌then◌else◌}
use Rattle.type_rules.specs.Expecting.{expected_type}
use Rattle.type_rules.specs.Forms.{Expected}
use Rattle.type_rules.specs.declared.state.Loop.{Loop}

abbrev pub fresh_loop : ℕ → Bool → Expected → Loop
fresh_loop n w x = record { number = n; is_while = w; expected = if w then None else expected_type x; found = None; broken = false }

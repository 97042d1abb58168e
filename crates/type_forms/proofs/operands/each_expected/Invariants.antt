use Rattle.std.proofs.Common.{◌≡◌, ◌++◌, drop}
use Rattle.std.specs.Prelude.{map}
use Rattle.type_rules.specs.Expecting.{for_part}
use Rattle.type_forms.proofs.operands.each_expected.Given as goal

abbrev pub invariant-loop-part : goal.invariant-loop-part
invariant-loop-part l = l.all ++ map (for_part l.expected) (drop l.part-index l.parts) ≡ map (for_part l.expected) l.parts

use Rattle.std.proofs.Common.{◌≡◌, ◌++◌, map, take}
use Rattle.type_cover.specs.Stack.{at_level}
use Rattle.type_cover.proofs.covering.columns_before.Given as goal

abbrev pub invariant-loop-part : goal.invariant-loop-part
invariant-loop-part l = l.columns ≡ map (at_level l.level) (take l.part-index l.parts)

abbrev pub invariant-loop-column : goal.invariant-loop-column
invariant-loop-column l = l.columns ≡ map (at_level l.level) l.parts ++ take l.column-index l.rest

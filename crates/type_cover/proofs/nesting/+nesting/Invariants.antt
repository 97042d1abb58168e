use Rattle.std.proofs.Common.{◌≡◌, ◌*◌, drop}
use Rattle.std.specs.Prelude.{max}
use Rattle.rust_ast.specs.SpelledPatterns.{fieldpats, nodes_fieldpats, nodes_pat, nodes_pats, pats}
use Rattle.type_rules.specs.Coverage as spec
use Rattle.type_cover.proofs.nesting.+nesting.Given as goal

abbrev pub decreases-nesting : goal.decreases-nesting
decreases-nesting l = 2 * nodes_pat l.pat.now

abbrev pub decreases-nesting_all : goal.decreases-nesting_all
decreases-nesting_all l = 2 * nodes_pats (pats l.parts.now)

abbrev pub decreases-nesting_fields : goal.decreases-nesting_fields
decreases-nesting_fields l = 2 * nodes_fieldpats (fieldpats l.fields.now)

abbrev pub invariant-nesting_all-loop-part : goal.invariant-nesting_all-loop-part
invariant-nesting_all-loop-part l = max l.levels (spec.nesting_all (pats (drop l.part-index l.parts))) ≡ spec.nesting_all (pats l.parts)

abbrev pub invariant-nesting_fields-loop-field : goal.invariant-nesting_fields-loop-field
invariant-nesting_fields-loop-field l =
    max l.levels (spec.nesting_fields (fieldpats (drop l.field-index l.fields))) ≡ spec.nesting_fields (fieldpats l.fields)

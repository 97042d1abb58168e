use Rattle.std.proofs.Common.{◌≡◌, ◌+◌, ◌++◌, drop}
use Rattle.rust_ast.specs.SpelledPatterns as q
use Rattle.type_rules.specs.Patterns.{names_in_all, names_in_fields}
use Rattle.type_forms.proofs.names.+naming.Given as goal

abbrev pub decreases-put_names : goal.decreases-put_names
decreases-put_names l = q.nodes_pat l.pattern.now

abbrev pub decreases-put_all : goal.decreases-put_all
decreases-put_all l = q.nodes_pats (q.pats l.parts.now)

abbrev pub decreases-put_fields : goal.decreases-put_fields
decreases-put_fields l = q.nodes_fieldpats (q.fieldpats l.fields.now)

abbrev pub invariant-put_all-loop-part : goal.invariant-put_all-loop-part
invariant-put_all-loop-part l = l.names ++ names_in_all (q.pats (drop l.part-index l.parts)) ≡ l.fn.names ++ names_in_all (q.pats l.parts)

abbrev pub invariant-put_fields-loop-field : goal.invariant-put_fields-loop-field
invariant-put_fields-loop-field l = l.names ++ names_in_fields (q.fieldpats (drop l.field-index l.fields)) ≡ l.fn.names ++ names_in_fields (q.fieldpats l.fields)

use Rattle.std.proofs.Common.{◌≡◌, ◌++◌, ◌*◌, drop}
use Rattle.rust_ast.specs.SourcePatterns as s
use Rattle.name_clashes.specs.Twice.{bindings_all, bindings_fields}
use Rattle.name_clashes.proofs.bindings.+bindings.Given as goal

abbrev pub decreases-bindings : goal.decreases-bindings
decreases-bindings l = 2 * s.nodes_pat l.pat.now

abbrev pub decreases-bindings_all : goal.decreases-bindings_all
decreases-bindings_all l = 2 * s.nodes_pats (s.pats l.pats.now)

abbrev pub decreases-bindings_fields : goal.decreases-bindings_fields
decreases-bindings_fields l = 2 * s.nodes_fieldpats (s.fieldpats l.fields.now)

abbrev pub decreases-bindings_field : goal.decreases-bindings_field
decreases-bindings_field l = 2 * s.nodes_fieldpat l.field.now

abbrev pub invariant-bindings_all-loop-i : goal.invariant-bindings_all-loop-i
invariant-bindings_all-loop-i l = l.names ++ bindings_all l.tables.values (s.pats (drop l.i l.pats)) ≡ l.initial.names ++ bindings_all l.tables.values (s.pats l.pats)

abbrev pub invariant-bindings_fields-loop-i : goal.invariant-bindings_fields-loop-i
invariant-bindings_fields-loop-i l =
    l.names ++ bindings_fields l.tables.values (s.fieldpats (drop l.i l.fields)) ≡ l.initial.names ++ bindings_fields l.tables.values (s.fieldpats l.fields)

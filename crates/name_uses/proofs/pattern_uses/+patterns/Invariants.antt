use Rattle.std.proofs.Common.{◌≡◌, ◌*◌, drop}
use Rattle.rust_ast.specs.SourcePatterns as s
use Rattle.rust_ast.specs.Patterns as p
use Rattle.name_uses.specs.PatternUses.{read_pat, read_pats, read_field, read_fields}
use Rattle.name_uses.specs.Walks.{on_ok, walk, onward, in_form}
use Rattle.name_uses.proofs.pattern_uses.+patterns.Given as goal

abbrev pub decreases-resolve_pat : goal.decreases-resolve_pat
decreases-resolve_pat l = 2 * s.nodes_pat l.pat.now

abbrev pub decreases-resolve_pats : goal.decreases-resolve_pats
decreases-resolve_pats l = 2 * s.nodes_pats (s.pats l.pats.now)

abbrev pub decreases-resolve_fields : goal.decreases-resolve_fields
decreases-resolve_fields l = 2 * s.nodes_fieldpats (s.fieldpats l.fields.now)

abbrev pub decreases-resolve_field : goal.decreases-resolve_field
decreases-resolve_field l = 2 * s.nodes_fieldpat l.field.now

abbrev pub invariant-resolve_pats-loop-i : goal.invariant-resolve_pats-loop-i
invariant-resolve_pats-loop-i l =
    read_pats l.tables l.generics l.late (s.pats l.pats) l.fn.state
    ≡ on_ok (in_form p.pats) (onward l.done (walk (read_pat l.tables l.generics l.late) (drop l.i l.pats) l.state))

abbrev pub invariant-resolve_fields-loop-i : goal.invariant-resolve_fields-loop-i
invariant-resolve_fields-loop-i l =
    read_fields l.tables l.generics l.late (s.fieldpats l.fields) l.fn.state
    ≡ on_ok (in_form p.fieldpats) (onward l.done (walk (read_field l.tables l.generics l.late) (drop l.i l.fields) l.state))

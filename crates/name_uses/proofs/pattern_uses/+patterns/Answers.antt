use Rattle.std.proofs.Common.{ap, sym, ◌∙◌, arith}
use Rattle.rust_ast.specs.Patterns as p
use Rattle.name_tables.specs.NodeLemmas.{pat_item, field_item}
use Rattle.name_uses.specs.PatternUses.{read_pat, read_field}
use Rattle.name_uses.specs.Walks.{on_ok, walk, onward, in_form}
use Rattle.name_uses.proofs.PatternLists.{walk_pats, walk_fields}
use Rattle.name_uses.proofs.Walking.{walk_start}
use Rattle.name_uses.proofs.pattern_uses.+patterns.Goals as goal

pub resolve_pats-loop-i-init : goal.resolve_pats-loop-i-init
resolve_pats-loop-i-init t c =
    let step = read_pat c.args.tables.now c.args.generics.now c.args.late in
    walk_pats c.args.tables.now c.args.generics.now c.args.late c.args.pats.now c.args.state
    ∙ ap (on_ok (in_form p.pats)) (sym (walk_start step (walk step c.args.pats.now c.args.state)) ∙ ap (λ d. onward d (walk step c.args.pats.now c.args.state)) (sym c.new-done.ensures))

pub resolve_pats-resolve_pat-requires : goal.resolve_pats-resolve_pat-requires
resolve_pats-resolve_pat-requires t c =
    let h = pat_item c.args.pats.now c.loop-i.i c.index-pats-i.result (omega arith) c.index-pats-i.is in
    (omega (arith, h), tt)

pub resolve_fields-loop-i-init : goal.resolve_fields-loop-i-init
resolve_fields-loop-i-init t c =
    let step = read_field c.args.tables.now c.args.generics.now c.args.late in
    walk_fields c.args.tables.now c.args.generics.now c.args.late c.args.fields.now c.args.state
    ∙ ap (on_ok (in_form p.fieldpats)) (sym (walk_start step (walk step c.args.fields.now c.args.state)) ∙ ap (λ d. onward d (walk step c.args.fields.now c.args.state)) (sym c.new-done.ensures))

pub resolve_fields-resolve_field-requires : goal.resolve_fields-resolve_field-requires
resolve_fields-resolve_field-requires t c =
    let h = field_item c.args.fields.now c.loop-i.i c.index-fields-i.result (omega arith) c.index-fields-i.is in
    (omega (arith, h), tt)

use Rattle.std.proofs.Common.{◌∷◌, ◌++◌, [], map, ap, ◌∙◌}
use Rattle.type_cover.proofs.Steps.{match_covers}
use Rattle.type_cover.specs.Cells.{rows_now}
use Rattle.type_cover.proofs.coverage.is_covered.Goals as goal

pub returns : goal.returns
returns c =
    match_covers c.args.decls.now c.args.ty.now c.in_ok-column.column c.in_ok-level.level (map (λ p. p.now) c.args.patterns.now)
    c.as_slice.result.now (rows_now c.as_slice-2.result.now) c.covers.result
    (c.as_slice.ensures ∙ c.in_ok-push.ensures.ok ∙ ap (λ cs. cs ++ (c.in_ok-column.column, c.in_ok-level.level) ∷ []) c.new-columns.ensures)
    c.in_ok-column.ensures c.in_ok-level.ensures (ap rows_now c.as_slice-2.ensures ∙ c.in_ok-rows.ensures)
    c.requires.suit c.covers.ensures

use Rattle.std.proofs.Common.{◌≡◌, ◌+◌, ◌*◌, suc, drop, map}
use Rattle.std.specs.List.{list_all}
use Rattle.type_cover.specs.Cells.{rows_now, values_now}
use Rattle.type_cover.specs.Stack.{at_way, columns_weight, level_weight, parts_weight, variants_weight, weight}
use Rattle.type_cover.specs.Ways.{number_way, variant_ways}
use Rattle.type_cover.proofs.covering.+covering.Given as goal

abbrev pub decreases-covers : goal.decreases-covers
decreases-covers l = 8 * columns_weight l.decls.now l.columns.now + 7

abbrev pub decreases-by_column : goal.decreases-by_column
decreases-by_column l = 8 * (weight l.decls.now l.column.now.1 l.column.now.0 + columns_weight l.decls.now l.rest.now) + 6

abbrev pub decreases-past_open : goal.decreases-past_open
decreases-past_open l = 8 * columns_weight l.decls.now l.rest.now + 8

abbrev pub decreases-by_type : goal.decreases-by_type
decreases-by_type l =
    8 * (suc (level_weight (weight l.decls.now l.split.below) l.decls.now l.ty.now) + columns_weight l.decls.now l.split.rest.now) + 5

abbrev pub decreases-at_head : goal.decreases-at_head
decreases-at_head l = 8 * columns_weight l.decls.now l.split.rest.now + 8

abbrev pub decreases-at_bools : goal.decreases-at_bools
decreases-at_bools l = 8 * columns_weight l.decls.now l.split.rest.now + 9

abbrev pub decreases-at_numbers : goal.decreases-at_numbers
decreases-at_numbers l = 8 * columns_weight l.decls.now l.split.rest.now + 9

abbrev pub decreases-at_parts : goal.decreases-at_parts
decreases-at_parts l = 8 * (parts_weight (weight l.decls.now l.split.below) l.parts.now + columns_weight l.decls.now l.split.rest.now) + 9

abbrev pub decreases-at_variants : goal.decreases-at_variants
decreases-at_variants l =
    8 * (variants_weight (weight l.decls.now l.split.below) l.args.now l.variants.now + columns_weight l.decls.now l.split.rest.now) + 10

abbrev pub invariant-at_numbers-loop-number : goal.invariant-at_numbers-loop-number
invariant-at_numbers-loop-number l =
    list_all (at_way l.decls l.split.below l.split.rest.now (rows_now l.split.rows.now)) (map number_way (values_now (drop l.number-index l.named)))
    ≡ list_all (at_way l.decls l.split.below l.split.rest.now (rows_now l.split.rows.now)) (map number_way (values_now l.named))

abbrev pub invariant-at_variants-loop-variant : goal.invariant-at_variants-loop-variant
invariant-at_variants-loop-variant l =
    list_all (at_way l.decls l.split.below l.split.rest.now (rows_now l.split.rows.now)) (variant_ways l.args l.variant (drop l.variant l.variants))
    ≡ list_all (at_way l.decls l.split.below l.split.rest.now (rows_now l.split.rows.now)) (variant_ways l.args 0 l.variants)

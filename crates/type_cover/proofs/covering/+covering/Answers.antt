use Rattle.std.proofs.Common.{◌≡◌, ◌+◌, ◌≤◌, get_or, slice_get, ap, sym, ◌∙◌, arith}
use Rattle.std.proofs.lemmas.Option.{slice_get-get_or}
use Rattle.core_ty.specs.View.{ty_of}
use Rattle.type_rules.specs.Skeletons.{field_types}
use Rattle.type_cover.proofs.Steps.{named_by_type, tuple_by_type}
use Rattle.type_cover.specs.Cells.{rows_now}
use Rattle.type_cover.specs.Stack.{columns_weight, declared_weight, level_weight, parts_weigh, parts_weight, variant_weighs, variants_weight, weight}
use Rattle.core_ty.specs.Types as ty
use Rattle.type_cover.proofs.covering.+covering.Goals as goal

pub at_parts-covers-requires : goal.at_parts-covers-requires
at_parts-covers-requires t c =
    let same : columns_weight c.args.decls.now c.as_slice.result.now
    ≡ parts_weight (weight c.args.decls.now c.args.split.below) c.args.parts.now + columns_weight c.args.decls.now c.args.split.rest.now =
    ap (columns_weight c.args.decls.now) (c.as_slice.ensures ∙ c.in_ok-columns.ensures)
    ∙ parts_weigh c.args.decls.now c.args.split.below c.args.parts.now c.args.split.rest.now in
    (omega (arith, same), tt)

pub at_variants-at_parts-requires : goal.at_variants-at_parts-requires
at_variants-at_parts-requires t c =
    let this = get_or c.args.variants.now c.loop-variant.variant c.index-variants-variant.result in
    let low : parts_weight (weight c.args.decls.now c.args.split.below) (field_types c.args.args.now this.fields)
    ≤ variants_weight (weight c.args.decls.now c.args.split.below) c.args.args.now c.args.variants.now =
    variant_weighs (weight c.args.decls.now c.args.split.below) c.args.args.now c.args.variants.now c.loop-variant.variant this
    (slice_get-get_or c.args.variants.now c.loop-variant.variant c.index-variants-variant.result c.loop-variant-test.true) in
    let same : parts_weight (weight c.args.decls.now c.args.split.below) c.as_slice-in-loop-variant.result.now
    ≡ parts_weight (weight c.args.decls.now c.args.split.below) (field_types c.args.args.now this.fields) =
    ap (parts_weight (weight c.args.decls.now c.args.split.below))
    (c.as_slice-in-loop-variant.ensures ∙ c.in_ok-types.ensures ∙ ap (field_types c.args.args.now) c.as_slice.ensures) in
    (omega (arith, low, same), tt)

pub by_type-at_parts-requires-in-Tuple : goal.by_type-at_parts-requires-in-Tuple
by_type-at_parts-requires-in-Tuple t c =
    let same : level_weight (weight c.args.decls.now c.args.split.below) c.args.decls.now c.args.ty.now
    ≡ parts_weight (weight c.args.decls.now c.args.split.below) c.as_slice.result.now =
    ap (level_weight (weight c.args.decls.now c.args.split.below) c.args.decls.now)
    (sym c.ty.view_is ∙ ap ty_of c.in-Tuple.is ∙ ap (λ xs. ty.tuple (ty.tys xs)) (sym c.as_slice.ensures))
    ∙ ap (parts_weight (weight c.args.decls.now c.args.split.below)) (ty.tys_back c.as_slice.result.now) in
    (omega (arith, same), tt)

pub by_type-at_variants-requires : goal.by_type-at_variants-requires
by_type-at_variants-requires t c =
    let same : level_weight (weight c.args.decls.now c.args.split.below) c.args.decls.now c.args.ty.now
    ≡ variants_weight (weight c.args.decls.now c.args.split.below) c.as_slice-in-Some.result.now c.as_slice-in-Some-2.result.now =
    ap (level_weight (weight c.args.decls.now c.args.split.below) c.args.decls.now)
    (sym c.ty.view_is ∙ ap ty_of c.in-Named.is ∙ ap (λ xs. ty.named c.in-Named.decl (ty.tys xs)) (sym c.as_slice-in-Some.ensures))
    ∙ ap (λ ys. declared_weight (weight c.args.decls.now c.args.split.below) ys (slice_get c.args.decls.now c.in-Named.decl.0)) (ty.tys_back c.as_slice-in-Some.result.now)
    ∙ ap (declared_weight (weight c.args.decls.now c.args.split.below) c.as_slice-in-Some.result.now) (sym c.in-Some.ensures)
    ∙ ap (variants_weight (weight c.args.decls.now c.args.split.below) c.as_slice-in-Some.result.now) (sym c.as_slice-in-Some-2.ensures) in
    (omega (arith, same), tt)

pub by_type-returns-in-Tuple : goal.by_type-returns-in-Tuple
by_type-returns-in-Tuple t c =
    tuple_by_type c.args.decls.now c.args.ty.now c.args.split.below c.args.split.rest.now (rows_now c.args.split.rows.now) c.at_parts-in-Tuple.result
    c.as_slice.result.now
    (sym c.ty.view_is ∙ ap ty_of c.in-Tuple.is ∙ ap (λ xs. ty.tuple (ty.tys xs)) (sym c.as_slice.ensures)) c.at_parts-in-Tuple.ensures

pub by_type-returns-in-Some : goal.by_type-returns-in-Some
by_type-returns-in-Some t c =
    named_by_type c.args.decls.now c.args.ty.now c.args.split.below c.args.split.rest.now (rows_now c.args.split.rows.now) c.at_variants.result
    c.in-Named.decl c.as_slice-in-Some.result.now c.in-Some.declared.now c.as_slice-in-Some-2.result.now
    (sym c.ty.view_is ∙ ap ty_of c.in-Named.is ∙ ap (λ xs. ty.named c.in-Named.decl (ty.tys xs)) (sym c.as_slice-in-Some.ensures))
    c.in-Some.ensures c.as_slice-in-Some-2.ensures c.at_variants.ensures

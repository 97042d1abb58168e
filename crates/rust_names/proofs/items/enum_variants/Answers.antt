use Rattle.std.proofs.Common.{◌∙◌, ap}
use Rattle.name_tables.specs.Tables.{only_parameters}
use Rattle.rust_names.proofs.ItemParts.{variants_give}
use Rattle.rust_names.proofs.items.enum_variants.Goals as goal

pub returns : goal.returns
returns c =
    variants_give c.args.tables.now c.args.e.now c.in_ok-generics.generics c.as_slice-variants.result.now c.resolve_variants.result (c.in_ok-generics.ensures ∙ ap only_parameters c.as_slice.ensures) c.as_slice-variants.ensures c.resolve_variants.ensures

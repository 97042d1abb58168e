-- The variant's name is looked up as the definition says.
use Rattle.std.proofs.Common.{◌∙◌}
use Rattle.lean_printer.proofs.Joins.{variant_found, variant_missing}
use Rattle.lean_printer.proofs.names.variant_name.Goals as goal

pub returns-in-Some-at : goal.returns-in-Some-at
returns-in-Some-at c = c.as_str.ensures ∙ variant_found c.args.defs.now.types c.as_slice.result.now c.as_slice-in-Some.result.now c.args.ty.0 c.args.variant
    c.in-Some.decl.now c.in-Some-at.field-0.now c.as_slice.ensures c.in-Some.ensures c.as_slice-in-Some.ensures c.in-Some-at.ensures

pub returns-in-None-at : goal.returns-in-None-at
returns-in-None-at c = variant_missing c.args.defs.now.types c.as_slice.result.now c.as_slice-in-Some.result.now c.args.ty.0 c.args.variant
    c.in-Some.decl.now c.as_slice.ensures c.in-Some.ensures c.as_slice-in-Some.ensures c.in-None-at.ensures

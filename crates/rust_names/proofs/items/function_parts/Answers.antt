use Rattle.rust_names.proofs.ItemParts.{parts_give}
use Rattle.rust_names.proofs.items.function_parts.Goals as goal

pub returns : goal.returns
returns c = parts_give c.args.tables.now c.args.f.now c.in_ok-generics.generics c.typed_body.result c.in_ok-generics.ensures c.typed_body.ensures

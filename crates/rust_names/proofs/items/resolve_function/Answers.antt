use Rattle.rust_names.proofs.ItemParts.{function_gives}
use Rattle.rust_names.proofs.items.resolve_function.Goals as goal

pub returns : goal.returns
returns c =
    function_gives c.args.tables.now c.args.f.now c.in_ok-params.params c.in_ok-params.result c.in_ok-params.body c.in_ok-params.variables c.in_ok-name.name c.in_ok-name.lifetimes c.in_ok-name.type_params
    c.in_ok-params.ensures c.in_ok-name.ensures.own c.in_ok-name.ensures.lifetimes c.in_ok-name.ensures.type_params

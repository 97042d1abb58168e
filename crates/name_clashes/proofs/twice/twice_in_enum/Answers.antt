use Rattle.name_clashes.proofs.Repeating.{enum_twice}
use Rattle.name_clashes.proofs.twice.twice_in_enum.Goals as goal

pub returns-clause-places : goal.returns-clause-places
returns-clause-places c =
    enum_twice c.args.tables.now.values c.args.seen c.args.e.now c.as_slice-parameters.result.now c.as_slice.result.now c.in_ok-own.own c.in_ok-own.params c.in_ok-inside.inside
    c.first-rest.result c.first-places.result c.as_slice-parameters.ensures c.as_slice.ensures c.in_ok-own.ensures.own c.in_ok-own.ensures.parameters c.in_ok-inside.ensures
    c.first-rest.ensures c.first-places.ensures

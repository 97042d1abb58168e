use Rattle.name_clashes.proofs.Repeating.{struct_twice}
use Rattle.name_clashes.proofs.twice.twice_in_struct.Goals as goal

pub returns-clause-places : goal.returns-clause-places
returns-clause-places c =
    struct_twice c.args.tables.now.values c.args.seen c.args.s.now c.struct_kind-kind.result c.as_slice-parameters.result.now c.in_ok-own.own c.in_ok-own.params c.in_ok-inside.inside
    c.first-rest.result c.first-places.result c.struct_kind-kind.ensures c.as_slice-parameters.ensures c.in_ok-own.ensures.own c.in_ok-own.ensures.parameters c.in_ok-inside.ensures
    c.first-rest.ensures c.first-places.ensures

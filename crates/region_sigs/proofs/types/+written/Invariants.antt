use Rattle.std.proofs.Common.{◌≡◌, ◌*◌, drop}
use Rattle.region_sigs.specs.Standings.{as_standing}
use Rattle.region_sigs.specs.Walks.{walk_onto, on_ok, in_tys}
use Rattle.rust_ast.specs.Written.{writtens, nodes_written, nodes_writtens}
use Rattle.type_rules.specs.WrittenTypes.{written, written_all}
use Rattle.region_sigs.proofs.types.+written.Given as goal

abbrev pub decreases-type_of : goal.decreases-type_of
decreases-type_of g l = 2 * nodes_written l.ty.now

abbrev pub decreases-types_of : goal.decreases-types_of
decreases-types_of g l = 2 * nodes_writtens (writtens l.items.now)

abbrev pub invariant-types_of-loop-item : goal.invariant-types_of-loop-item
invariant-types_of-loop-item g l =
    written_all (g.D.Declaring.numbers l.types) (as_standing l.standing) l.inside (writtens l.items) l.fn.next
    ≡ on_ok in_tys (walk_onto (written (g.D.Declaring.numbers l.types) (as_standing l.standing) l.inside) l.done (drop l.item-index l.items) l.following)

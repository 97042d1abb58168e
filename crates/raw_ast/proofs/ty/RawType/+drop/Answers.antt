-- A part of a type in hand is taken while nothing waits: fewer nodes are left in all.
use Rattle.std.proofs.Common.{◌+◌, ◌≤◌, ap, arith}
use Rattle.raw_ast.specs.Types.{nodes_rawtype}
use Rattle.raw_ast.specs.TypeLeft.{nodes_below, nodes_waiting}
use Rattle.raw_ast.proofs.Dropping.{types_taken, fewer_in_all}
use Rattle.raw_ast.proofs.ty.RawType.+drop.Goals as goal

pub loop-held-smaller-else-is_empty : goal.loop-held-smaller-else-is_empty
loop-held-smaller-else-is_empty t c =
    let same = ap nodes_rawtype c.self.view_is in
    let all = c.below_of.ensures in
    let parts = ap nodes_below c.in-Parts.is in
    let held = ap nodes_waiting c.in-None-waiting.is in
    let taken = types_taken c.in-Parts.parts c.pop.new.self c.in-Some-pop.next c.in-Some-pop.ensures in
    let made = ap nodes_rawtype c.product.ensures in
    let small : nodes_rawtype c.loop-held.self + nodes_waiting c.loop-held.waiting ≤ nodes_rawtype c.args.self = c.loop-held.invariant in
    fewer_in_all (nodes_rawtype c.loop-held.self + nodes_waiting c.loop-held.waiting) (nodes_rawtype c.in-Some-pop.next + nodes_rawtype c.product.result) (nodes_rawtype c.loop-held.self) (nodes_rawtype c.in-Some-pop.next) (nodes_rawtype c.args.self)
    (omega (arith, same, all, parts, held, taken, made)) (omega (arith, same, all, parts, held, taken, small))

pub loop-held-preserved-else-is_empty : goal.loop-held-preserved-else-is_empty
loop-held-preserved-else-is_empty t c =
    let same = ap nodes_rawtype c.self.view_is in
    let all = c.below_of.ensures in
    let parts = ap nodes_below c.in-Parts.is in
    let held = ap nodes_waiting c.in-None-waiting.is in
    let taken = types_taken c.in-Parts.parts c.pop.new.self c.in-Some-pop.next c.in-Some-pop.ensures in
    let made = ap nodes_rawtype c.product.ensures in
    let small : nodes_rawtype c.loop-held.self + nodes_waiting c.loop-held.waiting ≤ nodes_rawtype c.args.self = c.loop-held.invariant in
    omega (arith, same, all, parts, held, taken, made, small)

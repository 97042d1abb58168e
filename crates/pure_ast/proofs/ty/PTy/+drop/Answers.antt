-- A part of a type in hand is taken while nothing waits: fewer nodes are left in all.
use Rattle.std.proofs.Common.{◌+◌, ◌≤◌, ap, arith}
use Rattle.pure_ast.specs.Types.{nodes_pty}
use Rattle.pure_ast.specs.TypeLeft.{nodes_below, nodes_waiting}
use Rattle.pure_ast.proofs.Dropping.{types_taken, fewer_in_all}
use Rattle.pure_ast.proofs.ty.PTy.+drop.Goals as goal

pub loop-held-smaller-else-is_empty : goal.loop-held-smaller-else-is_empty
loop-held-smaller-else-is_empty t c =
    let same = ap nodes_pty c.self.view_is in
    let all = c.below_of.ensures in
    let parts = ap nodes_below c.in-Parts.is in
    let held = ap nodes_waiting c.in-None-waiting.is in
    let taken = types_taken c.in-Parts.parts c.pop.new.self c.in-Some-pop.next c.in-Some-pop.ensures in
    let made = ap nodes_pty c.product.ensures in
    let small : nodes_pty c.loop-held.self + nodes_waiting c.loop-held.waiting ≤ nodes_pty c.args.self = c.loop-held.invariant in
    fewer_in_all (nodes_pty c.loop-held.self + nodes_waiting c.loop-held.waiting) (nodes_pty c.in-Some-pop.next + nodes_pty c.product.result) (nodes_pty c.loop-held.self) (nodes_pty c.in-Some-pop.next) (nodes_pty c.args.self)
    (omega (arith, same, all, parts, held, taken, made)) (omega (arith, same, all, parts, held, taken, small))

pub loop-held-preserved-else-is_empty : goal.loop-held-preserved-else-is_empty
loop-held-preserved-else-is_empty t c =
    let same = ap nodes_pty c.self.view_is in
    let all = c.below_of.ensures in
    let parts = ap nodes_below c.in-Parts.is in
    let held = ap nodes_waiting c.in-None-waiting.is in
    let taken = types_taken c.in-Parts.parts c.pop.new.self c.in-Some-pop.next c.in-Some-pop.ensures in
    let made = ap nodes_pty c.product.ensures in
    let small : nodes_pty c.loop-held.self + nodes_waiting c.loop-held.waiting ≤ nodes_pty c.args.self = c.loop-held.invariant in
    omega (arith, same, all, parts, held, taken, made, small)

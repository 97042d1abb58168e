-- Each turn leaves fewer nodes in all.
use Rattle.std.proofs.Common.{◌+◌, ◌≤◌, ap, arith}
use Rattle.raw_ast.specs.Code.{nodes_rawcode, nodes_rawarms, rawarms}
use Rattle.raw_ast.specs.CodeFalls.{nodes_waiting}
use Rattle.raw_ast.specs.CodeView.{code_of}
use Rattle.raw_ast.proofs.Dropping.{arms_taken, fewer_in_all}
use Rattle.raw_ast.proofs.code.RawCode.+drop.Goals as goal

pub loop-variable-preserved-in-Some-pop : goal.loop-variable-preserved-in-Some-pop
loop-variable-preserved-in-Some-pop t c =
    let same = ap nodes_rawcode c.self.view_is in
    let node = ap (λ n. nodes_rawcode (code_of n)) c.in-Last.is in
    let held = ap nodes_waiting c.in-Some.is in
    let taken = arms_taken c.in-Some.waiting c.pop.new.self _ c.in-Some-pop.ensures in
    let next = ap nodes_rawcode c.in-Some-pop.next-is in
    let small : nodes_rawcode c.loop-variable.self + nodes_waiting c.loop-variable.left ≤ nodes_rawcode c.args.self = c.loop-variable.invariant in
    omega (arith, same, node, held, taken, next, small)

pub loop-variable-smaller-in-Some-pop : goal.loop-variable-smaller-in-Some-pop
loop-variable-smaller-in-Some-pop t c =
    let same = ap nodes_rawcode c.self.view_is in
    let node = ap (λ n. nodes_rawcode (code_of n)) c.in-Last.is in
    let held = ap nodes_waiting c.in-Some.is in
    let taken = arms_taken c.in-Some.waiting c.pop.new.self _ c.in-Some-pop.ensures in
    let next = ap nodes_rawcode c.in-Some-pop.next-is in
    let small : nodes_rawcode c.loop-variable.self + nodes_waiting c.loop-variable.left ≤ nodes_rawcode c.args.self = c.loop-variable.invariant in
    fewer_in_all (nodes_rawcode c.loop-variable.self + nodes_waiting c.loop-variable.left) (nodes_rawcode c.in-Some-pop.next + nodes_rawarms (rawarms c.pop.new.self)) (nodes_rawcode c.loop-variable.self) (nodes_rawcode c.in-Some-pop.next) (nodes_rawcode c.args.self)
    (omega (arith, same, node, held, taken, next)) (omega (arith, same, node, held, taken, next, small))

pub loop-variable-preserved-in-Some-pop-2 : goal.loop-variable-preserved-in-Some-pop-2
loop-variable-preserved-in-Some-pop-2 t c =
    let same = ap nodes_rawcode c.self.view_is in
    let node = ap (λ n. nodes_rawcode (code_of n)) c.in-Last.is in
    let held = ap nodes_waiting c.in-Some.is in
    let taken = arms_taken c.in-Some.waiting c.pop.new.self _ c.in-Some-pop.ensures in
    let next = ap nodes_rawcode c.in-Some-pop.next-is in
    let small : nodes_rawcode c.loop-variable.self + nodes_waiting c.loop-variable.left ≤ nodes_rawcode c.args.self = c.loop-variable.invariant in
    omega (arith, same, node, held, taken, next, small)

pub loop-variable-smaller-in-Some-pop-2 : goal.loop-variable-smaller-in-Some-pop-2
loop-variable-smaller-in-Some-pop-2 t c =
    let same = ap nodes_rawcode c.self.view_is in
    let node = ap (λ n. nodes_rawcode (code_of n)) c.in-Last.is in
    let held = ap nodes_waiting c.in-Some.is in
    let taken = arms_taken c.in-Some.waiting c.pop.new.self _ c.in-Some-pop.ensures in
    let next = ap nodes_rawcode c.in-Some-pop.next-is in
    let small : nodes_rawcode c.loop-variable.self + nodes_waiting c.loop-variable.left ≤ nodes_rawcode c.args.self = c.loop-variable.invariant in
    fewer_in_all (nodes_rawcode c.loop-variable.self + nodes_waiting c.loop-variable.left) (nodes_rawcode c.in-Some-pop.next + nodes_rawarms (rawarms c.pop.new.self)) (nodes_rawcode c.loop-variable.self) (nodes_rawcode c.in-Some-pop.next) (nodes_rawcode c.args.self)
    (omega (arith, same, node, held, taken, next)) (omega (arith, same, node, held, taken, next, small))

pub loop-variable-preserved-in-Some-pop-3 : goal.loop-variable-preserved-in-Some-pop-3
loop-variable-preserved-in-Some-pop-3 t c =
    let same = ap nodes_rawcode c.self.view_is in
    let node = ap (λ n. nodes_rawcode (code_of n)) c.in-Last.is in
    let held = ap nodes_waiting c.in-Some.is in
    let taken = arms_taken c.in-Some.waiting c.pop.new.self _ c.in-Some-pop.ensures in
    let next = ap nodes_rawcode c.in-Some-pop.next-is in
    let small : nodes_rawcode c.loop-variable.self + nodes_waiting c.loop-variable.left ≤ nodes_rawcode c.args.self = c.loop-variable.invariant in
    omega (arith, same, node, held, taken, next, small)

pub loop-variable-smaller-in-Some-pop-3 : goal.loop-variable-smaller-in-Some-pop-3
loop-variable-smaller-in-Some-pop-3 t c =
    let same = ap nodes_rawcode c.self.view_is in
    let node = ap (λ n. nodes_rawcode (code_of n)) c.in-Last.is in
    let held = ap nodes_waiting c.in-Some.is in
    let taken = arms_taken c.in-Some.waiting c.pop.new.self _ c.in-Some-pop.ensures in
    let next = ap nodes_rawcode c.in-Some-pop.next-is in
    let small : nodes_rawcode c.loop-variable.self + nodes_waiting c.loop-variable.left ≤ nodes_rawcode c.args.self = c.loop-variable.invariant in
    fewer_in_all (nodes_rawcode c.loop-variable.self + nodes_waiting c.loop-variable.left) (nodes_rawcode c.in-Some-pop.next + nodes_rawarms (rawarms c.pop.new.self)) (nodes_rawcode c.loop-variable.self) (nodes_rawcode c.in-Some-pop.next) (nodes_rawcode c.args.self)
    (omega (arith, same, node, held, taken, next)) (omega (arith, same, node, held, taken, next, small))

pub loop-variable-preserved-in-Some-pop-4 : goal.loop-variable-preserved-in-Some-pop-4
loop-variable-preserved-in-Some-pop-4 t c =
    let same = ap nodes_rawcode c.self.view_is in
    let node = ap (λ n. nodes_rawcode (code_of n)) c.in-Last.is in
    let held = ap nodes_waiting c.in-Some.is in
    let taken = arms_taken c.in-Some.waiting c.pop.new.self _ c.in-Some-pop.ensures in
    let next = ap nodes_rawcode c.in-Some-pop.next-is in
    let small : nodes_rawcode c.loop-variable.self + nodes_waiting c.loop-variable.left ≤ nodes_rawcode c.args.self = c.loop-variable.invariant in
    omega (arith, same, node, held, taken, next, small)

pub loop-variable-smaller-in-Some-pop-4 : goal.loop-variable-smaller-in-Some-pop-4
loop-variable-smaller-in-Some-pop-4 t c =
    let same = ap nodes_rawcode c.self.view_is in
    let node = ap (λ n. nodes_rawcode (code_of n)) c.in-Last.is in
    let held = ap nodes_waiting c.in-Some.is in
    let taken = arms_taken c.in-Some.waiting c.pop.new.self _ c.in-Some-pop.ensures in
    let next = ap nodes_rawcode c.in-Some-pop.next-is in
    let small : nodes_rawcode c.loop-variable.self + nodes_waiting c.loop-variable.left ≤ nodes_rawcode c.args.self = c.loop-variable.invariant in
    fewer_in_all (nodes_rawcode c.loop-variable.self + nodes_waiting c.loop-variable.left) (nodes_rawcode c.in-Some-pop.next + nodes_rawarms (rawarms c.pop.new.self)) (nodes_rawcode c.loop-variable.self) (nodes_rawcode c.in-Some-pop.next) (nodes_rawcode c.args.self)
    (omega (arith, same, node, held, taken, next)) (omega (arith, same, node, held, taken, next, small))

pub loop-variable-preserved-in-Match : goal.loop-variable-preserved-in-Match
loop-variable-preserved-in-Match t c =
    let same = ap nodes_rawcode c.self.view_is in
    let node = ap (λ n. nodes_rawcode (code_of n)) c.in-Match.is in
    let held = ap nodes_waiting c.in-None-left.is in
    let taken = arms_taken c.in-Match.arms c.pop-in-None-left.new.self _ c.in-Some-pop-2.ensures in
    let next = ap nodes_rawcode c.in-Some-pop-2.next-is in
    let small : nodes_rawcode c.loop-variable.self + nodes_waiting c.loop-variable.left ≤ nodes_rawcode c.args.self = c.loop-variable.invariant in
    omega (arith, same, node, held, taken, next, small)

pub loop-variable-smaller-in-Match : goal.loop-variable-smaller-in-Match
loop-variable-smaller-in-Match t c =
    let same = ap nodes_rawcode c.self.view_is in
    let node = ap (λ n. nodes_rawcode (code_of n)) c.in-Match.is in
    let held = ap nodes_waiting c.in-None-left.is in
    let taken = arms_taken c.in-Match.arms c.pop-in-None-left.new.self _ c.in-Some-pop-2.ensures in
    let next = ap nodes_rawcode c.in-Some-pop-2.next-is in
    let small : nodes_rawcode c.loop-variable.self + nodes_waiting c.loop-variable.left ≤ nodes_rawcode c.args.self = c.loop-variable.invariant in
    fewer_in_all (nodes_rawcode c.loop-variable.self + nodes_waiting c.loop-variable.left) (nodes_rawcode c.in-Some-pop-2.next + nodes_rawarms (rawarms c.pop-in-None-left.new.self)) (nodes_rawcode c.loop-variable.self) (nodes_rawcode c.in-Some-pop-2.next) (nodes_rawcode c.args.self)
    (omega (arith, same, node, held, taken, next)) (omega (arith, same, node, held, taken, next, small))

pub loop-variable-preserved-then-is_empty : goal.loop-variable-preserved-then-is_empty
loop-variable-preserved-then-is_empty t c =
    let same = ap nodes_rawcode c.self.view_is in
    let node = ap (λ n. nodes_rawcode (code_of n)) c.in-Match.is in
    let held = ap nodes_waiting c.in-Some-left.is in
    let taken = arms_taken c.in-Some-left.waiting c.pop-then-is_empty.new.self _ c.in-Some-pop-3.ensures in
    let next = ap nodes_rawcode c.in-Some-pop-3.next-is in
    let small : nodes_rawcode c.loop-variable.self + nodes_waiting c.loop-variable.left ≤ nodes_rawcode c.args.self = c.loop-variable.invariant in
    omega (arith, same, node, held, taken, next, small)

pub loop-variable-smaller-then-is_empty : goal.loop-variable-smaller-then-is_empty
loop-variable-smaller-then-is_empty t c =
    let same = ap nodes_rawcode c.self.view_is in
    let node = ap (λ n. nodes_rawcode (code_of n)) c.in-Match.is in
    let held = ap nodes_waiting c.in-Some-left.is in
    let taken = arms_taken c.in-Some-left.waiting c.pop-then-is_empty.new.self _ c.in-Some-pop-3.ensures in
    let next = ap nodes_rawcode c.in-Some-pop-3.next-is in
    let small : nodes_rawcode c.loop-variable.self + nodes_waiting c.loop-variable.left ≤ nodes_rawcode c.args.self = c.loop-variable.invariant in
    fewer_in_all (nodes_rawcode c.loop-variable.self + nodes_waiting c.loop-variable.left) (nodes_rawcode c.in-Some-pop-3.next + nodes_rawarms (rawarms c.pop-then-is_empty.new.self)) (nodes_rawcode c.loop-variable.self) (nodes_rawcode c.in-Some-pop-3.next) (nodes_rawcode c.args.self)
    (omega (arith, same, node, held, taken, next)) (omega (arith, same, node, held, taken, next, small))

pub loop-variable-preserved-then-is_empty-2 : goal.loop-variable-preserved-then-is_empty-2
loop-variable-preserved-then-is_empty-2 t c =
    let same = ap nodes_rawcode c.self.view_is in
    let node = ap (λ n. nodes_rawcode (code_of n)) c.in-Match.is in
    let held = ap nodes_waiting c.in-Some-left.is in
    let taken = arms_taken c.in-Match.arms c.pop-then-is_empty-2.new.self _ c.in-Some-pop-4.ensures in
    let next = ap nodes_rawcode c.in-Some-pop-4.next-is in
    let small : nodes_rawcode c.loop-variable.self + nodes_waiting c.loop-variable.left ≤ nodes_rawcode c.args.self = c.loop-variable.invariant in
    omega (arith, same, node, held, taken, next, small)

pub loop-variable-smaller-then-is_empty-2 : goal.loop-variable-smaller-then-is_empty-2
loop-variable-smaller-then-is_empty-2 t c =
    let same = ap nodes_rawcode c.self.view_is in
    let node = ap (λ n. nodes_rawcode (code_of n)) c.in-Match.is in
    let held = ap nodes_waiting c.in-Some-left.is in
    let taken = arms_taken c.in-Match.arms c.pop-then-is_empty-2.new.self _ c.in-Some-pop-4.ensures in
    let next = ap nodes_rawcode c.in-Some-pop-4.next-is in
    let small : nodes_rawcode c.loop-variable.self + nodes_waiting c.loop-variable.left ≤ nodes_rawcode c.args.self = c.loop-variable.invariant in
    fewer_in_all (nodes_rawcode c.loop-variable.self + nodes_waiting c.loop-variable.left) (nodes_rawcode c.in-Some-pop-4.next + nodes_rawarms (rawarms c.pop-then-is_empty-2.new.self)) (nodes_rawcode c.loop-variable.self) (nodes_rawcode c.in-Some-pop-4.next) (nodes_rawcode c.args.self)
    (omega (arith, same, node, held, taken, next)) (omega (arith, same, node, held, taken, next, small))

-- Each turn leaves fewer nodes in all, or as many and a smaller atom.
use Rattle.std.proofs.Common.{◌+◌, ◌≤◌, ap, arith}
use Rattle.raw_ast.specs.Atoms.{nodes_rawatom, nodes_rawatoms, rawatoms}
use Rattle.raw_ast.proofs.Dropping.{nodes_taken, fewer_in_all}
use Rattle.raw_ast.proofs.atom.RawAtom.+drop.Goals.{in-None, in-Some-parts_of+then-is_empty, in-Some-parts_of+else-is_empty+else-not-is_empty}
use Rattle.raw_ast.proofs.atom.RawAtom.+drop.Goals as goal

pub loop-parts-init : goal.loop-parts-init
loop-parts-init t c =
    let same = ap nodes_rawatom c.self.view_is in
    let all = c.in-Some.ensures in
    let taken = nodes_taken c.in-Some.left c.pop.new.self c.in-Some-pop.first c.in-Some-pop.ensures in
    omega (arith, same, all, taken)

pub loop-parts-smaller : goal.loop-parts-smaller
loop-parts-smaller t c =
    let same = ap nodes_rawatom c.self-in-loop-parts.view_is in
    let left : nodes_rawatoms (rawatoms c.match-parts_of-2.left) + 1 ≤ nodes_rawatom c.loop-parts.self + nodes_rawatoms (rawatoms c.loop-parts.left) =
    elim c.match-parts_of-2.branch [
      | in-None w ↦ let a = w.in-None.ensures in let b = ap (λ xs. nodes_rawatoms (rawatoms xs)) w.left-is in omega (arith, same, a, b)
      | in-Some-parts_of+then-is_empty w ↦ let a = w.in-Some-parts_of.ensures in let b = ap (λ xs. nodes_rawatoms (rawatoms xs)) w.left-is in omega (arith, same, a, b)
      | in-Some-parts_of+else-is_empty+else-not-is_empty w ↦ let a = w.in-Some-parts_of.ensures in let b = ap (λ xs. nodes_rawatoms (rawatoms xs)) w.left-is in omega (arith, same, a, b)
    ] in
    let taken = nodes_taken c.match-parts_of-2.left c.pop-in-loop-parts.new.self c.in-Some-pop-2.next c.in-Some-pop-2.ensures in
    let small : nodes_rawatom c.loop-parts.self + nodes_rawatoms (rawatoms c.loop-parts.left) ≤ nodes_rawatom c.args.self = c.loop-parts.invariant in
    fewer_in_all (nodes_rawatom c.loop-parts.self + nodes_rawatoms (rawatoms c.loop-parts.left)) (nodes_rawatom c.in-Some-pop-2.next + nodes_rawatoms (rawatoms c.pop-in-loop-parts.new.self)) (nodes_rawatom c.loop-parts.self) (nodes_rawatom c.in-Some-pop-2.next) (nodes_rawatom c.args.self)
    (omega (arith, left, taken)) (omega (arith, left, taken, small))

pub loop-parts-preserved : goal.loop-parts-preserved
loop-parts-preserved t c =
    let same = ap nodes_rawatom c.self-in-loop-parts.view_is in
    let left : nodes_rawatoms (rawatoms c.match-parts_of-2.left) + 1 ≤ nodes_rawatom c.loop-parts.self + nodes_rawatoms (rawatoms c.loop-parts.left) =
    elim c.match-parts_of-2.branch [
      | in-None w ↦ let a = w.in-None.ensures in let b = ap (λ xs. nodes_rawatoms (rawatoms xs)) w.left-is in omega (arith, same, a, b)
      | in-Some-parts_of+then-is_empty w ↦ let a = w.in-Some-parts_of.ensures in let b = ap (λ xs. nodes_rawatoms (rawatoms xs)) w.left-is in omega (arith, same, a, b)
      | in-Some-parts_of+else-is_empty+else-not-is_empty w ↦ let a = w.in-Some-parts_of.ensures in let b = ap (λ xs. nodes_rawatoms (rawatoms xs)) w.left-is in omega (arith, same, a, b)
    ] in
    let taken = nodes_taken c.match-parts_of-2.left c.pop-in-loop-parts.new.self c.in-Some-pop-2.next c.in-Some-pop-2.ensures in
    let small : nodes_rawatom c.loop-parts.self + nodes_rawatoms (rawatoms c.loop-parts.left) ≤ nodes_rawatom c.args.self = c.loop-parts.invariant in
    omega (arith, left, taken, small)

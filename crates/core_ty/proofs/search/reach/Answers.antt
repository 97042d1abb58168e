use Rattle.std.proofs.Common.{◌<◌, length, arith}
use Rattle.core_ty.proofs.Tables.{unset_falls}
use Rattle.core_ty.proofs.Reaching.{begins, goes_on, found_at}
use Rattle.core_ty.proofs.search.reach.Goals as goal

pub loop-next-init : goal.loop-next-init
loop-next-init c =
    begins c.args.decls.now c.args.rows.now c.args.start c.index-decls-start.result c.in_ok-seen.seen _ c.in_ok-done.done
    c.requires.sound (found_at c.args.decls.now c.args.start c.index-decls-start.result c.requires.within c.index-decls-start.is)
    c.in_ok-seen.ensures c.in_ok-done.ensures c.in_ok-see_parts.ensures

pub loop-next-smaller : goal.loop-next-smaller
loop-next-smaller c =
    rw c.set.ensures (unset_falls c.loop-next.done c.in-Some.next c.in-Some.ensures.0 c.in-Some.ensures.2)

pub loop-next-preserved : goal.loop-next-preserved
loop-next-preserved c =
    let low : c.in-Some.next < length c.args.decls.now = omega (arith, c.loop-next.invariant.same_done, c.in-Some.ensures.0) in
    goes_on c.args.decls.now c.args.rows.now c.args.start c.in-Some.next c.index-decls-next.result c.loop-next.seen c.loop-next.done
    c.see_parts-in-Some.new.seen c.set.new.self c.requires.sound c.loop-next.invariant
    (found_at c.args.decls.now c.in-Some.next c.index-decls-next.result low c.index-decls-next.is)
    c.in-Some.ensures.1 c.set.ensures c.in_ok-see_parts-2.ensures

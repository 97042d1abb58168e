use Rattle.core_ty.proofs.Tables.{blank_fits, turn_fits, turn_falls}
use Rattle.core_ty.proofs.marks.marks.Goals as goal

pub loop-rows-smaller : goal.loop-rows-smaller
loop-rows-smaller c =
    turn_falls c.args.decls.now c.loop-rows.rows c.as_slice.result.now c.mark.new.rows c.in-Some.decl c.in-Some.number
    c.as_slice.ensures (rw c.in-Some.is at c.in_ok-decl.ensures) c.mark.ensures

pub loop-rows-preserved : goal.loop-rows-preserved
loop-rows-preserved c =
    turn_fits c.args.decls.now c.loop-rows.rows c.as_slice.result.now c.mark.new.rows c.in-Some.decl c.in-Some.number
    c.as_slice.ensures c.loop-rows.invariant (rw c.in-Some.is at c.in_ok-decl.ensures) c.mark.ensures

pub spread-requires : goal.spread-requires
spread-requires c = blank_fits c.args.decls.now c.in_ok-rows.rows c.in_ok-rows.ensures

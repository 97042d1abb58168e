-- The last entry that is left has the variable, or it may be left out.
use Rattle.std.proofs.Common.{◌≡◌, suc, ◌-◌, ◌∙◌, sym, arith}
use Rattle.pure_eval.proofs.Lookups.{newest_hit, newest_other}
use Rattle.pure_eval.proofs.variables.newest.Goals as goal

pub returns-then-entry-variable : goal.returns-then-entry-variable
returns-then-entry-variable c =
    let env = c.args.entries.now in
    let k = c.loop-left.left in
    let one : k ≡ suc (k - 1) = omega arith in
    sym (c.loop-left.invariant.same
    ∙ newest_hit env k (k - 1) c.in-Some.entry.now c.args.variable (sym c.in-Some.ensures) one c.if-entry-variable.true)

pub loop-left-preserved : goal.loop-left-preserved
loop-left-preserved c =
    let env = c.args.entries.now in
    let k = c.loop-left.left in
    let one : k ≡ suc (k - 1) = omega arith in
    record {
      within = omega arith;
      same = c.loop-left.invariant.same
          ∙ newest_other env k (k - 1) c.in-Some.entry.now c.args.variable (sym c.in-Some.ensures) one c.if-entry-variable.false;
    }

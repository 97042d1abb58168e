-- The middle entry has the variable, or tells on which side of it the variable stands.
use Rattle.std.proofs.Common.{◌≡◌, ℕ, ◌+◌, ◌-◌, ◌/◌, ◌<◌, sym, subst, add-one, arith}
use Rattle.std.specs.Prelude.{Some}
use Rattle.text_meaning.specs.Environment.{lookup}
use Rattle.pure_eval.proofs.Lookups.{hit, none_to, none_from, none_join}
use Rattle.pure_eval.proofs.variables.halved.Goals as goal

pub returns-then-entry-variable : goal.returns-then-entry-variable
returns-then-entry-variable c =
    let env = c.args.entries.now in
    let middle = c.loop-low.low + (c.loop-low.high - c.loop-low.low) / 2 in
    let e = c.in-Some.entry.now in
    let h = hit 0 c.requires.0 env middle e c.requires.1 (sym c.in-Some.ensures) in
    sym (subst (λ (k : ℕ). lookup env k ≡ Some e.1) c.if-entry-variable.true h)

pub loop-low-preserved-then-entry-variable-2 : goal.loop-low-preserved-then-entry-variable-2
loop-low-preserved-then-entry-variable-2 c =
    let env = c.args.entries.now in
    let middle = c.loop-low.low + (c.loop-low.high - c.loop-low.low) / 2 in
    let e = c.in-Some.entry.now in
    let less : e.0 < c.args.variable = c.if-entry-variable-2.true in
    let none = none_to 0 c.requires.0 env middle e c.args.variable c.requires.1 (sym c.in-Some.ensures) less in
    record {
      ordered = omega arith;
      within = c.loop-low.invariant.within;
      below = rw add-one none;
      above = c.loop-low.invariant.above;
    }

pub loop-low-preserved : goal.loop-low-preserved
loop-low-preserved c =
    let env = c.args.entries.now in
    let middle = c.loop-low.low + (c.loop-low.high - c.loop-low.low) / 2 in
    let e = c.in-Some.entry.now in
    let less : c.args.variable < e.0 = omega arith in
    record {
      ordered = omega arith;
      within = omega arith;
      below = c.loop-low.invariant.below;
      above = none_from 0 c.requires.0 env middle e c.args.variable c.requires.1 (sym c.in-Some.ensures) less;
    }

pub returns : goal.returns
returns c =
    let env = c.args.entries.now in
    let same : c.loop-low.high ≡ c.loop-low.low = omega arith in
    let above = rw same at c.loop-low.invariant.above in
    sym (none_join c.loop-low.low env c.args.variable c.loop-low.invariant.below above)

use Rattle.std.proofs.Common.{ap, ◌∙◌, arith}
use Rattle.type_calls.specs.Found.{new_reference}
use Rattle.type_calls.proofs.NewReferences.{goes, stops}
use Rattle.type_calls.proofs.finds.finds_reference.Goals as goal

pub returns-then-is_new_reference : goal.returns-then-is_new_reference
returns-then-is_new_reference c =
    stops c.args.before.now c.args.after.now c.loop-i.i c.index-before-i.result (omega arith) c.index-before-i.is (c.if-is_new_reference.ensures ∙ ap (new_reference c.index-before-i.result) c.at.ensures)
    ∙ c.loop-i.invariant

pub loop-i-preserved : goal.loop-i-preserved
loop-i-preserved c =
    goes c.args.before.now c.args.after.now c.loop-i.i c.index-before-i.result (omega arith) c.index-before-i.is (c.if-is_new_reference.ensures ∙ ap (new_reference c.index-before-i.result) c.at.ensures)
    ∙ c.loop-i.invariant

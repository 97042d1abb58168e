use Rattle.translate.proofs.Statements.{numbered_by}
use Rattle.translate.proofs.function.definition.Goals as goal

pub returns-clause-small : goal.returns-clause-small
returns-clause-small c =
    numbered_by c.args.function.now c.new-emitter.result.next c.body.new.emitter.next c.in_ok-atoms.atoms
    c.new-emitter.ensures.0 c.in_ok-atoms.ensures c.in_ok-atom.ensures.next c.in_ok-code.ensures.small

use Rattle.std.proofs.Common.{◌∷◌, [], ◌++◌, ap, sym, ◌∙◌}
use Rattle.translate.specs.declared.atom.Atom.TheVariants as A
use Rattle.translate.proofs.Statements.{numbered_more}
use Rattle.translate.proofs.function.parameter_atoms.Goals as goal

pub loop-variable-preserved : goal.loop-variable-preserved
loop-variable-preserved c =
    c.in_ok-push.ensures.ok ∙ ap (λ l. l ++ A.Variable c.loop-variable.variable ∷ []) c.loop-variable.invariant
    ∙ sym (numbered_more A.Variable c.loop-variable.variable)

use Rattle.std.proofs.Common.{◌≡◌, sym, subst, map, Result, Ok, Err}
use Rattle.std.specs.Prelude.{IfOk}
use Rattle.aen_base.specs.declared.memory.NoMem.{NoMem}
use Rattle.sums_ast.specs.declared.function.Function.{Function}
use Rattle.sums_ast.specs.declared.function.Program.{Program}
use Rattle.source_meaning.specs.Typing.{IsTyped}
use Rattle.text_meaning.specs.Scoped.{IsScoped}
use Rattle.text_meaning.specs.WellFormed.{IsWellFormed}
use Rattle.text_meaning.specs.WellFormedTypes.{AreNames}
use Rattle.std.proofs.lemmas.Result.{IfOk-weaker}
use Rattle.pure_ast.specs.declared.def.Defs.{Defs}
use Rattle.translate.specs.Lists.{Lists}
use Rattle.translate.specs.Means.{Means}
use Rattle.translate.specs.Emit.{translation}
use Rattle.translate.specs.Adds.{AreNumbered}
use Rattle.translate.proofs.Meaning.{means, lists}
use Rattle.translate.proofs.WellFormed.{well_formed}
use Rattle.translate.proofs.Scoping.{scoped}
use Rattle.translate.proofs.translate.Goals as goal

pub returns-clause-lists : goal.returns-clause-lists
returns-clause-lists c =
    let p = c.args.program.now in
    IfOk-weaker c.definitions.result (λ (d : Defs). d ≡ translation p) (Lists p) (λ d is. subst (Lists p) (sym is) (lists p)) c.definitions.ensures.same

pub returns-clause-means : goal.returns-clause-means
returns-clause-means c =
    let p = c.args.program.now in
    IfOk-weaker c.definitions.result (λ (d : Defs). d ≡ translation p) (Means p) (λ d is. subst (Means p) (sym is) (means p c.requires.typed)) c.definitions.ensures.same

formed : (r : Result Defs NoMem) (p : Program) → IsTyped p → AreNames (map (λ (f : Function). f.name) p.functions) → IfOk r (λ d. d ≡ translation p) → IfOk r (λ d. AreNumbered p.functions) → IfOk r IsWellFormed
formed (Ok d) p typed names is small = subst IsWellFormed (sym is) (well_formed p typed names small)
formed (Err e) p typed names is small = tt

pub returns-clause-well_formed : goal.returns-clause-well_formed
returns-clause-well_formed c =
    formed c.definitions.result c.args.program.now c.requires.typed c.requires.names c.definitions.ensures.same c.definitions.ensures.small

pub returns-clause-scoped : goal.returns-clause-scoped
returns-clause-scoped c =
    let p = c.args.program.now in
    IfOk-weaker c.definitions.result (λ (d : Defs). d ≡ translation p) IsScoped (λ d is. subst IsScoped (sym is) (scoped p c.requires.typed)) c.definitions.ensures.same

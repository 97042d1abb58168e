-- The next variable takes the next value.
use Rattle.std.proofs.Common.{◌++◌, refl, sym, ap, ◌∙◌}
use Rattle.text_meaning.specs.Environment.{Environment}
use Rattle.pure_eval.proofs.Matching.{add_start, add_stop, add_step}
use Rattle.pure_eval.proofs.arms.add_all.Goals as goal

pub loop-name-init : goal.loop-name-init
loop-name-init c = λ more p. (more, add_start c.args.names.now c.args.values c.in_ok-left.left more c.in_ok-left.ensures p, refl)

pub returns-in_default : goal.returns-in_default
returns-in_default c = λ more p.
    let w = c.loop-name.invariant more p in
    absurd (add_stop c.args.names.now c.loop-name.name-index c.loop-name.left w.0 c.loop-name-test.true c.in_default.ensures.0 w.1)

pub loop-name-preserved : goal.loop-name-preserved
loop-name-preserved c = λ more p.
    let w = c.loop-name.invariant more p in
    let s = add_step c.args.names.now c.loop-name.name-index c.loop-name.left c.pop.new.self c.in-Some.value w.0 c.loop-name.variables more
    c.loop-name-test.true c.in-Some.ensures w.1 in
    (s.0, s.1, w.2 ∙ s.2 ∙ ap (λ (env : Environment). env ++ s.0) (sym c.in_ok-push.ensures))

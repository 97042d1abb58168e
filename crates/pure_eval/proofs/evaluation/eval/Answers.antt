-- A value that the work comes to is one that the definitions give.
use Rattle.std.proofs.Common.{List, ap, sym, ◌∙◌}
use Rattle.pure_ast.specs.Values.{PValue}
use Rattle.text_meaning.specs.Evaluate.{evaluate}
use Rattle.pure_eval.specs.Unwinding.{turn_answer}
use Rattle.pure_eval.proofs.Keeping.{kept}
use Rattle.pure_eval.proofs.evaluation.eval.Goals as goal

pub returns-in_ok-run_all-in-Go-clause-kept : goal.returns-in_ok-run_all-in-Go-clause-kept
returns-in_ok-run_all-in-Go-clause-kept c well_formed atoms value is =
    let defs = c.args.defs.now in
    kept defs well_formed c.args.n c.args.def.0 c.args.args.now atoms value
    (ap (λ (values : List PValue). evaluate defs c.args.def.0 values c.args.n) (sym c.in_ok-values.ensures)
    ∙ c.in_ok-state.ensures.meaning ∙ ap (turn_answer defs) c.in-Go.is ∙ sym c.in_ok-run_all-in-Go.ensures ∙ is)

pub returns-in-Done-clause-kept : goal.returns-in-Done-clause-kept
returns-in-Done-clause-kept c well_formed atoms value is =
    let defs = c.args.defs.now in
    kept defs well_formed c.args.n c.args.def.0 c.args.args.now atoms value
    (ap (λ (values : List PValue). evaluate defs c.args.def.0 values c.args.n) (sym c.in_ok-values.ensures)
    ∙ c.in_ok-state.ensures.meaning ∙ ap (turn_answer defs) c.in-Done.is ∙ is)

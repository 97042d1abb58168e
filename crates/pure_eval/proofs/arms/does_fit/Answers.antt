-- A pattern fits where there are as many variables as parts.
use Rattle.std.proofs.Common.{◌≡◌, true, ap, sym, ◌∙◌}
use Rattle.pure_ast.specs.Values.{tuple, built, pvalues}
use Rattle.pure_ast.specs.ValueView.{value_of}
use Rattle.text_meaning.specs.Patterns.{same_ctor}
use Rattle.pure_eval.proofs.Matching.{tuple_fits, built_fits}
use Rattle.pure_eval.proofs.arms.does_fit.Goals as goal

pub returns-in-Tuple-Tuple : goal.returns-in-Tuple-Tuple
returns-in-Tuple-Tuple c =
    let view = c.value.view_is in
    let node = ap value_of c.in-Tuple-Tuple.is-1 in
    let v : c.args.value.now ≡ tuple (pvalues c.in-Tuple-Tuple.parts) = cc in
    tuple_fits c.args.pattern.now c.args.value.now c.in-Tuple-Tuple.variables c.in-Tuple-Tuple.parts c.len.result c.len-in-Tuple-Tuple.result
    c.in-Tuple-Tuple.is-0 v c.len.ensures c.len-in-Tuple-Tuple.ensures

pub returns-then-is_same_ctor : goal.returns-then-is_same_ctor
returns-then-is_same_ctor c =
    let view = c.value.view_is in
    let node = ap value_of c.in-Ctor-Ctor.is-1 in
    let v : c.args.value.now ≡ built c.in-Ctor-Ctor.other (pvalues c.in-Ctor-Ctor.parts) = cc in
    let same : same_ctor c.in-Ctor-Ctor.ctor c.in-Ctor-Ctor.other ≡ true = sym c.is_same_ctor.ensures ∙ c.if-is_same_ctor.true in
    built_fits c.args.pattern.now c.args.value.now c.in-Ctor-Ctor.ctor c.in-Ctor-Ctor.other c.in-Ctor-Ctor.variables c.in-Ctor-Ctor.parts
    c.len-then-is_same_ctor.result c.len-then-is_same_ctor-2.result
    c.in-Ctor-Ctor.is-0 v same c.len-then-is_same_ctor.ensures c.len-then-is_same_ctor-2.ensures

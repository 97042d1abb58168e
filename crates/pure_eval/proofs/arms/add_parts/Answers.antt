-- The variables of a pattern that fits are those that are added.
use Rattle.std.proofs.Common.{◌≡◌, ◌++◌, ap}
use Rattle.std.specs.Prelude.{Some, OnOk, Result, Ok, Err}
use Rattle.aen_base.specs.declared.memory.NoMem.{NoMem}
use Rattle.pure_ast.specs.Values.{tuple, built, pvalues}
use Rattle.pure_ast.specs.ValueView.{value_of}
use Rattle.text_meaning.specs.Environment.{Environment}
use Rattle.text_meaning.specs.Patterns.{bound, fits}
use Rattle.pure_eval.proofs.Matching.{tuple_adds, built_adds}
use Rattle.pure_eval.proofs.arms.add_parts.Goals as goal

ok_weaker : (r : Result (Unit {0}) NoMem) (P Q : Type 0) → (P → Q) → OnOk r P → OnOk r Q
ok_weaker (Ok x) P Q f h = f h
ok_weaker (Err e) P Q f h = tt

pub returns-in-Tuple-Tuple : goal.returns-in-Tuple-Tuple
returns-in-Tuple-Tuple c =
    let view = c.into_node-node.ensures in
    let node = ap value_of c.in-Tuple-Tuple.is-1 in
    let v : c.args.value ≡ tuple (pvalues c.in-Tuple-Tuple.parts) = cc in
    ok_weaker c.add_all.result
    ((more : Environment) → bound c.as_slice.result.now c.in-Tuple-Tuple.parts ≡ Some more → c.add_all.new.variables ≡ c.args.variables.now ++ more)
    ((more : Environment) → fits c.args.pattern.now c.args.value ≡ Some more → c.add_all.new.variables ≡ c.args.variables.now ++ more)
    (λ h more p. h more (rw c.as_slice.ensures (tuple_adds c.args.pattern.now c.args.value c.in-Tuple-Tuple.names c.in-Tuple-Tuple.parts more c.in-Tuple-Tuple.is-0 v p)))
    c.add_all.ensures

pub returns-in-Ctor-Ctor : goal.returns-in-Ctor-Ctor
returns-in-Ctor-Ctor c =
    let a = c.in-Ctor-Ctor in
    let view = c.into_node-node.ensures in
    let node = ap value_of a.is-1 in
    let v : c.args.value ≡ built a.field-0-1 (pvalues a.parts) = cc in
    ok_weaker c.add_all-in-Ctor-Ctor.result
    ((more : Environment) → bound c.as_slice-in-Ctor-Ctor.result.now a.parts ≡ Some more → c.add_all-in-Ctor-Ctor.new.variables ≡ c.args.variables.now ++ more)
    ((more : Environment) → fits c.args.pattern.now c.args.value ≡ Some more → c.add_all-in-Ctor-Ctor.new.variables ≡ c.args.variables.now ++ more)
    (λ h more p. h more (rw c.as_slice-in-Ctor-Ctor.ensures (built_adds c.args.pattern.now c.args.value a.field-0-0 a.field-0-1 a.names a.parts more a.is-0 v p)))
    c.add_all-in-Ctor-Ctor.ensures

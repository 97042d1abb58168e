use Rattle.std.proofs.Common.{◌≡◌, ◌+◌, List, ◌∷◌, [], ◌++◌, length, map, take, ap, sym, subst, ◌∙◌, arith, length-take}
use Rattle.std.proofs.lemmas.List.{map_push}
use Rattle.sums_ast.specs.declared.function.Function.{Function}
use Rattle.translate.specs.Emit as spec
use Rattle.translate.specs.Adds as adds
use Rattle.translate.proofs.Items.{take_item, each_push, definitions_push}
use Rattle.translate.proofs.program.definitions.Goals as goal

pub loop-function-preserved : goal.loop-function-preserved
loop-function-preserved c =
    let i = c.loop-function.function-index in
    let fs = c.args.program.now.functions in
    let f = c.function-item.result in
    let here = c.loop-function.invariant in
    let items = c.as_slice-function-items.ensures in
    let count = ap (λ (l : List Function). length l) items in
    let more : take (i + 1) fs ≡ take i fs ++ f ∷ [] =
    subst (λ (l : List Function). take (i + 1) l ≡ take i l ++ f ∷ []) items
    (take_item c.as_slice-function-items.result.now i f (omega arith) c.function-item.is) in
    let len = length-take i fs in
    let place : c.loop-function.number ≡ 0 + length (take i fs) = omega (arith, here.number) in
    record {
      number = omega (arith, here.number, c.in-Some.ensures);
      names = c.in_ok-push.ensures.ok
          ∙ (λ j. here.names j ++ c.in_ok-try_clone.ensures j ∷ [])
          ∙ sym (map_push (λ (g : Function). g.name) (take i fs) f)
          ∙ ap (λ (l : List Function). map (λ (g : Function). g.name) l) (sym more);
      defs = c.in_ok-push-2.ensures.ok
          ∙ (λ j. here.defs j ++ c.in_ok-definition.ensures.same j ∷ [])
          ∙ sym (definitions_push 0 (take i fs) f c.loop-function.number place)
          ∙ ap (spec.definitions 0) (sym more);
      small = subst adds.AreNumbered (sym more) (each_push adds.IsNumbered (take i fs) f here.small c.in_ok-definition.ensures.small);
    }

use Rattle.std.proofs.Common.{sym, subst, map, arith}
use Rattle.std.specs.String.{string_bytes}
use Rattle.std.proofs.lemmas.List.{length-map}
use Rattle.pure_ast.specs.Values.{PValue}
use Rattle.text_words.specs.ValueWords.{IsWord}
use Rattle.text_words.proofs.ArgumentLists.{item_at, own_item, words_next, match_none, match_some}
use Rattle.text_words.proofs.arguments.read_values.Goals as goal

pub loop-place-preserved : goal.loop-place-preserved
loop-place-preserved c =
    let found = item_at string_bytes c.args.words.now c.loop-place.place c.index-words-place.result c.loop-place-test.true c.index-words-place.is in
    let same = c.if-types-words.false in
    let below = c.loop-place-test.true in
    let wanted = own_item c.args.types.now c.loop-place.place c.index-types-place.result (omega (arith, same, below)) c.index-types-place.is in
    let is = match_some c.in_ok-value.field-0 c.in-Some.value ((v : PValue) → IsWord c.args.defs.now c.index-types-place.result c.as_str.result.now v → ⊥)
    (λ v. IsWord c.args.defs.now c.index-types-place.result c.as_str.result.now v) c.in-Some.is c.in_ok-value.ensures in
    words_next c.args.defs.now c.args.types.now (map string_bytes c.args.words.now) c.loop-place.place c.loop-place.values c.push.new.self c.index-types-place.result
    (string_bytes c.index-words-place.result) c.in-Some.value wanted found c.loop-place.invariant
    (subst (λ x. IsWord c.args.defs.now c.index-types-place.result x c.in-Some.value) c.as_str.ensures.value is) c.in_ok-push-in-Some.ensures.ok

pub returns-in-None : goal.returns-in-None
returns-in-None c =
    let found = item_at string_bytes c.args.words.now c.loop-place.place c.index-words-place.result c.loop-place-test.true c.index-words-place.is in
    let same = c.if-types-words.false in
    let below = c.loop-place-test.true in
    let many = length-map c.args.words.now string_bytes in
    let wanted = own_item c.args.types.now c.loop-place.place c.index-types-place.result (omega (arith, same, below)) c.index-types-place.is in
    let none = match_none c.in_ok-value.field-0 ((v : PValue) → IsWord c.args.defs.now c.index-types-place.result c.as_str.result.now v → ⊥)
    (λ v. IsWord c.args.defs.now c.index-types-place.result c.as_str.result.now v) c.in-None.is c.in_ok-value.ensures in (
      omega (arith, same, many),
      record {
        type = c.index-types-place.result;
        wanted = wanted;
        word = string_bytes c.index-words-place.result;
        found = found;
        bad = λ v w. none v (subst (λ x. IsWord c.args.defs.now c.index-types-place.result x v) (sym c.as_str.ensures.value) w);
        values = c.loop-place.values;
        before = c.loop-place.invariant;
      },
    )

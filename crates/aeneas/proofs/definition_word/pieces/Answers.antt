-- All pieces were cut off.
use Rattle.std.proofs.Common.{◌∙◌, ap, map, lit<, arith}
use Rattle.std.proofs.lemmas.Iterator.Consumers.{map_from_collect}
use Rattle.std.proofs.lemmas.Iterator.Splits.{YieldsList-from_str_split}
use Rattle.std.specs.Prelude.{Ok}
use Rattle.aeneas.proofs.WordLemmas.{take_whole}
use Rattle.aeneas.proofs.definition_word.pieces.Goals as goal

pub returns : goal.returns
returns c =
    let cut = map_from_collect {E = Unit {0}} (Ok c.in_ok-cut.cut) c.in_ok-cut.ensures.ran (YieldsList-from_str_split 44 c.args.text.now (lit< tt) c.split.ensures.text c.split.ensures.has_more c.split.ensures.pattern) in
    let all = take_whole c.deref-piece-items.result.now c.loop-piece.piece-index (omega (arith, c.loop-piece-test.false, c.loop-piece.auto.piece-index-end)) in
    c.loop-piece.invariant ∙ ap (map (λ x. x.now)) (all ∙ c.deref-piece-items.ensures.value) ∙ cut

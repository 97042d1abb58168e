use Rattle.std.proofs.Common.{◌∙◌, subst, map, List}
use Rattle.std.specs.String.{string_bytes}
use Rattle.pure_ast.specs.Types.{PTy}
use Rattle.text_meaning.specs.HasType.{put_in}
use Rattle.text_words.specs.ValueWords.{AreTypeArguments, IsReading}
use Rattle.text_words.proofs.ArgumentLists.{reading_at, match_some}
use Rattle.text_words.proofs.arguments.read_all.Goals as goal

pub returns : goal.returns
returns c =
    let d = c.args.defs.now in let x = c.args.definition.now in
    let pieces = map string_bytes c.args.pieces.now in let words = map string_bytes c.args.words.now in
    let args = match_some c.in_ok-args.field-0 c.in-Some.args ((a : List PTy) → AreTypeArguments d x pieces a → ⊥) (λ a. AreTypeArguments d x pieces a) c.in-Some.is c.in_ok-args.ensures in
    reading_at d x pieces words c.in-Some.args c.read_values.result args
    (subst (λ ts. IsReading d ts words c.read_values.result)
    (c.as_slice-3.ensures ∙ c.in_ok-types.ensures ∙ (λ i. map (put_in (c.as_slice.ensures i)) (c.as_slice-2.ensures i))) c.read_values.ensures)

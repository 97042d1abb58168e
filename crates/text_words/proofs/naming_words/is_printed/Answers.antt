use Rattle.std.proofs.Common.{◌∙◌, ap, sym}
use Rattle.text_meaning.specs.ShownNames.{kind_text}
use Rattle.text_words.specs.Pieces.{is_end}
use Rattle.text_words.proofs.Pieces.{ended, ends}
use Rattle.text_words.proofs.naming_words.is_printed.Goals as goal

pub returns : goal.returns
returns c =
    let is = c.is_end.ensures ∙ ap is_end c.after_kind.ensures in (
      λ e. ended (kind_text c.args.defs.now c.args.kind) c.args.text.now (sym is ∙ e),
      λ e. is ∙ ends (kind_text c.args.defs.now c.args.kind) c.args.text.now e,
    )

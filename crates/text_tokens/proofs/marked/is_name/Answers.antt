use Rattle.std.proofs.Common.{sym, ◌∙◌}
use Rattle.text_tokens.proofs.NameLemmas.{no_normal, normal}
use Rattle.text_tokens.proofs.marked.is_name.Goals as goal

pub returns-then-not-is_identifier : goal.returns-then-not-is_identifier
returns-then-not-is_identifier c = no_normal c.args.text.now c.utf8.text (sym c.is_identifier.ensures ∙ c.if-not-is_identifier.true)

pub returns : goal.returns
returns c =
    normal c.args.text.now c.as_str.result.now c.eq.result c.utf8.text (sym c.is_identifier.ensures ∙ c.if-not-is_identifier.false)
    (c.as_str.ensures ∙ c.in_ok-name.ensures) c.eq.ensures

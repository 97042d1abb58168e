use Rattle.std.proofs.Common.{sym, ap, subst, ◌∙◌, IsUtf8}
use Rattle.rust_lex.specs.Identifiers as identifiers
use Rattle.text_tokens.proofs.NameLemmas.{not_identifier, no_name, a_name}
use Rattle.text_tokens.proofs.marked.spelled_name.Goals as goal

pub returns-then-not-is_identifier : goal.returns-then-not-is_identifier
returns-then-not-is_identifier c = not_identifier c.args.text.now c.utf8.text (sym c.is_identifier.ensures ∙ c.if-not-is_identifier.true)

pub returns-then-not-is_identifier-2 : goal.returns-then-not-is_identifier-2
returns-then-not-is_identifier-2 c =
    no_name c.args.text.now c.as_str.result.now c.utf8.text c.as_str.utf8 (sym c.is_identifier.ensures ∙ c.if-not-is_identifier.false)
    (c.as_str.ensures ∙ c.in_ok-name.ensures) (sym c.is_identifier-2.ensures ∙ c.if-not-is_identifier-2.true)

pub returns : goal.returns
returns c =
    let is = c.as_str.ensures ∙ c.in_ok-name.ensures in
    let u = subst IsUtf8 c.as_str.ensures c.as_str.utf8 in
    a_name c.args.text.now c.in_ok-name.name c.utf8.text u (sym c.is_identifier.ensures ∙ c.if-not-is_identifier.false)
    c.in_ok-name.ensures (ap identifiers.is_identifier (sym c.as_str.ensures) ∙ sym c.is_identifier-2.ensures ∙ c.if-not-is_identifier-2.false)

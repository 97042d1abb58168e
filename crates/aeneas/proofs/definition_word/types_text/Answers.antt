-- The text after `:<`, without its last `>`.
use Rattle.std.proofs.Common.{lit<}
use Rattle.std.specs.Prelude.{codes}
use Rattle.aeneas.proofs.WordLemmas.{same_bytes}
use Rattle.aeneas.proofs.DefinitionWords.{stripped, after_name, types_of, not_false}
use Rattle.aeneas.proofs.definition_word.types_text.Goals as goal

pub returns : goal.returns
returns c =
    let e = c.in_ok-colon.ensures.byte (lit< tt) (λ w o h. h) in
    let same = same_bytes c.in_ok-colon.colon.now (codes ":") (not_false _ c.if-ne.ensures) in
    let after = after_name c.args.rest.now c.in_ok-colon.colon.now c.in_ok-colon.after.now e.0 e.1 e.2 same in
    types_of c.args.rest.now c.in_ok-colon.after.now c.strip_suffix.result after (stripped c.in_ok-colon.after.now c.strip_suffix.result (c.strip_suffix.ensures.cases))

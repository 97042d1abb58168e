use Rattle.std.proofs.Common.{◌∙◌, ap, ◌==◌, ◌&&◌}
use Rattle.rust_lex.specs.Characters.{begins}
use Rattle.rust_lex.proofs.IdentifierLemmas.{lone_test}
use Rattle.rust_lex.proofs.identifiers.is_underscore.Goals as goal

pub returns : goal.returns
returns c =
    let b = c.begins_byte.ensures ∙ ap (begins (λ d. d == 95)) c.as_bytes.ensures.value in
    (λ i. (c.requires.count i == 1) && b i) ∙ lone_test c.args.text.now c.utf8.text c.requires.starts

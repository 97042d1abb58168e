-- Words of which one is too long have no form.
use Rattle.std.specs.String.{string_bytes}
use Rattle.aeneas.specs.Words.{IsShort}
use Rattle.aeneas.proofs.Forms.{too_long}
use Rattle.aeneas.proofs.WordLemmas.{all_unmapped, len_by_short}
use Rattle.aeneas.proofs.command.command_of.Goals as goal

pub returns-else-are_short : goal.returns-else-are_short
returns-else-are_short c =
    too_long _ (λ all. let e = c.if-are_short.false in let h = c.are_short.ensures.1 (len_by_short c.args.words.now (all_unmapped IsShort string_bytes c.args.words.now all)) in absurd (let g = h in cc))

use Rattle.std.proofs.Common.{◌∙◌, ap, sym}
use Rattle.text_syntax.specs.Brackets.{few_lexemes}
use Rattle.text_words.proofs.ValueReading.{term_within}
use Rattle.text_words.proofs.word_reading.read_term.Goals as goal

pub returns : goal.returns
returns c =
    let few = ap (few_lexemes 0) (sym c.as_slice.ensures) ∙ sym c.has_few_brackets.ensures ∙ c.if-not-has_few_brackets.false in
    term_within c.args.tables.now c.args.lexemes c.as_slice-2.result.now c.whole_term.result few (c.as_slice-2.ensures ∙ c.in_ok-classed.ensures) c.whole_term.ensures

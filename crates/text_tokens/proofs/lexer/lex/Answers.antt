use Rattle.text_tokens.proofs.Exact.{lexemes_exact, lexemes_none}
use Rattle.text_tokens.proofs.LexingLemmas.{cut_lexes, no_others}
use Rattle.text_tokens.proofs.MarkedNames.{cut_names}
use Rattle.text_tokens.proofs.lexer.lex.Goals as goal

pub returns-clause-exact : goal.returns-clause-exact
returns-clause-exact c f ts p = lexemes_exact c.args.text.now c.in_ok-cut.field-0 c.in_ok-cut.ensures f ts p

pub returns-clause-none : goal.returns-clause-none
returns-clause-none c f ts p = lexemes_none c.args.text.now c.in_ok-cut.field-0 c.in_ok-cut.ensures f ts p

pub returns-clause-lexed : goal.returns-clause-lexed
returns-clause-lexed c = cut_lexes c.args.text.now c.in_ok-cut.field-0 c.in_ok-cut.ensures

pub returns-clause-only : goal.returns-clause-only
returns-clause-only c = no_others c.args.text.now c.in_ok-cut.field-0 c.in_ok-cut.ensures

pub returns-clause-names : goal.returns-clause-names
returns-clause-names c = cut_names c.args.text.now c.in_ok-cut.field-0 c.in_ok-cut.ensures

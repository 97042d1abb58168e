-- At a lexeme, at the lexical fault after all lexemes, or at the end.
use Rattle.source_syntax.proofs.Faulting.{at_token, at_lexical, at_end}
use Rattle.source_syntax.proofs.syntax.fault_at.Goals as goal

pub returns-in-Some : goal.returns-in-Some
returns-in-Some c =
    let h = c.in-Some.ensures.lookup in
    at_token c.args.lexemes.now c.args.bad c.args.end c.args.place c.in-Some.lexeme.now c.requires h.3.0 h.3.1

pub returns-in-Some-bad : goal.returns-in-Some-bad
returns-in-Some-bad c =
    at_lexical c.args.lexemes.now c.args.bad c.args.end c.args.place c.in-Some-bad.span c.requires c.in_default.ensures.lookup.3 c.in-Some-bad.is

pub returns-in-None : goal.returns-in-None
returns-in-None c = at_end c.args.lexemes.now c.args.bad c.args.end c.args.place c.requires c.in_default.ensures.lookup.3 c.in-None.is

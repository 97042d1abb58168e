use Rattle.std.proofs.Common.{string_bytes}
use Rattle.text_meaning.specs.ShownTerms.{term_text}
use Rattle.text_meaning.specs.ValueTerms.{value_term}
use Rattle.lean_printer.proofs.LaysValues.{term_lexed}
use Rattle.lean_printer.proofs.Stacked.{turn_text, turn_cost}
use Rattle.lean_printer.proofs.values.print_value.Goals as goal

pub loop-piece-smaller : goal.loop-piece-smaller
loop-piece-smaller c = turn_cost c.loop-piece.stack c.pop.new.self c.put_piece.new.stack c.in-Some.piece c.in-Some.ensures c.in_ok-put_piece.ensures.cost

pub loop-piece-preserved : goal.loop-piece-preserved
loop-piece-preserved c =
    turn_text c.args.defs.now (string_bytes c.loop-piece.out) (string_bytes c.put_piece.new.out) (term_text c.args.defs.now (value_term c.args.value.now))
    c.loop-piece.stack c.pop.new.self c.put_piece.new.stack c.in-Some.piece c.in-Some.ensures c.in_ok-put_piece.ensures.text c.loop-piece.invariant

pub returns-in_err-push-clause-read_back : goal.returns-in_err-push-clause-read_back
returns-in_err-push-clause-read_back c = term_lexed c.args.defs.now (value_term c.args.value.now)

pub returns-in_err-put_piece-clause-read_back : goal.returns-in_err-put_piece-clause-read_back
returns-in_err-put_piece-clause-read_back c = term_lexed c.args.defs.now (value_term c.args.value.now)

pub returns-clause-read_back : goal.returns-clause-read_back
returns-clause-read_back c = term_lexed c.args.defs.now (value_term c.args.value.now)

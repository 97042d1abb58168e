-- The text reads as the definitions whether or not there was memory for it.
use Rattle.lean_printer.proofs.LaysDefs.{read_back}
use Rattle.lean_printer.proofs.print.Goals as goal

pub returns-in_err-put_header-clause-read_back : goal.returns-in_err-put_header-clause-read_back
returns-in_err-put_header-clause-read_back c = read_back c.args.defs.now

pub returns-in_err-put_declarations-clause-read_back :
    goal.returns-in_err-put_declarations-clause-read_back
returns-in_err-put_declarations-clause-read_back c = read_back c.args.defs.now

pub returns-in_err-put_definitions-clause-read_back :
    goal.returns-in_err-put_definitions-clause-read_back
returns-in_err-put_definitions-clause-read_back c = read_back c.args.defs.now

pub returns-clause-read_back : goal.returns-clause-read_back
returns-clause-read_back c = read_back c.args.defs.now

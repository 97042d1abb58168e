-- The tokens are read as the program whether or not there was memory for the text.
use Rattle.rust_printer.proofs.KeptReading.{read_again}
use Rattle.rust_printer.proofs.print.Goals as goal

pub returns-in_err-put_items-clause-read_back : goal.returns-in_err-put_items-clause-read_back
returns-in_err-put_items-clause-read_back c = read_again c.args.program.now

pub returns-clause-read_back : goal.returns-clause-read_back
returns-clause-read_back c = read_again c.args.program.now

-- The text is read as the program that was printed.
use Rattle.std.proofs.Common.{◌≡◌, sym, subst, ℕ, List}
use Rattle.std.proofs.lemmas.Result.{IfOk-weaker}
use Rattle.rust_ast.specs.declared.program.Program.{Program}
use Rattle.rust_printer.specs.Bare.{Same}
use Rattle.rust_printer.specs.Tok.{spelled}
use Rattle.rust_printer.specs.Tokens.{program_tokens}
use Rattle.print_lexed.specs.Read.{IsReadFrom}
use Rattle.print_lexed.proofs.Printed.{printed}
use Rattle.print_lexed.proofs.print_source.Goals as goal

abbrev IsReadAs : Program → List ℕ → Type 0
IsReadAs program text = (q : Program) × (IsReadFrom text q × Same q program)

pub returns-clause-read_back : goal.returns-clause-read_back
returns-clause-read_back c = λ source r.
    IfOk-weaker c.print.result (λ t. t ≡ spelled (program_tokens c.args.program.now)) (IsReadAs c.args.program.now)
    (λ t e. subst (IsReadAs c.args.program.now) (sym e) (printed c.args.program.now c.print.ensures.read_back source r)) c.print.ensures.layout

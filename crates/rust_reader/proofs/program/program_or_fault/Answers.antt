use Rattle.rust_reader.proofs.Programs.{found}
use Rattle.rust_reader.proofs.program.program_or_fault.Goals as goal

pub returns-in-None : goal.returns-in-None
returns-in-None c =
    found c.args.lexemes.now c.args.bad c.program_of.result c.in-Ok.value c.in_ok-place.field-0 c.in_ok-place.ensures.exact c.in-Ok.is c.program_of.ensures c.in-None.is

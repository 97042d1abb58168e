use Rattle.std.proofs.Common.{◌≡◌, rules, arith}
use Rattle.std.proofs.lemmas.Grind.{common_steps}
use Rattle.call_frame.specs.Written as spec
use Rattle.call_frame.proofs.Reading.{value_back}
use Rattle.call_frame.proofs.printing.print_value.Goals as goal

pub returns-clause-read_back : goal.returns-clause-read_back
returns-clause-read_back c =
    let bytes : c.new.result ≡ spec.written c.args.v.now = first_of (search rules, grind (arith, common_steps)) in
    value_back c.args.v.now c.new.result c.requires bytes

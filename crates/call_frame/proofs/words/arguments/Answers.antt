use Rattle.std.proofs.Common.{◌≡◌, subst, arith, map, length, ℕ}
use Rattle.std.specs.String.{string_bytes}
use Rattle.call_frame.specs.Arguments.{IsReading}
use Rattle.call_frame.proofs.Reading.{fits_of}
use Rattle.call_frame.proofs.words.arguments.Goals as goal

pub returns-clause-fits : goal.returns-clause-fits
returns-clause-fits c =
    let same : length c.args.words.now ≡ c.args.function.now.parameters = omega arith in
    fits_of c.args.function.now (map string_bytes c.args.words.now) c.values.result
    (subst (λ (k : ℕ). IsReading k (map string_bytes c.args.words.now) c.values.result) same c.values.ensures)

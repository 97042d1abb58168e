-- The production that was read stands in its place.
use Rattle.std.proofs.Common.{rules}
use Rattle.table_reader.specs.Derivations.{rows}
use Rattle.table_reader.specs.Machine.{IsAt}
use Rattle.table_reader.proofs.Beginnings.{at_rows}
use Rattle.table_reader.proofs.choice.symbols_at.Goals as goal

pub returns : goal.returns
returns g c =
    let is : IsAt c.index-productions-place.result.symbols.now c.args.place (rows c.args.productions.now) =
    at_rows c.index-productions-place.result c.args.place c.args.productions.now c.requires c.index-productions-place.is in
    search rules

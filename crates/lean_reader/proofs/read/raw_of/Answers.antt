use Rattle.std.proofs.Common.{subst, List}
use Rattle.text_table.specs.declared.lexeme.Lexeme.{Lexeme}
use Rattle.lean_reader.specs.Placed.{IsPlaced}
use Rattle.lean_reader.proofs.ReadingLemmas.{answered, answered_at, not_read}
use Rattle.lean_reader.proofs.read.raw_of.Goals as goal

pub returns-in-Ok : goal.returns-in-Ok
returns-in-Ok c = answered c.args.lexemes c.as_slice.result.now c.in_ok-raw.field-0 c.in-Ok.raw c.as_slice.ensures c.in-Ok.is c.in_ok-raw.ensures.exact

pub returns : goal.returns
returns c =
    let ls = c.args.lexemes in
    record {
      number = c.in-Err.number;
      none = not_read ls c.as_slice.result.now c.in_ok-raw.field-0 c.in-Err.number c.as_slice.ensures c.in-Err.is c.in_ok-raw.ensures.not_read;
      fault = answered_at ls c.as_slice.result.now c.in_ok-raw.field-0 c.in-Err.number c.as_slice.ensures c.in-Err.is c.in_ok-raw.ensures.exact;
      placed = subst (λ (ms : List Lexeme). IsPlaced ms c.in-Err.number c.args.fault c.args.end c.place_of-place.result) c.as_slice-in-Err.ensures c.place_of-place.ensures;
    }

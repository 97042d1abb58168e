use Rattle.rust_reader.proofs.CallNames.{no_colons, no_less, in_angles}
use Rattle.rust_reader.proofs.call_name.types_in_angles.Goals as goal

pub returns-then-not-is_taken : goal.returns-then-not-is_taken
returns-then-not-is_taken c = no_colons c.args.colons.now c.args.less.now c.args.lexemes.now c.is_taken.result c.is_taken.ensures c.if-not-is_taken.true

pub returns-then-not-is_taken-2 : goal.returns-then-not-is_taken-2
returns-then-not-is_taken-2 c = no_less c.args.colons.now c.args.less.now c.args.lexemes.now c.is_taken-2.result c.is_taken-2.ensures c.if-not-is_taken-2.true

pub returns : goal.returns
returns c =
    in_angles c.args.colons.now c.args.less.now c.args.lexemes.now c.types_up_to_end.result c.is_taken.result c.is_taken-2.result c.is_taken.ensures c.if-not-is_taken.false
    c.is_taken-2.ensures c.if-not-is_taken-2.false c.types_up_to_end.ensures

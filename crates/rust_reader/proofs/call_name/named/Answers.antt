use Rattle.std.proofs.Common.{subst}
use Rattle.rust_reader.specs.Answers.{AreTypes}
use Rattle.rust_reader.proofs.CallNames.{no_identifier, is_named}
use Rattle.rust_reader.proofs.call_name.named.Goals as goal

pub returns-then-not-is_taken : goal.returns-then-not-is_taken
returns-then-not-is_taken c = λ none. no_identifier c.args.first.now c.args.rest.now c.is_taken.result c.is_taken.ensures c.if-not-is_taken.true

pub returns-in_ok-name-in-Some : goal.returns-in_ok-name-in-Some
returns-in_ok-name-in-Some c =
    is_named c.args.first.now c.args.rest.now c.in_ok-name-in-Some.name c.in-Some.types c.is_taken.result c.is_taken.ensures c.if-not-is_taken.false
    (subst (AreTypes c.args.rest.now) c.in-Some.is c.in_ok-types.ensures) c.in_ok-name-in-Some.ensures

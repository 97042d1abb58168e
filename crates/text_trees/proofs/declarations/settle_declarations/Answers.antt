-- One more is told, and its names are declared; a fault of one is the whole's.
use Rattle.std.proofs.Common.{[], rules}
use Rattle.text_trees.specs.Declarations.{body_told, declarations_told}
use Rattle.text_trees.proofs.Declaring.{declared_turn, declared_fault}
use Rattle.text_trees.proofs.Turning.{gives_on}
use Rattle.text_trees.proofs.declarations.settle_declarations.Goals as goal

pub loop-i-preserved : goal.loop-i-preserved
loop-i-preserved c =
    declared_turn c.args.tables.now c.loop-i.types c.in_ok-types.types c.loop-i.parameters c.in_ok-parameters.parameters c.args.raw.now c.loop-i.i c.index-raw-i.result c.in_ok-ty.ty
    c.loop-i.done c.push.new.self (declarations_told c.args.tables.now [] [] c.args.raw.now)
    c.loop-i-test.true c.index-raw-i.is (search rules) c.in_ok-types.ensures c.in_ok-ty.ensures (search rules) c.in_ok-push.ensures.ok c.loop-i.invariant

pub returns-in_err-ty : goal.returns-in_err-ty
returns-in_err-ty c =
    let h = c.args.tables.now in
    let whole = declarations_told h [] [] c.args.raw.now in
    gives_on (body_told h c.in_ok-types.types c.index-raw-i.result) whole c.from_residual-in_err-ty.result c.in_err-ty.field-0.0 c.in_err-ty.ensures c.from_residual-in_err-ty.ensures.1
    (λ place. declared_fault h c.loop-i.types c.in_ok-types.types c.loop-i.parameters c.args.raw.now c.loop-i.i c.index-raw-i.result c.loop-i.done whole place
    c.loop-i-test.true c.index-raw-i.is (search rules) c.in_ok-types.ensures c.loop-i.invariant)

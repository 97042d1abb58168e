use Rattle.std.proofs.Common.{ap, sym, ◌∙◌}
use Rattle.std.specs.Prelude.{Ok}
use Rattle.name_uses.specs.FunctionBodies.{function_body}
use Rattle.name_uses.specs.Uses.{read_block}
use Rattle.name_uses.proofs.Bodies.{passes}
use Rattle.name_uses.proofs.WholeBodies.{body_fails, body_gives}
use Rattle.name_uses.proofs.function_bodies.resolve_body.Goals as goal

pub returns-in_err-body : goal.returns-in_err-body
returns-in_err-body c =
    passes (read_block c.args.tables.now c.args.generics.now c.args.f.now.body c.in_ok-start.start) (function_body c.args.tables.now c.args.generics.now c.args.f.now) c.from_residual-in_err-body.result c.in_err-body.field-0.0
    c.in_err-body.ensures c.from_residual-in_err-body.ensures.1 (λ q h.
    body_fails c.args.tables.now c.args.generics.now c.args.f.now c.as_slice.result.now c.in_ok-start.start q c.in_ok-start.ensures c.as_slice.ensures h)

pub returns : goal.returns
returns c =
    body_gives c.args.tables.now c.args.generics.now c.args.f.now c.as_slice.result.now c.in_ok-start.start c.in_ok-body.after c.in_ok-body.body c.in_ok-start.ensures c.as_slice.ensures c.in_ok-body.ensures
    ∙ ap (λ vs. Ok (c.in_ok-body.body, vs)) (sym c.into_variables.ensures)

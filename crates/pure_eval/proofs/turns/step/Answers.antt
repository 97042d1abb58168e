-- What is left after a step costs less.
use Rattle.std.proofs.Common.{◌≡◌, ap, arith}
use Rattle.pure_ast.specs.Code.{put, select, bind_select, arms}
use Rattle.pure_ast.specs.CodeView.{code_of}
use Rattle.pure_eval.specs.Costs.{longest, weight}
use Rattle.pure_eval.proofs.Weights.{weighs, put_costs, select_costs, bind_select_costs}
use Rattle.pure_eval.proofs.turns.step.Goals as goal

pub returns-in_ok-put-in-Let-clause-cost : goal.returns-in_ok-put-in-Let-clause-cost
returns-in_ok-put-in-Let-clause-cost c =
    let defs = c.args.defs.now in
    let w = weight (longest defs) c.args.state.fuel in
    let a = c.in-Let in
    let view = c.code.view_is in
    let node = ap code_of a.is in
    let code : c.args.state.code.now ≡ put a.variable a.term a.rest = cc in
    let whole = put_costs c.args.state.code.now a.rest a.variable a.term w code in
    let one = weighs (longest defs) c.args.state.fuel in
    let cost = rw (c.pending-frame-in-Let.ensures, c.get-in-Let.ensures) at (c.in_ok-put-in-Let.ensures.cost defs) in
    omega (arith, whole, one, cost)

pub returns-in_ok-select-in-Match-clause-cost : goal.returns-in_ok-select-in-Match-clause-cost
returns-in_ok-select-in-Match-clause-cost c =
    let defs = c.args.defs.now in
    let w = weight (longest defs) c.args.state.fuel in
    let a = c.in-Match in
    let view = c.code.view_is in
    let node = ap code_of a.is in
    let code : c.args.state.code.now ≡ select a.term (arms a.all) = cc in
    let whole = select_costs c.args.state.code.now a.term (arms a.all) w code in
    let one = weighs (longest defs) c.args.state.fuel in
    let cost = rw c.as_slice.ensures at (c.in_ok-select-in-Match.ensures.cost defs) in
    omega (arith, whole, one, cost)

pub returns-in_ok-bind_select-in-BindMatch-clause-cost :
    goal.returns-in_ok-bind_select-in-BindMatch-clause-cost
returns-in_ok-bind_select-in-BindMatch-clause-cost c =
    let defs = c.args.defs.now in
    let w = weight (longest defs) c.args.state.fuel in
    let a = c.in-BindMatch in
    let view = c.code.view_is in
    let node = ap code_of a.is in
    let code : c.args.state.code.now ≡ bind_select a.variable a.term (arms a.all) a.rest = cc in
    let whole = bind_select_costs c.args.state.code.now a.rest a.variable a.term (arms a.all) w code in
    let one = weighs (longest defs) c.args.state.fuel in
    let cost = rw (c.pending-frame-in-BindMatch.ensures, c.get-in-BindMatch.ensures, c.as_slice-in-BindMatch.ensures) at (c.in_ok-bind_select-in-BindMatch.ensures.cost defs) in
    omega (arith, whole, one, cost)

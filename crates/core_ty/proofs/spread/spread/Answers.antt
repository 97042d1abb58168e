use Rattle.std.proofs.Common.{Some}
use Rattle.std.proofs.lemmas.List.Elements.{All-pop}
use Rattle.core_ty.specs.Spread.{IsHeld}
use Rattle.core_ty.proofs.spread.spread.Goals as goal

pub loop-turn-preserved : goal.loop-turn-preserved
loop-turn-preserved c =
    let known = c.loop-turn.invariant in
    let rest = All-pop (IsHeld c.args.decls.now) c.loop-turn.held c.pop.new.self (Some c.in-Some.next) c.in-Some.ensures known.held in
    c.in_ok-take_turn.ensures c.args.decls.now rest.1 (record { fits = known.fits; held = rest.0; waiting = known.waiting })

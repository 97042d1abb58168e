use Rattle.std.proofs.Common.{sym, ◌∙◌}
use Rattle.std.proofs.lemmas.Result.{on_ok_weaker}
use Rattle.core_ty.specs.Spread.{IsHeld, IsWaiting}
use Rattle.core_ty.proofs.Spreading.{pushed, waited}
use Rattle.core_ty.proofs.spread.enter_argument.Goals as goal

pub returns-then-is_marked : goal.returns-then-is_marked
returns-then-is_marked c ds waits sound held waiting =
    on_ok_weaker c.push.result
    (λ e. (
      pushed (IsHeld ds) c.args.held.now c.push.new.self _ e
          (waited ds c.args.rows.now c.args.argument.decl c.args.argument.place c.args.argument.user c.args.argument.ty.now sound
          (sym c.is_marked.ensures ∙ c.if-is_marked.true) waits) held,
      waiting,
    ))
    c.push.ensures.ok

pub returns-else-is_marked : goal.returns-else-is_marked
returns-else-is_marked c ds waits sound held waiting =
    on_ok_weaker c.push-else-is_marked.result
    (λ e. (held, pushed (IsWaiting ds) c.args.waiting.now c.push-else-is_marked.new.self _ e waits waiting))
    c.push-else-is_marked.ensures.ok

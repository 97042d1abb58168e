use Rattle.std.proofs.Common.{◌∙◌, ap, length, ◌+◌, min}
use Rattle.text_tokens.specs.Scan as spec
use Rattle.text_tokens.proofs.Turning.{empty_turn, end_turn, fault_turn, more_turn}
use Rattle.text_tokens.proofs.lexer.cut.Goals as goal

pub returns-in_default : goal.returns-in_default
returns-in_default c =
    empty_turn c.loop-turn.list (length c.as_bytes-bytes.result.now) (length c.as_bytes-bytes.result.now) c.loop-turn._turn c.loop-turn.lexer.rest.now _
    c.loop-turn-test.true c.in_default.len_below c.loop-turn.invariant

pub returns-in_default-2 : goal.returns-in_default-2
returns-in_default-2 c =
    let none = rw c.in_default-2.is at c.in_ok-kind.ensures in
    fault_turn c.loop-turn.list (length c.as_bytes-bytes.result.now) (length c.as_bytes-bytes.result.now) c.loop-turn._turn c.loop-turn.lexer.rest.now
    c.span-span.result _ c.loop-turn-test.true c.in-len1-up.len_at_least none
    (c.span-span.ensures ∙ (λ i. spec.span (c.saturating_sub-lo.ensures i) (c.saturating_sub-lo.ensures i + (c.min.ensures ∙ ap (λ w. min w (length c.loop-turn.lexer.rest.now)) c.width.ensures) i)))
    c.loop-turn.invariant

pub loop-turn-preserved : goal.loop-turn-preserved
loop-turn-preserved c =
    let some = rw c.in-Some.is at c.in_ok-kind.ensures in
    more_turn c.loop-turn.list c.push.new.self (length c.as_bytes-bytes.result.now) (length c.as_bytes-bytes.result.now) c.loop-turn._turn
    c.loop-turn.lexer.rest.now c.skip_space-in-loop-turn.new.self.rest.now c.next.new.self.rest.now c.in-Some.kind c.span-span-in-loop-turn.result _
    c.loop-turn-test.true c.in-len1-up.len_at_least some
    (c.span-span-in-loop-turn.ensures ∙ (λ i. spec.span (c.saturating_sub-lo.ensures i) (c.saturating_sub.ensures i)))
    c.in_ok-push.ensures.ok c.skip_space-in-loop-turn.ensures c.loop-turn.invariant

pub returns : goal.returns
returns c =
    end_turn c.loop-turn.list (length c.as_bytes-bytes.result.now) (length c.as_bytes-bytes.result.now) c.loop-turn._turn c.loop-turn.lexer.rest.now _
    c.loop-turn-test.false c.loop-turn.invariant

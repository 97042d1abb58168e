use Rattle.std.proofs.Common.{◌≡◌, ◌∙◌, sym, ap, arith, drop, length-drop, ◌+◌, ◌-◌, ◌<◌, Some}
use Rattle.std.proofs.lemmas.List.{drop-drop}
use Rattle.rust_lex.specs.Characters.{begins_two}
use Rattle.rust_lex.specs.Scan.{after_comment}
use Rattle.rust_lex.proofs.CommentLemmas.{on, open_turn, other_turn, close_turn, on_less, none_left}
use Rattle.rust_lex.proofs.comments.comment_end.Goals as goal

pub loop-at-preserved-then-begins_two : goal.loop-at-preserved-then-begins_two
loop-at-preserved-then-begins_two c =
    let b = c.args.bytes.now in
    let at = c.loop-at.at in
    let i = c.loop-at.invariant in
    let i0 = i.0 in
    let i1 = i.1 in
    let h = sym (c.begins_two.ensures ∙ ap (begins_two 47 42) c.after-left.ensures) ∙ c.if-begins_two.true in
    (omega arith, omega arith, ap (after_comment (c.loop-at.open + 1)) (sym (drop-drop 2 at b)) ∙ open_turn c.loop-at.open (drop at b) h ∙ i.2)

pub loop-at-preserved-then-not-begins_two : goal.loop-at-preserved-then-not-begins_two
loop-at-preserved-then-not-begins_two c =
    let b = c.args.bytes.now in
    let at = c.loop-at.at in
    let i = c.loop-at.invariant in
    let i0 = i.0 in
    let i1 = i.1 in
    let h = sym (c.begins_two.ensures ∙ ap (begins_two 47 42) c.after-left.ensures) ∙ c.if-begins_two.false in
    let k = sym (c.begins_two-in-loop-at.ensures ∙ ap (begins_two 42 47) c.after-left.ensures) ∙ c.if-not-begins_two.true in
    (omega arith, omega arith, ap (after_comment c.loop-at.open) (sym (drop-drop 1 at b)) ∙ other_turn c.loop-at.open (drop at b) h k ∙ i.2)

pub returns-then-open-eq0 : goal.returns-then-open-eq0
returns-then-open-eq0 c =
    let b = c.args.bytes.now in
    let at = c.loop-at.at in
    let i = c.loop-at.invariant in
    let h = sym (c.begins_two.ensures ∙ ap (begins_two 47 42) c.after-left.ensures) ∙ c.if-begins_two.false in
    let k = sym (c.begins_two-in-loop-at.ensures ∙ ap (begins_two 42 47) c.after-left.ensures) ∙ c.if-not-begins_two.false in
    let z : c.loop-at.open ≡ 0 = c.if-open-eq0.true in
    (omega arith, sym i.2 ∙ sym (close_turn c.loop-at.open (drop at b) h k) ∙ ap (λ n. on n (drop 2 (drop at b))) z ∙ ap (λ x. Some x) (drop-drop 2 at b))

pub loop-at-preserved : goal.loop-at-preserved
loop-at-preserved c =
    let b = c.args.bytes.now in
    let at = c.loop-at.at in
    let i = c.loop-at.invariant in
    let i0 = i.0 in
    let i1 = i.1 in
    let h = sym (c.begins_two.ensures ∙ ap (begins_two 47 42) c.after-left.ensures) ∙ c.if-begins_two.false in
    let k = sym (c.begins_two-in-loop-at.ensures ∙ ap (begins_two 42 47) c.after-left.ensures) ∙ c.if-not-begins_two.false in
    let z = c.if-open-eq0.false in
    let some : 0 < c.loop-at.open = omega arith in (
      omega arith,
      omega arith,
      ap (after_comment (c.loop-at.open - 1)) (sym (drop-drop 2 at b)) ∙ on_less c.loop-at.open (drop 2 (drop at b)) some ∙ close_turn c.loop-at.open (drop at b) h k ∙ i.2,
    )

pub returns : goal.returns
returns c =
    let i = c.loop-at.invariant in
    let t = c.loop-at-test.false in
    let d = length-drop c.loop-at.at c.args.bytes.now in
    sym i.2 ∙ none_left c.loop-at.open (drop c.loop-at.at c.args.bytes.now) (omega arith)

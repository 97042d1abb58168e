use Rattle.std.proofs.Common.{◌≡◌, ◌∙◌, sym, ap, arith, drop, take, length, ◌∷◌, ◌++◌, [], Some}
use Rattle.rust_lex.specs.declared.step.Step.TheVariants as S
use Rattle.rust_lex.specs.Lexing as spec
use Rattle.rust_lex.specs.Scan.{step}
use Rattle.rust_lex.proofs.LexingLemmas.{reads_boundary, gap_turn, token_turn, end_turn, fault_turn, gap_far, token_far, fault_far}
use Rattle.rust_lex.proofs.SliceLemmas.{all_texts, are_in_text}
use Rattle.rust_lex.proofs.lexer.lex.Goals as goal

pub skip-rest-requires : goal.skip-rest-requires
skip-rest-requires c = reads_boundary c.args.text.now c.reading.list c.reading.at c.reading.after_dot c.reading.invariant

pub returns-in-End-clause-tokens : goal.returns-in-End-clause-tokens
returns-in-End-clause-tokens c =
    let e : step c.reading.after_dot (drop c.reading.at c.args.text.now) ≡ S.End = sym (c.in_ok-step.ensures ∙ ap (step c.reading.after_dot) c.skip-rest.ensures) ∙ c.in-End.is in
    (end_turn c.args.text.now c.reading.list c.reading.at c.reading.after_dot c.reading.invariant e).tokens

pub returns-in-End-clause-only : goal.returns-in-End-clause-only
returns-in-End-clause-only c =
    let e : step c.reading.after_dot (drop c.reading.at c.args.text.now) ≡ S.End = sym (c.in_ok-step.ensures ∙ ap (step c.reading.after_dot) c.skip-rest.ensures) ∙ c.in-End.is in
    (end_turn c.args.text.now c.reading.list c.reading.at c.reading.after_dot c.reading.invariant e).only

pub span-bad-requires : goal.span-bad-requires
span-bad-requires c =
    let e : step c.reading.after_dot (drop c.reading.at c.args.text.now) ≡ S.Fault c.in-Fault.count = sym (c.in_ok-step.ensures ∙ ap (step c.reading.after_dot) c.skip-rest.ensures) ∙ c.in-Fault.is in
    let f = fault_far c.args.text.now c.reading.list c.reading.at c.in-Fault.count c.reading.after_dot c.reading.invariant e in
    let r = c.requires in
    omega arith

pub returns-in-Fault-clause-tokens : goal.returns-in-Fault-clause-tokens
returns-in-Fault-clause-tokens c =
    let e : step c.reading.after_dot (drop c.reading.at c.args.text.now) ≡ S.Fault c.in-Fault.count = sym (c.in_ok-step.ensures ∙ ap (step c.reading.after_dot) c.skip-rest.ensures) ∙ c.in-Fault.is in
    let w = fault_turn c.args.text.now c.reading.list c.reading.at c.in-Fault.count c.reading.after_dot c.reading.invariant e in
    rw c.span-bad.ensures w.tokens

pub returns-in-Fault-clause-only : goal.returns-in-Fault-clause-only
returns-in-Fault-clause-only c ts b l =
    let e : step c.reading.after_dot (drop c.reading.at c.args.text.now) ≡ S.Fault c.in-Fault.count = sym (c.in_ok-step.ensures ∙ ap (step c.reading.after_dot) c.skip-rest.ensures) ∙ c.in-Fault.is in
    let w = (fault_turn c.args.text.now c.reading.list c.reading.at c.in-Fault.count c.reading.after_dot c.reading.invariant e).only ts b l in
    (w.0, w.1 ∙ ap (λ x. Some x) (sym c.span-bad.ensures))

pub overflow_add-at : goal.overflow_add-at
overflow_add-at c =
    let e : step c.reading.after_dot (drop c.reading.at c.args.text.now) ≡ S.Gap c.in-Gap.count = sym (c.in_ok-step.ensures ∙ ap (step c.reading.after_dot) c.skip-rest.ensures) ∙ c.in-Gap.is in
    let f = (gap_far c.args.text.now c.reading.list c.reading.at c.in-Gap.count c.reading.after_dot c.reading.invariant e).1 in
    let r = c.requires in
    omega arith

pub reading-smaller-in-Gap : goal.reading-smaller-in-Gap
reading-smaller-in-Gap c =
    let e : step c.reading.after_dot (drop c.reading.at c.args.text.now) ≡ S.Gap c.in-Gap.count = sym (c.in_ok-step.ensures ∙ ap (step c.reading.after_dot) c.skip-rest.ensures) ∙ c.in-Gap.is in
    let f = gap_far c.args.text.now c.reading.list c.reading.at c.in-Gap.count c.reading.after_dot c.reading.invariant e in
    let g = f.0 in
    let h = f.1 in
    omega arith

pub reading-preserved-in-Gap : goal.reading-preserved-in-Gap
reading-preserved-in-Gap c =
    let e : step c.reading.after_dot (drop c.reading.at c.args.text.now) ≡ S.Gap c.in-Gap.count = sym (c.in_ok-step.ensures ∙ ap (step c.reading.after_dot) c.skip-rest.ensures) ∙ c.in-Gap.is in
    gap_turn c.args.text.now c.reading.list c.reading.at c.in-Gap.count c.reading.after_dot c.reading.invariant e

pub span-span-requires : goal.span-span-requires
span-span-requires c =
    let e : step c.reading.after_dot (drop c.reading.at c.args.text.now) ≡ S.Token c.in-Token.kind c.in-Token.count = sym (c.in_ok-step.ensures ∙ ap (step c.reading.after_dot) c.skip-rest.ensures) ∙ c.in-Token.is in
    let f = (token_far c.args.text.now c.reading.list c.reading.at c.in-Token.count c.reading.after_dot c.in-Token.kind c.reading.invariant e).1 in
    let r = c.requires in
    omega arith

pub before-requires : goal.before-requires
before-requires c =
    let e : step c.reading.after_dot (drop c.reading.at c.args.text.now) ≡ S.Token c.in-Token.kind c.in-Token.count = sym (c.in_ok-step.ensures ∙ ap (step c.reading.after_dot) c.skip-rest.ensures) ∙ c.in-Token.is in
    let f = (token_far c.args.text.now c.reading.list c.reading.at c.in-Token.count c.reading.after_dot c.in-Token.kind c.reading.invariant e).2 in
    let l = ap length (c.as_bytes.ensures.value ∙ c.skip-rest.ensures) in
    omega arith

pub reading-smaller : goal.reading-smaller
reading-smaller c =
    let e : step c.reading.after_dot (drop c.reading.at c.args.text.now) ≡ S.Token c.in-Token.kind c.in-Token.count = sym (c.in_ok-step.ensures ∙ ap (step c.reading.after_dot) c.skip-rest.ensures) ∙ c.in-Token.is in
    let f = token_far c.args.text.now c.reading.list c.reading.at c.in-Token.count c.reading.after_dot c.in-Token.kind c.reading.invariant e in
    let g = f.0 in
    let h = f.1 in
    omega arith

pub reading-preserved : goal.reading-preserved
reading-preserved c =
    let e : step c.reading.after_dot (drop c.reading.at c.args.text.now) ≡ S.Token c.in-Token.kind c.in-Token.count = sym (c.in_ok-step.ensures ∙ ap (step c.reading.after_dot) c.skip-rest.ensures) ∙ c.in-Token.is in
    let p : c.push.new.self ≡ c.reading.list ++ spec.token c.in-Token.kind c.reading.at c.in-Token.count ∷ [] =
    c.in_ok-push-in-Token.ensures.ok ∙ ap (λ s. c.reading.list ++ spec.token_at c.in-Token.kind s ∷ []) c.span-span.ensures in
    let q = c.is_dot-after_dot.ensures ∙ ap spec.is_dot (c.before-in-Token.ensures ∙ ap (take c.in-Token.count) (c.as_bytes.ensures.value ∙ c.skip-rest.ensures)) in
    token_turn c.args.text.now c.reading.list c.push.new.self c.reading.at c.in-Token.count c.reading.after_dot c.is_dot-after_dot.result c.in-Token.kind c.reading.invariant e p q

pub returns-in-End-clause-texts : goal.returns-in-End-clause-texts
returns-in-End-clause-texts c =
    let e : step c.reading.after_dot (drop c.reading.at c.args.text.now) ≡ S.End = sym (c.in_ok-step.ensures ∙ ap (step c.reading.after_dot) c.skip-rest.ensures) ∙ c.in-End.is in
    all_texts c.args.text.now c.reading.list _ c.utf8.text (end_turn c.args.text.now c.reading.list c.reading.at c.reading.after_dot c.reading.invariant e).tokens

pub returns-in-Fault-clause-texts : goal.returns-in-Fault-clause-texts
returns-in-Fault-clause-texts c =
    let e : step c.reading.after_dot (drop c.reading.at c.args.text.now) ≡ S.Fault c.in-Fault.count = sym (c.in_ok-step.ensures ∙ ap (step c.reading.after_dot) c.skip-rest.ensures) ∙ c.in-Fault.is in
    all_texts c.args.text.now c.reading.list _ c.utf8.text (fault_turn c.args.text.now c.reading.list c.reading.at c.in-Fault.count c.reading.after_dot c.reading.invariant e).tokens

pub returns-in-End-clause-slices : goal.returns-in-End-clause-slices
returns-in-End-clause-slices c =
    let e : step c.reading.after_dot (drop c.reading.at c.args.text.now) ≡ S.End = sym (c.in_ok-step.ensures ∙ ap (step c.reading.after_dot) c.skip-rest.ensures) ∙ c.in-End.is in
    are_in_text c.args.text.now c.reading.list _ c.utf8.text (end_turn c.args.text.now c.reading.list c.reading.at c.reading.after_dot c.reading.invariant e).tokens

pub returns-in-Fault-clause-slices : goal.returns-in-Fault-clause-slices
returns-in-Fault-clause-slices c =
    let e : step c.reading.after_dot (drop c.reading.at c.args.text.now) ≡ S.Fault c.in-Fault.count = sym (c.in_ok-step.ensures ∙ ap (step c.reading.after_dot) c.skip-rest.ensures) ∙ c.in-Fault.is in
    are_in_text c.args.text.now c.reading.list _ c.utf8.text (fault_turn c.args.text.now c.reading.list c.reading.at c.in-Fault.count c.reading.after_dot c.reading.invariant e).tokens

-- What is printed so far and what is left are the whole; each call is on a smaller tree.
use Rattle.std.proofs.Common.{◌≡◌, ◌+◌, ◌*◌, ◌≤◌, ◌++◌, drop, string_bytes}
use Rattle.pure_ast.specs.Code.{nodes_code, nodes_arms, arms}
use Rattle.text_meaning.specs.ShownCode.{code_text, arms_text}
use Rattle.lean_printer.proofs.code.+code.Given as goal

abbrev pub decreases-put_code : goal.decreases-put_code
decreases-put_code l = 2 * nodes_code l.code.now

abbrev pub decreases-put_arms : goal.decreases-put_arms
decreases-put_arms l = 2 * nodes_arms (arms l.arms.now)

abbrev pub decreases-put_bind_match : goal.decreases-put_bind_match
decreases-put_bind_match l = 2 * nodes_arms (arms l.arms.now) + 1

abbrev pub decreases-put_code-chain : goal.decreases-put_code-chain
decreases-put_code-chain l = nodes_code l.left

abbrev pub invariant-put_code-chain : goal.invariant-put_code-chain
invariant-put_code-chain l =
    (string_bytes l.out ++ code_text l.defs l.k l.left ≡ string_bytes l.fn.out ++ code_text l.defs l.k l.code) × (nodes_code l.left ≤ nodes_code l.code)

abbrev pub invariant-put_arms-loop-arm : goal.invariant-put_arms-loop-arm
invariant-put_arms-loop-arm l =
    string_bytes l.out ++ arms_text l.defs l.k (arms (drop l.arm-index l.arms)) ≡ string_bytes l.fn.out ++ arms_text l.defs l.k (arms l.arms)

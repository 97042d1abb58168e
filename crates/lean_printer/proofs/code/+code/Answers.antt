-- Each arm is smaller than the arms, and the lines of a bind of a match are those of the whole.
use Rattle.std.proofs.Common.{◌∙◌, ap, sym, string_bytes, arith}
use Rattle.pure_ast.specs.Code.{nodes_code}
use Rattle.pure_ast.specs.CodeView.{code_of}
use Rattle.lean_printer.proofs.Chains.{chain_step}
use Rattle.lean_printer.proofs.Items.{arms_item}
use Rattle.lean_printer.proofs.code.+code.Goals as goal

pub put_arms-put_code-requires : goal.put_arms-put_code-requires
put_arms-put_code-requires t c =
    let h = arms_item c.args.arms.now c.loop-arm.arm-index c.arm-item.result (omega arith) c.arm-item.is in (omega (arith, h), tt)

pub put_code-chain-preserved : goal.put_code-chain-preserved
put_code-chain-preserved t c =
    let left = sym c.left.view_is ∙ ap code_of c.in-BindMatch.is in
    let got = c.get-left-in-BindMatch.ensures in (
      chain_step c.args.defs.now c.args.k c.in-BindMatch.variable c.in-BindMatch.term (string_bytes c.chain.out) (string_bytes c.put_bind_match.new.out)
          (string_bytes c.args.out.now) c.in-BindMatch.arms c.as_slice-in-BindMatch.result.now c.in-BindMatch.rest c.get-left-in-BindMatch.result.now
          c.chain.left.now c.args.code.now c.as_slice-in-BindMatch.ensures got c.in_ok-put_bind_match-in-BindMatch.ensures left c.chain.invariant.0,
      omega (arith, ap nodes_code got, ap nodes_code left, c.chain.invariant.1),
    )

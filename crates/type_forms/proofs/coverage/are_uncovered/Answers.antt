use Rattle.std.proofs.Common.{map, ap, sym, ◌∙◌, subst}
use denote.Bor.{Bor}
use Rattle.std.specs.Prelude.{not}
use Rattle.rust_ast.specs.SpelledPatterns as q
use Rattle.type_cover.specs.Suits.{PatternsSuit}
use Rattle.type_rules.specs.Coverage.{is_covered}
use Rattle.type_forms.proofs.Patterns.{taken_are}
use Rattle.type_forms.proofs.coverage.are_uncovered.Goals as goal

pub is_covered-requires : goal.is_covered-requires
is_covered-requires c =
    let all = taken_are c.as_slice-2.result.now c.loop-arm.patterns c.args.arms.now c.loop-arm.arm-index c.as_slice-2.ensures c.loop-arm.invariant c.loop-arm-test.false in
    let seen = map (λ (p : Bor q.Pat). p.now) c.as_slice-2.result.now in
    record {
      suit = subst (λ ds. PatternsSuit ds seen c.args.ty.now) (sym c.as_slice.ensures) (subst (λ ps. PatternsSuit c.args.decls.now ps c.args.ty.now) (sym all) c.requires.suit);
    }

pub returns : goal.returns
returns c =
    let all = taken_are c.as_slice-2.result.now c.loop-arm.patterns c.args.arms.now c.loop-arm.arm-index c.as_slice-2.ensures c.loop-arm.invariant c.loop-arm-test.false in
    let seen = map (λ (p : Bor q.Pat). p.now) c.as_slice-2.result.now in
    ap not (c.in_ok-is_covered.ensures ∙ ap (λ ds. is_covered ds c.args.ty.now seen) c.as_slice.ensures ∙ ap (is_covered c.args.decls.now c.args.ty.now) all)

use Rattle.std.proofs.Common.{◌≡◌, ◌∙◌, sym, arith, Some}
use Rattle.rust_lex.specs.Scan.{lifetime_length}
use Rattle.rust_lex.proofs.LongestSlices.{quote_boundary, lifetime_within}
use Rattle.rust_lex.proofs.forms.lifetime.Goals as goal

pub skip-requires : goal.skip-requires
skip-requires c = quote_boundary c.args.text.now c.utf8.text c.requires

pub overflow_add-result : goal.overflow_add-result
overflow_add-result c =
    let e : lifetime_length c.skip.result.now ≡ Some c.in-Some.count = sym c.lifetime_length.ensures ∙ c.in-Some.is in
    let w = lifetime_within c.skip.result.now c.in-Some.count c.skip.utf8 e in
    omega arith

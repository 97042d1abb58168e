use Rattle.std.proofs.Common.{◌≡◌, ap, sym, ◌∙◌, subst, None}
use Rattle.source_syntax.specs.Refusals as syntax
use Rattle.source_syntax.specs.Spelled.{lexemes}
use Rattle.rust_reader.proofs.Programs.{within, kept}
use Rattle.rust_reader.proofs.read_source.read.Goals as goal

pub returns-in-Ok : goal.returns-in-Ok
returns-in-Ok c =
    let ts = c.args.tokens.now.list in
    let all = lexemes c.args.text.now None ts in
    let words : syntax.first_excluded ts ≡ None = ap syntax.first_excluded (sym c.as_slice.ensures) ∙ sym c.in_default.ensures in
    let spelled : c.in_ok-lexemes.lexemes ≡ all = c.in_ok-lexemes.ensures ∙ ap (λ us. lexemes c.args.text.now None us) c.as_slice-2.ensures in
    let limits : syntax.KeepsLimits c.as_slice-3.result.now = within c.as_slice-3.result.now c.in_ok-which.field-0 c.in_ok-which.ensures c.in_default-2.is in
    kept _ ts c.as_slice-4.result.now all c.args.tokens.now.bad c.in-Ok.program c.in_ok-program.field-0 (c.as_slice-4.ensures ∙ spelled) words
    (subst syntax.KeepsLimits (c.as_slice-3.ensures ∙ sym c.as_slice-4.ensures) limits) c.in_ok-program.ensures c.in-Ok.is

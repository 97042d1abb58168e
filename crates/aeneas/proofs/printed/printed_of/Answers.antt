-- What was read is the file, so what is found in it is found of the file.
use Rattle.std.proofs.Common.{◌≡◌, ◌≤◌, ◌∙◌, length, arith}
use Rattle.std.proofs.lemmas.Result.{IfOk-weaker}
use Rattle.aen_base.specs.declared.limits.Which.TheVariants as L
use Rattle.aeneas.specs.PrintedFound.{IsPrintedFound, IsPrintedFoundIn}
use Rattle.aeneas.specs.Limits.{greatest}
use Rattle.aeneas.specs.Seen.{seen}
use Rattle.aeneas.proofs.Replies.{read_whole, text_found}
use Rattle.aeneas.proofs.printed.printed_of.Goals as goal

pub returns-in-Ok-clause-found : goal.returns-in-Ok-clause-found
returns-in-Ok-clause-found g c =
    let s = seen g.F.Files.told g.F.Files.handed g.F.Files.faults c.args.files.now c.read_all.new.files in
    let ok = c.in-Ok.ensures in
    let few : length c.in-Ok.content.items ≤ greatest L.Text = omega (arith, ok.within, c.greatest.ensures, c.in-Ok.content.ok.0) in
    let same : c.deref.result.now ≡ c.in-Ok.content.items = c.deref.ensures.value in
    IfOk-weaker c.content_defs.result (IsPrintedFoundIn c.deref.result.now) (IsPrintedFound s c.args.file.now)
    (λ x h. text_found s c.args.file.now c.deref.result.now (same ∙ ok.whole.bytes_are) (read_whole L.Text s c.args.file.now c.in-Ok.content.items ok.whole few ok.content) x h)
    c.content_defs.ensures

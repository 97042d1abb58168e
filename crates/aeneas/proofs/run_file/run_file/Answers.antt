-- A file that is no source is refused.
use Rattle.std.proofs.Common.{◌≤◌, arith, inl, inr, map, subst}
use Rattle.std.proofs.lemmas.Result.{IfOk-weaker}
use Rattle.std.specs.String.{string_bytes}
use Rattle.aen_base.specs.declared.limits.Which.TheVariants as L
use Rattle.aeneas.specs.Limits.{greatest}
use Rattle.aeneas.specs.Refusals.{IsRefusal}
use Rattle.aeneas.specs.Run.{RunReply}
use Rattle.aeneas.specs.Seen.{seen}
use Rattle.aeneas.specs.Source.{SourceRefusal}
use Rattle.aeneas.specs.SourceFound.{IsFound}
use Rattle.aeneas.proofs.run_file.run_file.Goals as goal

pub returns-in-Refused-clause-reply : goal.returns-in-Refused-clause-reply
returns-in-Refused-clause-reply g c =
    let s = seen g.F.Files.told g.F.Files.handed g.F.Files.faults c.args.files.now c.source_of.new.files in
    let refusal = c.in-Refused.refusal in
    let cause : SourceRefusal s c.args.file.now refusal = subst (IsFound s c.args.file.now) c.in-Refused.is c.in_ok-program.ensures.found in
    let few : c.args.fuel ≤ greatest L.Fuel = omega (arith, c.if-fuel-greatest.false, c.greatest.ensures) in
    IfOk-weaker c.refused-in-Refused.result (λ r. IsRefusal refusal r.status r.text)
    (λ r. RunReply s c.args.file.now c.args.name.now (map string_bytes c.args.values.now) c.args.fuel r.status r.text)
    (λ r h. inr (record { few = few; reply = inl (record { refusal = refusal; cause = cause; answer = h }) })) c.refused-in-Refused.ensures

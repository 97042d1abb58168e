-- The reply that was written whole is the one to the words.
use Rattle.std.proofs.Common.{map, subst}
use Rattle.std.specs.String.{string_bytes}
use Rattle.aen_io.specs.Written.{WritesAll}
use Rattle.aeneas.specs.Answer.{sunk}
use Rattle.aeneas.specs.Seen.{seen}
use Rattle.aeneas.proofs.Headlines.{headline}
use Rattle.aeneas.proofs.top.aeneas.Goals as goal

pub returns-in-Ok-write_all-clause-headline : goal.returns-in-Ok-write_all-clause-headline
returns-in-Ok-write_all-clause-headline g c =
    let s = seen g.F.Files.told g.F.Files.handed g.F.Files.faults c.args.files.now c.reply_to.new.files in
    let k = sunk g.K.Sink.taken g.K.Sink.faults c.args.out.now c.write_all.new.out in
    headline (map string_bytes c.args.words.now) s k c.in-Ok.reply.status c.in-Ok.reply.text c.in-Ok.ensures.reply
    (subst (WritesAll k.old k.new) c.as_bytes.ensures c.in-Ok-write_all.ensures.all)

use Rattle.std.proofs.Common.{refl}
use Rattle.aen_io.specs.InMemory.{content_of}
use Rattle.aen_io.proofs.Entries.{content_hit, content_miss}
use Rattle.aen_io.proofs.mem_files.MemFiles.content_of.Goals as goal

pub returns-then-is : goal.returns-then-is
returns-then-is c =
    content_hit c.as_slice-entry-items.result.now c.loop-entry.entry-index c.loop-entry-item.result c.args.name.now
    (content_of c.args.self.now.files c.args.name.now)
    c.loop-entry-test.true c.loop-entry-item.is c.loop-entry.invariant (c.if-is.ensures.0 refl)

pub loop-entry-preserved : goal.loop-entry-preserved
loop-entry-preserved c =
    content_miss c.as_slice-entry-items.result.now c.loop-entry.entry-index c.loop-entry-item.result c.args.name.now
    (content_of c.args.self.now.files c.args.name.now)
    c.loop-entry-test.true c.loop-entry-item.is c.loop-entry.invariant (λ same. cc (c.if-is.ensures.1 same))

use Rattle.std.proofs.Common.{◌≡◌, drop}
use Rattle.aen_io.specs.InMemory.{content_of}
use Rattle.aen_io.proofs.mem_files.MemFiles.content_of.Given as goal

-- the entries that are left have the same first one of this name
abbrev pub invariant-loop-entry : goal.invariant-loop-entry
invariant-loop-entry l = content_of (drop l.entry-index l.entry-items) l.name ≡ content_of l.self.files l.name

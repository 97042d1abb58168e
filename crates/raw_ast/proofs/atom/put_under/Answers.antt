-- The first part is taken out, and a tuple of the list is put there.
use Rattle.std.proofs.Common.{ap, arith}
use Rattle.raw_ast.specs.Atoms.{nodes_rawatom}
use Rattle.raw_ast.proofs.Dropping.{below_first, all_kept}
use Rattle.raw_ast.proofs.atom.put_under.Goals as goal

pub returns-clause-first : goal.returns-clause-first
returns-clause-first c = below_first c.args.parts c.replace-first.result c.replace-first.ensures.taken

pub returns-clause-all : goal.returns-clause-all
returns-clause-all c =
    let made = ap nodes_rawatom c.tuple.ensures in
    let kept = all_kept c.args.parts c.replace-first.new.self c.replace-first.result c.tuple.result c.replace-first.ensures.taken c.replace-first.ensures.put in
    omega (arith, made, kept)

-- The first part is taken out, and the type is put there.
use Rattle.std.proofs.Common.{ap, arith}
use Rattle.raw_ast.specs.Types.{nodes_rawtype}
use Rattle.raw_ast.proofs.Dropping.{below_first_type, all_types_kept}
use Rattle.raw_ast.proofs.ty.put_under.Goals as goal

pub returns-clause-first : goal.returns-clause-first
returns-clause-first c = below_first_type c.args.parts c.replace-first.result c.replace-first.ensures.taken

pub returns-clause-all : goal.returns-clause-all
returns-clause-all c =
    let made = ap nodes_rawtype c.product.ensures in
    let kept = all_types_kept c.args.parts c.replace-first.new.self c.replace-first.result c.args.held c.replace-first.ensures.taken c.replace-first.ensures.put in
    omega (arith, made, kept)

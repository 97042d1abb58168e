-- The first part is taken out, and a tuple of the list is put there.
use Rattle.std.proofs.Common.{ap, arith}
use Rattle.pure_ast.specs.Values.{nodes_pvalue}
use Rattle.pure_ast.proofs.Dropping.{below_first_value, all_values_kept}
use Rattle.pure_ast.proofs.value.put_under.Goals as goal

pub returns-clause-first : goal.returns-clause-first
returns-clause-first c = below_first_value c.args.parts c.replace-first.result c.replace-first.ensures.taken

pub returns-clause-all : goal.returns-clause-all
returns-clause-all c =
    let made = ap nodes_pvalue c.tuple.ensures in
    let kept = all_values_kept c.args.parts c.replace-first.new.self c.replace-first.result c.tuple.result c.replace-first.ensures.taken c.replace-first.ensures.put in
    omega (arith, made, kept)

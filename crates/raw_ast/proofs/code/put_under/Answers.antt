-- The first arm is taken out, and one of the other code is put there.
use Rattle.raw_ast.specs.declared.pattern.Pattern.TheVariants.{Truth}
use Rattle.std.proofs.Common.{true}
use Rattle.raw_ast.proofs.Dropping.{below_first_arm, all_arms_kept}
use Rattle.raw_ast.proofs.code.put_under.Goals as goal

pub returns-clause-first : goal.returns-clause-first
returns-clause-first c = below_first_arm c.args.arms c.replace-pat.result c.replace-pat.ensures.taken

pub returns-clause-all : goal.returns-clause-all
returns-clause-all c = all_arms_kept c.args.arms c.replace-pat.new.self c.replace-pat.result (Truth true, c.args.waiting) c.replace-pat.ensures.taken c.replace-pat.ensures.put

-- The first arm is taken out, and one of the other code is put there.
use Rattle.pure_ast.specs.declared.pat.Pat.TheVariants.{Bool}
use Rattle.std.proofs.Common.{true}
use Rattle.pure_ast.proofs.Dropping.{below_first_arm, all_arms_kept}
use Rattle.pure_ast.proofs.code.put_under.Goals as goal

pub returns-clause-first : goal.returns-clause-first
returns-clause-first c = below_first_arm c.args.arms c.replace-pat.result c.replace-pat.ensures.taken

pub returns-clause-all : goal.returns-clause-all
returns-clause-all c = all_arms_kept c.args.arms c.replace-pat.new.self c.replace-pat.result (Bool true, c.args.waiting) c.replace-pat.ensures.taken c.replace-pat.ensures.put

use Rattle.rust_ast.specs.SpelledPatterns.{nodes_pat}
use Rattle.type_cover.proofs.heads.+left_of.Given as goal

abbrev pub decreases-left_of : goal.decreases-left_of
decreases-left_of l = nodes_pat l.pat.now

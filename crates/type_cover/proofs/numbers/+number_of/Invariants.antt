use Rattle.rust_ast.specs.SpelledPatterns.{nodes_pat}
use Rattle.type_cover.proofs.numbers.+number_of.Given as goal

abbrev pub decreases-number_of : goal.decreases-number_of
decreases-number_of l = nodes_pat l.pat.now

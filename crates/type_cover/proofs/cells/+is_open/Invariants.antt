use Rattle.rust_ast.specs.SpelledPatterns.{nodes_pat}
use Rattle.type_cover.proofs.cells.+is_open.Given as goal

abbrev pub decreases-is_open : goal.decreases-is_open
decreases-is_open l = nodes_pat l.pat.now

-- The productions of what is made are those of the grammar, in their order.
use Rattle.std.specs.Prelude.{◌≡◌, List, [], ◌∷◌, refl}
use Rattle.std.proofs.Common.{ap}
use Rattle.table_reader.specs.declared.symbol.Symbol.{Symbol}
use Rattle.table_reader.specs.Reading.{plain}
use Rattle.source_grammar.specs.declared.terminal.Terminal.{Terminal}
use Rattle.source_grammar.specs.declared.part.Part.{Part}
use Rattle.source_grammar.specs.Productions.{productions}
use Rattle.source_ways.specs.Carriers.{Carrier, Makes, made_by}
use Rattle.source_ways.specs.Makes.{makes}
use Rattle.source_ways.specs.Reading.{made}

pub plain_made : (n : Part) (ps : List (List (Symbol Terminal Part))) (ways : Makes n ps) → plain Carrier n (made_by n ps ways) ≡ ps
plain_made n [] ways = refl
plain_made n (p ∷ ps) ways = ap (λ r. p ∷ r) (plain_made n ps ways.1)

pub same_productions : (n : Part) → plain Carrier n (made n) ≡ productions n
same_productions n = plain_made n (productions n) (makes n)

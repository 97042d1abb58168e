-- The limits: how each is called, and the greatest count that it allows (PROMISES.md, "Safe and
-- total").
use Rattle.std.specs.Prelude.{ℕ, List, codes}
use Rattle.aen_base.specs.declared.limits.Which.{Which}
use Rattle.aen_base.specs.declared.limits.Which.TheVariants.{Source, Nesting, Depth, Else, Functions, Variables, TypeNodes, Statements, Paths, Ids, Text, TextNesting, Fuel, Work}

-- the greatest count
abbrev pub greatest : Which → ℕ
greatest Source = 1048576
greatest Nesting = 100
greatest Depth = 250
greatest Else = 250
greatest Functions = 4096
greatest Variables = 1000
greatest TypeNodes = 1000
greatest Statements = 2000
greatest Paths = 4096
greatest Ids = 4294967295
greatest Text = 67108864
greatest TextNesting = 10000
greatest Fuel = 256
greatest Work = 1000

-- the word of a line
abbrev pub limit_word : Which → List ℕ
limit_word Source = codes "source"
limit_word Nesting = codes "nesting"
limit_word Depth = codes "depth"
limit_word Else = codes "else"
limit_word Functions = codes "functions"
limit_word Variables = codes "variables"
limit_word TypeNodes = codes "type_nodes"
limit_word Statements = codes "statements"
limit_word Paths = codes "paths"
limit_word Ids = codes "ids"
limit_word Text = codes "text"
limit_word TextNesting = codes "text_nesting"
limit_word Fuel = codes "fuel"
limit_word Work = codes "work"

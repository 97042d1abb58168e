-- Rows of patterns as code has them.
use Rattle.std.specs.Prelude.{Option, Some, None, option_map, List, map, ℤ}
use denote.Bor.{Bor}
use Rattle.std.specs.Option.{option_copied}
use Rattle.aen_base.specs.Numbers.{Number}
use Rattle.type_cover.specs.Rows as r
use Rattle.type_cover.specs.Rows.{Row}
use Rattle.type_cover.specs.declared.heads.Head as code
use Rattle.type_cover.specs.declared.heads.Head.TheVariants.{Numeral, Other, Boolean, Made}
use Rattle.rust_ast.specs.SpelledPatterns as q

abbrev pub cell_pat : Option q.Pat → q.Pat
cell_pat None = q.wild
cell_pat (Some p) = p

abbrev pub Cell : Type 0
Cell = Option (Bor q.Pat)

abbrev pub cell_now : Cell → q.Pat
cell_now c = cell_pat (option_copied c)

abbrev pub row_now : List Cell → Row
row_now row = map cell_now row

abbrev pub rows_now : List (List Cell) → List Row
rows_now rows = map row_now rows

abbrev pub left_now : Option (List Cell) → Option Row
left_now o = option_map row_now o

abbrev pub head_of : code.Head → r.Head
head_of (Numeral n) = r.numeral n.now.value
head_of Other = r.other
head_of (Boolean b) = r.boolean b
head_of (Made v n) = r.made v n

abbrev pub value_now : Option (Bor Number) → Option ℤ
value_now o = option_map (λ n. n.now.value) o

abbrev pub values_now : List (Bor Number) → List ℤ
values_now numbers = map (λ n. n.now.value) numbers

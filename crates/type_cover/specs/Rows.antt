-- Rows of patterns, and what is left of them at a constructor of the first column
-- (LANGUAGE.md, "Coverage").
use Rattle.std.specs.Prelude.{ℕ, zero, suc, ◌==◌, Bool, true, false, not, if◌then◌else◌, Option, Some, None, List, [], ◌∷◌, ◌++◌, ℤ}
use Rattle.std.specs.Ordering.{int_eq}
use Rattle.rust_ast.specs.SpelledPatterns as q

-- the patterns of an arm that are still to be met, one for each column
abbrev pub Row : Type 0
Row = List q.Pat

-- a pattern that meets all
abbrev pub is_open : q.Pat → Bool
is_open q.wild = true
is_open (q.bind s k m) = true
is_open (q.number n) = false
is_open (q.truth b) = false
is_open (q.tuple ps) = false
is_open (q.construct d v ps) = false
is_open (q.through m p) = is_open p

abbrev pub begins_open : Row → Bool
begins_open [] = true
begins_open (p ∷ ps) = is_open p

-- what a constructor of the first column is: a number, one that no pattern of it names, a bool, or a
-- variant or tuple with so many parts
pub data Head : Type 0 where
  numeral : ℤ → Head
  other : Head
  boolean : Bool → Head
  made : ℕ → ℕ → Head

abbrev pub open_parts : ℕ → Row
open_parts zero = []
open_parts (suc n) = q.wild ∷ open_parts n

-- the pattern of the field with this number, of those that a variant's pattern has
abbrev pub field_pattern : q.FieldPats → ℕ → q.Pat
field_pattern q.no_fieldpats k = q.wild
field_pattern (q.more_fieldpats j p ps) k = if j == k then p else field_pattern ps k

-- the patterns of so many fields, of which the first has number k
abbrev pub fields_from : q.FieldPats → ℕ → ℕ → Row
fields_from ps k zero = []
fields_from ps k (suc n) = field_pattern ps k ∷ fields_from ps (suc k) n

abbrev pub if_met : Bool → Row → Option Row
if_met true ps = Some ps
if_met false ps = None

abbrev pub open_head : Head → Option Row
open_head (made v n) = Some (open_parts n)
open_head h = Some []

abbrev pub number_head : ℤ → Head → Option Row
number_head z (numeral y) = if_met (int_eq z y) []
number_head z h = None

abbrev pub truth_head : Bool → Head → Option Row
truth_head true (boolean b) = if_met b []
truth_head false (boolean b) = if_met (not b) []
truth_head c h = None

abbrev pub tuple_head : q.Pats → Head → Option Row
tuple_head ps (made v n) = if_met (v == 0) (q.pats_list ps)
tuple_head ps h = None

abbrev pub variant_head : ℕ → q.FieldPats → Head → Option Row
variant_head v ps (made k n) = if_met (k == v) (fields_from ps 0 n)
variant_head v ps h = None

-- what is left to be met of a pattern at a constructor: its parts; nothing where it doesn't meet it
abbrev pub left_of : Head → q.Pat → Option Row
left_of h q.wild = open_head h
left_of h (q.bind s k m) = open_head h
left_of h (q.number n) = number_head n.value h
left_of h (q.truth b) = truth_head b h
left_of h (q.tuple ps) = tuple_head ps h
left_of h (q.construct d v ps) = variant_head v ps h
left_of h (q.through m p) = left_of h p

abbrev pub left_open : q.Pat → Option Row
left_open p = if_met (is_open p) []

abbrev pub row_with : Option Row → Row → List Row → List Row
row_with None ps rows = rows
row_with (Some xs) ps rows = (xs ++ ps) ∷ rows

-- the rows of whose first pattern something is left, with that in its place
abbrev pub rows_by : (q.Pat → Option Row) → List Row → List Row
rows_by left [] = []
rows_by left ([] ∷ rows) = rows_by left rows
rows_by left ((p ∷ ps) ∷ rows) = row_with (left p) ps (rows_by left rows)

abbrev pub rows_at : Head → List Row → List Row
rows_at h rows = rows_by (left_of h) rows

-- the rows that begin open, without their first pattern
abbrev pub open_rows : List Row → List Row
open_rows rows = rows_by left_open rows

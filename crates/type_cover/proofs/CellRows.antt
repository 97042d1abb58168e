-- Rows of patterns as code builds them.
use Rattle.std.proofs.Common.{◌≡◌, ℕ, zero, suc, ◌+◌, ◌<◌, get_or, length, take, refl, ap, sym, ◌∙◌, arith}
use Rattle.std.specs.Prelude.{Option, Some, None, List, [], ◌∷◌, ◌++◌, map, replicate, ℤ}
use denote.Bor.{Bor}
use Rattle.std.proofs.lemmas.List.{map-append, take_more}
use Rattle.aen_base.specs.Numbers.{Number}
use Rattle.core_ty.specs.Substitution.{substitute}
use Rattle.type_rules.specs.Skeletons.{field_types}
use Rattle.type_cover.specs.Cells.{Cell, cell_now, row_now, rows_now, values_now}
use Rattle.type_cover.specs.Rows.{Row, field_pattern, fields_from, open_parts, row_with, rows_by}
use Rattle.type_cover.specs.Splitting.{as_row}
use Rattle.type_cover.specs.Ways.{number_of, numbers_onto, with_new}
use Rattle.core_ty.specs.Types as t
use Rattle.rust_ast.specs.SpelledPatterns as q

pub open_now : (n : ℕ) → row_now (replicate n None) ≡ open_parts n
open_now zero = refl
open_now (suc n) = ap (λ row. q.wild ∷ row) (open_now n)

pub row_push : (row : List Cell) (c : Cell) → row_now (row ++ c ∷ []) ≡ row_now row ++ cell_now c ∷ []
row_push row c = map-append cell_now row (c ∷ [])

pub rows_push : (rows : List (List Cell)) (row : List Cell) → rows_now (rows ++ row ∷ []) ≡ rows_now rows ++ row_now row ∷ []
rows_push rows row = map-append row_now rows (row ∷ [])

pub as_parts : (row : Row) (parts : List q.Pat) → row ≡ parts → row ≡ q.pats_list (q.pats parts)
as_parts row parts e = e ∙ sym (q.pats_back parts)

pub row_with_rest : (row more : List Cell) → row_now (row ++ more) ≡ row_now row ++ row_now more
row_with_rest row more = map-append cell_now row more

plus_none : (j : ℕ) → j + 0 ≡ j
plus_none j = omega arith

one_on : (j n : ℕ) → j + suc n ≡ suc j + n
one_on j n = omega arith

from_later : (ps : q.FieldPats) (j n : ℕ) → fields_from ps j n ++ field_pattern ps (j + n) ∷ [] ≡ fields_from ps j (suc n)
from_later ps j zero = ap (λ (k : ℕ). field_pattern ps k ∷ []) (plus_none j)
from_later ps j (suc n) =
    ap (λ row. field_pattern ps j ∷ row) (ap (λ (k : ℕ). fields_from ps (suc j) n ++ field_pattern ps k ∷ []) (one_on j n) ∙ from_later ps (suc j) n)

none_on : (n : ℕ) → n ≡ 0 + n
none_on n = omega arith

suc_on : (n : ℕ) → suc n ≡ n + 1
suc_on n = omega arith

pub from_more : (ps : q.FieldPats) (n : ℕ) → fields_from ps 0 n ++ field_pattern ps n ∷ [] ≡ fields_from ps 0 (n + 1)
from_more ps n =
    ap (λ (k : ℕ). fields_from ps 0 n ++ field_pattern ps k ∷ []) (none_on n) ∙ from_later ps 0 n ∙ ap (λ (k : ℕ). fields_from ps 0 k) (suc_on n)

rows_by_append : (f : q.Pat → Option Row) (all more : List Row) → rows_by f (all ++ more) ≡ rows_by f all ++ rows_by f more
rows_by_append f [] more = refl
rows_by_append f ([] ∷ all) more = rows_by_append f all more
rows_by_append f ((p ∷ ps) ∷ all) more = ap (row_with (f p) ps) (rows_by_append f all more) ∙ with_more (f p) ps (rows_by f all) (rows_by f more)
  where
    with_more : (o : Option Row) (ps : Row) (xs ys : List Row) → row_with o ps (xs ++ ys) ≡ row_with o ps xs ++ ys
    with_more None ps xs ys = refl
    with_more (Some zs) ps xs ys = refl

-- the rows up to this one
up_to : (rows : List (List Cell)) (i : ℕ) (row : List Cell) → i < length rows → row ≡ get_or rows i row →
    rows_now (take i rows) ++ row_now row ∷ [] ≡ rows_now (take (i + 1) rows)
up_to rows i row l e =
    sym (rows_push (take i rows) row) ∙ ap rows_now (ap (λ r. take i rows ++ r ∷ []) e ∙ sym (take_more rows i row l))

pub rows_more : (f : q.Pat → Option Row) (done after : List (List Cell)) (rows : List (List Cell)) (i : ℕ) (row : List Cell) →
    i < length rows → row ≡ get_or rows i row → rows_now after ≡ rows_now done ++ rows_by f (row_now row ∷ []) →
    rows_now done ≡ rows_by f (rows_now (take i rows)) → rows_now after ≡ rows_by f (rows_now (take (i + 1) rows))
rows_more f done after rows i row l e step h =
    step ∙ ap (λ xs. xs ++ rows_by f (row_now row ∷ [])) h ∙ sym (rows_by_append f (rows_now (take i rows)) (row_now row ∷ []))
    ∙ ap (rows_by f) (up_to rows i row l e)

-- ---- numbers

pub values_push : (numbers : List (Bor Number)) (n : Bor Number) → values_now (numbers ++ n ∷ []) ≡ values_now numbers ++ n.now.value ∷ []
values_push numbers n = map-append (λ (m : Bor Number). m.now.value) numbers (n ∷ [])

numbers_append : (zs : List ℤ) (all more : List Row) → numbers_onto zs (all ++ more) ≡ numbers_onto (numbers_onto zs all) more
numbers_append zs [] more = refl
numbers_append zs ([] ∷ all) more = numbers_append zs all more
numbers_append zs ((p ∷ ps) ∷ all) more = numbers_append (with_new (number_of p) zs) all more

pub numbers_more : (done after : List (Bor Number)) (rows : List (List Cell)) (i : ℕ) (row : List Cell) →
    i < length rows → row ≡ get_or rows i row → values_now after ≡ numbers_onto (values_now done) (row_now row ∷ []) →
    values_now done ≡ numbers_onto [] (rows_now (take i rows)) → values_now after ≡ numbers_onto [] (rows_now (take (i + 1) rows))
numbers_more done after rows i row l e step h =
    step ∙ ap (λ zs. numbers_onto zs (row_now row ∷ [])) h ∙ sym (numbers_append [] (rows_now (take i rows)) (row_now row ∷ []))
    ∙ ap (numbers_onto []) (up_to rows i row l e)

-- ---- types of fields

fields_append : (args : List t.Ty) (fs gs : List (List ℕ × t.Ty)) → field_types args (fs ++ gs) ≡ field_types args fs ++ field_types args gs
fields_append args [] gs = refl
fields_append args (f ∷ fs) gs = ap (λ xs. substitute args f.1 ∷ xs) (fields_append args fs gs)

pub fields_more : (args done after : List t.Ty) (fs : List (List ℕ × t.Ty)) (i : ℕ) (f : List ℕ × t.Ty) (x : t.Ty) →
    i < length fs → f ≡ get_or fs i f → after ≡ done ++ x ∷ [] → x ≡ substitute args f.1 →
    done ≡ field_types args (take i fs) → after ≡ field_types args (take (i + 1) fs)
fields_more args done after fs i f x l e step this h =
    step ∙ (λ k. h k ++ this k ∷ []) ∙ sym (fields_append args (take i fs) (f ∷ []))
    ∙ ap (field_types args) (ap (λ g. take i fs ++ g ∷ []) e ∙ sym (take_more fs i f l))

-- ---- the patterns of a match

pub patterns_more : (done after : List (List Cell)) (patterns : List (Bor q.Pat)) (i : ℕ) (p : Bor q.Pat) (row before : List Cell) →
    i < length patterns → p ≡ get_or patterns i p → before ≡ [] → row ≡ before ++ Some p ∷ [] → after ≡ done ++ row ∷ [] →
    rows_now done ≡ map as_row (map (λ (x : Bor q.Pat). x.now) (take i patterns)) →
    rows_now after ≡ map as_row (map (λ (x : Bor q.Pat). x.now) (take (i + 1) patterns))
patterns_more done after patterns i p row before l e none one step h =
    ap rows_now step ∙ rows_push done row
    ∙ (λ k. h k ++ row_now ((one ∙ ap (λ cells. cells ++ Some p ∷ []) none) k) ∷ [])
    ∙ sym (map-append as_row (map (λ (x : Bor q.Pat). x.now) (take i patterns)) (p.now ∷ []))
    ∙ ap (map as_row) (sym (map-append (λ (x : Bor q.Pat). x.now) (take i patterns) (p ∷ [])))
    ∙ ap (λ ps. map as_row (map (λ (x : Bor q.Pat). x.now) ps)) (ap (λ (x : Bor q.Pat). take i patterns ++ x ∷ []) e ∙ sym (take_more patterns i p l))

-- The rows whose first pattern meets a value, as rows with parts in its place.
use Rattle.std.proofs.Common.{◌≡◌, ℕ, suc, refl, ap, sym, ◌∙◌, arith}
use Rattle.std.specs.Prelude.{Bool, true, false, ◌&&◌, Option, Some, None, List, [], ◌∷◌, ◌++◌, length, ℤ, ⊤}
use Rattle.std.specs.List.{list_all}
use Rattle.std.proofs.lemmas.Bool.{and_parts}
use Rattle.type_rules.specs.Coverage.{child, meets}
use Rattle.type_rules.specs.Skeletons.{Skeleton, Skeletons, anything, boolean, made, more_skeletons, no_skeletons, numeral, other}
use Rattle.type_cover.specs.Rows as r
use Rattle.type_cover.specs.Rows.{Row, begins_open, if_met, is_open, left_of, left_open, open_rows, row_with, rows_at, rows_by}
use Rattle.rust_ast.specs.SpelledPatterns as q

abbrev pub left_kept : Skeleton → q.Pat → Option Row
left_kept k p = if_met (meets p k) []

-- the rows whose first pattern meets this, without it
abbrev pub kept : Skeleton → List Row → List Row
kept k rows = rows_by (left_kept k) rows

-- the rows whose first patterns meet these, without them
abbrev pub kept_all : Skeletons → List Row → List Row
kept_all no_skeletons rows = rows
kept_all (more_skeletons k ks) rows = kept_all ks (kept k rows)

abbrev pub skeleton_count : Skeletons → ℕ
skeleton_count no_skeletons = 0
skeleton_count (more_skeletons k ks) = suc (skeleton_count ks)

abbrev pub others : Skeletons → Skeletons
others no_skeletons = no_skeletons
others (more_skeletons k ks) = ks

abbrev pub meets_row : Row → Skeletons → Bool
meets_row [] ks = true
meets_row (p ∷ ps) ks = meets p (child 0 ks) && meets_row ps (others ks)

-- both leave the same of the first pattern of each row
abbrev pub Agree : (q.Pat → Option Row) → (q.Pat → Option Row) → List Row → Type 0
Agree f g [] = ⊤
Agree f g ([] ∷ rows) = Agree f g rows
Agree f g ((p ∷ ps) ∷ rows) = (f p ≡ g p) × Agree f g rows

pub same_rows : (f g : q.Pat → Option Row) (rows : List Row) → Agree f g rows → rows_by f rows ≡ rows_by g rows
same_rows f g [] h = refl
same_rows f g ([] ∷ rows) h = same_rows f g rows h
same_rows f g ((p ∷ ps) ∷ rows) h = λ i. row_with (h.0 i) ps (same_rows f g rows h.1 i)

-- ---- what meets all

pub open_meets : (p : q.Pat) (k : Skeleton) → is_open p ≡ true → meets p k ≡ true
open_meets q.wild k h = refl
open_meets (q.bind s n m) k h = refl
open_meets (q.number n) k h = absurd cc
open_meets (q.truth b) k h = absurd cc
open_meets (q.tuple ps) k h = absurd cc
open_meets (q.construct d v ps) k h = absurd cc
open_meets (q.through m p) k h = open_meets p k h

open_agree : (k : Skeleton) (rows : List Row) → list_all begins_open rows ≡ true → Agree (left_kept k) left_open rows
open_agree k [] h = tt
open_agree k ([] ∷ rows) h = open_agree k rows h
open_agree k ((p ∷ ps) ∷ rows) h =
    let both = and_parts (is_open p) (list_all begins_open rows) h in
    (ap (λ b. if_met b []) (open_meets p k both.0 ∙ sym both.0), open_agree k rows both.1)

pub open_kept : (k : Skeleton) (rows : List Row) → list_all begins_open rows ≡ true → kept k rows ≡ open_rows rows
open_kept k rows h = same_rows (left_kept k) left_open rows (open_agree k rows h)

meets_anything : (p : q.Pat) → is_open p ≡ meets p anything
meets_anything q.wild = refl
meets_anything (q.bind s n m) = refl
meets_anything (q.number n) = refl
meets_anything (q.truth true) = refl
meets_anything (q.truth false) = refl
meets_anything (q.tuple ps) = refl
meets_anything (q.construct d v ps) = refl
meets_anything (q.through m p) = meets_anything p

pub unknown_kept : (rows : List Row) → open_rows rows ≡ kept anything rows
unknown_kept rows = ap (λ f. rows_by f rows) (λ i p. if_met (meets_anything p i) [])

-- ---- numbers and bools

at_numeral : (z : ℤ) (p : q.Pat) → left_of (r.numeral z) p ≡ left_kept (numeral z) p
at_numeral z q.wild = refl
at_numeral z (q.bind s n m) = refl
at_numeral z (q.number n) = refl
at_numeral z (q.truth true) = refl
at_numeral z (q.truth false) = refl
at_numeral z (q.tuple ps) = refl
at_numeral z (q.construct d v ps) = refl
at_numeral z (q.through m p) = at_numeral z p

at_other : (p : q.Pat) → left_of r.other p ≡ left_kept other p
at_other q.wild = refl
at_other (q.bind s n m) = refl
at_other (q.number n) = refl
at_other (q.truth true) = refl
at_other (q.truth false) = refl
at_other (q.tuple ps) = refl
at_other (q.construct d v ps) = refl
at_other (q.through m p) = at_other p

at_boolean : (b : Bool) (p : q.Pat) → left_of (r.boolean b) p ≡ left_kept (boolean b) p
at_boolean b q.wild = refl
at_boolean b (q.bind s n m) = refl
at_boolean b (q.number n) = refl
at_boolean b (q.truth true) = refl
at_boolean b (q.truth false) = refl
at_boolean b (q.tuple ps) = refl
at_boolean b (q.construct d v ps) = refl
at_boolean b (q.through m p) = at_boolean b p

pub numeral_kept : (z : ℤ) (rows : List Row) → rows_at (r.numeral z) rows ≡ kept (numeral z) rows
numeral_kept z rows = ap (λ f. rows_by f rows) (λ i p. at_numeral z p i)

pub other_kept : (rows : List Row) → rows_at r.other rows ≡ kept other rows
other_kept rows = ap (λ f. rows_by f rows) (λ i p. at_other p i)

pub boolean_kept : (b : Bool) (rows : List Row) → rows_at (r.boolean b) rows ≡ kept (boolean b) rows
boolean_kept b rows = ap (λ f. rows_by f rows) (λ i p. at_boolean b p i)

-- ---- parts

-- what is left of a pattern at a constructor says whether its parts meet these
abbrev pub Says : Skeletons → Option Row → Bool → Type 0
Says ks None b = b ≡ false
Says ks (Some xs) b = (length xs ≡ skeleton_count ks) × (b ≡ meets_row xs ks)

-- of the first pattern of each row
abbrev pub HeadsSay : ℕ → ℕ → Skeletons → List Row → Type 0
HeadsSay v n ks [] = ⊤
HeadsSay v n ks ([] ∷ rows) = HeadsSay v n ks rows
HeadsSay v n ks ((p ∷ ps) ∷ rows) = Says ks (left_of (r.made v n) p) (meets p (made v ks)) × HeadsSay v n ks rows

-- the parts of one row, whose first pattern meets a value or not
abbrev RowKept : Skeletons → Row → Row → Type 0
RowKept ks xs ps = (rows : List Row) → kept_all ks ((xs ++ ps) ∷ rows) ≡ row_with (if_met (meets_row xs ks) []) ps (kept_all ks rows)

row_by : (b : Bool) (ks : Skeletons) (xs ps : Row) (rows : List Row) → RowKept ks xs ps →
    kept_all ks (row_with (if_met b []) (xs ++ ps) rows) ≡ row_with (if_met (b && meets_row xs ks) []) ps (kept_all ks rows)
row_by true ks xs ps rows h = h rows
row_by false ks xs ps rows h = refl

row_kept : (ks : Skeletons) (xs ps : Row) → length xs ≡ skeleton_count ks → RowKept ks xs ps
row_kept no_skeletons [] ps e rows = refl
row_kept no_skeletons (x ∷ xs) ps e rows = absurd (omega (arith, e))
row_kept (more_skeletons k ks) [] ps e rows = absurd (omega (arith, e))
row_kept (more_skeletons k ks) (x ∷ xs) ps e rows = row_by (meets x k) ks xs ps (kept k rows) (row_kept ks xs ps (omega (arith, e)))

no_rows_kept : (ks : Skeletons) → kept_all ks [] ≡ []
no_rows_kept no_skeletons = refl
no_rows_kept (more_skeletons k ks) = no_rows_kept ks

put_kept : (ks : Skeletons) (o : Option Row) (b : Bool) (ps : Row) (all rows : List Row) → Says ks o b → all ≡ kept_all ks rows →
    row_with (if_met b []) ps all ≡ kept_all ks (row_with o ps rows)
put_kept ks None b ps all rows h e = ap (λ c. row_with (if_met c []) ps all) h ∙ e
put_kept ks (Some xs) b ps all rows h e =
    ap (λ c. row_with (if_met c []) ps all) h.1 ∙ ap (λ more. row_with (if_met (meets_row xs ks) []) ps more) e ∙ sym (row_kept ks xs ps h.0 rows)

pub made_kept : (v n : ℕ) (ks : Skeletons) (rows : List Row) → HeadsSay v n ks rows → kept (made v ks) rows ≡ kept_all ks (rows_at (r.made v n) rows)
made_kept v n ks [] h = sym (no_rows_kept ks)
made_kept v n ks ([] ∷ rows) h = made_kept v n ks rows h
made_kept v n ks ((p ∷ ps) ∷ rows) h =
    put_kept ks (left_of (r.made v n) p) (meets p (made v ks)) ps (kept (made v ks) rows) (rows_at (r.made v n) rows) h.0 (made_kept v n ks rows h.1)

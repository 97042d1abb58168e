-- A pattern with parts meets parts exactly where the row of their patterns does.
use Rattle.std.proofs.Common.{◌≡◌, ℕ, zero, suc, ◌+◌, ◌<◌, ◌≤◌, ◌⊎◌, inl, inr, refl, ap, sym, ◌∙◌, arith}
use Rattle.std.specs.Prelude.{Bool, true, false, not, ◌==◌, ◌&&◌, if◌then◌else◌, [], ◌∷◌, ⊤}
use Rattle.std.specs.List.{list_any}
use Rattle.std.proofs.lemmas.Bool.{and_parts, and_from, cases_eq, eq-eqb, ne_eqb, eqb-false, not-true, or_parts}
use Rattle.type_rules.specs.Coverage.{child, meet_all, meet_fields, meets}
use Rattle.type_rules.specs.FitsCalls.{are_distinct}
use Rattle.type_rules.specs.FitsPatterns.{field_numbers}
use Rattle.type_rules.specs.Skeletons.{Skeletons, more_skeletons, no_skeletons}
use Rattle.type_cover.specs.Rows.{Row, field_pattern, fields_from, is_open}
use Rattle.type_cover.proofs.Kept.{meets_row, open_meets, others}
use Rattle.type_cover.proofs.Tests.{same_test}
use Rattle.rust_ast.specs.SpelledPatterns as q

-- patterns in a row, of which the first is to meet the child with this number
abbrev meets_from : Row → ℕ → Skeletons → Bool
meets_from [] j ks = true
meets_from (p ∷ ps) j ks = meets p (child j ks) && meets_from ps (suc j) ks

child_other : (j : ℕ) (ks : Skeletons) → child (suc j) ks ≡ child j (others ks)
child_other j no_skeletons = refl
child_other j (more_skeletons k ks) = refl

from_others : (xs : Row) (j : ℕ) (ks : Skeletons) → meets_from xs (suc j) ks ≡ meets_from xs j (others ks)
from_others [] j ks = refl
from_others (p ∷ ps) j ks = λ i. meets p (child_other j ks i) && from_others ps (suc j) ks i

row_from : (xs : Row) (ks : Skeletons) → meets_row xs ks ≡ meets_from xs 0 ks
row_from [] ks = refl
row_from (p ∷ ps) ks = ap (λ b. meets p (child 0 ks) && b) (row_from ps (others ks) ∙ sym (from_others ps 0 ks))

plus_one : (k : ℕ) → suc k ≡ k + 1
plus_one k = omega arith

tuple_from : (ps : q.Pats) (j : ℕ) (ks : Skeletons) → meet_all ps j ks ≡ meets_from (q.pats_list ps) j ks
tuple_from q.no_pats j ks = refl
tuple_from (q.more_pats p ps) j ks =
    ap (λ b. meets p (child j ks) && b) (tuple_from ps (j + 1) ks ∙ ap (λ n. meets_from (q.pats_list ps) n ks) (sym (plus_one j)))

pub tuple_met : (ps : q.Pats) (ks : Skeletons) → meet_all ps 0 ks ≡ meets_row (q.pats_list ps) ks
tuple_met ps ks = tuple_from ps 0 ks ∙ sym (row_from (q.pats_list ps) ks)

-- ---- the pattern of a field

pub field_here : (j k : ℕ) (p : q.Pat) (ps : q.FieldPats) → j ≡ k → field_pattern (q.more_fieldpats j p ps) k ≡ p
field_here j k p ps e = ap (λ b. if b then p else field_pattern ps k) (eq-eqb j k e)

pub field_there : (j k : ℕ) (p : q.Pat) (ps : q.FieldPats) → (j ≡ k → ⊥) → field_pattern (q.more_fieldpats j p ps) k ≡ field_pattern ps k
field_there j k p ps h = ap (λ b. if b then p else field_pattern ps k) (ne_eqb j k h)

first_or_later : (j k : ℕ) (p : q.Pat) (ps : q.FieldPats) (ks : Skeletons) → (j ≡ k) ⊎ (j ≡ k → ⊥) → meets p (child j ks) ≡ true →
    meets (field_pattern ps k) (child k ks) ≡ true → meets (field_pattern (q.more_fieldpats j p ps) k) (child k ks) ≡ true
first_or_later j k p ps ks (inl e) h more =
    ap (λ f. meets f (child k ks)) (field_here j k p ps e) ∙ ap (λ n. meets p (child n ks)) (sym e) ∙ h
first_or_later j k p ps ks (inr x) h more = ap (λ f. meets f (child k ks)) (field_there j k p ps x) ∙ more

field_meets : (ps : q.FieldPats) (k : ℕ) (ks : Skeletons) → meet_fields ps ks ≡ true → meets (field_pattern ps k) (child k ks) ≡ true
field_meets q.no_fieldpats k ks h = refl
field_meets (q.more_fieldpats j p ps) k ks h =
    let both = and_parts (meets p (child j ks)) (meet_fields ps ks) h in
    first_or_later j k p ps ks (cases_eq j k) both.0 (field_meets ps k ks both.1)

all_meet : (ps : q.FieldPats) (n j : ℕ) (ks : Skeletons) → meet_fields ps ks ≡ true → meets_from (fields_from ps j n) j ks ≡ true
all_meet ps zero j ks h = refl
all_meet ps (suc n) j ks h =
    and_from (meets (field_pattern ps j) (child j ks)) (meets_from (fields_from ps (suc j) n) (suc j) ks) (field_meets ps j ks h) (all_meet ps n (suc j) ks h)

-- ---- and back

here_or_later : (ps : q.FieldPats) (j k : ℕ) (ks : Skeletons) → (j ≡ k) ⊎ (j ≡ k → ⊥) → meets (field_pattern ps j) (child j ks) ≡ true →
    ((j ≡ k → ⊥) → meets (field_pattern ps k) (child k ks) ≡ true) → meets (field_pattern ps k) (child k ks) ≡ true
here_or_later ps j k ks (inl e) here more = ap (λ i. meets (field_pattern ps i) (child i ks)) (sym e) ∙ here
here_or_later ps j k ks (inr x) here more = more x

after_this : (j k : ℕ) → j ≤ k → (j ≡ k → ⊥) → suc j ≤ k
after_this j k l x = grind (arith, l, x)

each_meets : (ps : q.FieldPats) (n j k : ℕ) (ks : Skeletons) → j ≤ k → k < j + n → meets_from (fields_from ps j n) j ks ≡ true →
    meets (field_pattern ps k) (child k ks) ≡ true
each_meets ps zero j k ks l m h = absurd (omega (arith, l, m))
each_meets ps (suc n) j k ks l m h =
    let both = and_parts (meets (field_pattern ps j) (child j ks)) (meets_from (fields_from ps (suc j) n) (suc j) ks) h in
    here_or_later ps j k ks (cases_eq j k) both.0 (λ x. each_meets ps n (suc j) k ks (after_this j k l x) (omega (arith, m)) both.1)

-- each pattern is the one of its field
abbrev Looks : (ℕ → q.Pat) → q.FieldPats → Type 0
Looks f q.no_fieldpats = ⊤
Looks f (q.more_fieldpats k p ps) = (f k ≡ p) × Looks f ps

-- each pattern is of one of so many fields, or meets all
abbrev pub InRange : ℕ → q.FieldPats → Type 0
InRange n q.no_fieldpats = ⊤
InRange n (q.more_fieldpats k p ps) = ((k < n) ⊎ (is_open p ≡ true)) × InRange n ps

one_meets : (f : ℕ → q.Pat) (n k : ℕ) (p : q.Pat) (ks : Skeletons) → f k ≡ p → (k < n) ⊎ (is_open p ≡ true) →
    ((i : ℕ) → i < n → meets (f i) (child i ks) ≡ true) → meets p (child k ks) ≡ true
one_meets f n k p ks e (inl l) all = ap (λ x. meets x (child k ks)) (sym e) ∙ all k l
one_meets f n k p ks e (inr o) all = open_meets p (child k ks) o

fields_meet : (f : ℕ → q.Pat) (n : ℕ) (ks : Skeletons) (ps : q.FieldPats) → Looks f ps → InRange n ps →
    ((i : ℕ) → i < n → meets (f i) (child i ks) ≡ true) → meet_fields ps ks ≡ true
fields_meet f n ks q.no_fieldpats h r all = refl
fields_meet f n ks (q.more_fieldpats k p ps) h r all =
    and_from (meets p (child k ks)) (meet_fields ps ks) (one_meets f n k p ks h.0 r.0 all) (fields_meet f n ks ps h.1 r.1 all)

looks_past : (j : ℕ) (p : q.Pat) (ps qs : q.FieldPats) → list_any (λ i. i == j) (field_numbers qs) ≡ false → Looks (field_pattern ps) qs →
    Looks (field_pattern (q.more_fieldpats j p ps)) qs
looks_past j p ps q.no_fieldpats h l = tt
looks_past j p ps (q.more_fieldpats k x qs) h l =
    let both = or_parts (k == j) (list_any (λ i. i == j) (field_numbers qs)) h in
    (field_there j k p ps (λ e. eqb-false k j both.0 (sym e)) ∙ l.0, looks_past j p ps qs both.1 l.1)

looks : (ps : q.FieldPats) → are_distinct (field_numbers ps) ≡ true → Looks (field_pattern ps) ps
looks q.no_fieldpats h = tt
looks (q.more_fieldpats j p ps) h =
    let both = and_parts (not (list_any (λ i. i == j) (field_numbers ps))) (are_distinct (field_numbers ps)) h in
    (field_here j j p ps refl, looks_past j p ps ps (not-true (list_any (λ i. i == j) (field_numbers ps)) both.0) (looks ps both.1))

pub fields_met : (ps : q.FieldPats) (n : ℕ) (ks : Skeletons) → are_distinct (field_numbers ps) ≡ true → InRange n ps →
    meet_fields ps ks ≡ meets_row (fields_from ps 0 n) ks
fields_met ps n ks once range =
    same_test (meet_fields ps ks) (meets_row (fields_from ps 0 n) ks)
    (λ h. row_from (fields_from ps 0 n) ks ∙ all_meet ps n 0 ks h)
    (λ h. fields_meet (field_pattern ps) n ks ps (looks ps once) range
    (λ k l. each_meets ps n 0 k ks (omega arith) (omega (arith, l)) (sym (row_from (fields_from ps 0 n) ks) ∙ h)))

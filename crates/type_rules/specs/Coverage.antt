-- Which patterns cover a type (LANGUAGE.md, "Coverage").
use Rattle.std.specs.List.{list_all, list_any}
use Rattle.std.specs.Ordering.{int_eq}
use Rattle.std.specs.Prelude.{Bool, true, false, ℕ, zero, suc, ◌+◌, ◌==◌, not, ◌&&◌, List, [], ◌∷◌, ◌++◌, max, ℤ}
use Rattle.core_ty.specs.declared.decl.TypeDecl.{TypeDecl}
use Rattle.type_rules.specs.Skeletons.{Skeleton, Skeletons, anything, boolean, made, more_skeletons, no_skeletons, numeral, skeletons}
use Rattle.rust_ast.specs.SpelledPatterns as q
use Rattle.core_ty.specs.Types as t

abbrev mutual
  -- how deep the constructors of a pattern are nested
  pub nesting : q.Pat → ℕ
  nesting q.wild = 0
  nesting (q.bind s k m) = 0
  nesting (q.number n) = 1
  nesting (q.truth b) = 1
  nesting (q.tuple ps) = suc (nesting_all ps)
  nesting (q.construct d v ps) = suc (nesting_fields ps)
  nesting (q.through m p) = nesting p

  pub nesting_all : q.Pats → ℕ
  nesting_all q.no_pats = 0
  nesting_all (q.more_pats p ps) = max (nesting p) (nesting_all ps)

  pub nesting_fields : q.FieldPats → ℕ
  nesting_fields q.no_fieldpats = 0
  nesting_fields (q.more_fieldpats k p ps) = max (nesting p) (nesting_fields ps)

-- the greatest nesting, and at least one level
abbrev pub levels : List q.Pat → ℕ
levels [] = 1
levels (p ∷ ps) = max (nesting p) (levels ps)

abbrev mutual
  -- the numbers that a pattern names
  pub named_in : q.Pat → List ℤ
  named_in q.wild = []
  named_in (q.bind s k m) = []
  named_in (q.number n) = n.value ∷ []
  named_in (q.truth b) = []
  named_in (q.tuple ps) = named_in_all ps
  named_in (q.construct d v ps) = named_in_fields ps
  named_in (q.through m p) = named_in p

  pub named_in_all : q.Pats → List ℤ
  named_in_all q.no_pats = []
  named_in_all (q.more_pats p ps) = named_in p ++ named_in_all ps

  pub named_in_fields : q.FieldPats → List ℤ
  named_in_fields q.no_fieldpats = []
  named_in_fields (q.more_fieldpats k p ps) = named_in p ++ named_in_fields ps

abbrev pub named_by : List q.Pat → List ℤ
named_by [] = []
named_by (p ∷ ps) = named_in p ++ named_by ps

abbrev pub child : ℕ → Skeletons → Skeleton
child k no_skeletons = anything
child zero (more_skeletons x xs) = x
child (suc k) (more_skeletons x xs) = child k xs

abbrev pub is_numeral : ℤ → Skeleton → Bool
is_numeral z (numeral y) = int_eq z y
is_numeral z x = false

abbrev pub is_boolean : Bool → Skeleton → Bool
is_boolean true (boolean b) = b
is_boolean false (boolean b) = not b
is_boolean c x = false

abbrev pub is_made : ℕ → Skeleton → Bool
is_made v (made k xs) = k == v
is_made v x = false

abbrev pub parts : Skeleton → Skeletons
parts (made k xs) = xs
parts x = no_skeletons

abbrev mutual
  -- the pattern fits the skeleton; references are looked through and are no level
  pub meets : q.Pat → Skeleton → Bool
  meets q.wild x = true
  meets (q.bind s k m) x = true
  meets (q.number n) x = is_numeral n.value x
  meets (q.truth b) x = is_boolean b x
  meets (q.tuple ps) x = is_made 0 x && meet_all ps 0 (parts x)
  meets (q.construct d v ps) x = is_made v x && meet_fields ps (parts x)
  meets (q.through m p) x = meets p x

  pub meet_all : q.Pats → ℕ → Skeletons → Bool
  meet_all q.no_pats k xs = true
  meet_all (q.more_pats p ps) k xs = meets p (child k xs) && meet_all ps (k + 1) xs

  pub meet_fields : q.FieldPats → Skeletons → Bool
  meet_fields q.no_fieldpats xs = true
  meet_fields (q.more_fieldpats k p ps) xs = meets p (child k xs) && meet_fields ps xs

-- every skeleton of the type meets a pattern
unfoldable pub is_covered : List TypeDecl → t.Ty → List q.Pat → Bool
is_covered ds x ps = list_all (λ k. list_any (λ p. meets p k) ps) (skeletons ds (named_by ps) (levels ps) x)

-- Uncovered: some value meets no pattern
abbrev pub is_uncovered : List TypeDecl → t.Ty → List q.Pat → Bool
is_uncovered ds x ps = not (is_covered ds x ps)

-- The greatest of nestings, one after the other.
use Rattle.std.proofs.Common.{◌≡◌, ℕ, zero, suc, ◌+◌, ◌<◌, List, [], ◌∷◌, length, get_or, drop, map, refl, ap, sym, ◌∙◌, arith}
use Rattle.std.specs.Prelude.{max}
use denote.Bor.{Bor}
use Rattle.std.proofs.lemmas.List.{drop_more}
use Rattle.type_rules.specs.Coverage.{levels, nesting, nesting_all, nesting_fields}
use Rattle.rust_ast.specs.SpelledPatterns.{Pat, fieldpats, nodes_fieldpats, nodes_pat, nodes_pats, pats}

max_turn : (a b c : ℕ) → max (max a b) c ≡ max a (max b c)
max_turn a b c = omega arith

module _ {A : Type 0} (F : List A → ℕ) (g : A → ℕ) (more : (x : A) (xs : List A) → F (x ∷ xs) ≡ max (g x) (F xs)) where
  turned : (xs : List A) (i : ℕ) (x : A) (so_far after n all : ℕ) → i < length xs → x ≡ get_or xs i x → n ≡ g x → after ≡ max so_far n →
      max so_far (F (drop i xs)) ≡ all → max after (F (drop (i + 1) xs)) ≡ all
  turned xs i x so_far after n all l e k step h =
      ap (λ (m : ℕ). max m (F (drop (i + 1) xs))) (step ∙ ap (λ (m : ℕ). max so_far m) k)
      ∙ max_turn so_far (g x) (F (drop (i + 1) xs))
      ∙ ap (λ (m : ℕ). max so_far m) (sym (more x (drop (i + 1) xs)))
      ∙ ap (λ (ys : List A). max so_far (F ys)) (ap (λ (y : A). y ∷ drop (i + 1) xs) e ∙ sym (drop_more xs i x l)) ∙ h

pub parts_turn : (xs : List Pat) (i : ℕ) (x : Pat) (so_far after n all : ℕ) → i < length xs → x ≡ get_or xs i x → n ≡ nesting x → after ≡ max so_far n →
    max so_far (nesting_all (pats (drop i xs))) ≡ all → max after (nesting_all (pats (drop (i + 1) xs))) ≡ all
parts_turn xs i x so_far after n all = turned (λ ys. nesting_all (pats ys)) nesting (λ y ys. refl) xs i x so_far after n all

pub fields_turn : (xs : List (ℕ × Pat)) (i : ℕ) (x : ℕ × Pat) (so_far after n all : ℕ) → i < length xs → x ≡ get_or xs i x → n ≡ nesting x.1 → after ≡ max so_far n →
    max so_far (nesting_fields (fieldpats (drop i xs))) ≡ all → max after (nesting_fields (fieldpats (drop (i + 1) xs))) ≡ all
fields_turn xs i x so_far after n all = turned (λ ys. nesting_fields (fieldpats ys)) (λ y. nesting y.1) (λ y ys. refl) xs i x so_far after n all

pub patterns_turn : (xs : List (Bor Pat)) (i : ℕ) (x : Bor Pat) (so_far after n all : ℕ) → i < length xs → x ≡ get_or xs i x → n ≡ nesting x.now → after ≡ max so_far n →
    max so_far (levels (map (λ (p : Bor Pat). p.now) (drop i xs))) ≡ all → max after (levels (map (λ (p : Bor Pat). p.now) (drop (i + 1) xs))) ≡ all
patterns_turn xs i x so_far after n all =
    turned (λ ys. levels (map (λ (p : Bor Pat). p.now) ys)) (λ y. nesting y.now) (λ y ys. refl) xs i x so_far after n all

pub part_item : (xs : List Pat) (i : ℕ) (x : Pat) → i < length xs → x ≡ get_or xs i x → nodes_pat x < nodes_pats (pats xs)
part_item [] i x h e = absurd (omega arith)
part_item (y ∷ ys) zero x h e = rw e (omega arith)
part_item (y ∷ ys) (suc i) x h e = omega (arith, part_item ys i x (omega arith) e)

pub field_item : (xs : List (ℕ × Pat)) (i : ℕ) (x : ℕ × Pat) → i < length xs → x ≡ get_or xs i x → nodes_pat x.1 < nodes_fieldpats (fieldpats xs)
field_item [] i x h e = absurd (omega arith)
field_item (y ∷ ys) zero x h e = rw e (omega arith)
field_item (y ∷ ys) (suc i) x h e = omega (arith, field_item ys i x (omega arith) e)

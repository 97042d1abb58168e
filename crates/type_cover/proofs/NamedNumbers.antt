-- In a column of numbers those that it doesn't name are all met alike.
use Rattle.std.proofs.Common.{◌≡◌, ◌⊎◌, inl, inr, refl, ap, sym, subst, ◌∙◌}
use Rattle.std.specs.Prelude.{Bool, true, false, ◌&&◌, if◌then◌else◌, Option, Some, None, List, [], ◌∷◌, ◌++◌, ℤ, ⊤}
use Rattle.std.specs.List.{list_all, list_any}
use Rattle.std.specs.Ordering.{int_eq}
use Rattle.std.proofs.lemmas.Bool.{and_parts, and_from, cases_Bool, false_from_ne_true, or_cases, or_parts, true≢false}
use Rattle.std.proofs.lemmas.List.Folds.{list_any-append}
use Rattle.std.proofs.lemmas.Bool.Decides.{Decides-int_eq}
use Rattle.core_ty.specs.declared.decl.TypeDecl.{TypeDecl}
use Rattle.type_rules.specs.Coverage.{meets, named_in}
use Rattle.type_rules.specs.Skeletons.{numeral, other}
use Rattle.type_cover.specs.Rows.{Row, if_met}
use Rattle.type_cover.specs.Ways.{number_of, numbers_first, numbers_onto, with_new}
use Rattle.type_cover.proofs.Kept.{Agree, kept, left_kept, same_rows}
use Rattle.type_cover.proofs.Suiting.{HeadsFit}
use Rattle.type_cover.proofs.Tests.{Each, each_append, same_test}
use Rattle.rust_ast.specs.SpelledPatterns as q
use Rattle.core_ty.specs.Types as t

same_number : (y z : ℤ) → int_eq y z ≡ true → y ≡ z
same_number y z h = (Decides-int_eq y z).0 h

pub number_itself : (y z : ℤ) → y ≡ z → int_eq y z ≡ true
number_itself y z h = (Decides-int_eq y z).1 h

turned : (y z : ℤ) → int_eq y z ≡ false → int_eq z y ≡ false
turned y z h = false_from_ne_true (int_eq z y) (λ e. true≢false (sym (number_itself y z (sym (same_number z y e))) ∙ h))

-- a number is in the list
abbrev pub is_in : List ℤ → ℤ → Bool
is_in zs z = list_any (int_eq z) zs

abbrev OnSomeNumber : Option ℤ → (ℤ → Type 0) → Type 0
OnSomeNumber None P = ⊤
OnSomeNumber (Some z) P = P z

not_in_this : (y z : ℤ) (zs : List ℤ) → is_in zs y ≡ true → is_in zs z ≡ false → int_eq z y ≡ false
not_in_this y z zs h k =
    false_from_ne_true (int_eq z y) (λ e. true≢false (sym (subst (λ x. is_in zs x ≡ true) (sym (same_number z y e)) h) ∙ k))

not_in_new : (b : Bool) (y z : ℤ) (zs : List ℤ) → is_in zs y ≡ b → is_in (if b then zs else zs ++ y ∷ []) z ≡ false →
    (is_in zs z ≡ false) × (int_eq z y ≡ false)
not_in_new true y z zs e h = (h, not_in_this y z zs e h)
not_in_new false y z zs e h =
    let both = or_parts (is_in zs z) (is_in (y ∷ []) z) (sym (list_any-append (int_eq z) zs (y ∷ [])) ∙ h) in
    (both.0, (or_parts (int_eq z y) false both.1).0)

not_in : (o : Option ℤ) (z : ℤ) (zs : List ℤ) → is_in (with_new o zs) z ≡ false → (is_in zs z ≡ false) × OnSomeNumber o (λ y. int_eq z y ≡ false)
not_in None z zs h = (h, tt)
not_in (Some y) z zs h = not_in_new (is_in zs y) y z zs refl h

same_meets : (z : ℤ) (p : q.Pat) → OnSomeNumber (number_of p) (λ y. int_eq z y ≡ false) → meets p (numeral z) ≡ meets p other
same_meets z q.wild h = refl
same_meets z (q.bind s k m) h = refl
same_meets z (q.number n) h = turned z n.value h
same_meets z (q.truth true) h = refl
same_meets z (q.truth false) h = refl
same_meets z (q.tuple ps) h = refl
same_meets z (q.construct d v ps) h = refl
same_meets z (q.through m p) h = same_meets z p h

not_onto : (z : ℤ) (zs : List ℤ) (rows : List Row) → is_in (numbers_onto zs rows) z ≡ false → is_in zs z ≡ false
not_onto z zs [] h = h
not_onto z zs ([] ∷ rows) h = not_onto z zs rows h
not_onto z zs ((p ∷ ps) ∷ rows) h = (not_in (number_of p) z zs (not_onto z (with_new (number_of p) zs) rows h)).0

others_agree : (z : ℤ) (zs : List ℤ) (rows : List Row) → is_in (numbers_onto zs rows) z ≡ false → Agree (left_kept (numeral z)) (left_kept other) rows
others_agree z zs [] h = tt
others_agree z zs ([] ∷ rows) h = others_agree z zs rows h
others_agree z zs ((p ∷ ps) ∷ rows) h = (
  ap (λ b. if_met b []) (same_meets z p (not_in (number_of p) z zs (not_onto z (with_new (number_of p) zs) rows h)).1),
  others_agree z (with_new (number_of p) zs) rows h,
)

others_kept : (z : ℤ) (rows : List Row) → is_in (numbers_first rows) z ≡ false → kept (numeral z) rows ≡ kept other rows
others_kept z rows h = same_rows (left_kept (numeral z)) (left_kept other) rows (others_agree z [] rows h)

-- ---- the numbers of the column are known

module _ (ds : List TypeDecl) (N : ℤ → Type 0) where
  known_new : (o : Option ℤ) (zs : List ℤ) → OnSomeNumber o N → Each N zs → Each N (with_new o zs)
  known_new None zs h k = k
  known_new (Some z) zs h k = by (is_in zs z)
    where
      by : (b : Bool) → Each N (if b then zs else zs ++ z ∷ [])
      by true = k
      by false = each_append N zs (z ∷ []) k (h, tt)

  known_number : (p : q.Pat) → Each N (named_in p) → OnSomeNumber (number_of p) N
  known_number q.wild h = tt
  known_number (q.bind s k m) h = tt
  known_number (q.number n) h = h.0
  known_number (q.truth b) h = tt
  known_number (q.tuple ps) h = tt
  known_number (q.construct d v ps) h = tt
  known_number (q.through m p) h = known_number p h

  known_onto : (x : t.Ty) (zs : List ℤ) (rows : List Row) → HeadsFit ds N x rows → Each N zs → Each N (numbers_onto zs rows)
  known_onto x zs [] h k = k
  known_onto x zs ([] ∷ rows) h k = known_onto x zs rows h k
  known_onto x zs ((p ∷ ps) ∷ rows) h k = known_onto x (with_new (number_of p) zs) rows h.1 (known_new (number_of p) zs (known_number p h.0.1) k)

  pub known_first : (x : t.Ty) (rows : List Row) → HeadsFit ds N x rows → Each N (numbers_first rows)
  known_first x rows h = known_onto x [] rows h tt

-- ---- a test of all numbers

module _ (test : ℤ → Bool) where
  test_at : (zs : List ℤ) (z : ℤ) → list_all test zs ≡ true → is_in zs z ≡ true → test z ≡ true
  test_at [] z h k = absurd (true≢false (sym k))
  test_at (y ∷ zs) z h k =
      let both = and_parts (test y) (list_all test zs) h in
      by (or_cases (int_eq z y) (is_in zs z) k) both.0 (λ more. test_at zs z both.1 more)
    where
      by : (int_eq z y ≡ true) ⊎ (is_in zs z ≡ true) → test y ≡ true → (is_in zs z ≡ true → test z ≡ true) → test z ≡ true
      by (inl e) here more = subst (λ x. test x ≡ true) (sym (same_number z y e)) here
      by (inr e) here more = more e

  test_each : (zs ns : List ℤ) → Each (λ z. is_in zs z ≡ true) ns → list_all test zs ≡ true → list_all test ns ≡ true
  test_each zs [] h k = refl
  test_each zs (n ∷ ns) h k = and_from (test n) (list_all test ns) (test_at zs n k h.0) (test_each zs ns h.1 k)

  test_rest : (zs ns : List ℤ) → ((z : ℤ) → is_in ns z ≡ false → test z ≡ true) → list_all test ns ≡ true → list_all test zs ≡ true
  test_rest [] ns h k = refl
  test_rest (z ∷ zs) ns h k = and_from (test z) (list_all test zs) (by (cases_Bool (is_in ns z))) (test_rest zs ns h k)
    where
      by : (is_in ns z ≡ true) ⊎ (is_in ns z ≡ false) → test z ≡ true
      by (inl e) = test_at ns z k e
      by (inr e) = h z e

  -- where `rest` is what the test says of all but some numbers, these numbers are enough
  pub named_enough : (rest : Bool) (zs ns : List ℤ) → Each (λ z. is_in zs z ≡ true) ns → ((z : ℤ) → is_in ns z ≡ false → test z ≡ rest) →
      (rest && list_all test ns) ≡ (rest && list_all test zs)
  named_enough false zs ns h k = refl
  named_enough true zs ns h k = same_test (list_all test ns) (list_all test zs) (test_rest zs ns k) (test_each zs ns h)

pub numbers_kept : (onward : List Row → Bool) (rows : List Row) (zs : List ℤ) → Each (λ z. is_in zs z ≡ true) (numbers_first rows) →
    (onward (kept other rows) && list_all (λ z. onward (kept (numeral z) rows)) (numbers_first rows))
    ≡ (onward (kept other rows) && list_all (λ z. onward (kept (numeral z) rows)) zs)
numbers_kept onward rows zs h =
    named_enough (λ z. onward (kept (numeral z) rows)) (onward (kept other rows)) zs (numbers_first rows) h (λ z e. ap onward (others_kept z rows e))

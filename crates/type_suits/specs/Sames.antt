-- Types that are one but for regions.
use Rattle.std.proofs.Common.{◌≡◌, ℕ, zero, suc, List, [], ◌∷◌, refl, ap}
use Rattle.std.specs.Prelude.{true, false, ◌==◌, slice_get, unwrap_or}
use Rattle.std.proofs.lemmas.Bool.{and_parts, and_from, eq-eqb}
use Rattle.aen_base.specs.declared.int_ty.IntTy.{IntTy}
use Rattle.aen_base.specs.declared.int_ty.IntTy.TheVariants.{U8, U16, U32, U64, U128, Usize, I8, I16, I32, I64, I128, Isize}
use Rattle.core_ty.specs.Substitution.{substitute, substitute_all}
use Rattle.type_rules.specs.TypeFacts.{count, same, same_all}
use Rattle.core_ty.specs.Types as t

int_itself : (i : IntTy) → same (t.int i) (t.int i) ≡ true
int_itself U8 = refl
int_itself U16 = refl
int_itself U32 = refl
int_itself U64 = refl
int_itself U128 = refl
int_itself Usize = refl
int_itself I8 = refl
int_itself I16 = refl
int_itself I32 = refl
int_itself I64 = refl
int_itself I128 = refl
int_itself Isize = refl

-- the type that is put in the place of a parameter
slot : (xs : List t.Ty) (ys : t.Tys) (k j : ℕ) → same_all (t.tys xs) ys ≡ true →
    same (unwrap_or (slice_get xs k) (t.param j)) (unwrap_or (slice_get (t.tys_list ys) k) (t.param j)) ≡ true
slot [] t.no_tys zero j h = eq-eqb j j refl
slot [] t.no_tys (suc k) j h = eq-eqb j j refl
slot [] (t.more_tys y ys) k j h = absurd cc
slot (x ∷ xs) t.no_tys k j h = absurd cc
slot (x ∷ xs) (t.more_tys y ys) zero j h = (and_parts (same x y) (same_all (t.tys xs) ys) h).0
slot (x ∷ xs) (t.more_tys y ys) (suc k) j h = slot xs ys k j (and_parts (same x y) (same_all (t.tys xs) ys) h).1

mutual
  -- types with such types put in
  pub put_in_same : (xs : List t.Ty) (ys : t.Tys) → same_all (t.tys xs) ys ≡ true → (z : t.Ty) → same (substitute xs z) (substitute (t.tys_list ys) z) ≡ true
  put_in_same xs ys h (t.int i) = int_itself i
  put_in_same xs ys h t.bool = refl
  put_in_same xs ys h t.unit = refl
  put_in_same xs ys h (t.tuple zs) = put_in_all_same xs ys h zs
  put_in_same xs ys h (t.named d zs) = and_from (d.0 == d.0) _ (eq-eqb d.0 d.0 refl) (put_in_all_same xs ys h zs)
  put_in_same xs ys h (t.param k) = slot xs ys k k h
  put_in_same xs ys h (t.boxed z) = put_in_same xs ys h z
  put_in_same xs ys h (t.ref r true z) = put_in_same xs ys h z
  put_in_same xs ys h (t.ref r false z) = put_in_same xs ys h z

  put_in_all_same : (xs : List t.Ty) (ys : t.Tys) → same_all (t.tys xs) ys ≡ true → (zs : t.Tys) → same_all (substitute_all xs zs) (substitute_all (t.tys_list ys) zs) ≡ true
  put_in_all_same xs ys h t.no_tys = refl
  put_in_all_same xs ys h (t.more_tys z zs) = and_from _ _ (put_in_same xs ys h z) (put_in_all_same xs ys h zs)

pub count_same : (xs ys : t.Tys) → same_all xs ys ≡ true → count xs ≡ count ys
count_same t.no_tys t.no_tys h = refl
count_same t.no_tys (t.more_tys y ys) h = absurd cc
count_same (t.more_tys x xs) t.no_tys h = absurd cc
count_same (t.more_tys x xs) (t.more_tys y ys) h = ap suc (count_same xs ys (and_parts (same x y) (same_all xs ys) h).1)

-- ---- what a type that is the same looks like

pub as_unit : (y : t.Ty) → same t.unit y ≡ true → y ≡ t.unit
as_unit (t.int i) h = absurd cc
as_unit t.bool h = absurd cc
as_unit t.unit h = refl
as_unit (t.tuple ys) h = absurd cc
as_unit (t.named d ys) h = absurd cc
as_unit (t.param k) h = absurd cc
as_unit (t.boxed z) h = absurd cc
as_unit (t.ref r m z) h = absurd cc

pub as_tuple : (xs : t.Tys) (y : t.Ty) → same (t.tuple xs) y ≡ true → (ys : t.Tys) × ((y ≡ t.tuple ys) × (same_all xs ys ≡ true))
as_tuple xs (t.int i) h = absurd cc
as_tuple xs t.bool h = absurd cc
as_tuple xs t.unit h = absurd cc
as_tuple xs (t.tuple ys) h = (ys, (refl, h))
as_tuple xs (t.named d ys) h = absurd cc
as_tuple xs (t.param k) h = absurd cc
as_tuple xs (t.boxed z) h = absurd cc
as_tuple xs (t.ref r m z) h = absurd cc

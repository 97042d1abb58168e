-- Type arguments that are found (LANGUAGE.md, "Calls").
use Rattle.std.specs.List.{list_any}
use Rattle.std.specs.Prelude.{Bool, true, false, ℕ, zero, suc, ◌==◌, ◌&&◌, ◌||◌, if◌then◌else◌, Option, Some, None, List, [], ◌∷◌, unwrap_or, is_some, slice_get, slice_set, is_none}
use denote.Enum.Bare.{sameb}
use Rattle.aen_base.specs.contracts.int_ty.IntTy.{the_type}
use Rattle.core_ty.specs.Substitution.{substitute}
use Rattle.type_rules.specs.TypeFacts.{count, has_reference, same}
use Rattle.core_ty.specs.Types as t

-- what is found so far of each type parameter
abbrev pub Finds : Type 0
Finds = List (Option t.Ty)

abbrev pub find_of : Finds → ℕ → Option t.Ty
find_of f k = unwrap_or (slice_get f k) None

-- written type arguments count as far as they go
abbrev pub begun : ℕ → List t.Ty → Finds
begun zero xs = []
begun (suc n) [] = None ∷ begun n []
begun (suc n) (x ∷ xs) = Some x ∷ begun n xs

abbrev mutual
  -- all parameters in a type are found
  pub is_known : Finds → t.Ty → Bool
  is_known f (t.int i) = true
  is_known f t.bool = true
  is_known f t.unit = true
  is_known f (t.tuple xs) = are_known f xs
  is_known f (t.named d xs) = are_known f xs
  is_known f (t.param k) = is_some (find_of f k)
  is_known f (t.boxed x) = is_known f x
  is_known f (t.ref r m x) = is_known f x

  pub are_known : Finds → t.Tys → Bool
  are_known f t.no_tys = true
  are_known f (t.more_tys x xs) = is_known f x && are_known f xs

abbrev pub found_types : Finds → List t.Ty
found_types [] = []
found_types (o ∷ os) = unwrap_or o t.unit ∷ found_types os

-- the type with what is found in the place of its parameters
abbrev pub put_found : Finds → t.Ty → t.Ty
put_found f x = substitute (found_types f) x

-- whether the types match, and what is found then
abbrev pub Match : Type 0
Match = Bool × Finds

abbrev pub match_param : ℕ → t.Ty → Finds → Option t.Ty → Match
match_param k y f None = (true, slice_set f k (Some y))
match_param k y f (Some x) = (same x y, f)

abbrev mutual
  -- a type with parameters against a type
  pub matched : t.Ty → t.Ty → Finds → Match
  matched (t.param k) y f = match_param k y f (find_of f k)
  matched (t.int i) (t.int j) f = (sameb the_type i j, f)
  matched t.bool t.bool f = (true, f)
  matched t.unit t.unit f = (true, f)
  matched (t.tuple xs) (t.tuple ys) f = if count xs == count ys then matched_all xs ys f else (false, f)
  matched (t.named d xs) (t.named e ys) f = if d.0 == e.0 then matched_all xs ys f else (false, f)
  matched (t.boxed x) (t.boxed y) f = matched x y f
  matched (t.ref r true x) (t.ref q true y) f = matched x y f
  matched (t.ref r false x) (t.ref q false y) f = matched x y f
  matched x y f = (false, f)

  -- from left to right, up to the first that doesn't match
  pub matched_all : t.Tys → t.Tys → Finds → Match
  matched_all (t.more_tys x xs) (t.more_tys y ys) f =
      if (matched x y f).0 then matched_all xs ys (matched x y f).1 else (false, (matched x y f).1)
  matched_all xs ys f = (true, f)

-- NestedBorrow: a type that holds a reference is newly found
abbrev pub finds_reference : Finds → Finds → Bool
finds_reference (None ∷ os) (Some x ∷ ps) = has_reference x || finds_reference os ps
finds_reference (o ∷ os) (p ∷ ps) = finds_reference os ps
finds_reference os ps = false

-- NoType: a type argument is not found
abbrev pub lacks_type : Finds → Bool
lacks_type f = list_any is_none f

-- a parameter that isn't found yet
abbrev pub is_bare : Finds → t.Ty → Bool
is_bare f (t.param k) = is_none (find_of f k)
is_bare f x = false

-- what a reference's content gives where & or &mut to q is wanted and q isn't known: the type at
-- which q matches, through as few boxes as go (none where q is a bare parameter), and what is found
pub record Reached : Type 0 where
  pub content : t.Ty
  pub finds : Finds

abbrev pub reached_at : t.Ty → Match → Option Reached → Option Reached
reached_at x h o = if h.0 then Some (record { content = x; finds = h.1 }) else o

abbrev pub reached : Bool → t.Ty → Finds → t.Ty → Option Reached
reached bare q f (t.boxed x) = reached_at (t.boxed x) (matched q (t.boxed x) f) (if bare then None else reached bare q f x)
reached bare q f x = reached_at x (matched q x f) None

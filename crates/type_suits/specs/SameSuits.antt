-- What suits a type suits each that is the same but for regions.
use Rattle.std.proofs.Common.{◌≡◌, ℕ, List, refl, sym, ◌∙◌, subst}
use Rattle.std.proofs.lemmas.Bool.{and_parts, eqb-true}
use Rattle.std.specs.Prelude.{true, false, ◌==◌, Option, Some, None, option_map, slice_get}
use Rattle.core_ty.specs.Substitution.{substitute}
use Rattle.core_ty.specs.declared.decl.TypeDecl.{TypeDecl}
use Rattle.type_cover.specs.Suits.{AllSuit, FieldsSuit, Suits}
use Rattle.type_rules.specs.Fields.{fields_of}
use Rattle.type_rules.specs.FitsPatterns.{IsDeclared, IsTuple, arguments_of, pat_count, tuple_parts}
use Rattle.type_rules.specs.Skeletons.{content}
use Rattle.type_rules.specs.TypeFacts.{same, same_all}
use Rattle.type_suits.specs.Sames.{as_tuple, as_unit, count_same, put_in_same}
use Rattle.rust_ast.specs.SpelledPatterns as q
use Rattle.core_ty.specs.Types as t

abbrev TupleSuits : List TypeDecl → q.Pats → t.Ty → Type 0
TupleSuits ds ps x = IsTuple (pat_count ps) x × AllSuit ds ps (tuple_parts x)

abbrev AllMove : List TypeDecl → q.Pats → Type 0
AllMove ds ps = (xs ys : t.Tys) → same_all xs ys ≡ true → AllSuit ds ps (t.tys_list xs) → AllSuit ds ps (t.tys_list ys)

tuple_moves : (ds : List TypeDecl) (ps : q.Pats) → AllMove ds ps → (x y : t.Ty) → same x y ≡ true → TupleSuits ds ps x → TupleSuits ds ps y
tuple_moves ds ps f (t.int i) y h g = absurd g.0
tuple_moves ds ps f t.bool y h g = absurd g.0
tuple_moves ds ps f t.unit y h g = subst (TupleSuits ds ps) (sym (as_unit y h)) g
tuple_moves ds ps f (t.tuple xs) y h g =
    let w = as_tuple xs y h in
    subst (TupleSuits ds ps) (sym w.1.0) (g.0 ∙ count_same xs w.0 w.1.1, f xs w.0 w.1.1 g.1)
tuple_moves ds ps f (t.named d xs) y h g = absurd g.0
tuple_moves ds ps f (t.param k) y h g = absurd g.0
tuple_moves ds ps f (t.boxed z) y h g = absurd g.0
tuple_moves ds ps f (t.ref r m z) y h g = absurd g.0

abbrev DeclaredSuits : List TypeDecl → ℕ → ℕ → q.FieldPats → t.Ty → Type 0
DeclaredSuits ds d v ps x = IsDeclared d x × FieldsSuit ds d v (arguments_of x) ps

abbrev FieldsMove : List TypeDecl → ℕ → ℕ → q.FieldPats → Type 0
FieldsMove ds d v ps = (xs : List t.Ty) (ys : t.Tys) → same_all (t.tys xs) ys ≡ true → FieldsSuit ds d v xs ps → FieldsSuit ds d v (t.tys_list ys) ps

back : (xs : t.Tys) → t.tys (t.tys_list xs) ≡ xs
back t.no_tys = refl
back (t.more_tys x xs) = λ i. t.more_tys x (back xs i)

declared_moves : (ds : List TypeDecl) (d v : ℕ) (ps : q.FieldPats) → FieldsMove ds d v ps → (x y : t.Ty) → same x y ≡ true → DeclaredSuits ds d v ps x → DeclaredSuits ds d v ps y
declared_moves ds d v ps f (t.int i) y h g = absurd g.0
declared_moves ds d v ps f t.bool y h g = absurd g.0
declared_moves ds d v ps f t.unit y h g = absurd g.0
declared_moves ds d v ps f (t.tuple xs) y h g = absurd g.0
declared_moves ds d v ps f (t.named e xs) (t.int i) h g = absurd cc
declared_moves ds d v ps f (t.named e xs) t.bool h g = absurd cc
declared_moves ds d v ps f (t.named e xs) t.unit h g = absurd cc
declared_moves ds d v ps f (t.named e xs) (t.tuple ys) h g = absurd cc
declared_moves ds d v ps f (t.named e xs) (t.named k ys) h g =
    let both = and_parts (e.0 == k.0) (same_all xs ys) h in
    (g.0 ∙ eqb-true e.0 k.0 both.0, f (t.tys_list xs) ys (subst (λ z. same_all z ys ≡ true) (sym (back xs)) both.1) g.1)
declared_moves ds d v ps f (t.named e xs) (t.param k) h g = absurd cc
declared_moves ds d v ps f (t.named e xs) (t.boxed z) h g = absurd cc
declared_moves ds d v ps f (t.named e xs) (t.ref r m z) h g = absurd cc
declared_moves ds d v ps f (t.param k) y h g = absurd g.0
declared_moves ds d v ps f (t.boxed z) y h g = absurd g.0
declared_moves ds d v ps f (t.ref r m z) y h g = absurd g.0

abbrev Moves : List TypeDecl → q.Pat → Type 0
Moves ds p = (x y : t.Ty) → same x y ≡ true → Suits ds p (Some x) → Suits ds p (Some y)

through_moves : (ds : List TypeDecl) (p : q.Pat) → Moves ds p → (x y : t.Ty) → same x y ≡ true → Suits ds p (Some (content x)) → Suits ds p (Some (content y))
through_moves ds p f (t.int i) (t.int j) h g = f (t.int i) (t.int j) h g
through_moves ds p f t.bool t.bool h g = g
through_moves ds p f t.unit t.unit h g = g
through_moves ds p f (t.tuple xs) (t.tuple ys) h g = f (t.tuple xs) (t.tuple ys) h g
through_moves ds p f (t.named d xs) (t.named k ys) h g = f (t.named d xs) (t.named k ys) h g
through_moves ds p f (t.param j) (t.param k) h g = f (t.param j) (t.param k) h g
through_moves ds p f (t.boxed x) (t.boxed y) h g = f (t.boxed x) (t.boxed y) h g
through_moves ds p f (t.ref r true x) (t.ref k true y) h g = f x y h g
through_moves ds p f (t.ref r false x) (t.ref k false y) h g = f x y h g
through_moves ds p f x y h g = absurd cc

field_moves : (ds : List TypeDecl) (p : q.Pat) → Moves ds p → (xs : List t.Ty) (ys : t.Tys) → same_all (t.tys xs) ys ≡ true → (o : Option (List ℕ × t.Ty)) →
    Suits ds p (option_map (λ (f : List ℕ × t.Ty). substitute xs f.1) o) → Suits ds p (option_map (λ (f : List ℕ × t.Ty). substitute (t.tys_list ys) f.1) o)
field_moves ds p f xs ys h None g = g
field_moves ds p f xs ys h (Some z) g = f (substitute xs z.1) (substitute (t.tys_list ys) z.1) (put_in_same xs ys h z.1) g

mutual
  pub suits_same : (ds : List TypeDecl) (p : q.Pat) → Moves ds p
  suits_same ds q.wild x y h g = tt
  suits_same ds (q.bind s k m) x y h g = tt
  suits_same ds (q.number n) x y h g = tt
  suits_same ds (q.truth b) x y h g = tt
  suits_same ds (q.tuple ps) x y h g = tuple_moves ds ps (all_same ds ps) x y h g
  suits_same ds (q.construct d v ps) x y h g =
      let w = declared_moves ds d.0 v ps (fields_same ds d.0 v ps) x y h (g.0, g.2) in
      (w.0, g.1, w.1)
  suits_same ds (q.through m p) x y h g = through_moves ds p (suits_same ds p) x y h g

  all_same : (ds : List TypeDecl) (ps : q.Pats) → AllMove ds ps
  all_same ds q.no_pats xs ys h g = tt
  all_same ds (q.more_pats p ps) t.no_tys ys h g = absurd g
  all_same ds (q.more_pats p ps) (t.more_tys x xs) t.no_tys h g = absurd cc
  all_same ds (q.more_pats p ps) (t.more_tys x xs) (t.more_tys y ys) h g =
      let both = and_parts (same x y) (same_all xs ys) h in
      (suits_same ds p x y both.0 g.0, all_same ds ps xs ys both.1 g.1)

  pub fields_same : (ds : List TypeDecl) (d v : ℕ) (ps : q.FieldPats) → FieldsMove ds d v ps
  fields_same ds d v q.no_fieldpats xs ys h g = tt
  fields_same ds d v (q.more_fieldpats k p ps) xs ys h g =
      (field_moves ds p (suits_same ds p) xs ys h (slice_get (fields_of ds d v) k) g.0, fields_same ds d v ps xs ys h g.1)

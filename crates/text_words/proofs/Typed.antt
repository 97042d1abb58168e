-- The test of types is the relation, and a term's value is the value whose term it is.
use Rattle.std.proofs.Common.{◌≡◌, refl, ap, ◌∙◌, true, List, [], ◌∷◌, Option, Some, None}
use Rattle.std.specs.Option.{option_map, option_and_then}
use denote.Enum.Bare.{same_true, true_same}
use Rattle.aen_base.specs.declared.int_ty.IntTy.{IntTy}
use Rattle.aen_base.specs.contracts.int_ty.IntTy.{the_type}
use Rattle.pure_ast.specs.declared.ctor.CtorId.{CtorId}
use Rattle.pure_ast.specs.declared.def.Defs.{Defs}
use Rattle.pure_ast.specs.Terms as t
use Rattle.pure_ast.specs.Types.{PTy, integer, boolean, unit, product, named, parameter, exit}
use Rattle.pure_ast.specs.Values as v
use Rattle.pure_ast.specs.Values.{PValue, PValues, no_pvalues, more_pvalues, pvalues, pvalues_list}
use Rattle.text_meaning.specs.HasType.{HasType, HaveTypes, tuple_types, part_types}
use Rattle.text_meaning.specs.ValueTerms.{value_term, value_terms}
use Rattle.text_words.specs.Typing.{is_integer, is_boolean, has_type, have_types, closed_value, closed_values}
use Rattle.text_syntax.specs.Numerals.{and_left, and_right, and_true}

integer_sound : (ty : PTy) (b : IntTy) → is_integer ty b ≡ true → ty ≡ integer b
integer_sound (integer a) b h = ap integer (same_true the_type tt a b h)
integer_sound boolean b h = absurd cc
integer_sound unit b h = absurd cc
integer_sound (product xs) b h = absurd cc
integer_sound (named k xs) b h = absurd cc
integer_sound (parameter k) b h = absurd cc
integer_sound (exit x y) b h = absurd cc

integer_itself : (b : IntTy) → is_integer (integer b) b ≡ true
integer_itself b = true_same the_type b b refl

boolean_sound : (ty : PTy) → is_boolean ty ≡ true → ty ≡ boolean
boolean_sound (integer a) h = absurd cc
boolean_sound boolean h = refl
boolean_sound unit h = absurd cc
boolean_sound (product xs) h = absurd cc
boolean_sound (named k xs) h = absurd cc
boolean_sound (parameter k) h = absurd cc
boolean_sound (exit x y) h = absurd cc

mutual
  pub type_is : (d : Defs) (ty : PTy) (a : PValue) → has_type d ty a ≡ true → HasType d ty a
  type_is d ty (v.number n) h = integer_sound ty n.ty h
  type_is d ty (v.truth b) h = boolean_sound ty h
  type_is d ty (v.tuple parts) h = types_are d (tuple_types ty) parts h
  type_is d ty (v.built c parts) h = types_are d (part_types d ty c) parts h

  types_are : (d : Defs) (o : Option (List PTy)) (parts : PValues) → have_types d o parts ≡ true → HaveTypes d o parts
  types_are d None parts h = absurd cc
  types_are d (Some []) no_pvalues h = tt
  types_are d (Some []) (more_pvalues a rest) h = absurd cc
  types_are d (Some (ty ∷ types)) no_pvalues h = absurd cc
  types_are d (Some (ty ∷ types)) (more_pvalues a rest) h =
      (type_is d ty a (and_left (has_type d ty a) (have_types d (Some types) rest) h), types_are d (Some types) rest (and_right (has_type d ty a) (have_types d (Some types) rest) h))

mutual
  pub type_found : (d : Defs) (ty : PTy) (a : PValue) → HasType d ty a → has_type d ty a ≡ true
  type_found d ty (v.number n) h = ap (λ x. is_integer x n.ty) h ∙ integer_itself n.ty
  type_found d ty (v.truth b) h = ap is_boolean h
  type_found d ty (v.tuple parts) h = types_found d (tuple_types ty) parts h
  type_found d ty (v.built c parts) h = types_found d (part_types d ty c) parts h

  types_found : (d : Defs) (o : Option (List PTy)) (parts : PValues) → HaveTypes d o parts → have_types d o parts ≡ true
  types_found d None parts h = absurd h
  types_found d (Some []) no_pvalues h = refl
  types_found d (Some []) (more_pvalues a rest) h = absurd h
  types_found d (Some (ty ∷ types)) no_pvalues h = absurd h
  types_found d (Some (ty ∷ types)) (more_pvalues a rest) h =
      and_true (has_type d ty a) (have_types d (Some types) rest) (type_found d ty a h.0) (types_found d (Some types) rest h.1)

tuple_closed : (o : Option (List PValue)) (a : PValue) (parts : t.Terms) → ((vs : List PValue) → o ≡ Some vs → parts ≡ value_terms (pvalues vs)) →
    option_map (λ values. v.tuple (pvalues values)) o ≡ Some a → t.tuple parts ≡ value_term a
tuple_closed None a parts f h = absurd cc
tuple_closed (Some vs) a parts f h =
    let e : v.tuple (pvalues vs) ≡ a = cc in ap t.tuple (f vs refl) ∙ ap value_term e

built_closed : (o : Option (List PValue)) (a : PValue) (c : CtorId) (parts : t.Terms) → ((vs : List PValue) → o ≡ Some vs → parts ≡ value_terms (pvalues vs)) →
    option_map (λ values. v.built c (pvalues values)) o ≡ Some a → t.built c parts ≡ value_term a
built_closed None a c parts f h = absurd cc
built_closed (Some vs) a c parts f h =
    let e : v.built c (pvalues vs) ≡ a = cc in ap (t.built c) (f vs refl) ∙ ap value_term e

more_closed : (o : Option PValue) (r : Option (List PValue)) (x : t.Term) (rest : t.Terms) (vs : List PValue) →
    ((a : PValue) → o ≡ Some a → x ≡ value_term a) → ((ws : List PValue) → r ≡ Some ws → rest ≡ value_terms (pvalues ws)) →
    option_and_then (λ value. option_map (λ values. value ∷ values) r) o ≡ Some vs → t.more_terms x rest ≡ value_terms (pvalues vs)
more_closed None r x rest vs f g h = absurd cc
more_closed (Some a) None x rest vs f g h = absurd cc
more_closed (Some a) (Some ws) x rest vs f g h =
    let e : a ∷ ws ≡ vs = cc in
    (λ i. t.more_terms (f a refl i) (g ws refl i)) ∙ ap (λ l. value_terms (pvalues l)) e

mutual
  pub closed_sound : (x : t.Term) (a : PValue) → closed_value x ≡ Some a → x ≡ value_term a
  closed_sound (t.var w) a h = absurd cc
  closed_sound (t.literal n) a h = let e : v.number n ≡ a = cc in ap value_term e
  closed_sound (t.truth b) a h = let e : v.truth b ≡ a = cc in ap value_term e
  closed_sound (t.tuple parts) a h = tuple_closed (closed_values parts) a parts (closed_all parts) h
  closed_sound (t.built c parts) a h = built_closed (closed_values parts) a c parts (closed_all parts) h

  closed_all : (xs : t.Terms) (vs : List PValue) → closed_values xs ≡ Some vs → xs ≡ value_terms (pvalues vs)
  closed_all t.no_terms vs h = let e : [] ≡ vs = cc in ap (λ l. value_terms (pvalues l)) e
  closed_all (t.more_terms x rest) vs h = more_closed (closed_value x) (closed_values rest) x rest vs (closed_sound x) (closed_all rest) h

values_back : (r : PValues) → pvalues (pvalues_list r) ≡ r
values_back no_pvalues = refl
values_back (more_pvalues a rest) = ap (more_pvalues a) (values_back rest)

mutual
  pub closed_found : (a : PValue) → closed_value (value_term a) ≡ Some a
  closed_found (v.number n) = refl
  closed_found (v.truth b) = refl
  closed_found (v.tuple parts) = ap (option_map (λ values. v.tuple (pvalues values))) (all_found parts) ∙ ap (λ r. Some (v.tuple r)) (values_back parts)
  closed_found (v.built c parts) = ap (option_map (λ values. v.built c (pvalues values))) (all_found parts) ∙ ap (λ r. Some (v.built c r)) (values_back parts)

  all_found : (r : PValues) → closed_values (value_terms r) ≡ Some (pvalues_list r)
  all_found no_pvalues = refl
  all_found (more_pvalues a rest) =
      ap (option_and_then (λ value. option_map (λ values. value ∷ values) (closed_values (value_terms rest)))) (closed_found a)
      ∙ ap (option_map (λ values. a ∷ values)) (all_found rest)

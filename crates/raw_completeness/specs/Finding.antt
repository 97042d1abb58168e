-- In what definitions declare each name is found that they use.
use Rattle.std.proofs.Common.{◌≡◌, refl, ap, sym, subst, ◌∙◌, ℕ, zero, suc, ◌<◌, Bool, true, false, List, [], ◌∷◌, length, map, Option, Some, None, inl, inr, arith}
use Rattle.std.specs.Prelude.{◌==◌, ◌&&◌, slice_get}
use Rattle.std.specs.Option.{option_map, option_and_then}
use Rattle.std.proofs.lemmas.Bool.{eqb-true}
use Rattle.aen_base.specs.declared.ids.TypeId.{TypeId}
use Rattle.pure_ast.specs.declared.ctor.CtorId.TheVariants.{Of}
use Rattle.pure_ast.specs.declared.def.Def.{Def}
use Rattle.pure_ast.specs.declared.def.Defs.{Defs}
use Rattle.pure_ast.specs.declared.def.DefKind.{DefKind}
use Rattle.pure_ast.specs.declared.def.DefKind.TheVariants as K
use Rattle.pure_ast.specs.declared.def.PType.{PType}
use Rattle.text_meaning.specs.Lists.{Each, Differ}
use Rattle.text_meaning.specs.Lookups.{Variant, parts_of, type_name, variant_name, function_name, parameter_name, or_empty}
use Rattle.text_meaning.specs.WellFormed.{function_of, IsKind, AreInOrder, IsDefinition, IsWellFormed}
use Rattle.text_meaning.specs.WellFormedTypes.{parameters_of, type_names, names_of, IsDeclaration, IsStructure, AreVariants, AreTypeParameters}
use Rattle.raw_meaning.specs.declared.outline.Outline.{Outline}
use Rattle.raw_meaning.specs.declared.outline.TypeHead.{TypeHead}
use Rattle.raw_meaning.specs.declared.outline.VariantHead.{VariantHead}
use Rattle.raw_meaning.specs.Heads.{head_of_variant, head_of_type, head_of_definition, declared_by}
use Rattle.raw_meaning.specs.Lookups.{type_of, variant_of, constructor_of, same_kind, head_of_kind}
use Rattle.raw_meaning.specs.Outlines.{place_of}
use Rattle.text_syntax.specs.Among.{and_left, and_right}
use Rattle.raw_completeness.specs.Booleans.{both_true, false_if}
use Rattle.raw_completeness.specs.Lists.{same_number, each_at, each_of_map, there, place_of_item, no_place, find_item}

-- in an outline names are found as these definitions number them
pub record Finds (d : Defs) (h : Outline) : Type 0 where
  pub types : (t n : ℕ) → parameters_of d t ≡ Some n → type_of h (type_name d t) ≡ Some (t, n)
  pub constructors : (t : TypeId) (k n : ℕ) → parts_of d (Of t k) ≡ Some n → constructor_of h (type_name d t.0) (variant_name d t.0 k) ≡ Some (Of t k, n)
  pub functions : (f : ℕ) → f < length d.names → place_of h.functions (function_name d f) ≡ Some f
  pub definitions : (i : ℕ) (e : Def) → slice_get d.defs i ≡ Some e → head_of_kind h.definitions e.kind ≡ Some (i, length e.params)
  -- and each definition's function is one of them, with small numbers
  pub named : (i : ℕ) (e : Def) → slice_get d.defs i ≡ Some e → (function_of e.kind < length d.names) × IsKind e.kind

-- ---- types

typed_by : (d : Defs) (o : Option PType) (t n : ℕ) → slice_get d.types t ≡ o → Differ (type_names d) → option_map (λ (p : PType). length p.params) o ≡ Some n →
    type_of (declared_by d) (or_empty (option_map (λ (p : PType). p.name) o)) ≡ Some (t, n)
typed_by d None t n at g h = absurd cc
typed_by d (Some p) t n at g h =
    let e : length p.params ≡ n = cc in
    ap (option_map (λ (q : ℕ × TypeHead). (q.0, q.1.parameters))) (find_item (λ (x : TypeHead). x.name) head_of_type d.types t p g at) ∙ ap (λ m. Some (t, m)) e

-- ---- constructors

one_differs : (vs : List Variant) → IsStructure vs → Differ (names_of vs)
one_differs [] h = absurd h
one_differs (v ∷ []) h = (tt, tt)
one_differs (v ∷ w ∷ vs) h = absurd h

pub variants_differ : (b : Bool) (vs : List Variant) → AreVariants b vs → Differ (names_of vs)
variants_differ true vs h = one_differs vs h
variants_differ false vs h = h.0.1

variant_by : (t : TypeId) (k n : ℕ) (vs : List Variant) (o : Option Variant) → slice_get vs k ≡ o → Differ (names_of vs) → option_map (λ (v : Variant). length v.1) o ≡ Some n →
    variant_of t.0 (map head_of_variant vs) (or_empty (option_map (λ (v : Variant). v.0) o)) ≡ Some (Of t k, n)
variant_by t k n vs None at g h = absurd cc
variant_by t k n vs (Some v) at g h =
    let e : length v.1 ≡ n = cc in
    ap (option_map (λ (r : ℕ × VariantHead). (Of (record { 0 = t.0 }) r.0, r.1.fields))) (find_item (λ (x : VariantHead). x.name) head_of_variant vs k v g at)
    ∙ ap (λ m. Some (Of t k, m)) e

constructor_by : (d : Defs) (t : TypeId) (k n : ℕ) (o : Option PType) → slice_get d.types t.0 ≡ o → Differ (type_names d) → Each (IsDeclaration d) d.types →
    option_map (λ (v : Variant). length v.1) (option_and_then (λ (p : PType). slice_get p.variants k) o) ≡ Some n →
    constructor_of (declared_by d) (or_empty (option_map (λ (p : PType). p.name) o)) (or_empty (option_map (λ (v : Variant). v.0) (option_and_then (λ (p : PType). slice_get p.variants k) o))) ≡ Some (Of t k, n)
constructor_by d t k n None at g fine h = absurd cc
constructor_by d t k n (Some p) at g fine h =
    let w = each_at (IsDeclaration d) d.types t.0 p fine at in
    let b = or_empty (option_map (λ (v : Variant). v.0) (slice_get p.variants k)) in
    ap (option_and_then (λ (q : ℕ × TypeHead). variant_of q.0 q.1.variants b)) (find_item (λ (x : TypeHead). x.name) head_of_type d.types t.0 p g at)
    ∙ variant_by t k n p.variants (slice_get p.variants k) refl (variants_differ p.is_struct p.variants w.variants) h

-- ---- functions

function_by : (d : Defs) (f : ℕ) → Differ d.names → f < length d.names → place_of d.names (function_name d f) ≡ Some f
function_by d f g h =
    let x = there d.names f h in
    subst (λ (a : List ℕ). place_of d.names a ≡ Some f) (sym (ap or_empty x.1)) (place_of_item d.names x.0 f g x.1)

pub least : (k : ℕ) (ds : List Def) (count : ℕ) → AreInOrder k ds count → k < suc count
least k [] count h = omega (arith, h)
least k (x ∷ ds) count (inl h) = least k ds count h.1
least k (x ∷ ds) count (inr h) = let r = least (suc k) ds count h.1 in omega arith

in_order : (k : ℕ) (ds : List Def) (count i : ℕ) (e : Def) → AreInOrder k ds count → slice_get ds i ≡ Some e → function_of e.kind < count
in_order k [] count i e h at = absurd cc
in_order k (x ∷ ds) count zero e (inl h) at =
    let q : x ≡ e = cc in let r = least k ds count h.1 in let l = h.0 in
    subst (λ (y : Def). function_of y.kind < count) q (omega arith)
in_order k (x ∷ ds) count zero e (inr h) at =
    let q : x ≡ e = cc in let r = least (suc k) ds count h.1 in let l = h.0 in
    subst (λ (y : Def). function_of y.kind < count) q (omega arith)
in_order k (x ∷ ds) count (suc i) e (inl h) at = in_order k ds count i e h.1 at
in_order k (x ∷ ds) count (suc i) e (inr h) at = in_order (suc k) ds count i e h.1 at

-- ---- definitions

pub kind_same : (a b : DefKind) → same_kind a b ≡ true → a ≡ b
kind_same (K.Forward f) (K.Forward g) h = (λ i. K.Forward (record { 0 = eqb-true f.0 g.0 h i }))
kind_same (K.Back f r) (K.Back g s) h = (λ i. K.Back (record { 0 = eqb-true f.0 g.0 (and_left _ _ h) i }) (record { 0 = eqb-true r.0 s.0 (and_right (f.0 == g.0) _ h) i }))
kind_same (K.Loop f k) (K.Loop g l) h = (λ i. K.Loop (record { 0 = eqb-true f.0 g.0 (and_left _ _ h) i }) (record { 0 = eqb-true k.0 l.0 (and_right (f.0 == g.0) _ h) i }))
kind_same (K.LoopBack f k c) (K.LoopBack g l m) h =
    let r = and_right (f.0 == g.0) ((k.0 == l.0) && (c == m)) h in
    (λ i. K.LoopBack (record { 0 = eqb-true f.0 g.0 (and_left _ _ h) i }) (record { 0 = eqb-true k.0 l.0 (and_left _ _ r) i }) (eqb-true c m (and_right (k.0 == l.0) _ r) i))
kind_same (K.Forward f) (K.Back g s) h = absurd cc
kind_same (K.Forward f) (K.Loop g s) h = absurd cc
kind_same (K.Forward f) (K.LoopBack g s c) h = absurd cc
kind_same (K.Back f r) (K.Forward g) h = absurd cc
kind_same (K.Back f r) (K.Loop g s) h = absurd cc
kind_same (K.Back f r) (K.LoopBack g s c) h = absurd cc
kind_same (K.Loop f r) (K.Forward g) h = absurd cc
kind_same (K.Loop f r) (K.Back g s) h = absurd cc
kind_same (K.Loop f r) (K.LoopBack g s c) h = absurd cc
kind_same (K.LoopBack f r c) (K.Forward g) h = absurd cc
kind_same (K.LoopBack f r c) (K.Back g s) h = absurd cc
kind_same (K.LoopBack f r c) (K.Loop g s) h = absurd cc

pub same_itself : (a : DefKind) → same_kind a a ≡ true
same_itself (K.Forward f) = same_number f.0
same_itself (K.Back f r) = both_true _ _ (same_number f.0) (same_number r.0)
same_itself (K.Loop f k) = both_true _ _ (same_number f.0) (same_number k.0)
same_itself (K.LoopBack f k c) = both_true _ _ (same_number f.0) (both_true _ _ (same_number k.0) (same_number c))

definition_by : (xs : List Def) (k : ℕ) (x : Def) → Differ (map (λ (y : Def). y.kind) xs) → slice_get xs k ≡ Some x →
    head_of_kind (map head_of_definition xs) x.kind ≡ Some (k, length x.params)
definition_by [] k x g h = absurd cc
definition_by (y ∷ ys) zero x g h = let e : y ≡ x = cc in rw e (rw (same_itself x.kind) refl)
definition_by (y ∷ ys) (suc k) x g h =
    let apart = each_at (λ (z : Def). y.kind ≡ z.kind → ⊥) ys k x (each_of_map (λ n. y.kind ≡ n → ⊥) (λ (z : Def). z.kind) ys g.0) h in
    rw (false_if (same_kind y.kind x.kind) (λ q. apart (kind_same y.kind x.kind q))) (ap (option_map (λ (q : ℕ × ℕ). (suc q.0, q.1))) (definition_by ys k x g.1 h))

pub finds : (d : Defs) → IsWellFormed d → Finds d (declared_by d)
finds d w = record {
  types = λ t n h. typed_by d (slice_get d.types t) t n refl w.types_named.1 h;
  constructors = λ t k n h. constructor_by d t k n (slice_get d.types t.0) refl w.types_named.1 w.types h;
  functions = λ f h. function_by d f w.functions_named.1 h;
  definitions = λ i e h. definition_by d.defs i e w.kinds h;
  named = λ i e h. (in_order 0 d.defs (length d.names) i e w.order h, (each_at (IsDefinition d) d.defs i e w.definitions h).kind);
}

-- ---- type parameters

-- among these type parameters each is found in its place, and no type
pub record Places (d : Defs) (ps : List (List ℕ)) : Type 0 where
  pub parameters : (k : ℕ) → k < length ps → place_of ps (parameter_name ps k) ≡ Some k
  pub apart : (t n : ℕ) → parameters_of d t ≡ Some n → place_of ps (type_name d t) ≡ None

apart_by : (d : Defs) (ps : List (List ℕ)) (o : Option PType) (t n : ℕ) → slice_get d.types t ≡ o → Each (λ p. Each (λ other. p ≡ other → ⊥) (type_names d)) ps →
    option_map (λ (p : PType). length p.params) o ≡ Some n → place_of ps (or_empty (option_map (λ (p : PType). p.name) o)) ≡ None
apart_by d ps None t n at g h = absurd cc
apart_by d ps (Some x) t n at g h = no_place ps x.name (each ps g)
  where
    each : (ps : List (List ℕ)) → Each (λ p. Each (λ other. p ≡ other → ⊥) (type_names d)) ps → Each (λ p. p ≡ x.name → ⊥) ps
    each [] g = tt
    each (p ∷ ps) g = (each_at (λ (y : PType). p ≡ y.name → ⊥) d.types t x (each_of_map (λ other. p ≡ other → ⊥) (λ (y : PType). y.name) d.types g.0) at, each ps g.1)

pub places : (d : Defs) (ps : List (List ℕ)) → AreTypeParameters d ps → Places d ps
places d ps w = record {
  parameters = λ k h. let x = there ps k h in subst (λ (a : List ℕ). place_of ps a ≡ Some k) (sym (ap or_empty x.1)) (place_of_item ps x.0 k w.0.1 x.1);
  apart = λ t n h. apart_by d ps (slice_get d.types t) t n refl w.1 h;
}

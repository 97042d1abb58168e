-- What names stand for in a text that declares what definitions declare is there in these.
use Rattle.std.proofs.Common.{◌≡◌, refl, ap, sym, subst, ◌∙◌, ℕ, suc, Bool, true, false, List, [], ◌∷◌, length, map, Option, Some, None}
use Rattle.std.specs.Prelude.{if◌then◌else◌, slice_get}
use Rattle.std.specs.Option.{option_map, option_and_then}
use Rattle.pure_ast.specs.declared.ctor.CtorId.{CtorId}
use Rattle.pure_ast.specs.declared.ctor.CtorId.TheVariants.{Of}
use Rattle.pure_ast.specs.declared.def.Def.{Def}
use Rattle.pure_ast.specs.declared.def.DefKind.{DefKind}
use Rattle.pure_ast.specs.declared.def.Defs.{Defs}
use Rattle.pure_ast.specs.declared.def.PType.{PType}
use Rattle.text_meaning.specs.Lookups.{Variant, variant, parts_of}
use Rattle.text_meaning.specs.WellFormedTerms.{parameters_count}
use Rattle.text_meaning.specs.WellFormedTypes.{parameters_of}
use Rattle.raw_ast.specs.declared.names.DefinitionName.{DefinitionName}
use Rattle.raw_meaning.specs.declared.outline.Outline.{Outline}
use Rattle.raw_meaning.specs.declared.outline.TypeHead.{TypeHead}
use Rattle.raw_meaning.specs.declared.outline.VariantHead.{VariantHead}
use Rattle.raw_meaning.specs.Heads.{declared_by, head_of_type, head_of_variant, head_of_definition}
use Rattle.raw_meaning.specs.Lookups.{find, type_of, variant_of, constructor_of, same_kind, head_of_kind, definition_of}
use Rattle.raw_meaning.specs.Outlines.{kind_of}
use Rattle.raw_meaning.specs.LookupLemmas.{found}
use Rattle.raw_meaning.specs.OptionLemmas.{mapped_made, followed_made}

-- types
type_in : (d : Defs) (a : List ℕ) (p : ℕ × ℕ) → type_of (declared_by d) a ≡ Some p → parameters_of d p.0 ≡ Some p.1
type_in d a p h =
    let m = mapped_made (λ (q : ℕ × TypeHead). (q.0, q.1.parameters)) (find (λ (t : TypeHead). t.name) (map head_of_type d.types) a) p h in
    let r = found (λ (t : TypeHead). t.name) head_of_type d.types a m.0 m.1 in
    subst (λ (p : ℕ × ℕ). parameters_of d p.0 ≡ Some p.1) m.2
    (ap (option_map (λ (t : PType). length t.params)) r.at ∙ ap (λ (t : TypeHead). Some t.parameters) r.is)

pub type_there : (h : Outline) (d : Defs) (a : List ℕ) (p : ℕ × ℕ) → declared_by d ≡ h → type_of h a ≡ Some p → parameters_of d p.0 ≡ Some p.1
type_there h d a p same e = type_in d a p (subst (λ h. type_of h a ≡ Some p) (sym same) e)

-- constructors
variant_in : (d : Defs) (t : ℕ) (x : PType) (heads : List VariantHead) (b : List ℕ) (p : CtorId × ℕ) → slice_get d.types t ≡ Some x → map head_of_variant x.variants ≡ heads →
    variant_of t heads b ≡ Some p → parts_of d p.0 ≡ Some p.1
variant_in d t x heads b p at is h =
    let g = subst (λ heads. variant_of t heads b ≡ Some p) (sym is) h in
    let m = mapped_made (λ (q : ℕ × VariantHead). (Of (record { 0 = t }) q.0, q.1.fields)) (find (λ (v : VariantHead). v.name) (map head_of_variant x.variants) b) p g in
    let r = found (λ (v : VariantHead). v.name) head_of_variant x.variants b m.0 m.1 in
    let there : variant d t m.0.0 ≡ Some r.item = ap (option_and_then (λ (t : PType). slice_get t.variants m.0.0)) at ∙ r.at in
    subst (λ (p : CtorId × ℕ). parts_of d p.0 ≡ Some p.1) m.2
    (ap (option_map (λ (v : Variant). length v.1)) there ∙ ap (λ (v : VariantHead). Some v.fields) r.is)

constructor_in : (d : Defs) (a b : List ℕ) (p : CtorId × ℕ) → constructor_of (declared_by d) a b ≡ Some p → parts_of d p.0 ≡ Some p.1
constructor_in d a b p h =
    let m = followed_made (λ (q : ℕ × TypeHead). variant_of q.0 q.1.variants b) (find (λ (t : TypeHead). t.name) (map head_of_type d.types) a) p h in
    let r = found (λ (t : TypeHead). t.name) head_of_type d.types a m.0 m.1 in
    variant_in d m.0.0 r.item m.0.1.variants b p r.at (ap (λ (t : TypeHead). t.variants) r.is) m.2

pub constructor_there : (h : Outline) (d : Defs) (a b : List ℕ) (p : CtorId × ℕ) → declared_by d ≡ h → constructor_of h a b ≡ Some p → parts_of d p.0 ≡ Some p.1
constructor_there h d a b p same e = constructor_in d a b p (subst (λ h. constructor_of h a b ≡ Some p) (sym same) e)

-- definitions
abbrev AreParameters : List Def → ℕ × ℕ → Type 0
AreParameters xs p = option_map (λ (x : Def). length x.params) (slice_get xs p.0) ≡ Some p.1

kind_by : (b : Bool) (o : Option (ℕ × ℕ)) (x : Def) (xs : List Def) (p : ℕ × ℕ) → ((q : ℕ × ℕ) → o ≡ Some q → AreParameters xs q) →
    (if b then Some (0, length x.params) else option_map (λ (q : ℕ × ℕ). (suc q.0, q.1)) o) ≡ Some p → AreParameters (x ∷ xs) p
kind_by true o x xs p f h =
    let y : ℕ × ℕ = (0, length x.params) in let e : y ≡ p = cc in
    subst (AreParameters (x ∷ xs)) e refl
kind_by false None x xs p f h = absurd cc
kind_by false (Some q) x xs p f h =
    let y : ℕ × ℕ = (suc q.0, q.1) in let e : y ≡ p = cc in
    subst (AreParameters (x ∷ xs)) e (f q refl)

kind_in : (xs : List Def) (kind : DefKind) (p : ℕ × ℕ) → head_of_kind (map head_of_definition xs) kind ≡ Some p → AreParameters xs p
kind_in [] kind p h = absurd cc
kind_in (x ∷ xs) kind p h = kind_by (same_kind x.kind kind) (head_of_kind (map head_of_definition xs) kind) x xs p (kind_in xs kind) h

definition_in : (d : Defs) (n : DefinitionName) (p : ℕ × ℕ) → definition_of (declared_by d) n ≡ Some p → parameters_count d p.0 ≡ Some p.1
definition_in d n p h =
    let m = followed_made (head_of_kind (map head_of_definition d.defs)) (kind_of d.names n) p h in kind_in d.defs m.0 p m.2

pub definition_there : (h : Outline) (d : Defs) (n : DefinitionName) (p : ℕ × ℕ) → declared_by d ≡ h → definition_of h n ≡ Some p → parameters_count d p.0 ≡ Some p.1
definition_there h d n p same e = definition_in d n p (subst (λ h. definition_of h n ≡ Some p) (sym same) e)

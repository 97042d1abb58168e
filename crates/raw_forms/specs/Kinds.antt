-- The kinds of definitions that are each defined once differ.
use Rattle.std.proofs.Common.{◌≡◌, refl, sym, subst, ◌∙◌, ℕ, Bool, true, false, List, [], ◌∷◌, ◌++◌, length, map, append-nil, Option, Some, None, eq-eqb}
use Rattle.std.specs.Prelude.{◌==◌, ◌&&◌, ◌||◌, not}
use Rattle.aen_base.specs.declared.span.Span.{Span}
use Rattle.pure_ast.specs.declared.def.DefKind.{DefKind}
use Rattle.pure_ast.specs.declared.def.DefKind.TheVariants as K
use Rattle.text_meaning.specs.Lists.{Differ}
use Rattle.raw_ast.specs.declared.declarations.Definition.{Definition}
use Rattle.raw_meaning.specs.declared.outline.DefinitionHead.{DefinitionHead}
use Rattle.raw_meaning.specs.declared.outline.Outline.{Outline}
use Rattle.raw_meaning.specs.Faults.{definition_faults, and_kind, definitions_faults}
use Rattle.raw_meaning.specs.Lookups.{same_kind}
use Rattle.raw_meaning.specs.OptionLemmas.{none_left, none_right, unbroken}
use Rattle.raw_meaning.specs.Outlines.{kind_of, with_head, definition_heads}
use Rattle.raw_meaning.specs.Rules as rule
use Rattle.raw_forms.specs.Definitions.{unbroken_parts}
use Rattle.raw_forms.specs.Differences.{IsNew, not_is, differ_next}

same_number : (k : ℕ) → (k == k) ≡ true
same_number k = eq-eqb k k refl

both_true : (a b : Bool) → a ≡ true → b ≡ true → (a && b) ≡ true
both_true true b p q = q
both_true false b p q = absurd cc

same_itself : (a : DefKind) → same_kind a a ≡ true
same_itself (K.Forward f) = same_number f.0
same_itself (K.Back f r) = both_true (f.0 == f.0) (r.0 == r.0) (same_number f.0) (same_number r.0)
same_itself (K.Loop f k) = both_true (f.0 == f.0) (k.0 == k.0) (same_number f.0) (same_number k.0)
same_itself (K.LoopBack f k c) = both_true (f.0 == f.0) ((k.0 == k.0) && (c == c)) (same_number f.0) (both_true (k.0 == k.0) (c == c) (same_number k.0) (same_number c))

other_kind : (a b : DefKind) → same_kind a b ≡ false → a ≡ b → ⊥
other_kind a b h e = let t : same_kind a b ≡ true = subst (λ x. same_kind a x ≡ true) e (same_itself a) in let c : false ≡ true = sym h ∙ t in absurd cc

neither_left : (a b : Bool) → (a || b) ≡ false → a ≡ false
neither_left true b h = absurd cc
neither_left false b h = refl

neither_right : (a b : Bool) → (a || b) ≡ false → b ≡ false
neither_right true b h = absurd cc
neither_right false b h = h

not_among : (ks : List DefKind) (k : DefKind) → rule.is_among ks k ≡ false → IsNew k ks
not_among [] k h = tt
not_among (x ∷ ks) k h = (other_kind x k (neither_left (same_kind x k) (rule.is_among ks k) h), not_among ks k (neither_right (same_kind x k) (rule.is_among ks k) h))

abbrev pub kinds_in : List DefinitionHead → List DefKind
kinds_in heads = map (λ (x : DefinitionHead). x.kind) heads

-- one definition's kind is not among those before, if it has one
next_kind : (o : Option DefKind) (count : ℕ) (kinds : List DefKind) (place : Span) (heads : List DefinitionHead) → rule.once o kinds place ≡ [] → Differ kinds →
    (Differ (and_kind kinds o) → Differ (and_kind kinds o ++ kinds_in heads)) → Differ (kinds ++ kinds_in (with_head o count heads))
next_kind None count kinds place heads e g f = f g
next_kind (Some kind) count kinds place heads e g f =
    differ_next kinds kind (kinds_in heads) g (not_among kinds kind (not_is (rule.is_among kinds kind) (unbroken (not (rule.is_among kinds kind)) place e))) f

pub kinds_differ : (h : Outline) (types : List (List ℕ)) (kinds : List DefKind) (ds : List Definition) → Differ kinds → definitions_faults h types kinds ds ≡ [] →
    Differ (kinds ++ kinds_in (definition_heads h.functions ds))
kinds_differ h types kinds [] g e = subst Differ (sym (append-nil kinds)) g
kinds_differ h types kinds (d ∷ ds) g e =
    let kind = kind_of h.functions d.name in
    let here = definition_faults h types kinds d in
    let later = definitions_faults h types (and_kind kinds kind) ds in
    let u = unbroken_parts h types kinds d (none_left here later e) in
    let first = none_right (rule.name_numbers d.name) (rule.once kind kinds (rule.last_place d.name)) u.name in
    next_kind kind (length d.parameters) kinds (rule.last_place d.name) (definition_heads h.functions ds) first g (λ g. kinds_differ h types (and_kind kinds kind) ds g (none_right here later e))

-- What is left of a pattern that suits its type, at a constructor of the type, says whether its parts
-- meet those of a value.
use Rattle.std.proofs.Common.{◌≡◌, ℕ, zero, suc, ◌<◌, ◌≤◌, ◌⊎◌, inl, inr, refl, ap, sym, subst, ◌∙◌}
use Rattle.std.specs.Prelude.{Bool, true, false, ◌==◌, ◌&&◌, Some, None, option_map, List, [], ◌∷◌, length, slice_get}
use Rattle.std.proofs.lemmas.Bool.{cases_lt, eqb-true}
use Rattle.std.proofs.lemmas.Option.{slice_get_past}
use Rattle.core_ty.specs.Substitution.{substitute}
use Rattle.core_ty.specs.declared.decl.TypeDecl.{TypeDecl}
use Rattle.type_rules.specs.Coverage.{meet_all, meet_fields, meets}
use Rattle.type_rules.specs.Fields.{fields_of}
use Rattle.type_rules.specs.FitsPatterns.{pat_count}
use Rattle.type_rules.specs.Skeletons.{Skeletons, content, field_types, made}
use Rattle.type_rules.specs.TypeFacts.{count}
use Rattle.type_cover.specs.Rows as r
use Rattle.type_cover.specs.Rows.{Row, fields_from, if_met, is_open, left_of, open_parts}
use Rattle.type_cover.specs.Suits.{FieldsSuit, Suits}
use Rattle.type_cover.proofs.FieldsMet.{InRange, fields_met, tuple_met}
use Rattle.type_cover.proofs.Kept.{Says, meets_row, skeleton_count}
use Rattle.rust_ast.specs.SpelledPatterns as q
use Rattle.core_ty.specs.Types as t

-- the types of the parts of a constructor, of a tuple or the variant with this number
abbrev pub part_types : List TypeDecl → t.Ty → ℕ → List t.Ty
part_types ds (t.tuple xs) v = t.tys_list xs
part_types ds (t.named d args) v = field_types (t.tys_list args) (fields_of ds d.0 v)
part_types ds x v = []

open_count : (n : ℕ) → length (open_parts n) ≡ n
open_count zero = refl
open_count (suc n) = ap suc (open_count n)

open_parts_meet : (n : ℕ) (ks : Skeletons) → true ≡ meets_row (open_parts n) ks
open_parts_meet zero ks = refl
open_parts_meet (suc n) ks = open_parts_meet n _

open_says : (n : ℕ) (ks : Skeletons) → skeleton_count ks ≡ n → Says ks (Some (open_parts n)) true
open_says n ks c = (open_count n ∙ sym c, open_parts_meet n ks)

said : (ks : Skeletons) (b c : Bool) (xs : Row) → (b ≡ true → (length xs ≡ skeleton_count ks) × (c ≡ meets_row xs ks)) → Says ks (if_met b xs) (b && c)
said ks true c xs h = h refl
said ks false c xs h = refl

pub pats_counted : (ps : q.Pats) → length (q.pats_list ps) ≡ pat_count ps
pats_counted q.no_pats = refl
pats_counted (q.more_pats p ps) = ap suc (pats_counted ps)

pub types_counted : (xs : t.Tys) → count xs ≡ length (t.tys_list xs)
types_counted t.no_tys = refl
types_counted (t.more_tys x xs) = ap suc (types_counted xs)

pub fields_counted : (args : List t.Ty) (fs : List (List ℕ × t.Ty)) → length (field_types args fs) ≡ length fs
fields_counted args [] = refl
fields_counted args (f ∷ fs) = ap suc (fields_counted args fs)

from_counted : (ps : q.FieldPats) (j n : ℕ) → length (fields_from ps j n) ≡ n
from_counted ps j zero = refl
from_counted ps j (suc n) = ap suc (from_counted ps (suc j) n)

nowhere_open : (ds : List TypeDecl) (p : q.Pat) → Suits ds p None → is_open p ≡ true
nowhere_open ds q.wild h = refl
nowhere_open ds (q.bind s k m) h = refl
nowhere_open ds (q.number n) h = absurd h
nowhere_open ds (q.truth b) h = absurd h
nowhere_open ds (q.tuple ps) h = absurd h
nowhere_open ds (q.construct d v ps) h = absurd h
nowhere_open ds (q.through m p) h = absurd h

field_within : (ds : List TypeDecl) (p : q.Pat) (args : List t.Ty) (fs : List (List ℕ × t.Ty)) (k : ℕ) →
    (k < length fs) ⊎ (length fs ≤ k) → Suits ds p (option_map (λ (f : List ℕ × t.Ty). substitute args f.1) (slice_get fs k)) →
    (k < length fs) ⊎ (is_open p ≡ true)
field_within ds p args fs k (inl l) h = inl l
field_within ds p args fs k (inr g) h =
    inr (nowhere_open ds p (subst (λ o. Suits ds p (option_map (λ (f : List ℕ × t.Ty). substitute args f.1) o)) (slice_get_past fs k g) h))

fields_within : (ds : List TypeDecl) (d v : ℕ) (args : List t.Ty) (ps : q.FieldPats) → FieldsSuit ds d v args ps → InRange (length (fields_of ds d v)) ps
fields_within ds d v args q.no_fieldpats h = tt
fields_within ds d v args (q.more_fieldpats k p ps) h =
    (field_within ds p args (fields_of ds d v) k (cases_lt k (length (fields_of ds d v))) h.0, fields_within ds d v args ps h.1)

-- so many fields has the variant
pub fields_there : (ds : List TypeDecl) (args : List t.Ty) (d e v w n : ℕ) → d ≡ e → v ≡ w → n ≡ length (field_types args (fields_of ds e v)) →
    n ≡ length (fields_of ds d w)
fields_there ds args d e v w n same here l =
    l ∙ fields_counted args (fields_of ds e v) ∙ ap (λ k. length (fields_of ds k v)) (sym same) ∙ ap (λ k. length (fields_of ds d k)) here

variant_says : (ds : List TypeDecl) (args : List t.Ty) (d e v w n : ℕ) (ks : Skeletons) (ps : q.FieldPats) →
    d ≡ e → n ≡ length (field_types args (fields_of ds e v)) → skeleton_count ks ≡ n → FieldsSuit ds d w args ps → InRange (length (fields_of ds d w)) ps →
    (once : (m : ℕ) → InRange m ps → meet_fields ps ks ≡ meets_row (fields_from ps 0 m) ks) → v ≡ w →
    (length (fields_from ps 0 n) ≡ skeleton_count ks) × (meet_fields ps ks ≡ meets_row (fields_from ps 0 n) ks)
variant_says ds args d e v w n ks ps same l c h range once here = (
  from_counted ps 0 n ∙ sym c,
  once n (subst (λ m. InRange m ps) (sym (fields_there ds args d e v w n same here l)) range),
)

pub says : (ds : List TypeDecl) (p : q.Pat) (x : t.Ty) (v n : ℕ) (ks : Skeletons) → Suits ds p (Some x) → content (content x) ≡ content x →
    n ≡ length (part_types ds (content x) v) → skeleton_count ks ≡ n → Says ks (left_of (r.made v n) p) (meets p (made v ks))
says ds q.wild x v n ks h e l c = open_says n ks c
says ds (q.bind s k m) x v n ks h e l c = open_says n ks c
says ds (q.number z) x v n ks h e l c = refl
says ds (q.truth true) x v n ks h e l c = refl
says ds (q.truth false) x v n ks h e l c = refl
says ds (q.tuple ps) t.unit v n ks h e l c =
    said ks (v == 0) (meet_all ps 0 ks) (q.pats_list ps) (λ b. (pats_counted ps ∙ h.0 ∙ sym l ∙ sym c, tuple_met ps ks))
says ds (q.tuple ps) (t.tuple xs) v n ks h e l c =
    said ks (v == 0) (meet_all ps 0 ks) (q.pats_list ps)
    (λ b. (pats_counted ps ∙ h.0 ∙ types_counted xs ∙ sym l ∙ sym c, tuple_met ps ks))
says ds (q.tuple ps) x v n ks h e l c = absurd h.0
says ds (q.construct d w ps) (t.named k args) v n ks h e l c =
    said ks (v == w) (meet_fields ps ks) (fields_from ps 0 n)
    (λ b. variant_says ds (t.tys_list args) d.0 k.0 v w n ks ps h.0 l c h.2 (fields_within ds d.0 w (t.tys_list args) ps h.2)
    (λ m range. fields_met ps m ks h.1 range) (eqb-true v w b))
says ds (q.construct d w ps) x v n ks h e l c = absurd h.0
says ds (q.through m p) x v n ks h e l c =
    says ds p (content x) v n ks h (ap content e) (l ∙ ap (λ y. length (part_types ds y v)) (sym e)) c

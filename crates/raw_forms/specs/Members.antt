-- Variants and fields in which no rule is broken are well-formed.
use Rattle.std.proofs.Common.{◌≡◌, refl, ap, sym, subst, ℕ, suc, Bool, List, [], ◌∷◌, ◌++◌, map, append-nil}
use Rattle.std.specs.Prelude.{codes}
use Rattle.std.specs.List.{flat_map}
use Rattle.std.specs.Option.{option_map}
use Rattle.pure_ast.specs.declared.def.Defs.{Defs}
use Rattle.pure_ast.specs.Types.{PTy}
use Rattle.text_meaning.specs.Lists.{Each, Differ}
use Rattle.text_meaning.specs.Lookups.{Variant as NamedFields}
use Rattle.text_meaning.specs.Names.{IsName}
use Rattle.text_meaning.specs.WellFormedTypes.{names_of, AreNumbered, AreNames, AreVariants}
use Rattle.raw_ast.specs.declared.declarations.Members.{Members}
use Rattle.raw_ast.specs.declared.declarations.Members.TheVariants as M
use Rattle.raw_ast.specs.declared.declarations.Variant.{Variant}
use Rattle.raw_ast.specs.declared.spelling.Spelling.{Spelling}
use Rattle.raw_ast.specs.Types.{RawType}
use Rattle.raw_meaning.specs.declared.outline.Outline.{Outline}
use Rattle.raw_meaning.specs.Faults.{type_faults, variant_faults, variants_faults, fields_faults, members_faults}
use Rattle.raw_meaning.specs.Named.{AreNamedMembers}
use Rattle.raw_meaning.specs.OptionLemmas.{none_left, none_right}
use Rattle.raw_meaning.specs.Rules as rule
use Rattle.raw_meaning.specs.Shape.{IsShapedType, IsShapedVariant, AreShapedFields, AreShapedMembers}
use Rattle.raw_meaning.specs.Trees.{both, each, type_tree, numbered_fields, variant_tree, field_tree, members_trees, is_structure}
use Rattle.raw_forms.specs.Formed.{IsFormed, IsTypeWith, TypesAreFormed}
use Rattle.raw_forms.specs.Differences.{differ_next, new_part}
use Rattle.raw_forms.specs.Lists.{none_each, each_with, each_mapped}
use Rattle.raw_forms.specs.Options.{each_formed}

-- fields without names
numbered : (k : ℕ) (xs : List PTy) → AreNumbered k (numbered_fields k xs)
numbered k [] = tt
numbered k (x ∷ xs) = (refl, numbered (suc k) xs)

each_numbered : (P : PTy → Type 0) (k : ℕ) (xs : List PTy) → Each P xs → Each (λ f. P f.1) (numbered_fields k xs)
each_numbered P k [] h = tt
each_numbered P k (x ∷ xs) h = (h.0, each_numbered P (suc k) xs h.1)

-- the names of variants and fields
abbrev pub variant_names : List Variant → List (List ℕ)
variant_names vs = map (λ v. v.name.text) vs

abbrev pub field_names : List (Spelling × RawType) → List (List ℕ)
field_names fs = map (λ f. f.0.text) fs

abbrev pub AreTyped : List (List ℕ) → Defs → List (List ℕ × PTy) → Type 0
AreTyped ps d fs = Each (λ f. IsTypeWith ps d f.1) fs

abbrev IsMade : List (List ℕ) → Variant → Defs → NamedFields → Type 0
IsMade ps v d x = (x.0 ≡ v.name.text) × AreNumbered 0 x.1 × AreTyped ps d x.1

abbrev AreMade : List (List ℕ) → List Variant → Defs → List NamedFields → Type 0
AreMade ps vs d xs = (names_of xs ≡ variant_names vs) × Each (λ x. AreNumbered 0 x.1) xs × Each (λ x. AreTyped ps d x.1) xs

abbrev AreFields : List (List ℕ) → List (Spelling × RawType) → Defs → List (List ℕ × PTy) → Type 0
AreFields ps fs d xs = (names_of xs ≡ field_names fs) × AreTyped ps d xs

-- the variants of a structure, or of another type, with types as fields
abbrev pub HasMembers : Bool → List (List ℕ) → Defs → List NamedFields → Type 0
HasMembers b ps d vs = AreVariants b vs × Each (λ v. AreTyped ps d v.1) vs

module _ (typed : TypesAreFormed) (h : Outline) (ps : List (List ℕ)) where
  variant_formed : (ty : List ℕ) (v : Variant) → IsShapedVariant v → variant_faults h ty ps v ≡ [] → IsFormed h (IsMade ps v) (variant_tree h ps v)
  variant_formed ty v s e =
      let end = rule.variant_end ty ps v.end v.parameters ++ rule.end_names ps v.parameters in
      let none = none_each (type_faults h ps) v.fields (none_left (flat_map (type_faults h ps) v.fields) end e) in
      let formed = each_with IsShapedType (λ x. type_faults h ps x ≡ []) (λ x. IsFormed h (IsTypeWith ps) (type_tree h ps x)) (typed h ps) v.fields s none in
      let r = each_formed h (IsTypeWith ps) (type_tree h ps) v.fields formed in
      record {
        tree = (v.name.text, numbered_fields 0 r.tree);
        is = ap (option_map (λ xs. (v.name.text, numbered_fields 0 xs))) r.is;
        fits = λ d same. (refl, numbered 0 r.tree, each_numbered (IsTypeWith ps d) 0 r.tree (r.fits d same).1);
      }

  variants_formed : (ty : List ℕ) (before : List (List ℕ)) (vs : List Variant) → Each IsShapedVariant vs → variants_faults h ty ps before vs ≡ [] → IsFormed h (AreMade ps vs) (each (variant_tree h ps) vs)
  variants_formed ty before [] s e = record { tree = []; is = refl; fits = λ d same. (refl, tt, tt) }
  variants_formed ty before (v ∷ vs) s e =
      let seen = before ++ v.name.text ∷ [] in
      let here = variant_faults h ty ps v in
      let later = variants_faults h ty ps seen vs in
      let none = none_right (rule.new_member before v.name) (here ++ later) e in
      let first = variant_formed ty v s.0 (none_left here later none) in
      let rest = variants_formed ty seen vs s.1 (none_right here later none) in
      record {
        tree = first.tree ∷ rest.tree;
        is = λ i. both (λ y ys. y ∷ ys) (first.is i) (rest.is i);
        fits = λ d same. let f = first.fits d same in let r = rest.fits d same in (λ i. f.0 i ∷ r.0 i, (f.1, r.1), (f.2, r.2));
      }

  variants_differ : (ty : List ℕ) (before : List (List ℕ)) (vs : List Variant) → Differ before → variants_faults h ty ps before vs ≡ [] → Differ (before ++ variant_names vs)
  variants_differ ty before [] g e = subst Differ (sym (append-nil before)) g
  variants_differ ty before (v ∷ vs) g e =
      let seen = before ++ v.name.text ∷ [] in
      let here = variant_faults h ty ps v in
      let later = variants_faults h ty ps seen vs in
      let first = rule.new_member before v.name in
      differ_next before v.name.text (variant_names vs) g (new_part before v.name (none_left first (here ++ later) e))
      (λ g. variants_differ ty seen vs g (none_right here later (none_right first (here ++ later) e)))

  fields_formed : (before : List (List ℕ)) (fs : List (Spelling × RawType)) → AreShapedFields fs → fields_faults h ps before fs ≡ [] → IsFormed h (AreFields ps fs) (each (field_tree h ps) fs)
  fields_formed before [] s e = record { tree = []; is = refl; fits = λ d same. (refl, tt) }
  fields_formed before (f ∷ fs) s e =
      let seen = before ++ f.0.text ∷ [] in
      let here = type_faults h ps f.1 in
      let later = fields_faults h ps seen fs in
      let none = none_right (rule.new_member before f.0) (here ++ later) e in
      let first = typed h ps f.1 s.0 (none_left here later none) in
      let rest = fields_formed seen fs s.1 (none_right here later none) in
      record {
        tree = (f.0.text, first.tree) ∷ rest.tree;
        is = λ i. both (λ y ys. y ∷ ys) (option_map (λ x. (f.0.text, x)) (first.is i)) (rest.is i);
        fits = λ d same. let r = rest.fits d same in (λ i. f.0.text ∷ r.0 i, (first.fits d same, r.1));
      }

  fields_differ : (before : List (List ℕ)) (fs : List (Spelling × RawType)) → Differ before → fields_faults h ps before fs ≡ [] → Differ (before ++ field_names fs)
  fields_differ before [] g e = subst Differ (sym (append-nil before)) g
  fields_differ before (f ∷ fs) g e =
      let seen = before ++ f.0.text ∷ [] in
      let here = type_faults h ps f.1 in
      let later = fields_faults h ps seen fs in
      let first = rule.new_member before f.0 in
      differ_next before f.0.text (field_names fs) g (new_part before f.0 (none_left first (here ++ later) e))
      (λ g. fields_differ seen fs g (none_right here later (none_right first (here ++ later) e)))

  pub members_formed : (ty : List ℕ) (m : Members) → AreShapedMembers m → AreNamedMembers m → members_faults h ty ps m ≡ [] → IsFormed h (HasMembers (is_structure m) ps) (members_trees h ps m)
  members_formed ty (M.Variants variants) s n e =
      let r = variants_formed ty [] variants s e in
      let names : AreNames (variant_names variants) = (each_mapped IsName (λ (v : Variant). v.name.text) variants n, variants_differ ty [] variants tt e) in
      record {
        tree = r.tree;
        is = r.is;
        fits = λ d same. let f = r.fits d same in ((subst AreNames (sym f.0) names, f.1), f.2);
      }
  members_formed ty (M.Fields fields) s n e =
      let r = fields_formed [] fields s e in
      let names : AreNames (field_names fields) = (each_mapped IsName (λ (f : Spelling × RawType). f.0.text) fields n, fields_differ [] fields tt e) in
      record {
        tree = (codes "mk", r.tree) ∷ [];
        is = ap (option_map (λ xs. (codes "mk", xs) ∷ [])) r.is;
        fits = λ d same. let f = r.fits d same in ((refl, subst AreNames (sym f.0) names), (f.1, tt));
      }

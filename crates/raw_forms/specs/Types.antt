-- Types in which no rule is broken are well-formed.
use Rattle.std.proofs.Common.{◌≡◌, refl, ap, sym, subst, ◌∙◌, ℕ, zero, suc, ◌≤◌, List, [], length, Option, Some, None, eqb-true, arith}
use Rattle.std.specs.Prelude.{◌==◌, if◌then◌else◌, is_some}
use Rattle.std.specs.Option.{option_map}
use Rattle.pure_ast.specs.declared.def.Defs.{Defs}
use Rattle.pure_ast.specs.Types as ty
use Rattle.pure_ast.specs.Types.{PTy, PTys, ptys_list}
use Rattle.text_meaning.specs.WellFormedTypes.{AreTypes}
use Rattle.raw_ast.specs.declared.spelling.Spelling.{Spelling}
use Rattle.raw_ast.specs.Types as t
use Rattle.raw_ast.specs.Types.{RawType, RawTypes, rawtypes_list}
use Rattle.raw_meaning.specs.declared.outline.Outline.{Outline}
use Rattle.raw_meaning.specs.Faults.{type_faults, types_faults}
use Rattle.raw_meaning.specs.LookupLemmas.{placed}
use Rattle.raw_meaning.specs.Lookups.{type_of}
use Rattle.raw_meaning.specs.OptionLemmas.{none_left, none_right, unbroken}
use Rattle.raw_meaning.specs.Outlines.{place_of}
use Rattle.raw_meaning.specs.Rules.{unless, unless_parts, type_name}
use Rattle.raw_meaning.specs.Shape.{IsShapedType, AreShapedTypes}
use Rattle.raw_meaning.specs.Trees.{both, named_by, type_tree, type_trees}
use Rattle.raw_forms.specs.Formed.{IsFormed, IsTypeWith}
use Rattle.raw_forms.specs.Lists.{within}
use Rattle.raw_forms.specs.Lookups.{type_there}
use Rattle.raw_forms.specs.Options.{parts_found}

-- so many types
abbrev pub AreTypesWith : List (List ℕ) → ℕ → Defs → PTys → Type 0
AreTypesWith ps count d ts = (length (ptys_list ts) ≡ count) × AreTypes d (length ps) ts

module _ (h : Outline) (ps : List (List ℕ)) where
  named_formed : (s : Spelling) (count : ℕ) (o : Option ℕ) (args : Option PTys) → place_of ps s.text ≡ o →
      (if is_some o then unless (count == 0) s.span else unless_parts (type_of h s.text) count s.span) ≡ [] →
      IsFormed h (AreTypesWith ps count) args → IsFormed h (IsTypeWith ps) (named_by o (type_of h s.text) count args)
  named_formed s count None args at e r =
      let p = parts_found (type_of h s.text) count s.span e in
      record {
        tree = ty.named p.item r.tree;
        is = λ i. both (λ k ts. ty.named k ts) (p.given i) (r.is i);
        fits = λ d same. let f = r.fits d same in (type_there h d s.text (p.item, count) same p.found ∙ ap (λ n. Some n) (sym f.0), f.1);
      }
  named_formed s zero (Some k) args at e r = record { tree = ty.parameter k; is = refl; fits = λ d same. within ps k s.text (placed ps s.text k at) }
  named_formed s (suc n) (Some k) args at e r = let z = eqb-true (suc n) 0 (unbroken (suc n == 0) s.span e) in absurd (omega arith)

  mutual
    pub type_formed : (x : RawType) → IsShapedType x → type_faults h ps x ≡ [] → IsFormed h (IsTypeWith ps) (type_tree h ps x)
    type_formed (t.integer i) s e = record { tree = ty.integer i; is = refl; fits = λ d same. tt }
    type_formed t.boolean s e = record { tree = ty.boolean; is = refl; fits = λ d same. tt }
    type_formed t.unit s e = record { tree = ty.unit; is = refl; fits = λ d same. tt }
    type_formed (t.product parts) s e =
        let r = types_formed parts s.1 e in
        record {
          tree = ty.product r.tree;
          is = ap (option_map (λ ts. ty.product ts)) r.is;
          fits = λ d same. let f = r.fits d same in (subst (λ n. 2 ≤ n) (sym f.0) s.0, f.1);
        }
    type_formed (t.named n args) s e =
        let first = type_name h ps n (length (rawtypes_list args)) in
        named_formed n (length (rawtypes_list args)) (place_of ps n.text) (type_trees h ps args) refl (none_left first (types_faults h ps args) e)
        (types_formed args s (none_right first (types_faults h ps args) e))
    type_formed (t.exit broken returned) s e =
        let x = type_formed broken s.0 (none_left (type_faults h ps broken) (type_faults h ps returned) e) in
        let y = type_formed returned s.1 (none_right (type_faults h ps broken) (type_faults h ps returned) e) in
        record {
          tree = ty.exit x.tree y.tree;
          is = λ i. both (λ x y. ty.exit x y) (x.is i) (y.is i);
          fits = λ d same. (x.fits d same, y.fits d same);
        }

    pub types_formed : (xs : RawTypes) → AreShapedTypes xs → types_faults h ps xs ≡ [] → IsFormed h (AreTypesWith ps (length (rawtypes_list xs))) (type_trees h ps xs)
    types_formed t.no_rawtypes s e = record { tree = ty.no_ptys; is = refl; fits = λ d same. (refl, tt) }
    types_formed (t.more_rawtypes x xs) s e =
        let first = type_formed x s.0 (none_left (type_faults h ps x) (types_faults h ps xs) e) in
        let rest = types_formed xs s.1 (none_right (type_faults h ps x) (types_faults h ps xs) e) in
        record {
          tree = ty.more_ptys first.tree rest.tree;
          is = λ i. both (λ y ys. ty.more_ptys y ys) (first.is i) (rest.is i);
          fits = λ d same. let f = rest.fits d same in (ap (λ n. suc n) f.0, (first.fits d same, f.1));
        }

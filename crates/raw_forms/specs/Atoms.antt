-- Atoms in which no rule is broken are well-formed.
use Rattle.std.proofs.Common.{◌≡◌, refl, ap, sym, subst, ◌∙◌, ℕ, suc, [], length, Some, eqb-true}
use Rattle.std.specs.Prelude.{◌==◌, is_some, codes}
use Rattle.std.specs.Option.{option_map}
use Rattle.aen_base.specs.declared.span.Span.{Span}
use Rattle.pure_ast.specs.declared.ctor.CtorId.{CtorId}
use Rattle.pure_ast.specs.declared.ctor.CtorId.TheVariants.{Brk, Ret}
use Rattle.pure_ast.specs.declared.def.Defs.{Defs}
use Rattle.pure_ast.specs.Terms as term
use Rattle.pure_ast.specs.Terms.{Term, Terms, terms_list}
use Rattle.text_meaning.specs.Lookups.{parts_of}
use Rattle.text_meaning.specs.Ranges.{IsSmall}
use Rattle.text_meaning.specs.WellFormedTerms.{IsTerm, AreTerms}
use Rattle.raw_ast.specs.declared.names.Constructor.{Constructor}
use Rattle.raw_ast.specs.declared.names.Constructor.TheVariants as C
use Rattle.raw_ast.specs.declared.spelling.Spelling.{Spelling}
use Rattle.raw_ast.specs.Atoms as a
use Rattle.raw_ast.specs.Atoms.{RawAtom, RawAtoms, rawatoms_list}
use Rattle.raw_meaning.specs.declared.outline.Outline.{Outline}
use Rattle.raw_meaning.specs.Faults.{atom_faults, atoms_faults}
use Rattle.raw_meaning.specs.Lookups.{type_of, constructor_of}
use Rattle.raw_meaning.specs.Numbers.{numbered, number_of}
use Rattle.raw_meaning.specs.OptionLemmas.{none_left, none_right, unbroken}
use Rattle.raw_meaning.specs.Rules as rule
use Rattle.raw_meaning.specs.Shape.{IsShapedAtom, AreShapedAtoms}
use Rattle.raw_meaning.specs.Trees.{both, with_parts, variable_number, constructor_id, atom_tree, atom_trees}
use Rattle.raw_forms.specs.Formed.{IsFormed}
use Rattle.raw_forms.specs.Lookups.{constructor_there}
use Rattle.raw_forms.specs.Numbers.{numbered_small, number_in_range}
use Rattle.raw_forms.specs.Options.{some_is, kept_if, parts_found}

-- so many terms
abbrev pub AreTermsWith : ℕ → Defs → Terms → Type 0
AreTermsWith count d ts = (length (terms_list ts) ≡ count) × AreTerms d ts

module _ (h : Outline) where
  pub variable_formed : (s : Spelling) → rule.variable s ≡ [] → IsFormed h (λ d k. IsSmall k) (variable_number s)
  variable_formed s e =
      let v = some_is (variable_number s) (unbroken (is_some (numbered (codes "v") s.text)) s.span e) in
      record { tree = v.0; is = v.1; fits = λ d same. numbered_small (codes "v") s.text v.0 v.1 }

  -- `Exit.brk` and `Exit.ret` have one part
  exit_formed : (k : CtorId) (count : ℕ) (place : Span) → ((d : Defs) → parts_of d k ≡ Some 1) → rule.unless (count == 1) place ≡ [] →
      IsFormed h (λ d c. parts_of d c ≡ Some count) (with_parts (Some (k, 1)) count)
  exit_formed k count place f e =
      let one = eqb-true count 1 (unbroken (count == 1) place e) in
      record { tree = k; is = subst (λ n. with_parts (Some (k, 1)) n ≡ Some k) (sym one) refl; fits = λ d same. f d ∙ ap (λ n. Some n) (sym one) }

  pub constructor_formed : (k : Constructor) (count : ℕ) → rule.constructor h k count ≡ [] → IsFormed h (λ d c. parts_of d c ≡ Some count) (constructor_id h k count)
  constructor_formed (C.Of t v) count e =
      let known = kept_if (is_some (type_of h t.text)) (rule.unless_parts (constructor_of h t.text v.text) count v.span) t.span e in
      let p = parts_found (constructor_of h t.text v.text) count v.span known.1 in
      record { tree = p.item; is = p.given; fits = λ d same. constructor_there h d t.text v.text (p.item, count) same p.found }
  constructor_formed (C.Brk place) count e = exit_formed Brk count place (λ d. refl) e
  constructor_formed (C.Ret place) count e = exit_formed Ret count place (λ d. refl) e

  mutual
    pub atom_formed : (x : RawAtom) → IsShapedAtom x → atom_faults h x ≡ [] → IsFormed h IsTerm (atom_tree h x)
    atom_formed (a.var s) g e =
        let v = variable_formed s e in record { tree = term.var v.tree; is = ap (option_map (λ k. term.var k)) v.is; fits = λ d same. v.fits d same }
    atom_formed (a.literal s i) g e =
        let n = some_is (number_of s.text i) (unbroken (is_some (number_of s.text i)) s.span e) in
        record { tree = term.literal n.0; is = ap (option_map (λ n. term.literal n)) n.1; fits = λ d same. number_in_range s.text i n.0 n.1 }
    atom_formed (a.truth b) g e = record { tree = term.truth b; is = refl; fits = λ d same. tt }
    atom_formed (a.tuple parts) g e =
        let r = atoms_formed parts g.1 e in
        record {
          tree = term.tuple r.tree;
          is = ap (option_map (λ ts. term.tuple ts)) r.is;
          fits = λ d same. let f = r.fits d same in (subst (λ n. n ≡ 1 → ⊥) (sym f.0) g.0, f.1);
        }
    atom_formed (a.built k parts) g e =
        let first = rule.constructor h k (length (rawatoms_list parts)) in
        let c = constructor_formed k (length (rawatoms_list parts)) (none_left first (atoms_faults h parts) e) in
        let r = atoms_formed parts g (none_right first (atoms_faults h parts) e) in
        record {
          tree = term.built c.tree r.tree;
          is = λ i. both (λ k ts. term.built k ts) (c.is i) (r.is i);
          fits = λ d same. let f = r.fits d same in (c.fits d same ∙ ap (λ n. Some n) (sym f.0), f.1);
        }

    pub atoms_formed : (xs : RawAtoms) → AreShapedAtoms xs → atoms_faults h xs ≡ [] → IsFormed h (AreTermsWith (length (rawatoms_list xs))) (atom_trees h xs)
    atoms_formed a.no_rawatoms g e = record { tree = term.no_terms; is = refl; fits = λ d same. (refl, tt) }
    atoms_formed (a.more_rawatoms x xs) g e =
        let first = atom_formed x g.0 (none_left (atom_faults h x) (atoms_faults h xs) e) in
        let rest = atoms_formed xs g.1 (none_right (atom_faults h x) (atoms_faults h xs) e) in
        record {
          tree = term.more_terms first.tree rest.tree;
          is = λ i. both (λ y ys. term.more_terms y ys) (first.is i) (rest.is i);
          fits = λ d same. let f = rest.fits d same in (ap (λ n. suc n) f.0, (first.fits d same, f.1));
        }

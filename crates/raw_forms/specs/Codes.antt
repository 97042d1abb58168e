-- Patterns, computations and code in which no rule is broken are well-formed.
use Rattle.std.proofs.Common.{◌≡◌, refl, ap, sym, subst, ◌∙◌, ℕ, ◌≤◌, List, [], ◌∷◌, ◌++◌, length, Option, Some, None, eqb-true}
use Rattle.std.specs.Prelude.{◌==◌, if◌then◌else◌}
use Rattle.std.specs.Option.{option_map}
use Rattle.aen_base.specs.declared.span.Span.{Span}
use Rattle.pure_ast.specs.declared.comp.Comp.TheVariants as comp
use Rattle.pure_ast.specs.declared.def.Defs.{Defs}
use Rattle.pure_ast.specs.declared.pat.Pat.TheVariants as pat
use Rattle.pure_ast.specs.Code as code
use Rattle.pure_ast.specs.Code.{Arms}
use Rattle.pure_ast.specs.Terms as term
use Rattle.pure_ast.specs.Terms.{Term, Terms, terms, terms_list}
use Rattle.text_meaning.specs.Lists.{Each}
use Rattle.text_meaning.specs.Ranges.{IsSmall, IsPrimitive, arity}
use Rattle.text_meaning.specs.WellFormedCode.{IsCode, AreArms}
use Rattle.text_meaning.specs.WellFormedTerms.{AreTerms, IsPattern, IsComp, parameters_count}
use Rattle.raw_ast.specs.declared.computation.Computation.{Computation}
use Rattle.raw_ast.specs.declared.computation.Computation.TheVariants as K
use Rattle.raw_ast.specs.declared.computation.Operation.{Operation}
use Rattle.raw_ast.specs.declared.names.DefinitionName.{DefinitionName}
use Rattle.raw_ast.specs.declared.pattern.Pattern.{Pattern}
use Rattle.raw_ast.specs.declared.pattern.Pattern.TheVariants as P
use Rattle.raw_ast.specs.declared.spelling.Spelling.{Spelling}
use Rattle.raw_ast.specs.Atoms.{RawAtom, rawatoms, rawatoms_back}
use Rattle.raw_ast.specs.Code as c
use Rattle.raw_ast.specs.Code.{RawCode, RawArms}
use Rattle.raw_meaning.specs.declared.outline.Outline.{Outline}
use Rattle.raw_meaning.specs.Faults.{atom_faults, atoms_faults, variables_faults, pattern_faults, computation_faults, code_faults, arms_faults}
use Rattle.raw_meaning.specs.Lookups.{definition_of}
use Rattle.raw_meaning.specs.OptionLemmas.{none_left, none_right, unbroken}
use Rattle.raw_meaning.specs.Outlines.{is_in}
use Rattle.raw_meaning.specs.Rules as rule
use Rattle.raw_meaning.specs.Shape.{AreShapedAtoms, IsShapedPattern, IsShapedComputation, IsShapedCode, AreShapedArms}
use Rattle.raw_meaning.specs.Trees.{both, three, with_parts, variable_number, variable_numbers, pattern_tree, atoms_listed, computation_tree, code_tree, arm_trees}
use Rattle.raw_forms.specs.Formed.{IsFormed}
use Rattle.raw_forms.specs.Atoms.{variable_formed, constructor_formed, atom_formed, atoms_formed}
use Rattle.raw_forms.specs.Lists.{none_each, each_so}
use Rattle.raw_forms.specs.Lookups.{definition_there}
use Rattle.raw_forms.specs.Options.{kept_if, parts_found, each_formed}

-- so many variables, and so many terms
abbrev pub AreVariablesWith : ℕ → Defs → List ℕ → Type 0
AreVariablesWith count d vs = (length vs ≡ count) × Each IsSmall vs

abbrev pub AreListedWith : ℕ → Defs → List Term → Type 0
AreListedWith count d ts = (length ts ≡ count) × AreTerms d (terms ts)

terms_again : (ts : Terms) → terms (terms_list ts) ≡ ts
terms_again term.no_terms = refl
terms_again (term.more_terms t ts) = ap (λ xs. term.more_terms t xs) (terms_again ts)

declared_kept : (places : List Span) (o : Option (ℕ × ℕ)) (count : ℕ) (place : Span) → rule.unless_declared places o count place ≡ [] → rule.unless_parts o count place ≡ []
declared_kept [] o count place e = e
declared_kept (p ∷ ps) o count place e = absurd cc

module _ (h : Outline) where
  pub variables_formed : (ss : List Spelling) → variables_faults ss ≡ [] → IsFormed h (AreVariablesWith (length ss)) (variable_numbers ss)
  variables_formed ss e =
      each_formed h (λ d k. IsSmall k) variable_number ss
      (each_so (λ s. rule.variable s ≡ []) (λ s. IsFormed h (λ d k. IsSmall k) (variable_number s)) (λ s r. variable_formed h s r) ss (none_each rule.variable ss e))

  pub pattern_formed : (p : Pattern) → IsShapedPattern p → pattern_faults h p ≡ [] → IsFormed h IsPattern (pattern_tree h p)
  pattern_formed (P.Truth b) g e = record { tree = pat.Bool b; is = refl; fits = λ d same. tt }
  pattern_formed (P.Tuple ss) g e =
      let r = variables_formed ss e in
      record {
        tree = pat.Tuple r.tree;
        is = ap (option_map (λ vs. pat.Tuple vs)) r.is;
        fits = λ d same. let f = r.fits d same in (subst (λ n. 2 ≤ n) (sym f.0) g, f.1);
      }
  pattern_formed (P.Built k ss) g e =
      let first = rule.constructor h k (length ss) in
      let c = constructor_formed h k (length ss) (none_left first (variables_faults ss) e) in
      let r = variables_formed ss (none_right first (variables_faults ss) e) in
      record {
        tree = pat.Ctor c.tree r.tree;
        is = λ i. both (λ k vs. pat.Ctor k vs) (c.is i) (r.is i);
        fits = λ d same. let f = r.fits d same in (c.fits d same ∙ ap (λ n. Some n) (sym f.0), f.1);
      }

  listed_formed : (xs : List RawAtom) → AreShapedAtoms (rawatoms xs) → atoms_faults h (rawatoms xs) ≡ [] → IsFormed h (AreListedWith (length xs)) (atoms_listed h xs)
  listed_formed xs g e =
      let r = atoms_formed h (rawatoms xs) g e in
      record {
        tree = terms_list r.tree;
        is = ap (option_map terms_list) r.is;
        fits = λ d same. let f = r.fits d same in (f.0 ∙ ap length (rawatoms_back xs), subst (AreTerms d) (sym (terms_again r.tree)) f.1);
      }

  called_formed : (n : DefinitionName) (count : ℕ) → rule.called h n count ≡ [] → IsFormed h (λ d k. parameters_count d k ≡ Some count) (with_parts (definition_of h n) count)
  called_formed n count e =
      let place = rule.last_place n in
      let known = kept_if (is_in n.function.text h.functions) (rule.unless_declared (rule.name_numbers n) (definition_of h n) count place) n.function.span e in
      let p = parts_found (definition_of h n) count place (declared_kept (rule.name_numbers n) (definition_of h n) count place known.1) in
      record { tree = p.item; is = p.given; fits = λ d same. definition_there h d n (p.item, count) same p.found }

  operation_formed : (o : Operation) (count : ℕ) → IsPrimitive o.primitive → rule.operation o count ≡ [] →
      IsFormed h (λ d p. IsPrimitive p × (arity p ≡ count)) (with_parts (Some (o.primitive, arity o.primitive)) count)
  operation_formed o count g e =
      let t = unbroken (arity o.primitive == count) o.span e in
      record { tree = o.primitive; is = ap (λ b. if b then Some o.primitive else None) t; fits = λ d same. (g, eqb-true (arity o.primitive) count t) }

  pub computation_formed : (x : Computation) → IsShapedComputation x → computation_faults h x ≡ [] → IsFormed h IsComp (computation_tree h x)
  computation_formed (K.Ok x) g e =
      let r = atom_formed h x g e in
      record { tree = comp.Ok r.tree; is = ap (option_map (λ y. comp.Ok y)) r.is; fits = λ d same. r.fits d same }
  computation_formed K.Fail g e = record { tree = comp.Fail; is = refl; fits = λ d same. tt }
  computation_formed (K.Call n xs) g e =
      let first = rule.called h n (length xs) in
      let c = called_formed n (length xs) (none_left first (atoms_faults h (rawatoms xs)) e) in
      let r = listed_formed xs g (none_right first (atoms_faults h (rawatoms xs)) e) in
      record {
        tree = comp.Call (record { 0 = c.tree }) r.tree;
        is = λ i. both (λ d ys. comp.Call (record { 0 = d }) ys) (c.is i) (r.is i);
        fits = λ d same. let f = r.fits d same in (c.fits d same ∙ ap (λ n. Some n) (sym f.0), f.1);
      }
  computation_formed (K.Primitive o xs) g e =
      let first = rule.operation o (length xs) in
      let c = operation_formed o (length xs) g.0 (none_left first (atoms_faults h (rawatoms xs)) e) in
      let r = listed_formed xs g.1 (none_right first (atoms_faults h (rawatoms xs)) e) in
      record {
        tree = comp.Prim c.tree r.tree;
        is = λ i. both (λ p ys. comp.Prim p ys) (c.is i) (r.is i);
        fits = λ d same. let p = c.fits d same in let f = r.fits d same in (p.0, p.1 ∙ sym f.0, f.1);
      }

  mutual
    pub code_formed : (x : RawCode) → IsShapedCode x → code_faults h x ≡ [] → IsFormed h IsCode (code_tree h x)
    code_formed (c.bind s x rest) g e =
        let later = computation_faults h x ++ code_faults h rest in
        let f = none_right (rule.variable s) later e in
        let v = variable_formed h s (none_left (rule.variable s) later e) in
        let y = computation_formed x g.0 (none_left (computation_faults h x) (code_faults h rest) f) in
        let r = code_formed rest g.1 (none_right (computation_faults h x) (code_faults h rest) f) in
        record {
          tree = code.bind v.tree y.tree r.tree;
          is = λ i. three (λ k y r. code.bind k y r) (v.is i) (y.is i) (r.is i);
          fits = λ d same. (v.fits d same, y.fits d same, r.fits d same);
        }
    code_formed (c.put s x rest) g e =
        let later = atom_faults h x ++ code_faults h rest in
        let f = none_right (rule.variable s) later e in
        let v = variable_formed h s (none_left (rule.variable s) later e) in
        let y = atom_formed h x g.0 (none_left (atom_faults h x) (code_faults h rest) f) in
        let r = code_formed rest g.1 (none_right (atom_faults h x) (code_faults h rest) f) in
        record {
          tree = code.put v.tree y.tree r.tree;
          is = λ i. three (λ k y r. code.put k y r) (v.is i) (y.is i) (r.is i);
          fits = λ d same. (v.fits d same, y.fits d same, r.fits d same);
        }
    code_formed (c.select x all) g e =
        let y = atom_formed h x g.0 (none_left (atom_faults h x) (arms_faults h all) e) in
        let r = arms_formed all g.1 (none_right (atom_faults h x) (arms_faults h all) e) in
        record {
          tree = code.select y.tree r.tree;
          is = λ i. both (λ y r. code.select y r) (y.is i) (r.is i);
          fits = λ d same. (y.fits d same, r.fits d same);
        }
    code_formed (c.last x) g e =
        let r = computation_formed x g e in
        record { tree = code.last r.tree; is = ap (option_map (λ y. code.last y)) r.is; fits = λ d same. r.fits d same }

    pub arms_formed : (xs : RawArms) → AreShapedArms xs → arms_faults h xs ≡ [] → IsFormed h AreArms (arm_trees h xs)
    arms_formed c.no_rawarms g e = record { tree = code.no_arms; is = refl; fits = λ d same. tt }
    arms_formed (c.more_rawarms p x xs) g e =
        let later = code_faults h x ++ arms_faults h xs in
        let f = none_right (pattern_faults h p) later e in
        let q = pattern_formed p g.0 (none_left (pattern_faults h p) later e) in
        let y = code_formed x g.1 (none_left (code_faults h x) (arms_faults h xs) f) in
        let r = arms_formed xs g.2 (none_right (code_faults h x) (arms_faults h xs) f) in
        record {
          tree = code.more_arms q.tree y.tree r.tree;
          is = λ i. three (λ q y r. code.more_arms q y r) (q.is i) (y.is i) (r.is i);
          fits = λ d same. (q.fits d same, y.fits d same, r.fits d same);
        }

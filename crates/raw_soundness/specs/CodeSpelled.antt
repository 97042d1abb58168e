-- Patterns, computations and code as they are spelled are spelled as what they stand for.
use Rattle.std.specs.Prelude.{◌≡◌, refl, ℕ, List, [], ◌∷◌, length, map, Some, codes}
use Rattle.std.specs.List.{flat_map}
use Rattle.std.proofs.Common.{ap, sym, subst}
use Rattle.pure_ast.specs.declared.comp.Comp.{Comp}
use Rattle.pure_ast.specs.declared.comp.Comp.TheVariants as comp
use Rattle.pure_ast.specs.declared.comp.Primitive.{Primitive}
use Rattle.pure_ast.specs.declared.def.Defs.{Defs}
use Rattle.pure_ast.specs.declared.pat.Pat.{Pat}
use Rattle.pure_ast.specs.declared.pat.Pat.TheVariants as pat
use Rattle.pure_ast.specs.Code as code
use Rattle.pure_ast.specs.Code.{Code, Arms}
use Rattle.pure_ast.specs.Terms as term
use Rattle.pure_ast.specs.Terms.{Term, Terms, terms, terms_list}
use Rattle.text_meaning.specs.declared.mark.Mark.TheVariants.{Close, Comma, Gives, Semicolon}
use Rattle.text_meaning.specs.Ranges.{arity}
use Rattle.text_meaning.specs.SpelledCode.{code_tokens, arms_tokens}
use Rattle.text_meaning.specs.SpelledNames.{var_token, prim_tokens}
use Rattle.text_meaning.specs.SpelledTerms.{terms_tokens, pat_tokens, comp_tokens}
use Rattle.text_meaning.specs.Tokens.{Token, mark}
use Rattle.raw_ast.specs.declared.computation.Computation.{Computation}
use Rattle.raw_ast.specs.declared.computation.Computation.TheVariants as K
use Rattle.raw_ast.specs.declared.computation.Operation.{Operation}
use Rattle.raw_ast.specs.declared.names.DefinitionName.{DefinitionName}
use Rattle.raw_ast.specs.declared.pattern.Pattern.{Pattern}
use Rattle.raw_ast.specs.declared.pattern.Pattern.TheVariants as P
use Rattle.raw_ast.specs.declared.spelling.Spelling.{Spelling}
use Rattle.raw_ast.specs.Atoms.{RawAtom, rawatoms}
use Rattle.raw_ast.specs.Code as c
use Rattle.raw_ast.specs.Code.{RawCode, RawArms}
use Rattle.raw_meaning.specs.declared.outline.Outline.{Outline}
use Rattle.raw_meaning.specs.Heads.{declared_by}
use Rattle.raw_meaning.specs.Lookups.{definition_of}
use Rattle.raw_meaning.specs.OptionLemmas.{some_so, mapped_made, both_made, three_made, parts_made}
use Rattle.raw_meaning.specs.Trees.{with_parts, variable_number, variable_numbers, constructor_id, pattern_tree, atom_tree, atom_trees, atoms_listed, computation_tree, code_tree, arm_trees}
use Rattle.raw_meaning.specs.Wants as w
use Rattle.raw_meaning.specs.Wants.{Wants, says, marks, numbered, variables_wants, comma_variables_wants, pattern_wants, atom_wants, atoms_wants, computation_wants, code_wants, arms_wants}
use Rattle.raw_soundness.specs.AtomsSpelled.{truth_spelled, atom_spelled, atoms_spelled}
use Rattle.raw_soundness.specs.NamesSpelled.{constructor_spelled, callee_spelled}
use Rattle.raw_soundness.specs.NumbersSpelled.{variable_spelled}
use Rattle.raw_soundness.specs.Spells.{Spells, over, next, seq}

-- ---- patterns

variables_spelled : (ss : List Spelling) (vs : List ℕ) (rest : Wants) → variable_numbers ss ≡ Some vs → Spells (variables_wants ss rest) rest (map var_token vs)
variables_spelled [] vs rest e = some_so (λ vs. Spells rest rest (map var_token vs)) [] vs e over
variables_spelled (s ∷ ss) vs rest e =
    let m = both_made (λ y ys. y ∷ ys) (variable_number s) (variable_numbers ss) vs e in
    subst (λ vs. Spells (variables_wants (s ∷ ss) rest) rest (map var_token vs)) m.is
    (next (variable_spelled s m.first m.is_first) (variables_spelled ss m.second rest m.is_second))

abbrev with_commas : List ℕ → List Token
with_commas vs = flat_map (λ v. mark Comma ∷ var_token v ∷ []) vs

commas_spelled : (ss : List Spelling) (vs : List ℕ) (rest : Wants) → variable_numbers ss ≡ Some vs → Spells (comma_variables_wants ss rest) rest (with_commas vs)
commas_spelled [] vs rest e = some_so (λ vs. Spells rest rest (with_commas vs)) [] vs e over
commas_spelled (s ∷ ss) vs rest e =
    let m = both_made (λ y ys. y ∷ ys) (variable_number s) (variable_numbers ss) vs e in
    subst (λ vs. Spells (comma_variables_wants (s ∷ ss) rest) rest (with_commas vs)) m.is
    (next refl (next (variable_spelled s m.first m.is_first) (commas_spelled ss m.second rest m.is_second)))

tuple_spelled : (d : Defs) (ss : List Spelling) (vs : List ℕ) (rest : Wants) → variable_numbers ss ≡ Some vs → Spells (pattern_wants (P.Tuple ss) rest) rest (pat_tokens d (pat.Tuple vs))
tuple_spelled d [] vs rest e = some_so (λ vs. Spells (pattern_wants (P.Tuple []) rest) rest (pat_tokens d (pat.Tuple vs))) [] vs e (next refl (next refl over))
tuple_spelled d (s ∷ ss) vs rest e =
    let m = both_made (λ y ys. y ∷ ys) (variable_number s) (variable_numbers ss) vs e in
    subst (λ vs. Spells (pattern_wants (P.Tuple (s ∷ ss)) rest) rest (pat_tokens d (pat.Tuple vs))) m.is
    (next refl (next (variable_spelled s m.first m.is_first) (seq (commas_spelled ss m.second (marks Close rest) m.is_second) (next refl over))))

-- ---- primitives and atoms one after another

same_tokens : (us : List Token) (rest : Wants) → Spells (w.tokens us rest) rest us
same_tokens [] rest = over
same_tokens (u ∷ us) rest = next refl (same_tokens us rest)

terms_back : (ts : Terms) → terms (terms_list ts) ≡ ts
terms_back term.no_terms = refl
terms_back (term.more_terms t ts) = ap (λ xs. term.more_terms t xs) (terms_back ts)

module _ (h : Outline) (d : Defs) (same : declared_by d ≡ h) where
  listed_spelled : (xs : List RawAtom) (ts : List Term) (rest : Wants) → atoms_listed h xs ≡ Some ts → Spells (atoms_wants (rawatoms xs) rest) rest (terms_tokens d (terms ts))
  listed_spelled xs ts rest e =
      let m = mapped_made terms_list (atom_trees h (rawatoms xs)) ts e in
      subst (λ ts. Spells (atoms_wants (rawatoms xs) rest) rest (terms_tokens d (terms ts))) m.2
      (subst (λ (ts : Terms). Spells (atoms_wants (rawatoms xs) rest) rest (terms_tokens d ts)) (sym (terms_back m.0)) (atoms_spelled h d same (rawatoms xs) m.0 rest m.1))

  pub pattern_spelled : (p : Pattern) (t : Pat) (rest : Wants) → pattern_tree h p ≡ Some t → Spells (pattern_wants p rest) rest (pat_tokens d t)
  pattern_spelled (P.Truth b) t rest e = some_so (λ t. Spells (pattern_wants (P.Truth b) rest) rest (pat_tokens d t)) (pat.Bool b) t e (truth_spelled b rest)
  pattern_spelled (P.Tuple ss) t rest e =
      let m = mapped_made (λ vs. pat.Tuple vs) (variable_numbers ss) t e in
      subst (λ t. Spells (pattern_wants (P.Tuple ss) rest) rest (pat_tokens d t)) m.2 (tuple_spelled d ss m.0 rest m.1)
  pattern_spelled (P.Built k ss) t rest e =
      let m = both_made (λ k vs. pat.Ctor k vs) (constructor_id h k (length ss)) (variable_numbers ss) t e in
      subst (λ t. Spells (pattern_wants (P.Built k ss) rest) rest (pat_tokens d t)) m.is
      (seq (constructor_spelled h d k (length ss) m.first (variables_wants ss rest) same m.is_first) (variables_spelled ss m.second rest m.is_second))

  call_spelled : (n : DefinitionName) (xs : List RawAtom) (t : Comp) (rest : Wants) → computation_tree h (K.Call n xs) ≡ Some t → Spells (computation_wants (K.Call n xs) rest) rest (comp_tokens d t)
  call_spelled n xs t rest e =
      let m = both_made (λ k ys. comp.Call (record { 0 = k }) ys) (with_parts (definition_of h n) (length xs)) (atoms_listed h xs) t e in
      let q = parts_made (definition_of h n) (length xs) m.first m.is_first in
      subst (λ t. Spells (computation_wants (K.Call n xs) rest) rest (comp_tokens d t)) m.is
      (subst (λ (k : ℕ). Spells (computation_wants (K.Call n xs) rest) rest (comp_tokens d (comp.Call (record { 0 = k }) m.second))) q.2
      (seq (callee_spelled h d n q.0 (says (codes "n") (atoms_wants (rawatoms xs) rest)) same q.1) (next refl (listed_spelled xs m.second rest m.is_second))))

  primitive_spelled : (o : Operation) (xs : List RawAtom) (t : Comp) (rest : Wants) → computation_tree h (K.Primitive o xs) ≡ Some t →
      Spells (computation_wants (K.Primitive o xs) rest) rest (comp_tokens d t)
  primitive_spelled o xs t rest e =
      let m = both_made (λ p ys. comp.Prim p ys) (with_parts (Some (o.primitive, arity o.primitive)) (length xs)) (atoms_listed h xs) t e in
      let q = parts_made (Some (o.primitive, arity o.primitive)) (length xs) m.first m.is_first in
      let p : o.primitive ≡ m.first = some_so (λ (r : Primitive × ℕ). r.0 ≡ m.first) q.0 (o.primitive, arity o.primitive) (sym q.1) q.2 in
      subst (λ t. Spells (computation_wants (K.Primitive o xs) rest) rest (comp_tokens d t)) m.is
      (subst (λ (p : Primitive). Spells (computation_wants (K.Primitive o xs) rest) rest (comp_tokens d (comp.Prim p m.second))) p
      (seq (same_tokens (prim_tokens o.primitive) (atoms_wants (rawatoms xs) rest)) (listed_spelled xs m.second rest m.is_second)))

  pub computation_spelled : (x : Computation) (t : Comp) (rest : Wants) → computation_tree h x ≡ Some t → Spells (computation_wants x rest) rest (comp_tokens d t)
  computation_spelled (K.Ok x) t rest e =
      let m = mapped_made (λ y. comp.Ok y) (atom_tree h x) t e in
      subst (λ t. Spells (computation_wants (K.Ok x) rest) rest (comp_tokens d t)) m.2 (next refl (atom_spelled h d same x m.0 rest m.1))
  computation_spelled K.Fail t rest e = some_so (λ t. Spells (computation_wants K.Fail rest) rest (comp_tokens d t)) comp.Fail t e (next refl over)
  computation_spelled (K.Call n xs) t rest e = call_spelled n xs t rest e
  computation_spelled (K.Primitive o xs) t rest e = primitive_spelled o xs t rest e

  mutual
    pub code_spelled : (x : RawCode) (t : Code) (rest : Wants) → code_tree h x ≡ Some t → Spells (code_wants x rest) rest (code_tokens d t)
    code_spelled (c.bind v x more) t rest e =
        let m = three_made (λ k y r. code.bind k y r) (variable_number v) (computation_tree h x) (code_tree h more) t e in
        subst (λ t. Spells (code_wants (c.bind v x more) rest) rest (code_tokens d t)) m.is
        (next refl (next (variable_spelled v m.first m.is_first) (next refl (seq (computation_spelled x m.second (marks Semicolon (code_wants more rest)) m.is_second)
        (next refl (code_spelled more m.third rest m.is_third))))))
    code_spelled (c.put v x more) t rest e =
        let m = three_made (λ k y r. code.put k y r) (variable_number v) (atom_tree h x) (code_tree h more) t e in
        subst (λ t. Spells (code_wants (c.put v x more) rest) rest (code_tokens d t)) m.is
        (next refl (next (variable_spelled v m.first m.is_first) (next refl (seq (atom_spelled h d same x m.second (marks Semicolon (code_wants more rest)) m.is_second)
        (next refl (code_spelled more m.third rest m.is_third))))))
    code_spelled (c.select x all) t rest e =
        let m = both_made (λ y r. code.select y r) (atom_tree h x) (arm_trees h all) t e in
        subst (λ t. Spells (code_wants (c.select x all) rest) rest (code_tokens d t)) m.is
        (next refl (next refl (seq (atom_spelled h d same x m.first (says (codes "with") (arms_wants all (marks Close rest))) m.is_first)
        (next refl (seq (arms_spelled all m.second (marks Close rest) m.is_second) (next refl over))))))
    code_spelled (c.last x) t rest e =
        let m = mapped_made (λ y. code.last y) (computation_tree h x) t e in
        subst (λ t. Spells (code_wants (c.last x) rest) rest (code_tokens d t)) m.2 (computation_spelled x m.0 rest m.1)

    pub arms_spelled : (xs : RawArms) (ts : Arms) (rest : Wants) → arm_trees h xs ≡ Some ts → Spells (arms_wants xs rest) rest (arms_tokens d ts)
    arms_spelled c.no_rawarms ts rest e = some_so (λ ts. Spells rest rest (arms_tokens d ts)) code.no_arms ts e over
    arms_spelled (c.more_rawarms p x all) ts rest e =
        let m = three_made (λ q y r. code.more_arms q y r) (pattern_tree h p) (code_tree h x) (arm_trees h all) ts e in
        subst (λ ts. Spells (arms_wants (c.more_rawarms p x all) rest) rest (arms_tokens d ts)) m.is
        (next refl (seq (pattern_spelled p m.first (marks Gives (says (codes "do") (code_wants x (arms_wants all rest)))) m.is_first)
        (next refl (next refl (seq (code_spelled x m.second (arms_wants all rest) m.is_second) (arms_spelled all m.third rest m.is_third))))))

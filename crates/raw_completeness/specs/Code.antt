-- Code is read as it is spelled.
use Rattle.std.proofs.Common.{◌≡◌, refl, ap, sym, subst, ◌∙◌, ℕ, List, [], ◌∷◌, ◌++◌, append_assoc, Some}
use Rattle.std.specs.Prelude.{codes}
use Rattle.std.specs.Option.{option_map}
use Rattle.pure_ast.specs.declared.comp.Comp.{Comp}
use Rattle.pure_ast.specs.declared.def.Defs.{Defs}
use Rattle.pure_ast.specs.declared.pat.Pat.{Pat}
use Rattle.pure_ast.specs.Code as code
use Rattle.pure_ast.specs.Code.{Code, Arms, bind, put, select, last as end, bind_select, no_arms, more_arms}
use Rattle.pure_ast.specs.Terms.{Term}
use Rattle.text_meaning.specs.declared.mark.Mark.TheVariants as M
use Rattle.text_meaning.specs.SpelledCode.{code_tokens, arms_tokens}
use Rattle.text_meaning.specs.SpelledNames.{var_token}
use Rattle.text_meaning.specs.SpelledTerms.{term_tokens, pat_tokens, comp_tokens}
use Rattle.text_meaning.specs.Tokens.{Token, word, mark, var_text}
use Rattle.text_meaning.specs.WellFormedCode.{IsCode, AreArms}
use Rattle.text_table.specs.declared.part.Part.TheVariants as N
use Rattle.text_table.specs.declared.terminal.Terminal.TheVariants as T
use Rattle.text_table.specs.declared.lexeme.Lexeme.{Lexeme}
use Rattle.raw_ast.specs.declared.computation.Computation.{Computation}
use Rattle.raw_ast.specs.declared.pattern.Pattern.{Pattern}
use Rattle.raw_ast.specs.Atoms.{RawAtom}
use Rattle.raw_ast.specs.Code as c
use Rattle.raw_ast.specs.Code.{RawCode, rawarms}
use Rattle.raw_values.specs.declared.rests.Bound.{Bound}
use Rattle.raw_values.specs.declared.rests.Bound.TheVariants as bound
use Rattle.raw_ways.specs.Ways.{spelled as spelling_of, let_code}
use Rattle.raw_meaning.specs.declared.outline.Outline.{Outline}
use Rattle.raw_meaning.specs.Faults.{code_faults, arms_faults}
use Rattle.raw_meaning.specs.Trees.{code_tree, arm_trees, both, three}
use Rattle.raw_completeness.specs.Atoms.{IsVariableOf, variable_of, IsTermOf, atom_read}
use Rattle.raw_completeness.specs.Computations.{IsCompOf, comp_read}
use Rattle.raw_completeness.specs.Finding.{Finds}
use Rattle.raw_completeness.specs.Leaves.{Says, variables}
use Rattle.raw_completeness.specs.Patterns.{IsPatternOf, pattern_read}
use Rattle.raw_completeness.specs.Rows.{Reading, done, fixed, leaf, node, last, produce}

module _ (d : Defs) (h : Outline) where
  -- code as it is spelled stands for this code, and breaks no rule
  abbrev pub IsCodeOf : Code → RawCode → Type 0
  IsCodeOf x v = (code_tree h v ≡ Some x) × (code_faults h v ≡ [])

  abbrev AreArmsOf : Arms → List (Pattern × RawCode) → Type 0
  AreArmsOf xs vs = (arm_trees h (rawarms vs) ≡ Some xs) × (arms_faults h (rawarms vs) ≡ [])

  -- ---- trees of parts

  abbrev IsBind : Comp → Code → Bound → Type 0
  IsBind x y b = (v : Computation) × ((w : RawCode) × ((b ≡ bound.Computation v w) × (IsCompOf d h x v × IsCodeOf y w)))

  bind_of : (k : ℕ) (x : Comp) (y : Code) (l : Lexeme) (b : Bound) → IsVariableOf k (spelling_of l) → IsBind x y b → IsCodeOf (bind k x y) (let_code l b)
  bind_of k x y l b p q =
      let e = q.1.1.0 in
      let u = q.1.1.1.0 in
      let v = q.1.1.1.1 in
      subst (λ (b : Bound). IsCodeOf (bind k x y) (let_code l b)) (sym e)
      ((λ i. three (λ k y r. code.bind k y r) (p.0 i) (u.0 i) (v.0 i)), (λ i. p.1 i ++ (u.1 i ++ v.1 i)))

  abbrev IsPut : Term → Code → Bound → Type 0
  IsPut x y b = (v : RawAtom) × ((w : RawCode) × ((b ≡ bound.Atom v w) × (IsTermOf d h x v × IsCodeOf y w)))

  put_of : (k : ℕ) (x : Term) (y : Code) (l : Lexeme) (b : Bound) → IsVariableOf k (spelling_of l) → IsPut x y b → IsCodeOf (put k x y) (let_code l b)
  put_of k x y l b p q =
      let e = q.1.1.0 in
      let u = q.1.1.1.0 in
      let v = q.1.1.1.1 in
      subst (λ (b : Bound). IsCodeOf (put k x y) (let_code l b)) (sym e)
      ((λ i. three (λ k y r. code.put k y r) (p.0 i) (u.0 i) (v.0 i)), (λ i. p.1 i ++ (u.1 i ++ v.1 i)))

  select_of : (x : Term) (all : Arms) (v : RawAtom) (vs : List (Pattern × RawCode)) → IsTermOf d h x v → AreArmsOf all vs → IsCodeOf (select x all) (c.select v (rawarms vs))
  select_of x all v vs p q = ((λ i. both (λ y r. code.select y r) (p.0 i) (q.0 i)), (λ i. p.1 i ++ q.1 i))

  more_of : (x : Pat) (y : Code) (all : Arms) (v : Pattern) (w : RawCode) (vs : List (Pattern × RawCode)) → IsPatternOf d h x v → IsCodeOf y w → AreArmsOf all vs →
      AreArmsOf (more_arms x y all) ((v, w) ∷ vs)
  more_of x y all v w vs p q m = ((λ i. three (λ q y r. code.more_arms q y r) (p.0 i) (q.0 i) (m.0 i)), (λ i. p.1 i ++ (q.1 i ++ m.1 i)))

  -- ---- code by its forms

  abbrev ends_tokens : Arms → List Token
  ends_tokens all = arms_tokens d all ++ mark M.Close ∷ []

  arm_tokens : (p : Pat) (y : Code) (all : Arms) →
      mark M.Bar ∷ (pat_tokens d p ++ mark M.Gives ∷ word (codes "do") ∷ (code_tokens d y ++ ends_tokens all)) ≡ ends_tokens (more_arms p y all)
  arm_tokens p y all =
      ap (λ (ts : List Token). mark M.Bar ∷ (pat_tokens d p ++ mark M.Gives ∷ word (codes "do") ∷ ts)) (sym (append_assoc (code_tokens d y) (arms_tokens d all) (mark M.Close ∷ [])))
      ∙ ap (λ (ts : List Token). mark M.Bar ∷ ts) (sym (append_assoc (pat_tokens d p) (mark M.Gives ∷ word (codes "do") ∷ (code_tokens d y ++ arms_tokens d all)) (mark M.Close ∷ [])))

  module _ (finds : Finds d h) where
    mutual
      pub code_read : (x : Code) → IsCode d x → Reading N.Code (code_tokens d x) (IsCodeOf x)
      code_read (bind k x y) w =
          let rest = produce N.Bound 0 (fixed T.From (mark M.From) (node N.Computation (comp_tokens d x) (IsCompOf d h x) (fixed T.Semicolon (mark M.Semicolon)
          (last N.Code (code_tokens d y) (IsCodeOf y))))) (IsBind x y) refl (comp_read d h finds x w.1, code_read y w.2)
          (λ ls us vs r g. (vs, (r, (vs.1.0, (vs.1.1.1.0, (refl, g)))))) in
          produce N.Code 0 (fixed T.Let (word (codes "let")) (leaf T.Variable (var_token k) (Says (var_text k))
          (last N.Bound (mark M.From ∷ (comp_tokens d x ++ mark M.Semicolon ∷ code_tokens d y)) (IsBind x y)))) (IsCodeOf (bind k x y)) refl (variables k w.0, rest)
          (λ ls us vs r g. (vs, (r, bind_of k x y vs.1.0 vs.1.1.0 (variable_of k (spelling_of vs.1.0) w.0 g.0) g.1)))
      code_read (put k x y) w =
          let rest = produce N.Bound 1 (fixed T.Becomes (mark M.Becomes) (node N.Atom (term_tokens d x) (IsTermOf d h x) (fixed T.Semicolon (mark M.Semicolon)
          (last N.Code (code_tokens d y) (IsCodeOf y))))) (IsPut x y) refl (atom_read d h finds x w.1, code_read y w.2)
          (λ ls us vs r g. (vs, (r, (vs.1.0, (vs.1.1.1.0, (refl, g)))))) in
          produce N.Code 0 (fixed T.Let (word (codes "let")) (leaf T.Variable (var_token k) (Says (var_text k))
          (last N.Bound (mark M.Becomes ∷ (term_tokens d x ++ mark M.Semicolon ∷ code_tokens d y)) (IsPut x y)))) (IsCodeOf (put k x y)) refl (variables k w.0, rest)
          (λ ls us vs r g. (vs, (r, put_of k x y vs.1.0 vs.1.1.0 (variable_of k (spelling_of vs.1.0) w.0 g.0) g.1)))
      code_read (select x all) w =
          produce N.Code 1 (fixed T.OpenBracket (mark M.Open) (fixed T.Match (word (codes "match")) (node N.Atom (term_tokens d x) (IsTermOf d h x)
          (fixed T.With (word (codes "with")) (last N.Arms (ends_tokens all) (AreArmsOf all)))))) (IsCodeOf (select x all)) refl (atom_read d h finds x w.0, arms_read all w.1)
          (λ ls us vs r g. (vs, (r, select_of x all vs.1.1.0 vs.1.1.1.1.0 g.0 g.1)))
      code_read (end x) w =
          produce N.Code 2 (last N.Computation (comp_tokens d x) (IsCompOf d h x)) (IsCodeOf (end x)) refl (comp_read d h finds x w)
          (λ ls us vs r g. (vs, (r, (ap (option_map (λ (y : Comp). code.last y)) g.0, g.1))))
      code_read (bind_select k x all y) w = absurd w

      arms_read : (all : Arms) → AreArms d all → Reading N.Arms (ends_tokens all) (AreArmsOf all)
      arms_read no_arms w = produce N.Arms 0 (fixed T.CloseBracket (mark M.Close) done) (AreArmsOf no_arms) refl tt (λ ls us vs r g. (vs, (r, (refl, refl))))
      arms_read (more_arms p y all) w =
          subst (λ (ts : List Token). Reading N.Arms ts (AreArmsOf (more_arms p y all))) (arm_tokens p y all)
          (produce N.Arms 1 (fixed T.Bar (mark M.Bar) (node N.Pattern (pat_tokens d p) (IsPatternOf d h p) (fixed T.Gives (mark M.Gives) (fixed T.Do (word (codes "do"))
          (node N.Code (code_tokens d y) (IsCodeOf y) (last N.Arms (ends_tokens all) (AreArmsOf all))))))) (AreArmsOf (more_arms p y all)) refl
          (pattern_read d h finds p w.0, (code_read y w.1, arms_read all w.2))
          (λ ls us vs r g. (vs, (r, more_of p y all vs.1.0 vs.1.1.1.1.0 vs.1.1.1.1.1.0 g.0 g.1.0 g.1.1))))

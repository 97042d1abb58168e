-- Patterns are read as they are spelled.
use Rattle.std.proofs.Common.{◌≡◌, refl, ap, ◌∙◌, ℕ, suc, Bool, true, false, List, [], ◌∷◌, ◌++◌, length, map, Option, Some, arith}
use Rattle.std.specs.Prelude.{codes}
use Rattle.std.specs.List.{flat_map}
use Rattle.std.specs.Option.{option_map}
use Rattle.aen_base.specs.declared.span.Span.{Span}
use Rattle.pure_ast.specs.declared.ctor.CtorId.{CtorId}
use Rattle.pure_ast.specs.declared.def.Defs.{Defs}
use Rattle.pure_ast.specs.declared.pat.Pat.{Pat}
use Rattle.pure_ast.specs.declared.pat.Pat.TheVariants as P
use Rattle.text_meaning.specs.declared.mark.Mark.TheVariants as M
use Rattle.text_meaning.specs.Lists.{Each}
use Rattle.text_meaning.specs.Lookups.{parts_of}
use Rattle.text_meaning.specs.Ranges.{IsSmall}
use Rattle.text_meaning.specs.SpelledNames.{var_token, ctor_tokens}
use Rattle.text_meaning.specs.SpelledTerms.{pat_tokens}
use Rattle.text_meaning.specs.Tokens.{Token, word, mark, var_text}
use Rattle.text_meaning.specs.WellFormedTerms.{IsPattern}
use Rattle.text_table.specs.declared.part.Part.TheVariants as N
use Rattle.text_table.specs.declared.terminal.Terminal.TheVariants as T
use Rattle.raw_ast.specs.declared.names.Constructor.{Constructor}
use Rattle.raw_ast.specs.declared.pattern.Pattern.{Pattern}
use Rattle.raw_ast.specs.declared.pattern.Pattern.TheVariants as R
use Rattle.raw_ast.specs.declared.spelling.Spelling.{Spelling}
use Rattle.raw_ways.specs.Ways.{spelled as spelling_of}
use Rattle.raw_meaning.specs.declared.outline.Outline.{Outline}
use Rattle.raw_meaning.specs.Faults.{variables_faults, pattern_faults}
use Rattle.raw_meaning.specs.Rules as rule
use Rattle.raw_meaning.specs.Trees.{pattern_tree, variable_numbers, constructor_id, both}
use Rattle.raw_completeness.specs.Atoms.{IsVariableOf, variable_of, IsTruth, trues, falses}
use Rattle.raw_completeness.specs.Constructors.{IsConstructorOf, constructor_read}
use Rattle.raw_completeness.specs.Finding.{Finds}
use Rattle.raw_completeness.specs.Leaves.{Says, variables}
use Rattle.raw_completeness.specs.Rows.{Reading, done, fixed, leaf, node, last, produce}

-- variables as they are spelled have these numbers
abbrev AreVariablesOf : List ℕ → List Spelling → Type 0
AreVariablesOf vs ss = (variable_numbers ss ≡ Some vs) × ((variables_faults ss ≡ []) × (length ss ≡ length vs))

more_of : (v : ℕ) (vs : List ℕ) (s : Spelling) (ss : List Spelling) → IsVariableOf v s → AreVariablesOf vs ss → AreVariablesOf (v ∷ vs) (s ∷ ss)
more_of v vs s ss p q = ((λ i. both (λ y ys. y ∷ ys) (p.0 i) (q.0 i)), ((λ i. p.1 i ++ q.1.0 i), ap (λ (n : ℕ). suc n) q.1.1))

variables_read : (vs : List ℕ) → Each IsSmall vs → Reading N.Variables (map var_token vs) (AreVariablesOf vs)
variables_read [] w = produce N.Variables 0 done (AreVariablesOf []) refl tt (λ ls us vs r g. (vs, (r, (refl, (refl, refl)))))
variables_read (v ∷ vs) w =
    produce N.Variables 1 (leaf T.Variable (var_token v) (Says (var_text v)) (last N.Variables (map var_token vs) (AreVariablesOf vs))) (AreVariablesOf (v ∷ vs)) refl
    (variables v w.0, variables_read vs w.1) (λ ls us xs r g. (xs, (r, more_of v vs (spelling_of xs.0) xs.1.0 (variable_of v (spelling_of xs.0) w.0 g.0) g.1)))

abbrev parts_tokens : List ℕ → List Token
parts_tokens vs = flat_map (λ w. mark M.Comma ∷ var_token w ∷ []) vs ++ mark M.Close ∷ []

parts_read : (vs : List ℕ) → Each IsSmall vs → Reading N.PatternParts (parts_tokens vs) (AreVariablesOf vs)
parts_read [] w = produce N.PatternParts 0 (fixed T.CloseBracket (mark M.Close) done) (AreVariablesOf []) refl tt (λ ls us vs r g. (vs, (r, (refl, (refl, refl)))))
parts_read (v ∷ vs) w =
    produce N.PatternParts 1 (fixed T.Comma (mark M.Comma) (leaf T.Variable (var_token v) (Says (var_text v)) (last N.PatternParts (parts_tokens vs) (AreVariablesOf vs)))) (AreVariablesOf (v ∷ vs)) refl
    (variables v w.0, parts_read vs w.1) (λ ls us xs r g. (xs, (r, more_of v vs (spelling_of xs.1.0) xs.1.1.0 (variable_of v (spelling_of xs.1.0) w.0 g.0) g.1)))

module _ (d : Defs) (h : Outline) where
  -- a pattern as it is spelled stands for this one, and breaks no rule
  abbrev pub IsPatternOf : Pat → Pattern → Type 0
  IsPatternOf p v = (pattern_tree h v ≡ Some p) × (pattern_faults h v ≡ [])

  tuple_of : (vs : List ℕ) (ss : List Spelling) → AreVariablesOf vs ss → IsPatternOf (P.Tuple vs) (R.Tuple ss)
  tuple_of vs ss q = (ap (option_map (λ (vs : List ℕ). P.Tuple vs)) q.0, q.1.0)

  built_of : (c : CtorId) (vs : List ℕ) (k : Constructor) (ss : List Spelling) → parts_of d c ≡ Some (length vs) → IsConstructorOf d h c k → AreVariablesOf vs ss →
      IsPatternOf (P.Ctor c vs) (R.Built k ss)
  built_of c vs k ss w p q =
      let r = p (length vs) w in (
        (λ i. both (λ k vs. P.Ctor k vs) (constructor_id h k (q.1.1 i)) (q.0 i)) ∙ ap (λ (o : Option CtorId). both (λ k vs. P.Ctor k vs) o (Some vs)) r.0,
        (λ i. rule.constructor h k (q.1.1 i) ++ q.1.0 i) ∙ ap (λ (spans : List Span). spans ++ []) r.1,
      )

  module _ (finds : Finds d h) where
    pub pattern_read : (p : Pat) → IsPattern d p → Reading N.Pattern (pat_tokens d p) (IsPatternOf p)
    pattern_read (P.Bool true) w = produce N.Pattern 0 (leaf T.Truth (word (codes "true")) (IsTruth true) done) (IsPatternOf (P.Bool true)) refl (trues, tt)
        (λ ls us vs r g. (vs, (r, (ap (λ (b : Bool). Some (P.Bool b)) g.0, refl))))
    pattern_read (P.Bool false) w = produce N.Pattern 0 (leaf T.Truth (word (codes "false")) (IsTruth false) done) (IsPatternOf (P.Bool false)) refl (falses, tt)
        (λ ls us vs r g. (vs, (r, (ap (λ (b : Bool). Some (P.Bool b)) g.0, refl))))
    pattern_read (P.Tuple []) w = let l = w.0 in absurd (omega arith)
    pattern_read (P.Tuple (v ∷ [])) w = let l = w.0 in absurd (omega arith)
    pattern_read (P.Tuple (v ∷ u ∷ vs)) w =
        produce N.Pattern 1 (fixed T.OpenBracket (mark M.Open) (leaf T.Variable (var_token v) (Says (var_text v)) (fixed T.Comma (mark M.Comma)
        (leaf T.Variable (var_token u) (Says (var_text u)) (last N.PatternParts (parts_tokens vs) (AreVariablesOf vs)))))) (IsPatternOf (P.Tuple (v ∷ u ∷ vs))) refl
        (variables v w.1.0, (variables u w.1.1.0, parts_read vs w.1.1.1))
        (λ ls us xs r g. (
          xs,
          (
            r,
            tuple_of (v ∷ u ∷ vs) (spelling_of xs.1.0 ∷ spelling_of xs.1.1.1.0 ∷ xs.1.1.1.1.0)
                (more_of v (u ∷ vs) (spelling_of xs.1.0) (spelling_of xs.1.1.1.0 ∷ xs.1.1.1.1.0) (variable_of v (spelling_of xs.1.0) w.1.0 g.0)
                (more_of u vs (spelling_of xs.1.1.1.0) xs.1.1.1.1.0 (variable_of u (spelling_of xs.1.1.1.0) w.1.1.0 g.1.0) g.1.1)),
          ),
        ))
    pattern_read (P.Ctor c vs) w =
        produce N.Pattern 2 (node N.Constructor (ctor_tokens d c) (IsConstructorOf d h c) (last N.Variables (map var_token vs) (AreVariablesOf vs))) (IsPatternOf (P.Ctor c vs)) refl
        (constructor_read d h finds c, variables_read vs w.1) (λ ls us xs r g. (xs, (r, built_of c vs xs.0 xs.1.0 w.0 g.0 g.1)))

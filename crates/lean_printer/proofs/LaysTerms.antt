-- Terms, patterns and computations are lexed as their tokens.
use Rattle.std.proofs.Common.{refl, ℕ, Bool, true, false, List, [], ◌∷◌, ◌++◌, arith}
use Rattle.std.specs.Prelude.{codes, map}
use Rattle.std.specs.List.{flat_map}
use Rattle.aen_base.specs.Numbers.{Number}
use Rattle.pure_ast.specs.declared.comp.Comp.{Comp}
use Rattle.pure_ast.specs.declared.comp.Comp.TheVariants as C
use Rattle.pure_ast.specs.declared.def.Defs.{Defs}
use Rattle.pure_ast.specs.declared.pat.Pat.{Pat}
use Rattle.pure_ast.specs.declared.pat.Pat.TheVariants as P
use Rattle.pure_ast.specs.Terms.{Term, Terms, var, literal, truth, tuple, built, no_terms, more_terms, terms}
use Rattle.text_meaning.specs.declared.mark.Mark.TheVariants.{Unit, Comma, Hash}
use Rattle.text_meaning.specs.Tokens.{word, mark, var_text}
use Rattle.text_meaning.specs.Ranges.{IsInRange}
use Rattle.text_meaning.specs.ShownTerms.{truth_text, number_text, term_text, spaced_terms, comma_terms, spaced_variables, pat_text, comp_text}
use Rattle.text_meaning.specs.SpelledNames.{var_token}
use Rattle.text_meaning.specs.SpelledTerms.{truth_tokens, number_tokens, term_tokens, terms_tokens, comma_tokens, pat_tokens, comp_tokens}
use Rattle.text_meaning.specs.WellFormedTerms.{IsTerm, AreTerms, IsPattern, IsComp}
use Rattle.lean_printer.proofs.Lays.{Lays, seq, glue, blank, tok, free, apart, nothing}
use Rattle.lean_printer.proofs.LaysNames.{prim_lays}
use Rattle.lean_printer.proofs.LaysTypes.{Known, open_lays, close_lays, space}
use Rattle.lean_printer.proofs.LaysWords.{word_lays, var_lays, int_lays, integer_lays}

comma : Lays free apart (codes ", ") (mark Comma ∷ [])
comma = glue free apart (tok (mark Comma) ∷ blank (codes " ") ∷ []) (λ r h. refl) (λ r h. refl)

hash : Lays free apart (codes "#") (mark Hash ∷ [])
hash = glue free apart (tok (mark Hash) ∷ []) (λ r h. refl) (λ r h. refl)

truth_lays : (b : Bool) → Lays apart free (truth_text b) (truth_tokens b)
truth_lays true = word_lays (codes "true") (λ r. refl)
truth_lays false = word_lays (codes "false") (λ r. refl)

number_lays : (n : Number) → IsInRange n → Lays apart free (number_text n) (number_tokens n)
number_lays n h = seq (integer_lays n h) (seq hash (int_lays n.ty))

comma_rest : (vs : List ℕ) → Lays free free (flat_map (λ w. codes ", " ++ var_text w) vs) (flat_map (λ w. mark Comma ∷ var_token w ∷ []) vs)
comma_rest [] = nothing
comma_rest (v ∷ vs) = seq (seq comma (var_lays v)) (comma_rest vs)

spaced_vars : (vs : List ℕ) → Lays free free (spaced_variables vs) (map var_token vs)
spaced_vars [] = nothing
spaced_vars (v ∷ vs) = seq (seq space (var_lays v)) (spaced_vars vs)

module _ (defs : Defs) (known : Known defs) where
  mutual
    pub term_lays : (t : Term) → IsTerm defs t → Lays apart free (term_text defs t) (term_tokens defs t)
    term_lays (var v) h = var_lays v
    term_lays (literal n) h = number_lays n h
    term_lays (truth b) h = truth_lays b
    term_lays (tuple no_terms) h = glue apart free (tok (mark Unit) ∷ []) (λ r h. refl) (λ r h. refl)
    term_lays (tuple (more_terms t rest)) h = seq open_lays (seq (term_lays t h.1.0) (seq (comma_lays rest h.1.1) close_lays))
    term_lays (built c no_terms) h = known.ctor_known c _ h.0
    term_lays (built c (more_terms t rest)) h =
        seq open_lays (seq (known.ctor_known c _ h.0) (seq space (seq (term_lays t h.1.0) (seq (spaced_lays rest h.1.1) close_lays))))

    pub spaced_lays : (ts : Terms) → AreTerms defs ts → Lays free free (spaced_terms defs ts) (terms_tokens defs ts)
    spaced_lays no_terms h = nothing
    spaced_lays (more_terms t rest) h = seq space (seq (term_lays t h.0) (spaced_lays rest h.1))

    comma_lays : (ts : Terms) → AreTerms defs ts → Lays free free (comma_terms defs ts) (comma_tokens defs ts)
    comma_lays no_terms h = nothing
    comma_lays (more_terms t rest) h = seq comma (seq (term_lays t h.0) (comma_lays rest h.1))

  -- a tuple pattern has a first variable
  pub pat_lays : (p : Pat) → IsPattern defs p → Lays apart free (pat_text defs p) (pat_tokens defs p)
  pat_lays (P.Bool b) h = truth_lays b
  pat_lays (P.Tuple []) h = absurd (omega (arith, h.0))
  pat_lays (P.Tuple (v ∷ vs)) h = seq open_lays (seq (seq (var_lays v) (comma_rest vs)) close_lays)
  pat_lays (P.Ctor c vs) h = seq (known.ctor_known c _ h.0) (spaced_vars vs)

  ok : Lays apart apart (codes "ok ") (word (codes "ok") ∷ [])
  ok = glue apart apart (tok (word (codes "ok")) ∷ blank (codes " ") ∷ []) (λ r h. refl) (λ r h. refl)

  fuel : Lays free free (codes " n") (word (codes "n") ∷ [])
  fuel = glue free free (blank (codes " ") ∷ tok (word (codes "n")) ∷ []) (λ r h. h) (λ r h. refl)

  pub comp_lays : (c : Comp) → IsComp defs c → Lays apart free (comp_text defs c) (comp_tokens defs c)
  comp_lays (C.Ok t) h = seq ok (term_lays t h)
  comp_lays C.Fail h = word_lays (codes "fail") (λ r. refl)
  comp_lays (C.Call d parts) h = seq (known.callee_known d.0 _ h.0) (seq fuel (spaced_lays (terms parts) h.1))
  comp_lays (C.Prim p parts) h = seq (prim_lays p) (spaced_lays (terms parts) h.2)

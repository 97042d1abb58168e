-- The tokens of code (TEXT.md, "Grammar"): `code`, `arm`.
use Rattle.std.specs.Prelude.{List, [], ◌∷◌, ◌++◌, codes}
use Rattle.pure_ast.specs.declared.def.Defs.{Defs}
use Rattle.pure_ast.specs.Code.{Code, Arms, bind, put, select, last, bind_select, no_arms, more_arms}
use Rattle.text_meaning.specs.declared.mark.Mark.TheVariants.{Open, Close, Semicolon, Bar, Becomes, From, Gives}
use Rattle.text_meaning.specs.SpelledNames.{var_token}
use Rattle.text_meaning.specs.SpelledTerms.{term_tokens, pat_tokens, comp_tokens}
use Rattle.text_meaning.specs.Tokens.{Token, word, mark}

abbrev mutual
  pub code_tokens : Defs → Code → List Token
  code_tokens defs (bind v c rest) =
      word (codes "let") ∷ var_token v ∷ mark From ∷ (comp_tokens defs c ++ mark Semicolon ∷ code_tokens defs rest)
  code_tokens defs (put v t rest) =
      word (codes "let") ∷ var_token v ∷ mark Becomes ∷ (term_tokens defs t ++ mark Semicolon ∷ code_tokens defs rest)
  code_tokens defs (select t arms) =
      mark Open ∷ word (codes "match") ∷ (term_tokens defs t ++ word (codes "with") ∷ (arms_tokens defs arms ++ mark Close ∷ []))
  code_tokens defs (last c) = comp_tokens defs c
  code_tokens defs (bind_select v t arms rest) =
      word (codes "let") ∷ var_token v ∷ mark From ∷ mark Open ∷ word (codes "match")
      ∷ (term_tokens defs t ++ word (codes "with") ∷ (arms_tokens defs arms ++ mark Close ∷ mark Semicolon ∷ code_tokens defs rest))

  pub arms_tokens : Defs → Arms → List Token
  arms_tokens defs no_arms = []
  arms_tokens defs (more_arms p c rest) =
      mark Bar ∷ (pat_tokens defs p ++ mark Gives ∷ word (codes "do") ∷ (code_tokens defs c ++ arms_tokens defs rest))

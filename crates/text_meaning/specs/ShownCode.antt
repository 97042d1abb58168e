-- How code is laid out (TEXT.md, "Layout"). Each line begins with its line feed and its indentation.
use Rattle.std.specs.Prelude.{ℕ, zero, suc, ◌+◌, List, [], ◌∷◌, ◌++◌, codes}
use Rattle.pure_ast.specs.declared.def.Defs.{Defs}
use Rattle.pure_ast.specs.Code.{Code, Arms, bind, put, select, last, bind_select, no_arms, more_arms}
use Rattle.text_meaning.specs.ShownTerms.{term_text, pat_text, comp_text}
use Rattle.text_meaning.specs.Tokens.{var_text}

abbrev pub spaces : ℕ → List ℕ
spaces zero = []
spaces (suc k) = 32 ∷ spaces k

-- a new line, indented by k
abbrev pub new_line : ℕ → List ℕ
new_line k = 10 ∷ spaces k

-- ` ← `
abbrev pub from : List ℕ
from = 32 ∷ 226 ∷ 134 ∷ 144 ∷ 32 ∷ []

-- `let v`, and `(match t with`
abbrev pub let_text : ℕ → List ℕ
let_text v = codes "let " ++ var_text v

abbrev mutual
  -- each `let` has a line; a match has its arms on lines of its own indentation, their code 2 more,
  -- and `)` after the last token
  pub code_text : Defs → ℕ → Code → List ℕ
  code_text defs k (bind v c rest) =
      new_line k ++ (let_text v ++ (from ++ (comp_text defs c ++ (codes ";" ++ code_text defs k rest))))
  code_text defs k (put v t rest) =
      new_line k ++ (let_text v ++ (codes " := " ++ (term_text defs t ++ (codes ";" ++ code_text defs k rest))))
  code_text defs k (select t arms) =
      new_line k ++ (codes "(match " ++ (term_text defs t ++ (codes " with" ++ (arms_text defs k arms ++ codes ")"))))
  code_text defs k (last c) = new_line k ++ comp_text defs c
  code_text defs k (bind_select v t arms rest) =
      new_line k ++ (let_text v ++ (from ++ (codes "(match " ++ (term_text defs t ++ (codes " with"
      ++ (arms_text defs k arms ++ (codes ");" ++ code_text defs k rest)))))))

  pub arms_text : Defs → ℕ → Arms → List ℕ
  arms_text defs k no_arms = []
  arms_text defs k (more_arms p c rest) =
      new_line k ++ (codes "| " ++ (pat_text defs p ++ (codes " => do" ++ (code_text defs (k + 2) c ++ arms_text defs k rest))))

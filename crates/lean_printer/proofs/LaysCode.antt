-- Code is lexed as its tokens.
use Rattle.std.proofs.Common.{◌≡◌, refl, ℕ, zero, suc, ◌+◌, true, [], ◌∷◌}
use Rattle.std.specs.Prelude.{codes}
use Rattle.pure_ast.specs.declared.def.Defs.{Defs}
use Rattle.pure_ast.specs.Code.{Code, Arms, bind, put, select, last, bind_select, no_arms, more_arms}
use Rattle.text_meaning.specs.declared.mark.Mark.TheVariants.{Open, Semicolon, Bar, Becomes, From, Gives}
use Rattle.text_meaning.specs.Lexing.{is_gap}
use Rattle.text_meaning.specs.Tokens.{word, mark}
use Rattle.text_meaning.specs.ShownCode.{code_text, arms_text, let_text, from, new_line, spaces}
use Rattle.text_meaning.specs.SpelledCode.{code_tokens, arms_tokens}
use Rattle.text_meaning.specs.SpelledNames.{var_token}
use Rattle.text_meaning.specs.WellFormedCode.{IsCode, AreArms}
use Rattle.lean_printer.proofs.Lays.{Lays, seq, glue, blank, tok, free, apart, nothing, gap_run}
use Rattle.lean_printer.proofs.LaysTerms.{term_lays, pat_lays, comp_lays}
use Rattle.lean_printer.proofs.LaysTypes.{Known, close_lays}
use Rattle.lean_printer.proofs.LaysWords.{var_lays}

spaces_gap : (k : ℕ) → is_gap (spaces k) ≡ true
spaces_gap zero = refl
spaces_gap (suc k) = spaces_gap k

-- a new line
pub line : (k : ℕ) → Lays free apart (new_line k) []
line k = record { run = λ rest ts h l. gap_run (new_line k) (spaces_gap k) ts rest l; start = λ rest h. refl }

let_lays : (v : ℕ) → Lays apart free (let_text v) (word (codes "let") ∷ var_token v ∷ [])
let_lays v = seq first (var_lays v)
  where
    first : Lays apart apart (codes "let ") (word (codes "let") ∷ [])
    first = glue apart apart (tok (word (codes "let")) ∷ blank (codes " ") ∷ []) (λ r h. refl) (λ r h. refl)

from_lays : Lays free apart from (mark From ∷ [])
from_lays = glue free apart (blank (codes " ") ∷ tok (mark From) ∷ blank (codes " ") ∷ []) (λ r h. refl) (λ r h. refl)

becomes : Lays free apart (codes " := ") (mark Becomes ∷ [])
becomes = glue free apart (blank (codes " ") ∷ tok (mark Becomes) ∷ blank (codes " ") ∷ []) (λ r h. refl) (λ r h. refl)

semicolon : Lays free free (codes ";") (mark Semicolon ∷ [])
semicolon = glue free free (tok (mark Semicolon) ∷ []) (λ r h. refl) (λ r h. refl)

matching : Lays apart apart (codes "(match ") (mark Open ∷ word (codes "match") ∷ [])
matching = glue apart apart (tok (mark Open) ∷ tok (word (codes "match")) ∷ blank (codes " ") ∷ []) (λ r h. refl) (λ r h. refl)

with_lays : Lays free free (codes " with") (word (codes "with") ∷ [])
with_lays = glue free free (blank (codes " ") ∷ tok (word (codes "with")) ∷ []) (λ r h. h) (λ r h. refl)

pub bar : Lays apart apart (codes "| ") (mark Bar ∷ [])
bar = glue apart apart (tok (mark Bar) ∷ blank (codes " ") ∷ []) (λ r h. refl) (λ r h. refl)

gives_do : Lays free free (codes " => do") (mark Gives ∷ word (codes "do") ∷ [])
gives_do = glue free free (blank (codes " ") ∷ tok (mark Gives) ∷ blank (codes " ") ∷ tok (word (codes "do")) ∷ []) (λ r h. h) (λ r h. refl)

module _ (defs : Defs) (known : Known defs) where
  mutual
    pub code_lays : (c : Code) (k : ℕ) → IsCode defs c → Lays free free (code_text defs k c) (code_tokens defs c)
    code_lays (bind v c rest) k h =
        seq (line k) (seq (let_lays v) (seq from_lays (seq (comp_lays defs known c h.1) (seq semicolon (code_lays rest k h.2)))))
    code_lays (put v t rest) k h =
        seq (line k) (seq (let_lays v) (seq becomes (seq (term_lays defs known t h.1) (seq semicolon (code_lays rest k h.2)))))
    code_lays (select t arms) k h =
        seq (line k) (seq matching (seq (term_lays defs known t h.0) (seq with_lays (seq (arms_lays arms k h.1) close_lays))))
    code_lays (last c) k h = seq (line k) (comp_lays defs known c h)
    code_lays (bind_select v t arms rest) k h = absurd h

    arms_lays : (arms : Arms) (k : ℕ) → AreArms defs arms → Lays free free (arms_text defs k arms) (arms_tokens defs arms)
    arms_lays no_arms k h = nothing
    arms_lays (more_arms p c rest) k h =
        seq (line k) (seq bar (seq (pat_lays defs known p h.0) (seq gives_do (seq (code_lays c (k + 2) h.1) (arms_lays rest k h.2)))))

-- The tokens of a printed text (TEXT.md, "Tokens").
use Rattle.std.specs.Prelude.{ℕ, ℤ, List, [], ◌∷◌, ◌++◌, codes}
use Rattle.std.specs.Fmt.{decimal}
use Rattle.text_meaning.specs.declared.mark.Mark.{Mark}
use Rattle.text_meaning.specs.declared.mark.Mark.TheVariants as M

-- a word: ASCII letters, digits and `_` that stand for themselves, as `let`, `U32` or `v0`;
-- a name; a number; punctuation
pub data Token : Type 0 where
  word : List ℕ → Token
  id : List ℕ → Token
  number : ℤ → Token
  mark : Mark → Token

abbrev pub mark_text : Mark → List ℕ
mark_text M.Open = codes "("
mark_text M.Close = codes ")"
mark_text M.Unit = codes "()"
mark_text M.OpenBrace = codes "{"
mark_text M.CloseBrace = codes "}"
mark_text M.Colon = codes ":"
mark_text M.Becomes = codes ":="
mark_text M.Comma = codes ","
mark_text M.Semicolon = codes ";"
mark_text M.Dot = codes "."
mark_text M.Hash = codes "#"
mark_text M.Bar = codes "|"
mark_text M.Gives = codes "=>"
mark_text M.Plus = codes "+"
mark_text M.To = 226 ∷ 134 ∷ 146 ∷ []
mark_text M.From = 226 ∷ 134 ∷ 144 ∷ []
mark_text M.Times = 195 ∷ 151 ∷ []

-- a variable, a loop and a backward function are words with their number
abbrev pub var_text : ℕ → List ℕ
var_text k = codes "v" ++ decimal k

abbrev pub loop_text : ℕ → List ℕ
loop_text k = codes "loop" ++ decimal k

abbrev pub back_text : ℕ → List ℕ
back_text k = codes "back" ++ decimal k

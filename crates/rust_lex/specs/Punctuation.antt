-- Punctuation (LANGUAGE.md, "Tokens"). `_` alone is a token of its own and no identifier.
use Rattle.std.specs.Prelude.{ℕ, Bool, false, ◌==◌, List, [], ◌∷◌, bytes_eq, codes}
use Rattle.std.specs.List.{list_any}

abbrev pub single_marks : List ℕ
single_marks = codes "+-*/%&|^!=<>(){}[],;:.#_"

abbrev pub double_marks : List (List ℕ)
double_marks =
    codes "::" ∷ codes "->" ∷ codes "=>" ∷ codes "==" ∷ codes "!=" ∷ codes "<=" ∷ codes ">=" ∷ codes "&&" ∷ codes "||" ∷ codes "<<" ∷ codes ">>"
    ∷ codes "+=" ∷ codes "-=" ∷ codes "*=" ∷ codes "/=" ∷ codes "%=" ∷ codes "&=" ∷ codes "|=" ∷ codes "^=" ∷ []

abbrev pub triple_marks : List (List ℕ)
triple_marks = codes "<<=" ∷ codes ">>=" ∷ []

unfoldable pub is_single : ℕ → Bool
is_single c = list_any (λ d. c == d) single_marks

unfoldable pub is_double : List ℕ → Bool
is_double w = list_any (bytes_eq w) double_marks

unfoldable pub is_triple : List ℕ → Bool
is_triple w = list_any (bytes_eq w) triple_marks

-- a mark: by the number of its bytes
abbrev pub is_mark : List ℕ → Bool
is_mark [] = false
is_mark (a ∷ []) = is_single a
is_mark (a ∷ b ∷ []) = is_double (a ∷ b ∷ [])
is_mark (a ∷ b ∷ c ∷ []) = is_triple (a ∷ b ∷ c ∷ [])
is_mark (a ∷ b ∷ c ∷ d ∷ w) = false

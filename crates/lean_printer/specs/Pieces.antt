-- What is still to be printed of a value (TEXT.md, "Layout").
use Rattle.std.specs.Prelude.{ℕ, ◌+◌, List, [], ◌∷◌, ◌++◌, codes}
use Rattle.pure_ast.specs.declared.def.Defs.{Defs}
use Rattle.pure_ast.specs.Values.{pvalues, nodes_pvalue, nodes_pvalues}
use Rattle.text_meaning.specs.ShownTerms.{term_text, spaced_terms, comma_terms}
use Rattle.text_meaning.specs.ValueTerms.{value_term, value_terms}
use Rattle.lean_printer.specs.declared.values.Piece.{Piece}
use Rattle.lean_printer.specs.declared.values.Piece.TheVariants as P

abbrev pub piece_text : Defs → Piece → List ℕ
piece_text defs (P.Value v) = term_text defs (value_term v.now)
piece_text defs (P.Commas vs) = comma_terms defs (value_terms (pvalues vs.now)) ++ codes ")"
piece_text defs (P.Spaced vs) = spaced_terms defs (value_terms (pvalues vs.now)) ++ codes ")"

-- the pieces of a stack, from the newest, which is the last
abbrev pub pieces_text : Defs → List Piece → List ℕ
pieces_text defs [] = []
pieces_text defs (p ∷ newer) = pieces_text defs newer ++ piece_text defs p

-- how many turns a piece takes at most
abbrev pub piece_cost : Piece → ℕ
piece_cost (P.Value v) = nodes_pvalue v.now
piece_cost (P.Commas vs) = nodes_pvalues (pvalues vs.now)
piece_cost (P.Spaced vs) = nodes_pvalues (pvalues vs.now)

abbrev pub pieces_cost : List Piece → ℕ
pieces_cost [] = 0
pieces_cost (p ∷ newer) = piece_cost p + pieces_cost newer

-- Lexemes are read as one part at most, so they are one term and one type at most.
use Rattle.std.proofs.Common.{◌≡◌, ap, sym, ◌∙◌, subst, List, []}
use Rattle.std.proofs.lemmas.Option.{same_Some}
use Rattle.pure_ast.specs.Terms.{Term}
use Rattle.pure_ast.specs.Types.{PTy}
use Rattle.table_reader.specs.Conditions.{Fits}
use Rattle.table_reader.specs.Reading.{plain}
use Rattle.table_reader.specs.declared.symbol.Symbol.{Symbol}
use Rattle.table_reader.proofs.Unique.{unique}
use Rattle.text_table.specs.declared.lexeme.Lexeme.{Lexeme}
use Rattle.text_table.specs.declared.part.Part.{Part}
use Rattle.text_table.specs.declared.terminal.Terminal.{Terminal}
use Rattle.text_table.specs.Fit.{fits}
use Rattle.text_table.specs.Lexemes.{takes, weight}
use Rattle.text_table.specs.Productions.{productions, rank}
use Rattle.raw_values.specs.Carriers.{carrier}
use Rattle.raw_ways.specs.Made.{same_productions}
use Rattle.raw_ways.specs.Makes.{made}
use Rattle.raw_ways.specs.Reading.{Reads, IsRead}
use Rattle.raw_meaning.specs.declared.outline.Outline.{Outline}
use Rattle.raw_meaning.specs.Trees.{type_tree, atom_tree}
use Rattle.text_words.specs.WordReading.{IsTermRead, IsTypeRead}

these : productions ≡ (λ (n : Part). plain carrier n (made n))
these = λ i n. sym (same_productions n) i

made_fits : Fits takes (λ (n : Part). plain carrier n (made n)) rank weight
made_fits = subst (λ (ps : Part → List (List (Symbol Terminal Part))). Fits takes ps rank weight) these fits

pub read_once : (n : Part) (ls : List Lexeme) (it : carrier n) → Reads n ls [] it → IsRead n ls it
read_once n ls it r = record { reads = r; only = λ other q. unique takes carrier made rank weight made_fits n ls other it q r }

pub term_once : (h : Outline) (ls : List Lexeme) (t u : Term) → IsTermRead h ls t → IsTermRead h ls u → t ≡ u
term_once h ls t u a b = same_Some t u (sym a.tree ∙ ap (atom_tree h) (b.read.only a.raw a.read.reads) ∙ b.tree)

pub type_once : (h : Outline) (ls : List Lexeme) (t u : PTy) → IsTypeRead h ls t → IsTypeRead h ls u → t ≡ u
type_once h ls t u a b = same_Some t u (sym a.tree ∙ ap (type_tree h []) (b.read.only a.raw a.read.reads) ∙ b.tree)

-- All lexemes that stand for the tokens of well-formed definitions, a type or a term are read as what stands for them and
-- breaks no rule (TEXT.md, "Reading").
use Rattle.std.proofs.Common.{◌≡◌, subst, ℕ, List, [], map, Some, length}
use Rattle.pure_ast.specs.declared.def.Defs.{Defs}
use Rattle.pure_ast.specs.Terms.{Term}
use Rattle.pure_ast.specs.Types.{PTy}
use Rattle.text_meaning.specs.Spelled.{tokens_of}
use Rattle.text_meaning.specs.SpelledTerms.{term_tokens}
use Rattle.text_meaning.specs.SpelledTypes.{type_tokens}
use Rattle.text_meaning.specs.Tokens.{Token}
use Rattle.text_meaning.specs.WellFormed.{IsWellFormed}
use Rattle.text_meaning.specs.WellFormedTerms.{IsTerm}
use Rattle.text_meaning.specs.WellFormedTypes.{IsType, AreTypeParameters}
use Rattle.text_tokens.specs.Stands.{AllStand}
use Rattle.text_tokens.specs.declared.lexeme.Lexeme.{Lexeme as Spelled}
use Rattle.text_syntax.specs.Classing.{lexeme_of}
use Rattle.text_table.specs.declared.part.Part.{Part}
use Rattle.text_table.specs.declared.part.Part.TheVariants as N
use Rattle.raw_ast.specs.declared.declarations.RawText.{RawText}
use Rattle.raw_ast.specs.Atoms.{RawAtom}
use Rattle.raw_ast.specs.Types.{RawType}
use Rattle.raw_values.specs.Carriers.{carrier}
use Rattle.raw_ways.specs.Reading.{Reads, IsRead, IsNotRead}
use Rattle.raw_meaning.specs.Faults.{faults, type_faults, atom_faults}
use Rattle.raw_meaning.specs.Heads.{declared_by}
use Rattle.raw_meaning.specs.Trees.{definitions, type_tree, atom_tree}
use Rattle.raw_completeness.specs.Atoms.{IsTermOf, atom_read}
use Rattle.raw_completeness.specs.Finding.{finds, places}
use Rattle.raw_completeness.specs.Rows.{Reading, all_begin}
use Rattle.raw_completeness.specs.Texts.{IsTextOf, text_read}
use Rattle.raw_completeness.specs.Types.{IsTypeOf, as_type, type_read}

-- what all lexemes are read as has the property that something they are read as has
holds_of : (n : Part) (ts : List Token) (P : carrier n → Type 0) (ls : List Spelled) (it : carrier n) → Reading n ts P → AllStand ls ts → IsRead n (map lexeme_of ls) it → P it
holds_of n ts P ls it f s r = let g = f ls [] (all_begin ts ls s) in subst P (r.only g.value g.reads) g.holds

is_read : (n : Part) (ts : List Token) (P : carrier n → Type 0) (ls : List Spelled) → Reading n ts P → AllStand ls ts → IsNotRead n (map lexeme_of ls) → ⊥
is_read n ts P ls f s r = let g = f ls [] (all_begin ts ls s) in r g.value g.reads

-- ---- texts

-- the lexemes of a text of well-formed definitions are read as a text that stands for them and breaks no rule
pub text_complete : (d : Defs) (ls : List Spelled) → IsWellFormed d → AllStand ls (tokens_of d) → (r : RawText) × Reads N.Text (map lexeme_of ls) [] r × (definitions r ≡ Some d) × (faults r ≡ [])
text_complete d ls w s = let g = text_read d w ls [] (all_begin (tokens_of d) ls s) in (g.value, g.reads, g.holds.0, g.holds.1)

-- and where they are read, what they are read as is such a text
pub text_stands : (d : Defs) (ls : List Spelled) (r : RawText) → IsWellFormed d → AllStand ls (tokens_of d) → IsRead N.Text (map lexeme_of ls) r → (definitions r ≡ Some d) × (faults r ≡ [])
text_stands d ls r w s = holds_of N.Text (tokens_of d) (IsTextOf d) ls r (text_read d w) s

pub text_is_read : (d : Defs) (ls : List Spelled) → IsWellFormed d → AllStand ls (tokens_of d) → IsNotRead N.Text (map lexeme_of ls) → ⊥
text_is_read d ls w s = is_read N.Text (tokens_of d) (IsTextOf d) ls (text_read d w) s

-- ---- types, among these type parameters

type_reading : (d : Defs) (ps : List (List ℕ)) (x : PTy) → IsWellFormed d → AreTypeParameters d ps → IsType d (length ps) x → Reading N.Type (type_tokens d ps x) (IsTypeOf d (declared_by d) ps x)
type_reading d ps x w p t = as_type d (declared_by d) ps x (type_read d (declared_by d) ps (finds d w) (places d ps p) x t)

pub type_stands : (d : Defs) (ps : List (List ℕ)) (x : PTy) (ls : List Spelled) (r : RawType) → IsWellFormed d → AreTypeParameters d ps → IsType d (length ps) x → AllStand ls (type_tokens d ps x) →
    IsRead N.Type (map lexeme_of ls) r → (type_tree (declared_by d) ps r ≡ Some x) × (type_faults (declared_by d) ps r ≡ [])
type_stands d ps x ls r w p t s = holds_of N.Type (type_tokens d ps x) (IsTypeOf d (declared_by d) ps x) ls r (type_reading d ps x w p t) s

pub type_is_read : (d : Defs) (ps : List (List ℕ)) (x : PTy) (ls : List Spelled) → IsWellFormed d → AreTypeParameters d ps → IsType d (length ps) x → AllStand ls (type_tokens d ps x) →
    IsNotRead N.Type (map lexeme_of ls) → ⊥
type_is_read d ps x ls w p t s = is_read N.Type (type_tokens d ps x) (IsTypeOf d (declared_by d) ps x) ls (type_reading d ps x w p t) s

-- ---- terms

term_reading : (d : Defs) (x : Term) → IsWellFormed d → IsTerm d x → Reading N.Atom (term_tokens d x) (IsTermOf d (declared_by d) x)
term_reading d x w t = atom_read d (declared_by d) (finds d w) x t

pub term_stands : (d : Defs) (x : Term) (ls : List Spelled) (r : RawAtom) → IsWellFormed d → IsTerm d x → AllStand ls (term_tokens d x) →
    IsRead N.Atom (map lexeme_of ls) r → (atom_tree (declared_by d) r ≡ Some x) × (atom_faults (declared_by d) r ≡ [])
term_stands d x ls r w t s = holds_of N.Atom (term_tokens d x) (IsTermOf d (declared_by d) x) ls r (term_reading d x w t) s

pub term_is_read : (d : Defs) (x : Term) (ls : List Spelled) → IsWellFormed d → IsTerm d x → AllStand ls (term_tokens d x) → IsNotRead N.Atom (map lexeme_of ls) → ⊥
term_is_read d x ls w t s = is_read N.Atom (term_tokens d x) (IsTermOf d (declared_by d) x) ls (term_reading d x w t) s

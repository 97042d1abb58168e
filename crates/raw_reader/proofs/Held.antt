-- A part's value is held in its variant, so what is read is what the variant holds.
use Rattle.std.proofs.Common.{◌≡◌, sym, ◌∙◌, subst, List, []}
use Rattle.table_reader.specs.Reading.{IsReadAs}
use Rattle.raw_ast.specs.declared.declarations.RawText.{RawText}
use Rattle.raw_ast.specs.Types.{RawType}
use Rattle.raw_ast.specs.Atoms.{RawAtom}
use Rattle.text_table.specs.declared.lexeme.Lexeme.{Lexeme}
use Rattle.text_table.specs.declared.part.Part.{Part}
use Rattle.text_table.specs.declared.part.Part.TheVariants as N
use Rattle.text_table.specs.Lexemes.{takes}
use Rattle.raw_values.specs.declared.value.Value.{Value}
use Rattle.raw_values.specs.declared.value.Value.TheVariants as V
use Rattle.raw_values.specs.Carriers.{carrier, held}
use Rattle.raw_values.specs.Stacked.{Is}
use Rattle.raw_ways.specs.Makes.{made}
use Rattle.raw_ways.specs.Reading.{Reads, IsRead}

abbrev IsReadHeld : Part → List Lexeme → Value → Type 0
IsReadHeld n ls value = IsReadAs takes carrier made held n ls value

read_as : (n : Part) (ls : List Lexeme) (value : Value) (it : carrier n) → ((other : carrier n) → held n other ≡ held n it → other ≡ it) →
    IsReadHeld n ls value → value ≡ held n it → IsRead n ls it
read_as n ls value it same h e =
    let is : h.carried ≡ it = same h.carried (sym h.holds ∙ e) in
    record { reads = subst (λ (x : carrier n). Reads n ls [] x) is h.reads; only = λ other r. h.only other r ∙ is }

pub holds_text : (ls : List Lexeme) (value : Value) → IsReadHeld N.Text ls value → Is V.Text value
holds_text ls value h = record { value = h.carried; is = h.holds }

pub holds_type : (ls : List Lexeme) (value : Value) → IsReadHeld N.Type ls value → Is V.Type value
holds_type ls value h = record { value = h.carried; is = h.holds }

pub holds_atom : (ls : List Lexeme) (value : Value) → IsReadHeld N.Atom ls value → Is V.Atom value
holds_atom ls value h = record { value = h.carried; is = h.holds }

same_text : (a b : RawText) → V.Text a ≡ V.Text b → a ≡ b
same_text a b e = cc

same_type : (a b : RawType) → V.Type a ≡ V.Type b → a ≡ b
same_type a b e = cc

same_atom : (a b : RawAtom) → V.Atom a ≡ V.Atom b → a ≡ b
same_atom a b e = cc

pub text_read : (ls : List Lexeme) (value : Value) (text : RawText) → IsReadHeld N.Text ls value → value ≡ V.Text text → IsRead N.Text ls text
text_read ls value text h e = read_as N.Text ls value text (λ other. same_text other text) h e

pub type_read : (ls : List Lexeme) (value : Value) (ty : RawType) → IsReadHeld N.Type ls value → value ≡ V.Type ty → IsRead N.Type ls ty
type_read ls value ty h e = read_as N.Type ls value ty (λ other. same_type other ty) h e

pub atom_read : (ls : List Lexeme) (value : Value) (atom : RawAtom) → IsReadHeld N.Atom ls value → value ≡ V.Atom atom → IsRead N.Atom ls atom
atom_read ls value atom h e = read_as N.Atom ls value atom (λ other. same_atom other atom) h e

-- The lexemes that a text as it is spelled consists of, each before the lexemes that come after it (TEXT.md, "Grammar"): so
-- what a production makes wants what its symbols want, by computing.
use Rattle.std.specs.Prelude.{◌≡◌, ℕ, Bool, true, false, List, [], ◌∷◌, Option, Some, None, codes, pos}
use Rattle.std.specs.Fmt.{signed_decimal}
use Rattle.text_meaning.specs.declared.mark.Mark.{Mark}
use Rattle.text_meaning.specs.declared.mark.Mark.TheVariants.{Open, Close, Unit, OpenBrace, CloseBrace, Colon, Becomes, Comma, Semicolon, Dot, Hash, Bar, Gives, Plus, To, From, Times}
use Rattle.text_meaning.specs.SpelledNames.{prim_tokens}
use Rattle.text_meaning.specs.Tokens.{Token, word, id, number, mark}
use Rattle.text_meaning.specs.Words.{int_word}
use Rattle.text_tokens.specs.declared.lexeme.LexemeKind.{LexemeKind}
use Rattle.text_tokens.specs.declared.lexeme.LexemeKind.TheVariants as L
use Rattle.text_tokens.specs.Stands.{Stands}
use Rattle.raw_ast.specs.declared.computation.Computation.{Computation}
use Rattle.raw_ast.specs.declared.computation.Computation.TheVariants as K
use Rattle.raw_ast.specs.declared.declarations.Declaration.{Declaration}
use Rattle.raw_ast.specs.declared.declarations.Definition.{Definition}
use Rattle.raw_ast.specs.declared.declarations.Members.{Members}
use Rattle.raw_ast.specs.declared.declarations.Members.TheVariants as M
use Rattle.raw_ast.specs.declared.declarations.RawText.{RawText}
use Rattle.raw_ast.specs.declared.declarations.Variant.{Variant}
use Rattle.raw_ast.specs.declared.names.Constructor.{Constructor}
use Rattle.raw_ast.specs.declared.names.Constructor.TheVariants as C
use Rattle.raw_ast.specs.declared.names.DefinitionName.{DefinitionName}
use Rattle.raw_ast.specs.declared.pattern.Pattern.{Pattern}
use Rattle.raw_ast.specs.declared.pattern.Pattern.TheVariants as P
use Rattle.raw_ast.specs.declared.spelling.Spelling.{Spelling}
use Rattle.raw_ast.specs.Atoms as a
use Rattle.raw_ast.specs.Atoms.{RawAtom, RawAtoms, rawatoms}
use Rattle.raw_ast.specs.Code as c
use Rattle.raw_ast.specs.Code.{RawCode, RawArms}
use Rattle.raw_ast.specs.Types as t
use Rattle.raw_ast.specs.Types.{RawType, RawTypes}

-- this token; an id of this name; digits; a variable, or `loop` or `back` with its number
pub data Want : Type 0 where
  fixed : Token → Want
  name : List ℕ → Want
  digits : List ℕ → Want
  numbered : List ℕ → Want

-- a lexeme is what is wanted
abbrev pub Meets : Want → LexemeKind → Type 0
Meets (fixed t) k = Stands k t
Meets (name n) k = Stands k (id n)
Meets (digits s) k = k ≡ L.Number s
Meets (numbered w) k = k ≡ L.Word w

-- a token is what is wanted
abbrev pub IsFor : Want → Token → Type 0
IsFor (fixed t) u = u ≡ t
IsFor (name n) u = u ≡ id n
IsFor (digits s) (number z) = s ≡ signed_decimal z
IsFor (digits s) u = ⊥
IsFor (numbered w) u = u ≡ word w

abbrev pub Wants : Type 0
Wants = List Want

abbrev pub says : List ℕ → Wants → Wants
says w rest = fixed (word w) ∷ rest

abbrev pub marks : Mark → Wants → Wants
marks m rest = fixed (mark m) ∷ rest

abbrev pub names : List Spelling → Wants → Wants
names [] rest = rest
names (s ∷ more) rest = name s.text ∷ names more rest

abbrev pub tokens : List Token → Wants → Wants
tokens [] rest = rest
tokens (u ∷ more) rest = fixed u ∷ tokens more rest

-- ---- types

abbrev mutual
  pub type_wants : RawType → Wants → Wants
  type_wants (t.integer i) rest = says (int_word i) rest
  type_wants t.boolean rest = says (codes "Bool") rest
  type_wants t.unit rest = says (codes "Unit") rest
  type_wants (t.named s t.no_rawtypes) rest = name s.text ∷ rest
  type_wants (t.named s (t.more_rawtypes x xs)) rest = marks Open (name s.text ∷ type_wants x (types_wants xs (marks Close rest)))
  type_wants (t.exit broken returned) rest = marks Open (says (codes "Exit") (type_wants broken (type_wants returned (marks Close rest))))
  type_wants (t.product t.no_rawtypes) rest = marks Open (marks Close rest)
  type_wants (t.product (t.more_rawtypes x xs)) rest = marks Open (type_wants x (times_wants xs (marks Close rest)))

  -- one after another
  pub types_wants : RawTypes → Wants → Wants
  types_wants t.no_rawtypes rest = rest
  types_wants (t.more_rawtypes x xs) rest = type_wants x (types_wants xs rest)

  -- with `×` before each
  pub times_wants : RawTypes → Wants → Wants
  times_wants t.no_rawtypes rest = rest
  times_wants (t.more_rawtypes x xs) rest = marks Times (type_wants x (times_wants xs rest))

-- ---- atoms

abbrev pub constructor_wants : Constructor → Wants → Wants
constructor_wants (C.Of ty variant) rest = name ty.text ∷ marks Dot (name variant.text ∷ rest)
constructor_wants (C.Brk span) rest = says (codes "Exit") (marks Dot (says (codes "brk") rest))
constructor_wants (C.Ret span) rest = says (codes "Exit") (marks Dot (says (codes "ret") rest))

abbrev pub truth_word : Bool → List ℕ
truth_word true = codes "true"
truth_word false = codes "false"

abbrev pub truth_wants : Bool → Wants → Wants
truth_wants b rest = says (truth_word b) rest

abbrev mutual
  pub atom_wants : RawAtom → Wants → Wants
  atom_wants (a.var s) rest = numbered s.text ∷ rest
  atom_wants (a.literal s i) rest = digits s.text ∷ marks Hash (says (int_word i) rest)
  atom_wants (a.truth b) rest = truth_wants b rest
  atom_wants (a.tuple a.no_rawatoms) rest = marks Unit rest
  atom_wants (a.tuple (a.more_rawatoms x xs)) rest = marks Open (atom_wants x (comma_wants xs (marks Close rest)))
  atom_wants (a.built k a.no_rawatoms) rest = constructor_wants k rest
  atom_wants (a.built k (a.more_rawatoms x xs)) rest = marks Open (constructor_wants k (atom_wants x (atoms_wants xs (marks Close rest))))

  -- one after another
  pub atoms_wants : RawAtoms → Wants → Wants
  atoms_wants a.no_rawatoms rest = rest
  atoms_wants (a.more_rawatoms x xs) rest = atom_wants x (atoms_wants xs rest)

  -- with a comma before each
  pub comma_wants : RawAtoms → Wants → Wants
  comma_wants a.no_rawatoms rest = rest
  comma_wants (a.more_rawatoms x xs) rest = marks Comma (atom_wants x (comma_wants xs rest))

-- ---- code

abbrev pub variables_wants : List Spelling → Wants → Wants
variables_wants [] rest = rest
variables_wants (s ∷ more) rest = numbered s.text ∷ variables_wants more rest

abbrev pub comma_variables_wants : List Spelling → Wants → Wants
comma_variables_wants [] rest = rest
comma_variables_wants (s ∷ more) rest = marks Comma (numbered s.text ∷ comma_variables_wants more rest)

abbrev pub pattern_wants : Pattern → Wants → Wants
pattern_wants (P.Truth b) rest = truth_wants b rest
pattern_wants (P.Tuple []) rest = marks Open (marks Close rest)
pattern_wants (P.Tuple (s ∷ more)) rest = marks Open (numbered s.text ∷ comma_variables_wants more (marks Close rest))
pattern_wants (P.Built k variables) rest = constructor_wants k (variables_wants variables rest)

-- a part of a definition's name, with its dot
abbrev pub name_part_wants : Option Spelling → Wants → Wants
name_part_wants None rest = rest
name_part_wants (Some s) rest = marks Dot (numbered s.text ∷ rest)

abbrev pub name_wants : DefinitionName → Wants → Wants
name_wants n rest = says (codes "fn") (marks Dot (name n.function.text ∷ name_part_wants n.turn (name_part_wants n.back rest)))

abbrev pub computation_wants : Computation → Wants → Wants
computation_wants (K.Ok x) rest = says (codes "ok") (atom_wants x rest)
computation_wants K.Fail rest = says (codes "fail") rest
computation_wants (K.Call n xs) rest = name_wants n (says (codes "n") (atoms_wants (rawatoms xs) rest))
computation_wants (K.Primitive o xs) rest = tokens (prim_tokens o.primitive) (atoms_wants (rawatoms xs) rest)

abbrev mutual
  pub code_wants : RawCode → Wants → Wants
  code_wants (c.bind v x next) rest =
      says (codes "let") (numbered v.text ∷ marks From (computation_wants x (marks Semicolon (code_wants next rest))))
  code_wants (c.put v x next) rest = says (codes "let") (numbered v.text ∷ marks Becomes (atom_wants x (marks Semicolon (code_wants next rest))))
  code_wants (c.select x all) rest = marks Open (says (codes "match") (atom_wants x (says (codes "with") (arms_wants all (marks Close rest)))))
  code_wants (c.last x) rest = computation_wants x rest

  pub arms_wants : RawArms → Wants → Wants
  arms_wants c.no_rawarms rest = rest
  arms_wants (c.more_rawarms p x all) rest = marks Bar (pattern_wants p (marks Gives (says (codes "do") (code_wants x (arms_wants all rest)))))

-- ---- declarations

abbrev pub type_parameters_wants : Mark → Mark → List Spelling → Wants → Wants
type_parameters_wants left right [] rest = rest
type_parameters_wants left right (s ∷ more) rest =
    marks left (name s.text ∷ marks Colon (says (codes "Type") (marks right (type_parameters_wants left right more rest))))

abbrev pub plain_fields_wants : List RawType → Wants → Wants
plain_fields_wants [] rest = rest
plain_fields_wants (x ∷ xs) rest = type_wants x (marks To (plain_fields_wants xs rest))

abbrev pub variants_wants : List Variant → Wants → Wants
variants_wants [] rest = rest
variants_wants (v ∷ more) rest =
    marks Bar (name v.name.text ∷ marks Colon (plain_fields_wants v.fields (name v.end.text ∷ names v.parameters (variants_wants more rest))))

abbrev pub fields_wants : List (Spelling × RawType) → Wants → Wants
fields_wants [] rest = rest
fields_wants (f ∷ more) rest = marks Open (name f.0.text ∷ marks Colon (type_wants f.1 (marks Close (fields_wants more rest))))

abbrev members_wants : Spelling → List Spelling → Members → Wants → Wants
members_wants s ps (M.Variants variants) rest =
    says (codes "inductive") (name s.text ∷ type_parameters_wants Open Close ps (says (codes "where") (variants_wants variants rest)))
members_wants s ps (M.Fields fields) rest =
    says (codes "structure") (name s.text ∷ type_parameters_wants Open Close ps (says (codes "where") (fields_wants fields rest)))

abbrev pub declaration_wants : Declaration → Wants → Wants
declaration_wants d rest = members_wants d.name d.parameters d.members rest

abbrev pub declarations_wants : List Declaration → Wants → Wants
declarations_wants [] rest = rest
declarations_wants (d ∷ more) rest = declaration_wants d (declarations_wants more rest)

-- ---- definitions

abbrev pub fuel_parameter_wants : Wants → Wants
fuel_parameter_wants rest = marks Open (says (codes "n") (marks Colon (says (codes "Nat") (marks Close rest))))

abbrev pub fuel_match_wants : Wants → Wants
fuel_match_wants rest =
    says (codes "match") (says (codes "n") (says (codes "with") (marks Bar (fixed (number (pos 0)) ∷ marks Gives (says (codes "outOfFuel")
    (marks Bar (says (codes "n") (marks Plus (fixed (number (pos 1)) ∷ marks Gives (says (codes "do") rest))))))))))

abbrev pub parameters_wants : List (Spelling × RawType) → Wants → Wants
parameters_wants [] rest = rest
parameters_wants (p ∷ more) rest = marks Open (numbered p.0.text ∷ marks Colon (type_wants p.1 (marks Close (parameters_wants more rest))))

abbrev pub definition_wants : Definition → Wants → Wants
definition_wants d rest =
    says (codes "def") (name_wants d.name (type_parameters_wants OpenBrace CloseBrace d.type_parameters (fuel_parameter_wants
    (parameters_wants d.parameters (marks Colon (says (codes "Result") (type_wants d.result (marks Becomes (fuel_match_wants (code_wants d.code rest))))))))))

abbrev pub definitions_wants : List Definition → Wants → Wants
definitions_wants [] rest = rest
definitions_wants (d ∷ more) rest = definition_wants d (definitions_wants more rest)

-- ---- a text

abbrev pub text_wants : RawText → Wants → Wants
text_wants text rest =
    says (codes "import") (says (codes "AenPrelude") (says (codes "open") (says (codes "AenPrelude")
    (declarations_wants text.types (definitions_wants text.definitions rest)))))

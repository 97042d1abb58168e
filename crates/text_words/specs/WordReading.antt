-- Reading lexemes as a term or as a type without type parameters, with the names of these definitions.
use Rattle.std.specs.Prelude.{◌≡◌, true, List, [], Option, Some, None, if◌then◌else◌, map}
use Rattle.std.specs.Option.{option_and_then}
use Rattle.pure_ast.specs.declared.def.Defs.{Defs}
use Rattle.pure_ast.specs.Terms.{Term}
use Rattle.pure_ast.specs.Types.{PTy}
use Rattle.pure_ast.specs.Values.{PValue}
use Rattle.text_tokens.specs.declared.lexeme.Lexeme.{Lexeme as Spelled}
use Rattle.text_table.specs.declared.lexeme.Lexeme.{Lexeme}
use Rattle.text_table.specs.declared.part.Part.TheVariants as N
use Rattle.text_syntax.specs.Brackets.{few_lexemes}
use Rattle.text_syntax.specs.Classing.{lexeme_of}
use Rattle.raw_ast.specs.Atoms.{RawAtom}
use Rattle.raw_ast.specs.Types.{RawType}
use Rattle.raw_meaning.specs.declared.outline.Outline.{Outline}
use Rattle.raw_meaning.specs.Faults.{type_faults, atom_faults}
use Rattle.raw_meaning.specs.Trees.{type_tree, atom_tree}
use Rattle.raw_ways.specs.Reading.{IsRead}
use Rattle.text_words.specs.Typing.{has_type, closed_value}

-- lexemes are read as an atom that breaks no rule and stands for this term
pub record IsTermRead (h : Outline) (ls : List Lexeme) (t : Term) : Type 0 where
  pub raw : RawAtom
  pub read : IsRead N.Atom ls raw
  pub faults : atom_faults h raw ≡ []
  pub tree : atom_tree h raw ≡ Some t

pub record IsTypeRead (h : Outline) (ls : List Lexeme) (t : PTy) : Type 0 where
  pub raw : RawType
  pub read : IsRead N.Type ls raw
  pub faults : type_faults h [] raw ≡ []
  pub tree : type_tree h [] raw ≡ Some t

-- and few brackets are open
pub record IsTermOf (h : Outline) (ls : List Spelled) (t : Term) : Type 0 where
  pub few : few_lexemes 0 ls ≡ true
  pub term : IsTermRead h (map lexeme_of ls) t

pub record IsTypeOf (h : Outline) (ls : List Spelled) (t : PTy) : Type 0 where
  pub few : few_lexemes 0 ls ≡ true
  pub type : IsTypeRead h (map lexeme_of ls) t

-- what there is, where there is any
abbrev pub Finds : {A : Type 0} → (A → Type 0) → Option A → Type 0
Finds P (Some x) = P x
Finds {A} P None = (x : A) → P x → ⊥

-- a tree, where no rule is broken
abbrev pub Settles : {A : Type 0} → Type 0 → Option A → Option A → Type 0
Settles Kept tree (Some x) = Kept × (tree ≡ Some x)
Settles Kept tree None = Kept → ⊥

-- the value, where it has the type
abbrev pub of_type : Defs → PTy → PValue → Option PValue
of_type defs ty v = if has_type defs ty v then Some v else None

-- the value of a term without variables, where it has the type
abbrev pub value_of : Defs → PTy → Option Term → Option PValue
value_of defs ty term = option_and_then (of_type defs ty) (option_and_then closed_value term)

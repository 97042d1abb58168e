-- The names that a text declares are names (TEXT.md, "Names").
use Rattle.text_meaning.specs.Lists.{Each}
use Rattle.text_meaning.specs.Names.{IsName}
use Rattle.raw_ast.specs.declared.declarations.Declaration.{Declaration}
use Rattle.raw_ast.specs.declared.declarations.Definition.{Definition}
use Rattle.raw_ast.specs.declared.declarations.Members.{Members}
use Rattle.raw_ast.specs.declared.declarations.Members.TheVariants as M
use Rattle.raw_ast.specs.declared.declarations.RawText.{RawText}
use Rattle.raw_ast.specs.declared.declarations.Variant.{Variant}
use Rattle.raw_ast.specs.declared.spelling.Spelling.{Spelling}
use Rattle.raw_ast.specs.Types.{RawType}

abbrev pub IsNamed : Spelling → Type 0
IsNamed s = IsName s.text

-- variants, or the fields of a structure
abbrev pub AreNamedMembers : Members → Type 0
AreNamedMembers (M.Variants variants) = Each (λ (v : Variant). IsNamed v.name) variants
AreNamedMembers (M.Fields fields) = Each (λ (f : Spelling × RawType). IsNamed f.0) fields

pub record IsNamedDeclaration (d : Declaration) : Type 0 where
  pub name : IsNamed d.name
  pub parameters : Each IsNamed d.parameters
  pub members : AreNamedMembers d.members

pub record IsNamedDefinition (d : Definition) : Type 0 where
  pub function : IsNamed d.name.function
  pub type_parameters : Each IsNamed d.type_parameters

abbrev pub IsNamedText : RawText → Type 0
IsNamedText text = Each IsNamedDeclaration text.types × Each IsNamedDefinition text.definitions

-- What the grammar gives besides: products and tuple patterns have two parts or more, tuples none or two or more, and primitives
-- are those that there are (TEXT.md, "Grammar").
use Rattle.std.specs.Prelude.{◌≡◌, ◌≤◌, List, length}
use Rattle.text_meaning.specs.Lists.{Each}
use Rattle.text_meaning.specs.Ranges.{IsPrimitive}
use Rattle.raw_ast.specs.declared.computation.Computation.{Computation}
use Rattle.raw_ast.specs.declared.computation.Computation.TheVariants as K
use Rattle.raw_ast.specs.declared.declarations.Declaration.{Declaration}
use Rattle.raw_ast.specs.declared.declarations.Definition.{Definition}
use Rattle.raw_ast.specs.declared.declarations.Members.{Members}
use Rattle.raw_ast.specs.declared.declarations.Members.TheVariants as M
use Rattle.raw_ast.specs.declared.declarations.RawText.{RawText}
use Rattle.raw_ast.specs.declared.declarations.Variant.{Variant}
use Rattle.raw_ast.specs.declared.pattern.Pattern.{Pattern}
use Rattle.raw_ast.specs.declared.pattern.Pattern.TheVariants as P
use Rattle.raw_ast.specs.declared.spelling.Spelling.{Spelling}
use Rattle.raw_ast.specs.Atoms as a
use Rattle.raw_ast.specs.Atoms.{RawAtom, RawAtoms, rawatoms, rawatoms_list}
use Rattle.raw_ast.specs.Code as c
use Rattle.raw_ast.specs.Code.{RawCode, RawArms}
use Rattle.raw_ast.specs.Types as t
use Rattle.raw_ast.specs.Types.{RawType, RawTypes, rawtypes_list}

abbrev mutual
  pub IsShapedType : RawType → Type 0
  IsShapedType (t.integer i) = Unit {0}
  IsShapedType t.boolean = Unit {0}
  IsShapedType t.unit = Unit {0}
  IsShapedType (t.product parts) = (2 ≤ length (rawtypes_list parts)) × AreShapedTypes parts
  IsShapedType (t.named s args) = AreShapedTypes args
  IsShapedType (t.exit broken returned) = IsShapedType broken × IsShapedType returned

  pub AreShapedTypes : RawTypes → Type 0
  AreShapedTypes t.no_rawtypes = Unit {0}
  AreShapedTypes (t.more_rawtypes x rest) = IsShapedType x × AreShapedTypes rest

abbrev mutual
  pub IsShapedAtom : RawAtom → Type 0
  IsShapedAtom (a.var s) = Unit {0}
  IsShapedAtom (a.literal s i) = Unit {0}
  IsShapedAtom (a.truth b) = Unit {0}
  IsShapedAtom (a.tuple parts) = (length (rawatoms_list parts) ≡ 1 → ⊥) × AreShapedAtoms parts
  IsShapedAtom (a.built name parts) = AreShapedAtoms parts

  pub AreShapedAtoms : RawAtoms → Type 0
  AreShapedAtoms a.no_rawatoms = Unit {0}
  AreShapedAtoms (a.more_rawatoms x rest) = IsShapedAtom x × AreShapedAtoms rest

abbrev pub IsShapedPattern : Pattern → Type 0
IsShapedPattern (P.Truth b) = Unit {0}
IsShapedPattern (P.Tuple names) = 2 ≤ length names
IsShapedPattern (P.Built name names) = Unit {0}

abbrev pub IsShapedComputation : Computation → Type 0
IsShapedComputation (K.Ok x) = IsShapedAtom x
IsShapedComputation K.Fail = Unit {0}
IsShapedComputation (K.Call name xs) = AreShapedAtoms (rawatoms xs)
IsShapedComputation (K.Primitive o xs) = IsPrimitive o.primitive × AreShapedAtoms (rawatoms xs)

abbrev mutual
  pub IsShapedCode : RawCode → Type 0
  IsShapedCode (c.bind v x rest) = IsShapedComputation x × IsShapedCode rest
  IsShapedCode (c.put v x rest) = IsShapedAtom x × IsShapedCode rest
  IsShapedCode (c.select x all) = IsShapedAtom x × AreShapedArms all
  IsShapedCode (c.last x) = IsShapedComputation x

  pub AreShapedArms : RawArms → Type 0
  AreShapedArms c.no_rawarms = Unit {0}
  AreShapedArms (c.more_rawarms p x rest) = IsShapedPattern p × IsShapedCode x × AreShapedArms rest

-- names with types
abbrev pub AreShapedFields : List (Spelling × RawType) → Type 0
AreShapedFields fields = Each (λ f. IsShapedType f.1) fields

abbrev pub IsShapedVariant : Variant → Type 0
IsShapedVariant v = Each IsShapedType v.fields

abbrev pub AreShapedMembers : Members → Type 0
AreShapedMembers (M.Variants variants) = Each IsShapedVariant variants
AreShapedMembers (M.Fields fields) = AreShapedFields fields

abbrev pub IsShapedDeclaration : Declaration → Type 0
IsShapedDeclaration d = AreShapedMembers d.members

pub record IsShapedDefinition (d : Definition) : Type 0 where
  pub parameters : AreShapedFields d.parameters
  pub result : IsShapedType d.result
  pub code : IsShapedCode d.code

abbrev pub IsShapedText : RawText → Type 0
IsShapedText text = Each IsShapedDeclaration text.types × Each IsShapedDefinition text.definitions

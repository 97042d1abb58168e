-- What each part of the grammar is read as. Written by tools/text_ways.py.
use Rattle.std.specs.Prelude.{List, Option}
use Rattle.text_table.specs.declared.part.Part.{Part}
use Rattle.text_table.specs.declared.part.Part.TheVariants as N
use Rattle.raw_ast.specs.declared.spelling.Spelling.{Spelling}
use Rattle.raw_ast.specs.declared.names.DefinitionName.{DefinitionName}
use Rattle.raw_ast.specs.declared.names.Constructor.{Constructor}
use Rattle.raw_ast.specs.declared.pattern.Pattern.{Pattern}
use Rattle.raw_ast.specs.declared.computation.Operation.{Operation}
use Rattle.raw_ast.specs.declared.computation.Computation.{Computation}
use Rattle.raw_ast.specs.declared.declarations.Variant.{Variant}
use Rattle.raw_ast.specs.declared.declarations.Declaration.{Declaration}
use Rattle.raw_ast.specs.declared.declarations.Definition.{Definition}
use Rattle.raw_ast.specs.declared.declarations.RawText.{RawText}
use Rattle.raw_ast.specs.Types.{RawType}
use Rattle.raw_ast.specs.Atoms.{RawAtom}
use Rattle.raw_ast.specs.Code.{RawCode}
use Rattle.raw_values.specs.declared.rests.AfterTypeName.{AfterTypeName}
use Rattle.raw_values.specs.declared.rests.VariantRest.{VariantRest}
use Rattle.raw_values.specs.declared.rests.AfterName.{AfterName}
use Rattle.raw_values.specs.declared.rests.NameEnd.{NameEnd}
use Rattle.raw_values.specs.declared.rests.AfterConstructor.{AfterConstructor}
use Rattle.raw_values.specs.declared.rests.Bound.{Bound}
use Rattle.raw_values.specs.declared.value.Value.{Value}
use Rattle.raw_values.specs.declared.value.Value.TheVariants as V

abbrev pub carrier : Part → Type 0
carrier N.Text = RawText
carrier N.Types = List Declaration
carrier N.Declaration = Declaration
carrier N.TypeParameters = List Spelling
carrier N.Variants = List Variant
carrier N.VariantType = VariantRest
carrier N.VariantEnd = AfterName
carrier N.Names = List Spelling
carrier N.Fields = List (Spelling × RawType)
carrier N.Type = RawType
carrier N.OtherType = RawType
carrier N.TypeInBrackets = RawType
carrier N.AfterTypeName = AfterTypeName
carrier N.TypeArguments = List RawType
carrier N.Factors = List RawType
carrier N.Definitions = List Definition
carrier N.Definition = Definition
carrier N.FuelParameter = Unit {0}
carrier N.FuelMatch = Unit {0}
carrier N.DefinitionName = DefinitionName
carrier N.NameEnd = NameEnd
carrier N.NamePart = NameEnd
carrier N.BackEnd = Option Spelling
carrier N.ImplicitParameters = List Spelling
carrier N.Parameters = List (Spelling × RawType)
carrier N.Code = RawCode
carrier N.Bound = Bound
carrier N.Arms = List (Pattern × RawCode)
carrier N.Pattern = Pattern
carrier N.PatternParts = List Spelling
carrier N.Variables = List Spelling
carrier N.Computation = Computation
carrier N.Primitive = Operation
carrier N.CastFrom = Operation
carrier N.InMemory = Operation
carrier N.ReplaceEnd = Option Operation
carrier N.SwapEnd = Option Operation
carrier N.SwapRegion = Operation
carrier N.Atom = RawAtom
carrier N.PlainAtom = RawAtom
carrier N.Constructor = Constructor
carrier N.ExitVariant = Constructor
carrier N.AtomInBrackets = RawAtom
carrier N.AfterConstructor = AfterConstructor
carrier N.TupleParts = List RawAtom
carrier N.Arguments = List RawAtom
carrier N.Atoms = List RawAtom

-- how code holds it
abbrev pub held : (n : Part) → carrier n → Value
held N.Text v = V.Text v
held N.Types v = V.Declarations v
held N.Declaration v = V.Declaration v
held N.TypeParameters v = V.Names v
held N.Variants v = V.Variants v
held N.VariantType v = V.VariantRest v
held N.VariantEnd v = V.AfterName v
held N.Names v = V.Names v
held N.Fields v = V.Fields v
held N.Type v = V.Type v
held N.OtherType v = V.Type v
held N.TypeInBrackets v = V.Type v
held N.AfterTypeName v = V.AfterTypeName v
held N.TypeArguments v = V.Types v
held N.Factors v = V.Types v
held N.Definitions v = V.Definitions v
held N.Definition v = V.Definition v
held N.FuelParameter v = V.Nothing v
held N.FuelMatch v = V.Nothing v
held N.DefinitionName v = V.DefinitionName v
held N.NameEnd v = V.NameEnd v
held N.NamePart v = V.NameEnd v
held N.BackEnd v = V.BackEnd v
held N.ImplicitParameters v = V.Names v
held N.Parameters v = V.Fields v
held N.Code v = V.Code v
held N.Bound v = V.Bound v
held N.Arms v = V.Arms v
held N.Pattern v = V.Pattern v
held N.PatternParts v = V.Names v
held N.Variables v = V.Names v
held N.Computation v = V.Computation v
held N.Primitive v = V.Operation v
held N.CastFrom v = V.Operation v
held N.InMemory v = V.Operation v
held N.ReplaceEnd v = V.OperationEnd v
held N.SwapEnd v = V.OperationEnd v
held N.SwapRegion v = V.Operation v
held N.Atom v = V.Atom v
held N.PlainAtom v = V.Atom v
held N.Constructor v = V.Constructor v
held N.ExitVariant v = V.Constructor v
held N.AtomInBrackets v = V.Atom v
held N.AfterConstructor v = V.AfterConstructor v
held N.TupleParts v = V.Atoms v
held N.Arguments v = V.Atoms v
held N.Atoms v = V.Atoms v

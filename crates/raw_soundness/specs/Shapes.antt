-- What each part of the grammar gives besides its value: the shape of trees, and that declared names are names.
use Rattle.std.specs.Prelude.{◌≡◌, true, List, [], ◌∷◌, Option, Some, None}
use Rattle.aen_base.specs.declared.operators.Builtin.TheVariants.{Replace, Swap}
use Rattle.pure_ast.specs.declared.comp.Primitive.{Primitive}
use Rattle.pure_ast.specs.declared.comp.Primitive.TheVariants as P
use Rattle.text_meaning.specs.Lists.{Each}
use Rattle.text_meaning.specs.Names.{IsName}
use Rattle.text_meaning.specs.Ranges.{IsPrimitive, IsLentBy}
use Rattle.text_table.specs.declared.lexeme.Lexeme.{Lexeme}
use Rattle.text_table.specs.declared.part.Part.{Part}
use Rattle.text_table.specs.declared.part.Part.TheVariants as N
use Rattle.text_table.specs.declared.terminal.Terminal.{Terminal}
use Rattle.text_table.specs.declared.terminal.Terminal.TheVariants as T
use Rattle.text_table.specs.Lexemes.{has_class}
use Rattle.table_reader.specs.declared.symbol.Symbol.{Symbol}
use Rattle.table_reader.specs.declared.symbol.Symbol.TheVariants as S
use Rattle.table_reader.specs.Reading.{Parts}
use Rattle.raw_ast.specs.declared.computation.Operation.{Operation}
use Rattle.raw_ast.specs.declared.declarations.Variant.{Variant}
use Rattle.raw_ast.specs.declared.names.Constructor.{Constructor}
use Rattle.raw_ast.specs.declared.names.Constructor.TheVariants as C
use Rattle.raw_ast.specs.declared.spelling.Spelling.{Spelling}
use Rattle.raw_ast.specs.Atoms as a
use Rattle.raw_ast.specs.Atoms.{RawAtom, rawatoms}
use Rattle.raw_ast.specs.Code.{rawarms}
use Rattle.raw_ast.specs.Types as t
use Rattle.raw_ast.specs.Types.{RawType, rawtypes}
use Rattle.raw_values.specs.declared.rests.AfterConstructor.{AfterConstructor}
use Rattle.raw_values.specs.declared.rests.AfterConstructor.TheVariants as after_constructor
use Rattle.raw_values.specs.declared.rests.AfterName.{AfterName}
use Rattle.raw_values.specs.declared.rests.AfterName.TheVariants as after_name
use Rattle.raw_values.specs.declared.rests.AfterTypeName.{AfterTypeName}
use Rattle.raw_values.specs.declared.rests.AfterTypeName.TheVariants as after_type
use Rattle.raw_values.specs.declared.rests.Bound.{Bound}
use Rattle.raw_values.specs.declared.rests.Bound.TheVariants as bound
use Rattle.raw_values.specs.Carriers.{carrier}
use Rattle.raw_meaning.specs.Named.{IsNamed, IsNamedDeclaration, IsNamedDefinition, IsNamedText}
use Rattle.raw_meaning.specs.Shape.{IsShapedType, AreShapedTypes, IsShapedAtom, AreShapedAtoms, IsShapedPattern, IsShapedComputation, IsShapedCode, AreShapedArms, AreShapedFields, IsShapedVariant, IsShapedDeclaration, IsShapedDefinition, IsShapedText}

-- one item or more
abbrev pub IsSome : {A : Type 0} → List A → Type 0
IsSome [] = ⊥
IsSome (x ∷ xs) = Unit {0}

-- what stands between brackets as it is spelled
abbrev pub IsTypeInBrackets : RawType → Type 0
IsTypeInBrackets (t.named s (t.more_rawtypes x xs)) = Unit {0}
IsTypeInBrackets (t.exit x y) = Unit {0}
IsTypeInBrackets (t.product (t.more_rawtypes x xs)) = Unit {0}
IsTypeInBrackets _ = ⊥

abbrev pub IsAtomInBrackets : RawAtom → Type 0
IsAtomInBrackets (a.tuple (a.more_rawatoms x xs)) = Unit {0}
IsAtomInBrackets (a.built k (a.more_rawatoms x xs)) = Unit {0}
IsAtomInBrackets _ = ⊥

abbrev pub IsExit : Constructor → Type 0
IsExit (C.Of ty name) = ⊥
IsExit k = Unit {0}

-- a number in a definition's name
abbrev pub HasEnd : Option Spelling → Option Spelling → Type 0
HasEnd None None = ⊥
HasEnd turn back = Unit {0}

-- primitives by how their names begin
abbrev pub IsCast : Primitive → Type 0
IsCast (P.Cast ty u) = Unit {0}
IsCast (P.CastBool ty) = Unit {0}
IsCast p = ⊥

abbrev pub IsReplaceBack : Primitive → Type 0
IsReplaceBack (P.Back Replace r) = IsLentBy Replace r.0
IsReplaceBack p = ⊥

abbrev pub IsSwapBack : Primitive → Type 0
IsSwapBack (P.Back Swap r) = IsLentBy Swap r.0
IsSwapBack p = ⊥

abbrev pub IsInMemory : Primitive → Type 0
IsInMemory (P.Forward Replace) = Unit {0}
IsInMemory (P.Forward Swap) = Unit {0}
IsInMemory (P.Back Replace r) = IsLentBy Replace r.0
IsInMemory (P.Back Swap r) = IsLentBy Swap r.0
IsInMemory p = ⊥

-- the rests of parts
abbrev pub IsShapedAfterName : AfterName → Type 0
IsShapedAfterName (after_name.Fields rest) = Each IsShapedType rest.fields
IsShapedAfterName (after_name.Parameters names) = Unit {0}

abbrev pub IsShapedAfterType : AfterTypeName → Type 0
IsShapedAfterType (after_type.Arguments xs) = IsSome xs × AreShapedTypes (rawtypes xs)
IsShapedAfterType (after_type.Factors xs) = IsSome xs × AreShapedTypes (rawtypes xs)

abbrev pub IsShapedAfterConstructor : AfterConstructor → Type 0
IsShapedAfterConstructor (after_constructor.Arguments xs) = IsSome xs × AreShapedAtoms (rawatoms xs)
IsShapedAfterConstructor (after_constructor.Parts xs) = IsSome xs × AreShapedAtoms (rawatoms xs)

abbrev pub IsShapedBound : Bound → Type 0
IsShapedBound (bound.Computation x c) = IsShapedComputation x × IsShapedCode c
IsShapedBound (bound.Atom x c) = IsShapedAtom x × IsShapedCode c

abbrev pub IsShapedEnd : (Primitive → Type 0) → Option Operation → Type 0
IsShapedEnd Holds None = Unit {0}
IsShapedEnd Holds (Some o) = Holds o.primitive

-- of each part
abbrev pub IsShaped : (n : Part) → carrier n → Type 0
IsShaped N.Text v = IsShapedText v × IsNamedText v
IsShaped N.Types v = Each IsShapedDeclaration v × Each IsNamedDeclaration v
IsShaped N.Declaration v = IsShapedDeclaration v × IsNamedDeclaration v
IsShaped N.TypeParameters v = Each IsNamed v
IsShaped N.Variants v = Each IsShapedVariant v × Each (λ (x : Variant). IsNamed x.name) v
IsShaped N.VariantType v = Each IsShapedType v.fields
IsShaped N.VariantEnd v = IsShapedAfterName v
IsShaped N.Names v = Unit {0}
IsShaped N.Fields v = AreShapedFields v × Each (λ (x : Spelling × RawType). IsNamed x.0) v
IsShaped N.Type v = IsShapedType v
IsShaped N.OtherType v = IsShapedType v
IsShaped N.TypeInBrackets v = IsTypeInBrackets v × IsShapedType v
IsShaped N.AfterTypeName v = IsShapedAfterType v
IsShaped N.TypeArguments v = AreShapedTypes (rawtypes v)
IsShaped N.Factors v = AreShapedTypes (rawtypes v)
IsShaped N.Definitions v = Each IsShapedDefinition v × Each IsNamedDefinition v
IsShaped N.Definition v = IsShapedDefinition v × IsNamedDefinition v
IsShaped N.FuelParameter v = Unit {0}
IsShaped N.FuelMatch v = Unit {0}
IsShaped N.DefinitionName v = IsNamed v.function
IsShaped N.NameEnd v = Unit {0}
IsShaped N.NamePart v = HasEnd v.turn v.back
IsShaped N.BackEnd v = Unit {0}
IsShaped N.ImplicitParameters v = Each IsNamed v
IsShaped N.Parameters v = AreShapedFields v
IsShaped N.Code v = IsShapedCode v
IsShaped N.Bound v = IsShapedBound v
IsShaped N.Arms v = AreShapedArms (rawarms v)
IsShaped N.Pattern v = IsShapedPattern v
IsShaped N.PatternParts v = Unit {0}
IsShaped N.Variables v = Unit {0}
IsShaped N.Computation v = IsShapedComputation v
IsShaped N.Primitive v = IsPrimitive v.primitive
IsShaped N.CastFrom v = IsCast v.primitive
IsShaped N.InMemory v = IsInMemory v.primitive
IsShaped N.ReplaceEnd v = IsShapedEnd IsReplaceBack v
IsShaped N.SwapEnd v = IsShapedEnd IsSwapBack v
IsShaped N.SwapRegion v = IsSwapBack v.primitive
IsShaped N.Atom v = IsShapedAtom v
IsShaped N.PlainAtom v = IsShapedAtom v
IsShaped N.Constructor v = Unit {0}
IsShaped N.ExitVariant v = IsExit v
IsShaped N.AtomInBrackets v = IsAtomInBrackets v × IsShapedAtom v
IsShaped N.AfterConstructor v = IsShapedAfterConstructor v
IsShaped N.TupleParts v = AreShapedAtoms (rawatoms v)
IsShaped N.Arguments v = AreShapedAtoms (rawatoms v)
IsShaped N.Atoms v = AreShapedAtoms (rawatoms v)

-- an id is a name
abbrev pub IsNameIfId : Terminal → Lexeme → Type 0
IsNameIfId T.Name l = IsName l.text
IsNameIfId t l = Unit {0}

-- what is known of the values of symbols
abbrev pub AreTaken : (p : List (Symbol Terminal Part)) → Parts Terminal Part Lexeme carrier p → Type 0
AreTaken [] vs = Unit {0}
AreTaken (S.Token t ∷ p) vs = ((has_class t vs.0.class ≡ true) × IsNameIfId t vs.0) × AreTaken p vs.1
AreTaken (S.Part n ∷ p) vs = IsShaped n vs.0 × AreTaken p vs.1

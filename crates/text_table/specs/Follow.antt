-- The tokens that may come after a part. Written by tools/grammar.py.
use Rattle.std.specs.Prelude.{List, [], ◌∷◌}
use Rattle.text_table.specs.declared.terminal.Terminal.{Terminal}
use Rattle.text_table.specs.declared.terminal.Terminal.TheVariants as T
use Rattle.text_table.specs.declared.part.Part.{Part}
use Rattle.text_table.specs.declared.part.Part.TheVariants as N

abbrev after_text : List Terminal
after_text = []

abbrev after_types : List Terminal
after_types = T.Def ∷ []

abbrev after_declaration : List Terminal
after_declaration = T.Inductive ∷ T.Structure ∷ T.Def ∷ []

abbrev after_type_parameters : List Terminal
after_type_parameters = T.Where ∷ []

abbrev after_variant_type : List Terminal
after_variant_type = T.Inductive ∷ T.Structure ∷ T.Def ∷ T.Bar ∷ []

abbrev after_type : List Terminal
after_type = T.Bool ∷ T.Unit ∷ T.OpenBracket ∷ T.CloseBracket ∷ T.Becomes ∷ T.Times ∷ T.Int ∷ T.Name ∷ []

abbrev after_other_type : List Terminal
after_other_type = T.Bool ∷ T.Unit ∷ T.OpenBracket ∷ T.CloseBracket ∷ T.Becomes ∷ T.To ∷ T.Times ∷ T.Int ∷ T.Name ∷ []

abbrev after_fuel_parameter : List Terminal
after_fuel_parameter = T.OpenBracket ∷ T.Colon ∷ []

abbrev after_fuel_match : List Terminal
after_fuel_match = T.Let ∷ T.Ok ∷ T.Fail ∷ T.Bool ∷ T.Fn ∷ T.Cast ∷ T.Box ∷ T.Mem ∷ T.OpenBracket ∷ T.Int ∷ []

abbrev after_definition_name : List Terminal
after_definition_name = T.Fuel ∷ T.OpenBracket ∷ T.OpenBrace ∷ []

abbrev after_implicit_parameters : List Terminal
after_implicit_parameters = T.OpenBracket ∷ []

abbrev after_parameters : List Terminal
after_parameters = T.Colon ∷ []

abbrev after_code : List Terminal
after_code = T.Def ∷ T.CloseBracket ∷ T.Bar ∷ []

abbrev after_pattern : List Terminal
after_pattern = T.Gives ∷ []

abbrev after_computation : List Terminal
after_computation = T.Def ∷ T.CloseBracket ∷ T.Semicolon ∷ T.Bar ∷ []

abbrev after_primitive : List Terminal
after_primitive = T.Variable ∷ T.Def ∷ T.Exit ∷ T.OpenBracket ∷ T.CloseBracket ∷ T.UnitValue ∷ T.Semicolon ∷ T.Bar ∷ T.Name ∷ T.Number ∷ T.Truth ∷ []

abbrev after_atom : List Terminal
after_atom = T.Variable ∷ T.Def ∷ T.With ∷ T.Exit ∷ T.OpenBracket ∷ T.CloseBracket ∷ T.UnitValue ∷ T.Comma ∷ T.Semicolon ∷ T.Bar ∷ T.Name ∷ T.Number ∷ T.Truth ∷ []

abbrev after_constructor : List Terminal
after_constructor = T.Variable ∷ T.Def ∷ T.With ∷ T.Exit ∷ T.OpenBracket ∷ T.CloseBracket ∷ T.UnitValue ∷ T.Comma ∷ T.Semicolon ∷ T.Bar ∷ T.Gives ∷ T.Name ∷ T.Number ∷ T.Truth ∷ []

abbrev pub follow : Part → List Terminal
follow N.Text = after_text
follow N.Types = after_types
follow N.Declaration = after_declaration
follow N.TypeParameters = after_type_parameters
follow N.Variants = after_declaration
follow N.VariantType = after_variant_type
follow N.VariantEnd = after_variant_type
follow N.Names = after_variant_type
follow N.Fields = after_declaration
follow N.Type = after_type
follow N.OtherType = after_other_type
follow N.TypeInBrackets = after_other_type
follow N.AfterTypeName = after_other_type
follow N.TypeArguments = after_other_type
follow N.Factors = after_other_type
follow N.Definitions = after_text
follow N.Definition = after_types
follow N.FuelParameter = after_fuel_parameter
follow N.FuelMatch = after_fuel_match
follow N.DefinitionName = after_definition_name
follow N.NameEnd = after_definition_name
follow N.NamePart = after_definition_name
follow N.BackEnd = after_definition_name
follow N.ImplicitParameters = after_implicit_parameters
follow N.Parameters = after_parameters
follow N.Code = after_code
follow N.Bound = after_code
follow N.Arms = after_code
follow N.Pattern = after_pattern
follow N.PatternParts = after_pattern
follow N.Variables = after_pattern
follow N.Computation = after_computation
follow N.Primitive = after_primitive
follow N.CastFrom = after_primitive
follow N.InMemory = after_primitive
follow N.ReplaceEnd = after_primitive
follow N.SwapEnd = after_primitive
follow N.SwapRegion = after_primitive
follow N.Atom = after_atom
follow N.PlainAtom = after_atom
follow N.Constructor = after_constructor
follow N.ExitVariant = after_constructor
follow N.AtomInBrackets = after_atom
follow N.AfterConstructor = after_atom
follow N.TupleParts = after_atom
follow N.Arguments = after_atom
follow N.Atoms = after_computation

-- Each part is built by a function of its own. Written by tools/text_ways.py.
use Rattle.std.proofs.Common.{reverse}
use Rattle.text_table.specs.declared.part.Part.TheVariants as N
use Rattle.raw_reader.proofs.Places.{of_part, built_of_part}
use Rattle.raw_reader.proofs.building.build_part.Goals as goal

pub build_text-requires : goal.build_text-requires
build_text-requires c = of_part c.args.part N.Text c.args.index (reverse c.args.values.now) c.in-Text.is c.requires

pub returns-in-Text : goal.returns-in-Text
returns-in-Text c = built_of_part c.args.part N.Text c.args.index (reverse c.args.values.now) (reverse c.build_text.new.values) c.build_text.result c.in-Text.is c.build_text.ensures

pub build_types-requires : goal.build_types-requires
build_types-requires c = of_part c.args.part N.Types c.args.index (reverse c.args.values.now) c.in-Types.is c.requires

pub returns-in-Types : goal.returns-in-Types
returns-in-Types c = built_of_part c.args.part N.Types c.args.index (reverse c.args.values.now) (reverse c.build_types.new.values) c.build_types.result c.in-Types.is c.build_types.ensures

pub build_declaration-requires : goal.build_declaration-requires
build_declaration-requires c = of_part c.args.part N.Declaration c.args.index (reverse c.args.values.now) c.in-Declaration.is c.requires

pub returns-in-Declaration : goal.returns-in-Declaration
returns-in-Declaration c = built_of_part c.args.part N.Declaration c.args.index (reverse c.args.values.now) (reverse c.build_declaration.new.values) c.build_declaration.result c.in-Declaration.is c.build_declaration.ensures

pub build_type_parameters-requires : goal.build_type_parameters-requires
build_type_parameters-requires c = of_part c.args.part N.TypeParameters c.args.index (reverse c.args.values.now) c.in-TypeParameters.is c.requires

pub returns-in-TypeParameters : goal.returns-in-TypeParameters
returns-in-TypeParameters c = built_of_part c.args.part N.TypeParameters c.args.index (reverse c.args.values.now) (reverse c.build_type_parameters.new.values) c.build_type_parameters.result c.in-TypeParameters.is c.build_type_parameters.ensures

pub build_variants-requires : goal.build_variants-requires
build_variants-requires c = of_part c.args.part N.Variants c.args.index (reverse c.args.values.now) c.in-Variants.is c.requires

pub returns-in-Variants : goal.returns-in-Variants
returns-in-Variants c = built_of_part c.args.part N.Variants c.args.index (reverse c.args.values.now) (reverse c.build_variants.new.values) c.build_variants.result c.in-Variants.is c.build_variants.ensures

pub build_variant_type-requires : goal.build_variant_type-requires
build_variant_type-requires c = of_part c.args.part N.VariantType c.args.index (reverse c.args.values.now) c.in-VariantType.is c.requires

pub returns-in-VariantType : goal.returns-in-VariantType
returns-in-VariantType c = built_of_part c.args.part N.VariantType c.args.index (reverse c.args.values.now) (reverse c.build_variant_type.new.values) c.build_variant_type.result c.in-VariantType.is c.build_variant_type.ensures

pub build_variant_end-requires : goal.build_variant_end-requires
build_variant_end-requires c = of_part c.args.part N.VariantEnd c.args.index (reverse c.args.values.now) c.in-VariantEnd.is c.requires

pub returns-in-VariantEnd : goal.returns-in-VariantEnd
returns-in-VariantEnd c = built_of_part c.args.part N.VariantEnd c.args.index (reverse c.args.values.now) (reverse c.build_variant_end.new.values) c.build_variant_end.result c.in-VariantEnd.is c.build_variant_end.ensures

pub build_names-requires : goal.build_names-requires
build_names-requires c = of_part c.args.part N.Names c.args.index (reverse c.args.values.now) c.in-Names.is c.requires

pub returns-in-Names : goal.returns-in-Names
returns-in-Names c = built_of_part c.args.part N.Names c.args.index (reverse c.args.values.now) (reverse c.build_names.new.values) c.build_names.result c.in-Names.is c.build_names.ensures

pub build_fields-requires : goal.build_fields-requires
build_fields-requires c = of_part c.args.part N.Fields c.args.index (reverse c.args.values.now) c.in-Fields.is c.requires

pub returns-in-Fields : goal.returns-in-Fields
returns-in-Fields c = built_of_part c.args.part N.Fields c.args.index (reverse c.args.values.now) (reverse c.build_fields.new.values) c.build_fields.result c.in-Fields.is c.build_fields.ensures

pub build_type-requires : goal.build_type-requires
build_type-requires c = of_part c.args.part N.Type c.args.index (reverse c.args.values.now) c.in-Type.is c.requires

pub returns-in-Type : goal.returns-in-Type
returns-in-Type c = built_of_part c.args.part N.Type c.args.index (reverse c.args.values.now) (reverse c.build_type.new.values) c.build_type.result c.in-Type.is c.build_type.ensures

pub build_other_type-requires : goal.build_other_type-requires
build_other_type-requires c = of_part c.args.part N.OtherType c.args.index (reverse c.args.values.now) c.in-OtherType.is c.requires

pub returns-in-OtherType : goal.returns-in-OtherType
returns-in-OtherType c = built_of_part c.args.part N.OtherType c.args.index (reverse c.args.values.now) (reverse c.build_other_type.new.values) c.build_other_type.result c.in-OtherType.is c.build_other_type.ensures

pub build_type_in_brackets-requires : goal.build_type_in_brackets-requires
build_type_in_brackets-requires c = of_part c.args.part N.TypeInBrackets c.args.index (reverse c.args.values.now) c.in-TypeInBrackets.is c.requires

pub returns-in-TypeInBrackets : goal.returns-in-TypeInBrackets
returns-in-TypeInBrackets c = built_of_part c.args.part N.TypeInBrackets c.args.index (reverse c.args.values.now) (reverse c.build_type_in_brackets.new.values) c.build_type_in_brackets.result c.in-TypeInBrackets.is c.build_type_in_brackets.ensures

pub build_after_type_name-requires : goal.build_after_type_name-requires
build_after_type_name-requires c = of_part c.args.part N.AfterTypeName c.args.index (reverse c.args.values.now) c.in-AfterTypeName.is c.requires

pub returns-in-AfterTypeName : goal.returns-in-AfterTypeName
returns-in-AfterTypeName c = built_of_part c.args.part N.AfterTypeName c.args.index (reverse c.args.values.now) (reverse c.build_after_type_name.new.values) c.build_after_type_name.result c.in-AfterTypeName.is c.build_after_type_name.ensures

pub build_type_arguments-requires : goal.build_type_arguments-requires
build_type_arguments-requires c = of_part c.args.part N.TypeArguments c.args.index (reverse c.args.values.now) c.in-TypeArguments.is c.requires

pub returns-in-TypeArguments : goal.returns-in-TypeArguments
returns-in-TypeArguments c = built_of_part c.args.part N.TypeArguments c.args.index (reverse c.args.values.now) (reverse c.build_type_arguments.new.values) c.build_type_arguments.result c.in-TypeArguments.is c.build_type_arguments.ensures

pub build_factors-requires : goal.build_factors-requires
build_factors-requires c = of_part c.args.part N.Factors c.args.index (reverse c.args.values.now) c.in-Factors.is c.requires

pub returns-in-Factors : goal.returns-in-Factors
returns-in-Factors c = built_of_part c.args.part N.Factors c.args.index (reverse c.args.values.now) (reverse c.build_factors.new.values) c.build_factors.result c.in-Factors.is c.build_factors.ensures

pub build_definitions-requires : goal.build_definitions-requires
build_definitions-requires c = of_part c.args.part N.Definitions c.args.index (reverse c.args.values.now) c.in-Definitions.is c.requires

pub returns-in-Definitions : goal.returns-in-Definitions
returns-in-Definitions c = built_of_part c.args.part N.Definitions c.args.index (reverse c.args.values.now) (reverse c.build_definitions.new.values) c.build_definitions.result c.in-Definitions.is c.build_definitions.ensures

pub build_definition-requires : goal.build_definition-requires
build_definition-requires c = of_part c.args.part N.Definition c.args.index (reverse c.args.values.now) c.in-Definition.is c.requires

pub returns-in-Definition : goal.returns-in-Definition
returns-in-Definition c = built_of_part c.args.part N.Definition c.args.index (reverse c.args.values.now) (reverse c.build_definition.new.values) c.build_definition.result c.in-Definition.is c.build_definition.ensures

pub build_fuel_parameter-requires : goal.build_fuel_parameter-requires
build_fuel_parameter-requires c = of_part c.args.part N.FuelParameter c.args.index (reverse c.args.values.now) c.in-FuelParameter.is c.requires

pub returns-in-FuelParameter : goal.returns-in-FuelParameter
returns-in-FuelParameter c = built_of_part c.args.part N.FuelParameter c.args.index (reverse c.args.values.now) (reverse c.build_fuel_parameter.new.values) c.build_fuel_parameter.result c.in-FuelParameter.is c.build_fuel_parameter.ensures

pub build_fuel_match-requires : goal.build_fuel_match-requires
build_fuel_match-requires c = of_part c.args.part N.FuelMatch c.args.index (reverse c.args.values.now) c.in-FuelMatch.is c.requires

pub returns-in-FuelMatch : goal.returns-in-FuelMatch
returns-in-FuelMatch c = built_of_part c.args.part N.FuelMatch c.args.index (reverse c.args.values.now) (reverse c.build_fuel_match.new.values) c.build_fuel_match.result c.in-FuelMatch.is c.build_fuel_match.ensures

pub build_definition_name-requires : goal.build_definition_name-requires
build_definition_name-requires c = of_part c.args.part N.DefinitionName c.args.index (reverse c.args.values.now) c.in-DefinitionName.is c.requires

pub returns-in-DefinitionName : goal.returns-in-DefinitionName
returns-in-DefinitionName c = built_of_part c.args.part N.DefinitionName c.args.index (reverse c.args.values.now) (reverse c.build_definition_name.new.values) c.build_definition_name.result c.in-DefinitionName.is c.build_definition_name.ensures

pub build_name_end-requires : goal.build_name_end-requires
build_name_end-requires c = of_part c.args.part N.NameEnd c.args.index (reverse c.args.values.now) c.in-NameEnd.is c.requires

pub returns-in-NameEnd : goal.returns-in-NameEnd
returns-in-NameEnd c = built_of_part c.args.part N.NameEnd c.args.index (reverse c.args.values.now) (reverse c.build_name_end.new.values) c.build_name_end.result c.in-NameEnd.is c.build_name_end.ensures

pub build_name_part-requires : goal.build_name_part-requires
build_name_part-requires c = of_part c.args.part N.NamePart c.args.index (reverse c.args.values.now) c.in-NamePart.is c.requires

pub returns-in-NamePart : goal.returns-in-NamePart
returns-in-NamePart c = built_of_part c.args.part N.NamePart c.args.index (reverse c.args.values.now) (reverse c.build_name_part.new.values) c.build_name_part.result c.in-NamePart.is c.build_name_part.ensures

pub build_back_end-requires : goal.build_back_end-requires
build_back_end-requires c = of_part c.args.part N.BackEnd c.args.index (reverse c.args.values.now) c.in-BackEnd.is c.requires

pub returns-in-BackEnd : goal.returns-in-BackEnd
returns-in-BackEnd c = built_of_part c.args.part N.BackEnd c.args.index (reverse c.args.values.now) (reverse c.build_back_end.new.values) c.build_back_end.result c.in-BackEnd.is c.build_back_end.ensures

pub build_implicit_parameters-requires : goal.build_implicit_parameters-requires
build_implicit_parameters-requires c = of_part c.args.part N.ImplicitParameters c.args.index (reverse c.args.values.now) c.in-ImplicitParameters.is c.requires

pub returns-in-ImplicitParameters : goal.returns-in-ImplicitParameters
returns-in-ImplicitParameters c = built_of_part c.args.part N.ImplicitParameters c.args.index (reverse c.args.values.now) (reverse c.build_implicit_parameters.new.values) c.build_implicit_parameters.result c.in-ImplicitParameters.is c.build_implicit_parameters.ensures

pub build_parameters-requires : goal.build_parameters-requires
build_parameters-requires c = of_part c.args.part N.Parameters c.args.index (reverse c.args.values.now) c.in-Parameters.is c.requires

pub returns-in-Parameters : goal.returns-in-Parameters
returns-in-Parameters c = built_of_part c.args.part N.Parameters c.args.index (reverse c.args.values.now) (reverse c.build_parameters.new.values) c.build_parameters.result c.in-Parameters.is c.build_parameters.ensures

pub build_code-requires : goal.build_code-requires
build_code-requires c = of_part c.args.part N.Code c.args.index (reverse c.args.values.now) c.in-Code.is c.requires

pub returns-in-Code : goal.returns-in-Code
returns-in-Code c = built_of_part c.args.part N.Code c.args.index (reverse c.args.values.now) (reverse c.build_code.new.values) c.build_code.result c.in-Code.is c.build_code.ensures

pub build_bound-requires : goal.build_bound-requires
build_bound-requires c = of_part c.args.part N.Bound c.args.index (reverse c.args.values.now) c.in-Bound.is c.requires

pub returns-in-Bound : goal.returns-in-Bound
returns-in-Bound c = built_of_part c.args.part N.Bound c.args.index (reverse c.args.values.now) (reverse c.build_bound.new.values) c.build_bound.result c.in-Bound.is c.build_bound.ensures

pub build_arms-requires : goal.build_arms-requires
build_arms-requires c = of_part c.args.part N.Arms c.args.index (reverse c.args.values.now) c.in-Arms.is c.requires

pub returns-in-Arms : goal.returns-in-Arms
returns-in-Arms c = built_of_part c.args.part N.Arms c.args.index (reverse c.args.values.now) (reverse c.build_arms.new.values) c.build_arms.result c.in-Arms.is c.build_arms.ensures

pub build_pattern-requires : goal.build_pattern-requires
build_pattern-requires c = of_part c.args.part N.Pattern c.args.index (reverse c.args.values.now) c.in-Pattern.is c.requires

pub returns-in-Pattern : goal.returns-in-Pattern
returns-in-Pattern c = built_of_part c.args.part N.Pattern c.args.index (reverse c.args.values.now) (reverse c.build_pattern.new.values) c.build_pattern.result c.in-Pattern.is c.build_pattern.ensures

pub build_pattern_parts-requires : goal.build_pattern_parts-requires
build_pattern_parts-requires c = of_part c.args.part N.PatternParts c.args.index (reverse c.args.values.now) c.in-PatternParts.is c.requires

pub returns-in-PatternParts : goal.returns-in-PatternParts
returns-in-PatternParts c = built_of_part c.args.part N.PatternParts c.args.index (reverse c.args.values.now) (reverse c.build_pattern_parts.new.values) c.build_pattern_parts.result c.in-PatternParts.is c.build_pattern_parts.ensures

pub build_variables-requires : goal.build_variables-requires
build_variables-requires c = of_part c.args.part N.Variables c.args.index (reverse c.args.values.now) c.in-Variables.is c.requires

pub returns-in-Variables : goal.returns-in-Variables
returns-in-Variables c = built_of_part c.args.part N.Variables c.args.index (reverse c.args.values.now) (reverse c.build_variables.new.values) c.build_variables.result c.in-Variables.is c.build_variables.ensures

pub build_computation-requires : goal.build_computation-requires
build_computation-requires c = of_part c.args.part N.Computation c.args.index (reverse c.args.values.now) c.in-Computation.is c.requires

pub returns-in-Computation : goal.returns-in-Computation
returns-in-Computation c = built_of_part c.args.part N.Computation c.args.index (reverse c.args.values.now) (reverse c.build_computation.new.values) c.build_computation.result c.in-Computation.is c.build_computation.ensures

pub build_primitive-requires : goal.build_primitive-requires
build_primitive-requires c = of_part c.args.part N.Primitive c.args.index (reverse c.args.values.now) c.in-Primitive.is c.requires

pub returns-in-Primitive : goal.returns-in-Primitive
returns-in-Primitive c = built_of_part c.args.part N.Primitive c.args.index (reverse c.args.values.now) (reverse c.build_primitive.new.values) c.build_primitive.result c.in-Primitive.is c.build_primitive.ensures

pub build_cast_from-requires : goal.build_cast_from-requires
build_cast_from-requires c = of_part c.args.part N.CastFrom c.args.index (reverse c.args.values.now) c.in-CastFrom.is c.requires

pub returns-in-CastFrom : goal.returns-in-CastFrom
returns-in-CastFrom c = built_of_part c.args.part N.CastFrom c.args.index (reverse c.args.values.now) (reverse c.build_cast_from.new.values) c.build_cast_from.result c.in-CastFrom.is c.build_cast_from.ensures

pub build_in_memory-requires : goal.build_in_memory-requires
build_in_memory-requires c = of_part c.args.part N.InMemory c.args.index (reverse c.args.values.now) c.in-InMemory.is c.requires

pub returns-in-InMemory : goal.returns-in-InMemory
returns-in-InMemory c = built_of_part c.args.part N.InMemory c.args.index (reverse c.args.values.now) (reverse c.build_in_memory.new.values) c.build_in_memory.result c.in-InMemory.is c.build_in_memory.ensures

pub build_replace_end-requires : goal.build_replace_end-requires
build_replace_end-requires c = of_part c.args.part N.ReplaceEnd c.args.index (reverse c.args.values.now) c.in-ReplaceEnd.is c.requires

pub returns-in-ReplaceEnd : goal.returns-in-ReplaceEnd
returns-in-ReplaceEnd c = built_of_part c.args.part N.ReplaceEnd c.args.index (reverse c.args.values.now) (reverse c.build_replace_end.new.values) c.build_replace_end.result c.in-ReplaceEnd.is c.build_replace_end.ensures

pub build_swap_end-requires : goal.build_swap_end-requires
build_swap_end-requires c = of_part c.args.part N.SwapEnd c.args.index (reverse c.args.values.now) c.in-SwapEnd.is c.requires

pub returns-in-SwapEnd : goal.returns-in-SwapEnd
returns-in-SwapEnd c = built_of_part c.args.part N.SwapEnd c.args.index (reverse c.args.values.now) (reverse c.build_swap_end.new.values) c.build_swap_end.result c.in-SwapEnd.is c.build_swap_end.ensures

pub build_swap_region-requires : goal.build_swap_region-requires
build_swap_region-requires c = of_part c.args.part N.SwapRegion c.args.index (reverse c.args.values.now) c.in-SwapRegion.is c.requires

pub returns-in-SwapRegion : goal.returns-in-SwapRegion
returns-in-SwapRegion c = built_of_part c.args.part N.SwapRegion c.args.index (reverse c.args.values.now) (reverse c.build_swap_region.new.values) c.build_swap_region.result c.in-SwapRegion.is c.build_swap_region.ensures

pub build_atom-requires : goal.build_atom-requires
build_atom-requires c = of_part c.args.part N.Atom c.args.index (reverse c.args.values.now) c.in-Atom.is c.requires

pub returns-in-Atom : goal.returns-in-Atom
returns-in-Atom c = built_of_part c.args.part N.Atom c.args.index (reverse c.args.values.now) (reverse c.build_atom.new.values) c.build_atom.result c.in-Atom.is c.build_atom.ensures

pub build_plain_atom-requires : goal.build_plain_atom-requires
build_plain_atom-requires c = of_part c.args.part N.PlainAtom c.args.index (reverse c.args.values.now) c.in-PlainAtom.is c.requires

pub returns-in-PlainAtom : goal.returns-in-PlainAtom
returns-in-PlainAtom c = built_of_part c.args.part N.PlainAtom c.args.index (reverse c.args.values.now) (reverse c.build_plain_atom.new.values) c.build_plain_atom.result c.in-PlainAtom.is c.build_plain_atom.ensures

pub build_constructor-requires : goal.build_constructor-requires
build_constructor-requires c = of_part c.args.part N.Constructor c.args.index (reverse c.args.values.now) c.in-Constructor.is c.requires

pub returns-in-Constructor : goal.returns-in-Constructor
returns-in-Constructor c = built_of_part c.args.part N.Constructor c.args.index (reverse c.args.values.now) (reverse c.build_constructor.new.values) c.build_constructor.result c.in-Constructor.is c.build_constructor.ensures

pub build_exit_variant-requires : goal.build_exit_variant-requires
build_exit_variant-requires c = of_part c.args.part N.ExitVariant c.args.index (reverse c.args.values.now) c.in-ExitVariant.is c.requires

pub returns-in-ExitVariant : goal.returns-in-ExitVariant
returns-in-ExitVariant c = built_of_part c.args.part N.ExitVariant c.args.index (reverse c.args.values.now) (reverse c.build_exit_variant.new.values) c.build_exit_variant.result c.in-ExitVariant.is c.build_exit_variant.ensures

pub build_atom_in_brackets-requires : goal.build_atom_in_brackets-requires
build_atom_in_brackets-requires c = of_part c.args.part N.AtomInBrackets c.args.index (reverse c.args.values.now) c.in-AtomInBrackets.is c.requires

pub returns-in-AtomInBrackets : goal.returns-in-AtomInBrackets
returns-in-AtomInBrackets c = built_of_part c.args.part N.AtomInBrackets c.args.index (reverse c.args.values.now) (reverse c.build_atom_in_brackets.new.values) c.build_atom_in_brackets.result c.in-AtomInBrackets.is c.build_atom_in_brackets.ensures

pub build_after_constructor-requires : goal.build_after_constructor-requires
build_after_constructor-requires c = of_part c.args.part N.AfterConstructor c.args.index (reverse c.args.values.now) c.in-AfterConstructor.is c.requires

pub returns-in-AfterConstructor : goal.returns-in-AfterConstructor
returns-in-AfterConstructor c = built_of_part c.args.part N.AfterConstructor c.args.index (reverse c.args.values.now) (reverse c.build_after_constructor.new.values) c.build_after_constructor.result c.in-AfterConstructor.is c.build_after_constructor.ensures

pub build_tuple_parts-requires : goal.build_tuple_parts-requires
build_tuple_parts-requires c = of_part c.args.part N.TupleParts c.args.index (reverse c.args.values.now) c.in-TupleParts.is c.requires

pub returns-in-TupleParts : goal.returns-in-TupleParts
returns-in-TupleParts c = built_of_part c.args.part N.TupleParts c.args.index (reverse c.args.values.now) (reverse c.build_tuple_parts.new.values) c.build_tuple_parts.result c.in-TupleParts.is c.build_tuple_parts.ensures

pub build_arguments-requires : goal.build_arguments-requires
build_arguments-requires c = of_part c.args.part N.Arguments c.args.index (reverse c.args.values.now) c.in-Arguments.is c.requires

pub returns-in-Arguments : goal.returns-in-Arguments
returns-in-Arguments c = built_of_part c.args.part N.Arguments c.args.index (reverse c.args.values.now) (reverse c.build_arguments.new.values) c.build_arguments.result c.in-Arguments.is c.build_arguments.ensures

pub build_atoms-requires : goal.build_atoms-requires
build_atoms-requires c = of_part c.args.part N.Atoms c.args.index (reverse c.args.values.now) c.in-Atoms.is c.requires

pub returns-in-Atoms : goal.returns-in-Atoms
returns-in-Atoms c = built_of_part c.args.part N.Atoms c.args.index (reverse c.args.values.now) (reverse c.build_atoms.new.values) c.build_atoms.result c.in-Atoms.is c.build_atoms.ensures

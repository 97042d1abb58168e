-- What `list_more` calls builds the part. Written by tools/source_build.py.
use Rattle.source_grammar.specs.declared.part.Listed.{Listed}
use Rattle.std.proofs.Common.{ap, reverse}
use Rattle.source_grammar.specs.declared.part.Part.TheVariants as N
use Rattle.source_grammar.specs.declared.part.Listed.TheVariants as Of
use Rattle.source_builder.proofs.Places.{of_part, is_of_part}
use Rattle.source_builder.proofs.building.lists.list_more.Goals as goal

pub type_parameters_1-requires : goal.type_parameters_1-requires
type_parameters_1-requires c =
    let h = of_part (N.ListRest c.args.listed) (N.ListRest Of.Names) 1 (reverse c.args.values.now) (ap (λ (x : Listed). (N.ListRest x)) c.in-Names.is) c.requires in
    record { value = h.value; below = h.below; makes = h.makes }

pub returns-in-Names : goal.returns-in-Names
returns-in-Names c =
    is_of_part (N.ListRest c.args.listed) (N.ListRest Of.Names) 1 (reverse c.args.values.now) (reverse c.type_parameters_1.new.values) c.type_parameters_1.result (ap (λ (x : Listed). (N.ListRest x)) c.in-Names.is) c.type_parameters_1.ensures

pub type_parameters_1-requires-in-TypeNames : goal.type_parameters_1-requires-in-TypeNames
type_parameters_1-requires-in-TypeNames c =
    let h = of_part (N.ListRest c.args.listed) (N.ListRest Of.TypeNames) 1 (reverse c.args.values.now) (ap (λ (x : Listed). (N.ListRest x)) c.in-TypeNames.is) c.requires in
    record { value = h.value; below = h.below; makes = h.makes }

pub returns-in-TypeNames : goal.returns-in-TypeNames
returns-in-TypeNames c =
    is_of_part (N.ListRest c.args.listed) (N.ListRest Of.TypeNames) 1 (reverse c.args.values.now) (reverse c.type_parameters_1-in-TypeNames.new.values) c.type_parameters_1-in-TypeNames.result (ap (λ (x : Listed). (N.ListRest x)) c.in-TypeNames.is) c.type_parameters_1-in-TypeNames.ensures

pub list_rest_parameters_1-requires : goal.list_rest_parameters_1-requires
list_rest_parameters_1-requires c =
    let h = of_part (N.ListRest c.args.listed) (N.ListRest Of.Parameters) 1 (reverse c.args.values.now) (ap (λ (x : Listed). (N.ListRest x)) c.in-Parameters.is) c.requires in
    record { value = h.value; below = h.below; makes = h.makes }

pub returns-in-Parameters : goal.returns-in-Parameters
returns-in-Parameters c =
    is_of_part (N.ListRest c.args.listed) (N.ListRest Of.Parameters) 1 (reverse c.args.values.now) (reverse c.list_rest_parameters_1.new.values) c.list_rest_parameters_1.result (ap (λ (x : Listed). (N.ListRest x)) c.in-Parameters.is) c.list_rest_parameters_1.ensures

pub list_rest_fields_1-requires : goal.list_rest_fields_1-requires
list_rest_fields_1-requires c =
    let h = of_part (N.ListRest c.args.listed) (N.ListRest Of.Fields) 1 (reverse c.args.values.now) (ap (λ (x : Listed). (N.ListRest x)) c.in-Fields.is) c.requires in
    record { value = h.value; below = h.below; makes = h.makes }

pub returns-in-Fields : goal.returns-in-Fields
returns-in-Fields c =
    is_of_part (N.ListRest c.args.listed) (N.ListRest Of.Fields) 1 (reverse c.args.values.now) (reverse c.list_rest_fields_1.new.values) c.list_rest_fields_1.result (ap (λ (x : Listed). (N.ListRest x)) c.in-Fields.is) c.list_rest_fields_1.ensures

pub variant_body_1-requires : goal.variant_body_1-requires
variant_body_1-requires c =
    let h = of_part (N.ListRest c.args.listed) (N.ListRest Of.TupleFields) 1 (reverse c.args.values.now) (ap (λ (x : Listed). (N.ListRest x)) c.in-TupleFields.is) c.requires in
    record { value = h.value; below = h.below; makes = h.makes }

pub returns-in-TupleFields : goal.returns-in-TupleFields
returns-in-TupleFields c =
    is_of_part (N.ListRest c.args.listed) (N.ListRest Of.TupleFields) 1 (reverse c.args.values.now) (reverse c.variant_body_1.new.values) c.variant_body_1.result (ap (λ (x : Listed). (N.ListRest x)) c.in-TupleFields.is) c.variant_body_1.ensures

pub list_rest_variants_1-requires : goal.list_rest_variants_1-requires
list_rest_variants_1-requires c =
    let h = of_part (N.ListRest c.args.listed) (N.ListRest Of.Variants) 1 (reverse c.args.values.now) (ap (λ (x : Listed). (N.ListRest x)) c.in-Variants.is) c.requires in
    record { value = h.value; below = h.below; makes = h.makes }

pub returns-in-Variants : goal.returns-in-Variants
returns-in-Variants c =
    is_of_part (N.ListRest c.args.listed) (N.ListRest Of.Variants) 1 (reverse c.args.values.now) (reverse c.list_rest_variants_1.new.values) c.list_rest_variants_1.result (ap (λ (x : Listed). (N.ListRest x)) c.in-Variants.is) c.list_rest_variants_1.ensures

pub variant_body_1-requires-in-TypesInAngles : goal.variant_body_1-requires-in-TypesInAngles
variant_body_1-requires-in-TypesInAngles c =
    let h = of_part (N.ListRest c.args.listed) (N.ListRest Of.TypesInAngles) 1 (reverse c.args.values.now) (ap (λ (x : Listed). (N.ListRest x)) c.in-TypesInAngles.is) c.requires in
    record { value = h.value; below = h.below; makes = h.makes }

pub returns-in-TypesInAngles : goal.returns-in-TypesInAngles
returns-in-TypesInAngles c =
    is_of_part (N.ListRest c.args.listed) (N.ListRest Of.TypesInAngles) 1 (reverse c.args.values.now) (reverse c.variant_body_1-in-TypesInAngles.new.values) c.variant_body_1-in-TypesInAngles.result (ap (λ (x : Listed). (N.ListRest x)) c.in-TypesInAngles.is) c.variant_body_1-in-TypesInAngles.ensures

pub variant_body_1-requires-in-Types : goal.variant_body_1-requires-in-Types
variant_body_1-requires-in-Types c =
    let h = of_part (N.ListRest c.args.listed) (N.ListRest Of.Types) 1 (reverse c.args.values.now) (ap (λ (x : Listed). (N.ListRest x)) c.in-Types.is) c.requires in
    record { value = h.value; below = h.below; makes = h.makes }

pub returns-in-Types : goal.returns-in-Types
returns-in-Types c =
    is_of_part (N.ListRest c.args.listed) (N.ListRest Of.Types) 1 (reverse c.args.values.now) (reverse c.variant_body_1-in-Types.new.values) c.variant_body_1-in-Types.result (ap (λ (x : Listed). (N.ListRest x)) c.in-Types.is) c.variant_body_1-in-Types.ensures

pub list_rest_arguments_1-requires : goal.list_rest_arguments_1-requires
list_rest_arguments_1-requires c =
    let h = of_part (N.ListRest c.args.listed) (N.ListRest Of.Arguments) 1 (reverse c.args.values.now) (ap (λ (x : Listed). (N.ListRest x)) c.in-Arguments.is) c.requires in
    record { value = h.value; below = h.below; makes = h.makes }

pub returns-in-Arguments : goal.returns-in-Arguments
returns-in-Arguments c =
    is_of_part (N.ListRest c.args.listed) (N.ListRest Of.Arguments) 1 (reverse c.args.values.now) (reverse c.list_rest_arguments_1.new.values) c.list_rest_arguments_1.result (ap (λ (x : Listed). (N.ListRest x)) c.in-Arguments.is) c.list_rest_arguments_1.ensures

pub list_rest_initials_1-requires : goal.list_rest_initials_1-requires
list_rest_initials_1-requires c =
    let h = of_part (N.ListRest c.args.listed) (N.ListRest Of.Initials) 1 (reverse c.args.values.now) (ap (λ (x : Listed). (N.ListRest x)) c.in-Initials.is) c.requires in
    record { value = h.value; below = h.below; makes = h.makes }

pub returns-in-Initials : goal.returns-in-Initials
returns-in-Initials c =
    is_of_part (N.ListRest c.args.listed) (N.ListRest Of.Initials) 1 (reverse c.args.values.now) (reverse c.list_rest_initials_1.new.values) c.list_rest_initials_1.result (ap (λ (x : Listed). (N.ListRest x)) c.in-Initials.is) c.list_rest_initials_1.ensures

pub list_rest_patterns_1-requires : goal.list_rest_patterns_1-requires
list_rest_patterns_1-requires c =
    let h = of_part (N.ListRest c.args.listed) (N.ListRest Of.Patterns) 1 (reverse c.args.values.now) (ap (λ (x : Listed). (N.ListRest x)) c.in-Patterns.is) c.requires in
    record { value = h.value; below = h.below; makes = h.makes }

pub returns-in-Patterns : goal.returns-in-Patterns
returns-in-Patterns c =
    is_of_part (N.ListRest c.args.listed) (N.ListRest Of.Patterns) 1 (reverse c.args.values.now) (reverse c.list_rest_patterns_1.new.values) c.list_rest_patterns_1.result (ap (λ (x : Listed). (N.ListRest x)) c.in-Patterns.is) c.list_rest_patterns_1.ensures

pub list_rest_field_patterns_1-requires : goal.list_rest_field_patterns_1-requires
list_rest_field_patterns_1-requires c =
    let h = of_part (N.ListRest c.args.listed) (N.ListRest Of.FieldPatterns) 1 (reverse c.args.values.now) (ap (λ (x : Listed). (N.ListRest x)) c.in-FieldPatterns.is) c.requires in
    record { value = h.value; below = h.below; makes = h.makes }

pub returns-in-FieldPatterns : goal.returns-in-FieldPatterns
returns-in-FieldPatterns c =
    is_of_part (N.ListRest c.args.listed) (N.ListRest Of.FieldPatterns) 1 (reverse c.args.values.now) (reverse c.list_rest_field_patterns_1.new.values) c.list_rest_field_patterns_1.result (ap (λ (x : Listed). (N.ListRest x)) c.in-FieldPatterns.is) c.list_rest_field_patterns_1.ensures

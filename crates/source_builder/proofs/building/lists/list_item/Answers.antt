-- What `list_item` calls builds the part. Written by tools/source_build.py.
use Rattle.source_grammar.specs.declared.part.Listed.{Listed}
use Rattle.std.proofs.Common.{ap, reverse}
use Rattle.source_grammar.specs.declared.part.Part.TheVariants as N
use Rattle.source_grammar.specs.declared.part.Listed.TheVariants as Of
use Rattle.source_builder.proofs.Places.{of_part, built_of_part}
use Rattle.source_builder.proofs.building.lists.list_item.Goals as goal

pub list_names_1-requires : goal.list_names_1-requires
list_names_1-requires c =
    let h = of_part (N.List c.args.listed) (N.List Of.Names) 1 (reverse c.args.values.now) (ap (λ (x : Listed). (N.List x)) c.in-Names.is) c.requires in
    record { value = h.value; below = h.below; makes = h.makes }

pub returns-in-Names : goal.returns-in-Names
returns-in-Names c =
    built_of_part (N.List c.args.listed) (N.List Of.Names) 1 (reverse c.args.values.now) (reverse c.list_names_1.new.values) c.list_names_1.result (ap (λ (x : Listed). (N.List x)) c.in-Names.is) c.list_names_1.ensures

pub list_names_1-requires-in-TypeNames : goal.list_names_1-requires-in-TypeNames
list_names_1-requires-in-TypeNames c =
    let h = of_part (N.List c.args.listed) (N.List Of.TypeNames) 1 (reverse c.args.values.now) (ap (λ (x : Listed). (N.List x)) c.in-TypeNames.is) c.requires in
    record { value = h.value; below = h.below; makes = h.makes }

pub returns-in-TypeNames : goal.returns-in-TypeNames
returns-in-TypeNames c =
    built_of_part (N.List c.args.listed) (N.List Of.TypeNames) 1 (reverse c.args.values.now) (reverse c.list_names_1-in-TypeNames.new.values) c.list_names_1-in-TypeNames.result (ap (λ (x : Listed). (N.List x)) c.in-TypeNames.is) c.list_names_1-in-TypeNames.ensures

pub list_parameters_1-requires : goal.list_parameters_1-requires
list_parameters_1-requires c =
    let h = of_part (N.List c.args.listed) (N.List Of.Parameters) 1 (reverse c.args.values.now) (ap (λ (x : Listed). (N.List x)) c.in-Parameters.is) c.requires in
    record { value = h.value; below = h.below; makes = h.makes }

pub returns-in-Parameters : goal.returns-in-Parameters
returns-in-Parameters c =
    built_of_part (N.List c.args.listed) (N.List Of.Parameters) 1 (reverse c.args.values.now) (reverse c.list_parameters_1.new.values) c.list_parameters_1.result (ap (λ (x : Listed). (N.List x)) c.in-Parameters.is) c.list_parameters_1.ensures

pub list_fields_1-requires : goal.list_fields_1-requires
list_fields_1-requires c =
    let h = of_part (N.List c.args.listed) (N.List Of.Fields) 1 (reverse c.args.values.now) (ap (λ (x : Listed). (N.List x)) c.in-Fields.is) c.requires in
    record { value = h.value; below = h.below; makes = h.makes }

pub returns-in-Fields : goal.returns-in-Fields
returns-in-Fields c =
    built_of_part (N.List c.args.listed) (N.List Of.Fields) 1 (reverse c.args.values.now) (reverse c.list_fields_1.new.values) c.list_fields_1.result (ap (λ (x : Listed). (N.List x)) c.in-Fields.is) c.list_fields_1.ensures

pub after_type_open_1-requires : goal.after_type_open_1-requires
after_type_open_1-requires c =
    let h = of_part (N.List c.args.listed) (N.List Of.TupleFields) 1 (reverse c.args.values.now) (ap (λ (x : Listed). (N.List x)) c.in-TupleFields.is) c.requires in
    record { value = h.value; below = h.below; makes = h.makes }

pub returns-in-TupleFields : goal.returns-in-TupleFields
returns-in-TupleFields c =
    built_of_part (N.List c.args.listed) (N.List Of.TupleFields) 1 (reverse c.args.values.now) (reverse c.after_type_open_1.new.values) c.after_type_open_1.result (ap (λ (x : Listed). (N.List x)) c.in-TupleFields.is) c.after_type_open_1.ensures

pub list_variants_1-requires : goal.list_variants_1-requires
list_variants_1-requires c =
    let h = of_part (N.List c.args.listed) (N.List Of.Variants) 1 (reverse c.args.values.now) (ap (λ (x : Listed). (N.List x)) c.in-Variants.is) c.requires in
    record { value = h.value; below = h.below; makes = h.makes }

pub returns-in-Variants : goal.returns-in-Variants
returns-in-Variants c =
    built_of_part (N.List c.args.listed) (N.List Of.Variants) 1 (reverse c.args.values.now) (reverse c.list_variants_1.new.values) c.list_variants_1.result (ap (λ (x : Listed). (N.List x)) c.in-Variants.is) c.list_variants_1.ensures

pub after_type_open_1-requires-in-TypesInAngles : goal.after_type_open_1-requires-in-TypesInAngles
after_type_open_1-requires-in-TypesInAngles c =
    let h = of_part (N.List c.args.listed) (N.List Of.TypesInAngles) 1 (reverse c.args.values.now) (ap (λ (x : Listed). (N.List x)) c.in-TypesInAngles.is) c.requires in
    record { value = h.value; below = h.below; makes = h.makes }

pub returns-in-TypesInAngles : goal.returns-in-TypesInAngles
returns-in-TypesInAngles c =
    built_of_part (N.List c.args.listed) (N.List Of.TypesInAngles) 1 (reverse c.args.values.now) (reverse c.after_type_open_1-in-TypesInAngles.new.values) c.after_type_open_1-in-TypesInAngles.result (ap (λ (x : Listed). (N.List x)) c.in-TypesInAngles.is) c.after_type_open_1-in-TypesInAngles.ensures

pub after_type_open_1-requires-in-Types : goal.after_type_open_1-requires-in-Types
after_type_open_1-requires-in-Types c =
    let h = of_part (N.List c.args.listed) (N.List Of.Types) 1 (reverse c.args.values.now) (ap (λ (x : Listed). (N.List x)) c.in-Types.is) c.requires in
    record { value = h.value; below = h.below; makes = h.makes }

pub returns-in-Types : goal.returns-in-Types
returns-in-Types c =
    built_of_part (N.List c.args.listed) (N.List Of.Types) 1 (reverse c.args.values.now) (reverse c.after_type_open_1-in-Types.new.values) c.after_type_open_1-in-Types.result (ap (λ (x : Listed). (N.List x)) c.in-Types.is) c.after_type_open_1-in-Types.ensures

pub after_open_1-requires : goal.after_open_1-requires
after_open_1-requires c =
    let h = of_part (N.List c.args.listed) (N.List Of.Arguments) 1 (reverse c.args.values.now) (ap (λ (x : Listed). (N.List x)) c.in-Arguments.is) c.requires in
    record { value = h.value; below = h.below; makes = h.makes }

pub returns-in-Arguments : goal.returns-in-Arguments
returns-in-Arguments c =
    built_of_part (N.List c.args.listed) (N.List Of.Arguments) 1 (reverse c.args.values.now) (reverse c.after_open_1.new.values) c.after_open_1.result (ap (λ (x : Listed). (N.List x)) c.in-Arguments.is) c.after_open_1.ensures

pub list_initials_1-requires : goal.list_initials_1-requires
list_initials_1-requires c =
    let h = of_part (N.List c.args.listed) (N.List Of.Initials) 1 (reverse c.args.values.now) (ap (λ (x : Listed). (N.List x)) c.in-Initials.is) c.requires in
    record { value = h.value; below = h.below; makes = h.makes }

pub returns-in-Initials : goal.returns-in-Initials
returns-in-Initials c =
    built_of_part (N.List c.args.listed) (N.List Of.Initials) 1 (reverse c.args.values.now) (reverse c.list_initials_1.new.values) c.list_initials_1.result (ap (λ (x : Listed). (N.List x)) c.in-Initials.is) c.list_initials_1.ensures

pub after_pattern_open_1-requires : goal.after_pattern_open_1-requires
after_pattern_open_1-requires c =
    let h = of_part (N.List c.args.listed) (N.List Of.Patterns) 1 (reverse c.args.values.now) (ap (λ (x : Listed). (N.List x)) c.in-Patterns.is) c.requires in
    record { value = h.value; below = h.below; makes = h.makes }

pub returns-in-Patterns : goal.returns-in-Patterns
returns-in-Patterns c =
    built_of_part (N.List c.args.listed) (N.List Of.Patterns) 1 (reverse c.args.values.now) (reverse c.after_pattern_open_1.new.values) c.after_pattern_open_1.result (ap (λ (x : Listed). (N.List x)) c.in-Patterns.is) c.after_pattern_open_1.ensures

pub list_field_patterns_1-requires : goal.list_field_patterns_1-requires
list_field_patterns_1-requires c =
    let h = of_part (N.List c.args.listed) (N.List Of.FieldPatterns) 1 (reverse c.args.values.now) (ap (λ (x : Listed). (N.List x)) c.in-FieldPatterns.is) c.requires in
    record { value = h.value; below = h.below; makes = h.makes }

pub returns-in-FieldPatterns : goal.returns-in-FieldPatterns
returns-in-FieldPatterns c =
    built_of_part (N.List c.args.listed) (N.List Of.FieldPatterns) 1 (reverse c.args.values.now) (reverse c.list_field_patterns_1.new.values) c.list_field_patterns_1.result (ap (λ (x : Listed). (N.List x)) c.in-FieldPatterns.is) c.list_field_patterns_1.ensures

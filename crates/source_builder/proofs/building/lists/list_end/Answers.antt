-- What `list_end` calls builds the part. Written by tools/source_build.py.
use Rattle.source_grammar.specs.declared.part.Listed.{Listed}
use Rattle.std.proofs.Common.{ap, reverse}
use Rattle.source_grammar.specs.declared.part.Part.TheVariants as N
use Rattle.source_grammar.specs.declared.part.Listed.TheVariants as Of
use Rattle.source_builder.proofs.Places.{of_part, is_of_part}
use Rattle.source_builder.proofs.building.lists.list_end.Goals as goal

pub list_names_0-requires : goal.list_names_0-requires
list_names_0-requires c =
    let h = of_part (N.List c.args.listed) (N.List Of.Names) 0 (reverse c.args.values.now) (ap (λ (x : Listed). (N.List x)) c.in-Names.is) c.requires in
    record { value = h.value; below = h.below; makes = h.makes }

pub returns-in-Names : goal.returns-in-Names
returns-in-Names c =
    is_of_part (N.List c.args.listed) (N.List Of.Names) 0 (reverse c.args.values.now) (reverse c.list_names_0.new.values) c.list_names_0.result (ap (λ (x : Listed). (N.List x)) c.in-Names.is) c.list_names_0.ensures

pub list_names_0-requires-in-TypeNames : goal.list_names_0-requires-in-TypeNames
list_names_0-requires-in-TypeNames c =
    let h = of_part (N.List c.args.listed) (N.List Of.TypeNames) 0 (reverse c.args.values.now) (ap (λ (x : Listed). (N.List x)) c.in-TypeNames.is) c.requires in
    record { value = h.value; below = h.below; makes = h.makes }

pub returns-in-TypeNames : goal.returns-in-TypeNames
returns-in-TypeNames c =
    is_of_part (N.List c.args.listed) (N.List Of.TypeNames) 0 (reverse c.args.values.now) (reverse c.list_names_0-in-TypeNames.new.values) c.list_names_0-in-TypeNames.result (ap (λ (x : Listed). (N.List x)) c.in-TypeNames.is) c.list_names_0-in-TypeNames.ensures

pub list_parameters_0-requires : goal.list_parameters_0-requires
list_parameters_0-requires c =
    let h = of_part (N.List c.args.listed) (N.List Of.Parameters) 0 (reverse c.args.values.now) (ap (λ (x : Listed). (N.List x)) c.in-Parameters.is) c.requires in
    record { value = h.value; below = h.below; makes = h.makes }

pub returns-in-Parameters : goal.returns-in-Parameters
returns-in-Parameters c =
    is_of_part (N.List c.args.listed) (N.List Of.Parameters) 0 (reverse c.args.values.now) (reverse c.list_parameters_0.new.values) c.list_parameters_0.result (ap (λ (x : Listed). (N.List x)) c.in-Parameters.is) c.list_parameters_0.ensures

pub list_fields_0-requires : goal.list_fields_0-requires
list_fields_0-requires c =
    let h = of_part (N.List c.args.listed) (N.List Of.Fields) 0 (reverse c.args.values.now) (ap (λ (x : Listed). (N.List x)) c.in-Fields.is) c.requires in
    record { value = h.value; below = h.below; makes = h.makes }

pub returns-in-Fields : goal.returns-in-Fields
returns-in-Fields c =
    is_of_part (N.List c.args.listed) (N.List Of.Fields) 0 (reverse c.args.values.now) (reverse c.list_fields_0.new.values) c.list_fields_0.result (ap (λ (x : Listed). (N.List x)) c.in-Fields.is) c.list_fields_0.ensures

pub after_type_open_0-requires : goal.after_type_open_0-requires
after_type_open_0-requires c =
    let h = of_part (N.List c.args.listed) (N.List Of.TupleFields) 0 (reverse c.args.values.now) (ap (λ (x : Listed). (N.List x)) c.in-TupleFields.is) c.requires in
    record { value = h.value; below = h.below; makes = h.makes }

pub returns-in-TupleFields : goal.returns-in-TupleFields
returns-in-TupleFields c =
    is_of_part (N.List c.args.listed) (N.List Of.TupleFields) 0 (reverse c.args.values.now) (reverse c.after_type_open_0.new.values) c.after_type_open_0.result (ap (λ (x : Listed). (N.List x)) c.in-TupleFields.is) c.after_type_open_0.ensures

pub list_variants_0-requires : goal.list_variants_0-requires
list_variants_0-requires c =
    let h = of_part (N.List c.args.listed) (N.List Of.Variants) 0 (reverse c.args.values.now) (ap (λ (x : Listed). (N.List x)) c.in-Variants.is) c.requires in
    record { value = h.value; below = h.below; makes = h.makes }

pub returns-in-Variants : goal.returns-in-Variants
returns-in-Variants c =
    is_of_part (N.List c.args.listed) (N.List Of.Variants) 0 (reverse c.args.values.now) (reverse c.list_variants_0.new.values) c.list_variants_0.result (ap (λ (x : Listed). (N.List x)) c.in-Variants.is) c.list_variants_0.ensures

pub after_type_open_0-requires-in-TypesInAngles : goal.after_type_open_0-requires-in-TypesInAngles
after_type_open_0-requires-in-TypesInAngles c =
    let h = of_part (N.List c.args.listed) (N.List Of.TypesInAngles) 0 (reverse c.args.values.now) (ap (λ (x : Listed). (N.List x)) c.in-TypesInAngles.is) c.requires in
    record { value = h.value; below = h.below; makes = h.makes }

pub returns-in-TypesInAngles : goal.returns-in-TypesInAngles
returns-in-TypesInAngles c =
    is_of_part (N.List c.args.listed) (N.List Of.TypesInAngles) 0 (reverse c.args.values.now) (reverse c.after_type_open_0-in-TypesInAngles.new.values) c.after_type_open_0-in-TypesInAngles.result (ap (λ (x : Listed). (N.List x)) c.in-TypesInAngles.is) c.after_type_open_0-in-TypesInAngles.ensures

pub after_type_open_0-requires-in-Types : goal.after_type_open_0-requires-in-Types
after_type_open_0-requires-in-Types c =
    let h = of_part (N.List c.args.listed) (N.List Of.Types) 0 (reverse c.args.values.now) (ap (λ (x : Listed). (N.List x)) c.in-Types.is) c.requires in
    record { value = h.value; below = h.below; makes = h.makes }

pub returns-in-Types : goal.returns-in-Types
returns-in-Types c =
    is_of_part (N.List c.args.listed) (N.List Of.Types) 0 (reverse c.args.values.now) (reverse c.after_type_open_0-in-Types.new.values) c.after_type_open_0-in-Types.result (ap (λ (x : Listed). (N.List x)) c.in-Types.is) c.after_type_open_0-in-Types.ensures

pub after_open_0-requires : goal.after_open_0-requires
after_open_0-requires c =
    let h = of_part (N.List c.args.listed) (N.List Of.Arguments) 0 (reverse c.args.values.now) (ap (λ (x : Listed). (N.List x)) c.in-Arguments.is) c.requires in
    record { value = h.value; below = h.below; makes = h.makes }

pub returns-in-Arguments : goal.returns-in-Arguments
returns-in-Arguments c =
    is_of_part (N.List c.args.listed) (N.List Of.Arguments) 0 (reverse c.args.values.now) (reverse c.after_open_0.new.values) c.after_open_0.result (ap (λ (x : Listed). (N.List x)) c.in-Arguments.is) c.after_open_0.ensures

pub list_initials_0-requires : goal.list_initials_0-requires
list_initials_0-requires c =
    let h = of_part (N.List c.args.listed) (N.List Of.Initials) 0 (reverse c.args.values.now) (ap (λ (x : Listed). (N.List x)) c.in-Initials.is) c.requires in
    record { value = h.value; below = h.below; makes = h.makes }

pub returns-in-Initials : goal.returns-in-Initials
returns-in-Initials c =
    is_of_part (N.List c.args.listed) (N.List Of.Initials) 0 (reverse c.args.values.now) (reverse c.list_initials_0.new.values) c.list_initials_0.result (ap (λ (x : Listed). (N.List x)) c.in-Initials.is) c.list_initials_0.ensures

pub after_pattern_open_0-requires : goal.after_pattern_open_0-requires
after_pattern_open_0-requires c =
    let h = of_part (N.List c.args.listed) (N.List Of.Patterns) 0 (reverse c.args.values.now) (ap (λ (x : Listed). (N.List x)) c.in-Patterns.is) c.requires in
    record { value = h.value; below = h.below; makes = h.makes }

pub returns-in-Patterns : goal.returns-in-Patterns
returns-in-Patterns c =
    is_of_part (N.List c.args.listed) (N.List Of.Patterns) 0 (reverse c.args.values.now) (reverse c.after_pattern_open_0.new.values) c.after_pattern_open_0.result (ap (λ (x : Listed). (N.List x)) c.in-Patterns.is) c.after_pattern_open_0.ensures

pub list_field_patterns_0-requires : goal.list_field_patterns_0-requires
list_field_patterns_0-requires c =
    let h = of_part (N.List c.args.listed) (N.List Of.FieldPatterns) 0 (reverse c.args.values.now) (ap (λ (x : Listed). (N.List x)) c.in-FieldPatterns.is) c.requires in
    record { value = h.value; below = h.below; makes = h.makes }

pub returns-in-FieldPatterns : goal.returns-in-FieldPatterns
returns-in-FieldPatterns c =
    is_of_part (N.List c.args.listed) (N.List Of.FieldPatterns) 0 (reverse c.args.values.now) (reverse c.list_field_patterns_0.new.values) c.list_field_patterns_0.result (ap (λ (x : Listed). (N.List x)) c.in-FieldPatterns.is) c.list_field_patterns_0.ensures

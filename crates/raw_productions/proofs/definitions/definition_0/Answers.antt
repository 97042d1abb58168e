-- What the symbols of a definition leave on the stack, one after another.
use Rattle.raw_values.specs.declared.value.Value.TheVariants as V
use Rattle.raw_productions.proofs.Stacks.{◌↓◌, token_there, part_there}
use Rattle.raw_productions.proofs.definitions.definition_0.Goals as goal

pub take_nothing-requires : goal.take_nothing-requires
take_nothing-requires c = part_there V.Nothing tt (c.requires.makes.1.0 ↓ c.take_code-code.ensures)

pub take_nothing-requires-2 : goal.take_nothing-requires-2
take_nothing-requires-2 c =
    part_there V.Nothing tt (c.requires.makes.1.0 ↓ c.take_code-code.ensures ↓ c.take_nothing.ensures ↓ c.drop_token.ensures.is ↓ c.take_type-output.ensures ↓ c.drop_token-2.ensures.is ↓ c.drop_token-3.ensures.is ↓ c.take_fields-parameters.ensures)

pub take_definition_name-name-requires : goal.take_definition_name-name-requires
take_definition_name-name-requires c =
    part_there V.DefinitionName c.requires.makes.0.1.0
    (c.requires.makes.1.0 ↓ c.take_code-code.ensures ↓ c.take_nothing.ensures ↓ c.drop_token.ensures.is ↓ c.take_type-output.ensures ↓ c.drop_token-2.ensures.is ↓ c.drop_token-3.ensures.is ↓ c.take_fields-parameters.ensures ↓ c.take_nothing-2.ensures ↓ c.take_names-type_parameters.ensures)

pub drop_token-requires-4 : goal.drop_token-requires-4
drop_token-requires-4 c =
    token_there
    (c.requires.makes.1.0 ↓ c.take_code-code.ensures ↓ c.take_nothing.ensures ↓ c.drop_token.ensures.is ↓ c.take_type-output.ensures ↓ c.drop_token-2.ensures.is ↓ c.drop_token-3.ensures.is ↓ c.take_fields-parameters.ensures ↓ c.take_nothing-2.ensures ↓ c.take_names-type_parameters.ensures ↓ c.take_definition_name-name.ensures)
